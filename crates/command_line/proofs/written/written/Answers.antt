use Rattle.std.proofs.Common.{rules, ◌≡◌, ◌∙◌, ap₂}
use Rattle.std.proofs.lemmas.Result.{IfOk-weaker}
use Rattle.clap.specs.Words.{rule_of, with_rule}
use Rattle.command_line.specs.Command.{emit_rule, generate_rule, workers_rule}
use Rattle.command_line.proofs.written.written.Goals as goal

pub returns : goal.returns
returns c =
    let workers_is : rule_of c.default_value-workers.result ≡ workers_rule = search rules in
    let emit_is : rule_of c.default_value-emit.result ≡ emit_rule c.args.names = search rules in
    let generate_is : rule_of c.option-generate.result ≡ generate_rule = search rules in
    let first = c.in_ok-arg.ensures.shape (search rules) ∙ ap₂ with_rule c.new.ensures.app workers_is in
    let second = c.in_ok-arg-2.ensures.shape (search rules) ∙ ap₂ with_rule first emit_is in
    IfOk-weaker c.arg-3.result _ _ (λ made added. added.shape (search rules) ∙ ap₂ with_rule second generate_is) c.arg-3.ensures
