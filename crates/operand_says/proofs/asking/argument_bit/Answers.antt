use Rattle.std.proofs.Common.{◌≡◌}
use Rattle.std.proofs.lemmas.Result.{IfOk-weaker}
use Rattle.facts.specs.Known.{ArgSpeaks}
use Rattle.rule_terms.specs.declared.term.NewTerm.TheOpen.{NewTerm-F as made}
use Rattle.rule_terms.specs.declared.term.NewTerm.TheViews.{roll-NewTerm}
use Rattle.rule_says.specs.Saying.{Says}
use Rattle.operand_says.specs.Asked.{AsksArgument, AsksGiven, SpeaksGiven}
use Rattle.operand_says.proofs.Ones.{one_says}
use Rattle.operand_says.proofs.asking.argument_bit.Goals as goal

pub returns : goal.returns
returns c =
    IfOk-weaker c.spread.result (λ t. t ≡ roll-NewTerm (made.Spread c.args.bit c.args.to c.argument-term.result))
    (λ t. Says c.args.m.now c.args.ps.now c.args.to t (AsksGiven c.args.m.now c.args.op.now c.args.at c.args.bit)
    (SpeaksGiven c.args.op.now c.args.at c.args.bit))
    (λ t e. one_says c.args.m.now c.args.ps.now c.args.bit c.one.result c.args.to t c.argument-term.result
    (AsksArgument c.args.m.now c.args.op.now c.args.at) (λ b y. ArgSpeaks c.args.op.now c.args.at b y) c.requires.bit c.one.ensures.is e
    c.argument-term.ensures) c.spread.ensures
