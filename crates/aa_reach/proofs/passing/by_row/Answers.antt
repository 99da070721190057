use Rattle.std.proofs.Common.{◌≡◌, ap, ◌∙◌}
use Rattle.std.proofs.lemmas.Result.{IfOk-weaker}
use Rattle.rule_terms.specs.declared.term.NewTerm.TheOpen.{NewTerm-F as new}
use Rattle.rule_terms.specs.declared.term.NewTerm.TheViews.{roll-NewTerm}
use Rattle.aa_reach.specs.Asked.{IsByRow}
use Rattle.aa_reach.proofs.passing.by_row.Goals as goal

pub returns : goal.returns
returns c =
    IfOk-weaker c.both.result (λ t. t ≡ roll-NewTerm (new.And c.bits-apart.result c.word.result)) (λ t. IsByRow c.args.ps.now t c.args.h c.args.k)
    (λ t e. record {
      others = c.others.result;
      word = c.word.result;
      apart = c.others.ensures;
      reads = c.word.ensures;
      term = e ∙ ap (λ b. roll-NewTerm (new.And b c.word.result)) c.bits-apart.ensures;
    }) c.both.ensures
