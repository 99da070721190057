use Rattle.std.proofs.Common.{◌≡◌, if◌then◌else◌, sym, ap, ◌∙◌}
use Rattle.std.proofs.lemmas.Result.{IfOk-weaker}
use Rattle.lattice_words.specs.declared.word.TheConstants.{FACTS}
use Rattle.rule_terms.specs.declared.term.NewTerm.TheOpen.{NewTerm-F as new}
use Rattle.rule_terms.specs.declared.term.NewTerm.TheViews.{roll-NewTerm}
use Rattle.aa_reach.specs.Asked.{IsByOutside}
use Rattle.aa_reach.proofs.passing.by_outside.Goals as goal

pub returns-then-promised : goal.returns-then-promised
returns-then-promised c =
    IfOk-weaker c.either.result (λ t. t ≡ roll-NewTerm (new.Or c.bits.result c.word-term.result)) (λ t. IsByOutside c.args.ps.now t c.args.outside
    c.args.k c.args.promised)
    (λ t e. record {
      word = c.word-term.result;
      reads = c.word-term.ensures;
      term = e ∙ (ap (λ b. roll-NewTerm (new.Or b c.word-term.result)) c.bits.ensures
          ∙ ap (λ b. if b then roll-NewTerm (new.Or (roll-NewTerm (new.Const FACTS)) c.word-term.result) else c.word-term.result) (sym c.if-promised.true));
    }) c.either.ensures

pub returns : goal.returns
returns c = record {
  word = c.word-term.result;
  reads = c.word-term.ensures;
  term = ap (λ b. if b then roll-NewTerm (new.Or (roll-NewTerm (new.Const FACTS)) c.word-term.result) else c.word-term.result) (sym c.if-promised.false);
}
