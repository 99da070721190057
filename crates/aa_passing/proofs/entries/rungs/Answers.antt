use Rattle.std.proofs.Common.{◌≡◌, ℕ, true, ◌↔◌, ap, ◌∙◌, subst}
use Rattle.std.proofs.lemmas.Result.{on_ok_weaker}
use Rattle.lattice_words.specs.declared.value.TheConstants.{ALL_BYTES}
use Rattle.facts.specs.declared.pos.Pos.{Pos}
use Rattle.facts.specs.Masks.{is_bit}
use Rattle.rule_terms.specs.declared.term.NewTerm.TheOpen.{NewTerm-F as made}
use Rattle.rule_terms.specs.declared.term.NewTerm.TheViews.{roll-NewTerm}
use Rattle.rule_says.specs.Saying.{IsSet}
use Rattle.rule_says.specs.Meeting.{IsMet}
use Rattle.aa_passing.proofs.Passed.{rungs_met}
use Rattle.aa_passing.proofs.entries.rungs.Goals as goal

pub returns : goal.returns
returns c =
    on_ok_weaker c.meet.result (λ met. rungs_met c.args.m.now c.args.ps.now c.requires.numbering c.args.f.0 c.args.at c.args.q.now c.args.s.now c.meet.new.s
    c.requires.long c.args.k.0 c.args.op.now c.asked-asked.result c.in_ok-term-3.term c.in_ok-term-2.term c.in_ok-term.term
    (c.in_ok-term-3.ensures ∙ ap (λ z. roll-NewTerm (made.Or z c.in_ok-term-2.term)) (c.bits.ensures ∙ ap (λ w. roll-NewTerm (made.Const w)) c.given.ensures))
    c.in_ok-term-2.ensures
    (subst (λ (p : Pos). IsMet c.args.ps.now c.args.s.now c.meet.new.s p c.asked-asked.result c.in_ok-term-3.term) c.entry_pos-p.ensures met)
    (subst (λ (p : Pos). (bit : ℕ) → IsSet c.asked-asked.result bit ↔ (IsSet ALL_BYTES bit × (is_bit c.args.m.now p bit ≡ true))) c.entry_pos-p.ensures
    (c.asked-asked.ensures.set c.args.m.now c.requires.numbering)) c.in_ok-term.ensures) c.meet.ensures
