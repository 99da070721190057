use Rattle.std.proofs.Common.{◌≡◌, ℕ, true, ◌↔◌, ap, ◌∙◌, subst}
use Rattle.std.proofs.lemmas.Result.{on_ok_weaker}
use Rattle.facts.specs.declared.pos.Pos.{Pos}
use Rattle.facts.specs.Masks.{is_bit}
use Rattle.rule_terms.specs.declared.term.NewTerm.TheOpen.{NewTerm-F as made}
use Rattle.rule_terms.specs.declared.term.NewTerm.TheViews.{roll-NewTerm}
use Rattle.rule_says.specs.Saying.{IsSet}
use Rattle.rule_says.specs.Meeting.{IsMet}
use Rattle.aa_passing.proofs.Passed.{handed_met}
use Rattle.aa_passing.proofs.entries.handed.Goals as goal

pub returns : goal.returns
returns c =
    on_ok_weaker c.meet.result (λ met. handed_met c.args.m.now c.args.ps.now c.requires.numbering c.args.f.0 c.args.at c.args.q.now c.args.s.now c.meet.new.s
    c.requires.long c.args.k.0 c.args.op.now c.asked-asked.result c.in_ok-term-2.term c.in_ok-term.term c.argument-term.result
    (c.in_ok-term-2.ensures ∙ ap (λ z. roll-NewTerm (made.Or z c.in_ok-term.term)) (c.bits.ensures ∙ ap (λ w. roll-NewTerm (made.Const w)) c.given.ensures))
    c.in_ok-term.ensures (subst (λ (p : Pos). IsMet c.args.ps.now c.args.s.now c.meet.new.s p c.asked-asked.result c.in_ok-term-2.term)
    c.entry_pos-p.ensures met)
    (subst (λ (p : Pos). (bit : ℕ) → IsSet c.asked-asked.result bit ↔ (IsSet 8323072 bit × (is_bit c.args.m.now p bit ≡ true))) c.entry_pos-p.ensures
    (c.asked-asked.ensures.set c.args.m.now c.requires.numbering)) c.argument-term.ensures) c.meet.ensures
