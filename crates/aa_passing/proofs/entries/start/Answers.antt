use Rattle.std.proofs.Common.{sym, ap, ◌∙◌, subst, arith}
use Rattle.std.proofs.lemmas.Result.{on_ok_weaker}
use Rattle.lattice_words.specs.declared.value.TheConstants.{ALL_BYTES}
use Rattle.facts.specs.declared.pos.Pos.{Pos}
use Rattle.rule_terms.specs.declared.term.NewTerm.TheOpen.{NewTerm-F as made}
use Rattle.rule_terms.specs.declared.term.NewTerm.TheViews.{roll-NewTerm}
use Rattle.rule_says.specs.Meeting.{IsMet}
use Rattle.aa_passing.proofs.Stands.{open_told, func_within}
use Rattle.aa_passing.proofs.Passed.{start_none, start_fine, start_open, start_high}
use Rattle.aa_passing.proofs.entries.start.Goals as goal

pub returns-then-not-is_pointer : goal.returns-then-not-is_pointer
returns-then-not-is_pointer c = start_none c.args.m.now c.args.ps.now c.requires.numbering c.args.f.0 c.args.at c.args.q.now c.requires.param c.args.s.now
    (sym c.is_pointer.ensures ∙ c.if-not-is_pointer.true)

pub returns-then-is_open : goal.returns-then-is_open
returns-then-is_open c =
    on_ok_weaker c.meet.result (λ met. start_open c.args.m.now c.args.ps.now c.requires.numbering c.args.f.0 c.args.at c.args.q.now c.args.s.now c.meet.new.s
    c.requires.long c.bits.result
    (open_told c.args.m.now c.args.u.now c.requires.uses c.args.f.0 c.is_open.result (func_within c.args.m.now c.args.f.0 c.requires.body) c.is_open.ensures
    ∙ c.if-is_open.true)
    (c.bits.ensures ∙ ap (λ w. roll-NewTerm (made.Const w)) c.given.ensures)
    (subst (λ (p : Pos). IsMet c.args.ps.now c.args.s.now c.meet.new.s p 549755748352 c.bits.result) c.entry_pos-p.ensures met)) c.meet.ensures

pub returns-then-q-gt-TOP : goal.returns-then-q-gt-TOP
returns-then-q-gt-TOP c =
    on_ok_weaker c.meet-then-q-gt-TOP.result (λ met. start_high c.args.m.now c.args.ps.now c.requires.numbering c.args.f.0 c.args.at c.args.q.now c.args.s.now
    c.meet-then-q-gt-TOP.new.s c.requires.long c.bits-then-q-gt-TOP.result
    (open_told c.args.m.now c.args.u.now c.requires.uses c.args.f.0 c.is_open.result (func_within c.args.m.now c.args.f.0 c.requires.body) c.is_open.ensures
    ∙ c.if-is_open.false)
    c.if-q-gt-TOP.true
    (c.bits-then-q-gt-TOP.ensures ∙ ap (λ w. roll-NewTerm (made.Const w)) c.given-then-q-gt-TOP.ensures)
    (subst (λ (p : Pos). IsMet c.args.ps.now c.args.s.now c.meet-then-q-gt-TOP.new.s p ALL_BYTES c.bits-then-q-gt-TOP.result) c.entry_pos-p.ensures met))
    c.meet-then-q-gt-TOP.ensures

pub returns : goal.returns
returns c = start_fine c.args.m.now c.args.ps.now c.requires.numbering c.args.f.0 c.args.at c.args.q.now c.requires.param c.args.s.now
    (open_told c.args.m.now c.args.u.now c.requires.uses c.args.f.0 c.is_open.result (func_within c.args.m.now c.args.f.0 c.requires.body) c.is_open.ensures
    ∙ c.if-is_open.false)
    (let low = c.if-q-gt-TOP.false in omega (arith, low))
