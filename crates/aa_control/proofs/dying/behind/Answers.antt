use Rattle.std.proofs.Common.{arith, ◌+◌, sym, ◌∙◌}
use Rattle.std.proofs.lemmas.Option.{slice_get_within}
use Rattle.std.proofs.lemmas.Result.{on_ok_weaker}
use Rattle.facts.specs.declared.pos.Pos.TheVariants as pos
use Rattle.aa_control.proofs.Died.{behind_met, no_next_met}
use Rattle.aa_control.proofs.dying.behind.Goals as goal

pub returns-in_default : goal.returns-in_default
returns-in_default c = no_next_met c.args.m.now c.args.ps.now c.args.q.0 c.args.op.now c.args.s.now c.in_default.ensures.none

pub follow-requires-clause-to : goal.follow-requires-clause-to
follow-requires-clause-to c =
    let there = c.in-Some.ensures.some in
    let within = slice_get_within c.args.m.now.segs (c.args.q.0 + 1) there.3.seg there.3.at_seg in
    c.requires.numbering.positions.all (pos.Segment c.in-Some.k) (omega (arith, within, there.0))

pub returns : goal.returns
returns c =
    let there = c.in-Some.ensures.some in
    on_ok_weaker c.follow.result (λ w. behind_met c.args.m.now c.args.ps.now c.requires.numbering c.args.q.0 c.in-Some.k.0 there.1 c.args.op.now c.args.s.now
    c.follow.new.s w.0 c.in_ok-term.term (sym c.is_call.ensures ∙ c.if-not-is_call.false) there.0 there.2 there.3 c.requires.long w.1 w.2
    c.in_ok-term.ensures) c.follow.ensures
