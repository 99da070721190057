use Rattle.std.proofs.Common.{length, ap, sym, ◌∙◌, arith}
use Rattle.std.proofs.lemmas.Option.{MatchOption-at_some}
use Rattle.fix_core.specs.Machine.{values_of}
use Rattle.fix_core.proofs.Cuts.{values_long}
use Rattle.fix_core.proofs.Doing.{open_placed}
use Rattle.fix_core.proofs.running.cut.Goals as goal

pub eval-requires-clause-looked : goal.eval-requires-clause-looked
eval-requires-clause-looked c =
    let mode = ap (λ seat. seat.mode) (sym c.seat-old.ensures) ∙ c.in-Open.is in
    let placed = open_placed c.args.s.now c.args.c.now 1 c.requires.run c.args.w c.requires.seat c.in-Open.p c.in-Open.looked mode in
    let seen = MatchOption-at_some _ _ c.in-Some.values c.in-Some.is c.in_ok-values.ensures in
    let long = c.as_slice-2.ensures ∙ seen.1 ∙ ap values_of c.as_slice.ensures in
    ap length long ∙ values_long c.in-Open.looked ∙ placed.1

pub owed-requires-clause-place : goal.owed-requires-clause-place
owed-requires-clause-place c =
    let mode = ap (λ seat. seat.mode) (sym c.seat-old.ensures) ∙ c.in-Open.is in
    let placed = open_placed c.args.s.now c.args.c.now 1 c.requires.run c.args.w c.requires.seat c.in-Open.p c.in-Open.looked mode in
    omega (arith, placed.0, c.requires.graph.long)

pub write-requires-clause-position : goal.write-requires-clause-position
write-requires-clause-position c =
    let mode = ap (λ seat. seat.mode) (sym c.seat-old.ensures) ∙ c.in-Open.is in
    let placed = open_placed c.args.s.now c.args.c.now 1 c.requires.run c.args.w c.requires.seat c.in-Open.p c.in-Open.looked mode in
    omega (arith, placed.0, c.requires.run.words)
