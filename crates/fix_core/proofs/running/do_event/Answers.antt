use Rattle.std.proofs.Common.{length, subst, arith}
use Rattle.fix_core.specs.Machine.{seat_at, IsEvent}
use Rattle.fix_core.proofs.Steps.{seat_here}
use Rattle.fix_core.proofs.running.do_event.Goals as goal

pub tell-requires-clause-told : goal.tell-requires-clause-told
tell-requires-clause-told c =
    let state = c.args.c.now in
    let event = subst (IsEvent (length c.args.s.now.masks) (length state.seats)) c.in-Tell.is c.requires.event in
    omega (arith, c.requires.run.told c.in-Tell.w (seat_at state c.in-Tell.w) (seat_here state c.in-Tell.w event.0))
