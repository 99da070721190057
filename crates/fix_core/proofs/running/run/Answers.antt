use Rattle.attr_ids.specs.declared.ids.PosId.{PosId}
use Rattle.fix_core.specs.declared.event.CoreEvent.{CoreEvent}
use Rattle.fix_core.specs.declared.event.CoreEvent.TheVariants.{Take}
use Rattle.fix_core.proofs.Doing.{next_is, next_can, next_seats}
use Rattle.fix_core.proofs.running.run.Goals as goal

pub loop-event-preserved : goal.loop-event-preserved
loop-event-preserved c =
    let s = c.args.s.now in
    let g = c.args.g.now in
    let loop = c.loop-event in
    let zero_pos : PosId = record { 0 = 0 } in
    let d : CoreEvent = Take 0 zero_pos in
    record {
      is = next_is s g c.args.start.now loop.state c.do_event.new.c c.args.events.now c.as_slice-event-items.result.now loop.event-index d
          c.as_slice-event-items.ensures c.loop-event-test.true
          loop.invariant.is loop.invariant.can loop.invariant.seats c.requires.events c.in_ok-do_event.ensures;
      can = next_can s g c.args.start.now loop.state c.do_event.new.c c.args.events.now c.as_slice-event-items.result.now loop.event-index d
          c.as_slice-event-items.ensures c.loop-event-test.true
          loop.invariant.is loop.invariant.can loop.invariant.seats c.requires.events c.in_ok-do_event.ensures;
      seats = next_seats s g c.args.start.now loop.state c.do_event.new.c c.args.events.now c.as_slice-event-items.result.now loop.event-index d
          c.as_slice-event-items.ensures c.loop-event-test.true
          loop.invariant.is loop.invariant.can loop.invariant.seats c.requires.events c.in_ok-do_event.ensures;
    }
