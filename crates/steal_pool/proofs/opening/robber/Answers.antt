use Rattle.std.proofs.Common.{◌≡◌, ◌<◌, ◌+◌, length, map, take, All, sym, ◌∙◌, subst, arith}
use Rattle.std.proofs.lemmas.List.{length-set}
use Rattle.steal_pool.specs.Hints.{fresh}
use Rattle.steal_pool.specs.Pools.{own_deque, door_log, door_deque}
use Rattle.steal_pool.proofs.Doors.{pools_kept, doors_more, logs_more}
use Rattle.steal_pool.proofs.opening.robber.Goals as goal

pub returns-in_err-door-clause-same : goal.returns-in_err-door-clause-same
returns-in_err-door-clause-same c =
    let kept = pools_kept c.loop-next.pools.items c.loop-next.next c.args.count c.index_mut.result.now c.door.new.self c.index_mut.ensures.value
    c.door.ensures.same.0 c.door.ensures.same.1 (omega (arith, c.loop-next.invariant.1, c.loop-next-test.true)) c.loop-next.invariant.3 in
    (kept.0 ∙ c.loop-next.invariant.2, kept.1)

pub returns-in_err-push-clause-same : goal.returns-in_err-push-clause-same
returns-in_err-push-clause-same c =
    let kept = pools_kept c.loop-next.pools.items c.loop-next.next c.args.count c.index_mut.result.now c.door.new.self c.index_mut.ensures.value
    c.door.ensures.same.0 c.door.ensures.same.1 (omega (arith, c.loop-next.invariant.1, c.loop-next-test.true)) c.loop-next.invariant.3 in
    (kept.0 ∙ c.loop-next.invariant.2, kept.1)

pub loop-next-preserved : goal.loop-next-preserved
loop-next-preserved c =
    let inside : c.loop-next.next < length c.loop-next.pools.items = omega (arith, c.loop-next.invariant.1, c.loop-next-test.true) in
    let kept = pools_kept c.loop-next.pools.items c.loop-next.next c.args.count c.index_mut.result.now c.door.new.self c.index_mut.ensures.value
    c.door.ensures.same.0 c.door.ensures.same.1 inside c.loop-next.invariant.3 in
    let more = doors_more c.loop-next.doors.items c.loop-next.pools.items (map own_deque c.args.pools.now.items) c.loop-next.next c.index_mut.result.now
    c.in_ok-door.field-0 c.loop-next.invariant.2 c.index_mut.ensures.value inside c.in_ok-door.ensures.door.0 c.loop-next.invariant.4 in
    let logs = logs_more c.loop-next.doors.items c.loop-next.pools.items c.loop-next.next c.args.count c.index_mut.result.now c.in_ok-door.field-0
    c.index_mut.ensures.value inside c.loop-next.invariant.3 c.in_ok-door.ensures.door.1 c.loop-next.invariant.5 in (
      omega (arith, c.loop-next-test.true),
      c.loop-next.invariant.1 ∙ sym (length-set c.loop-next.pools.items c.loop-next.next c.door.new.self),
      kept.0 ∙ c.loop-next.invariant.2,
      kept.1,
      subst (λ ds. map door_deque ds ≡ take (c.loop-next.next + 1) (map own_deque c.args.pools.now.items)) (sym c.in_ok-push.ensures.items) more,
      subst (λ ds. All (λ v. v ≡ fresh c.args.count) (map door_log ds)) (sym c.in_ok-push.ensures.items) logs,
    )
