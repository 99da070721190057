use Rattle.std.proofs.Common.{◌≡◌, ◌+◌, [], ◌∷◌, ◌++◌, length, All, ap, sym, ◌∙◌, subst, arith}
use Rattle.std.proofs.lemmas.List.{length_push}
use Rattle.std.proofs.lemmas.List.Elements.{All-push}
use Rattle.word_rule.specs.Belongs.{workers_in}
use Rattle.workers.specs.declared.worker.Worker.{Worker}
use Rattle.workers.specs.Workers.{count_in, IsReady, IsPoolOf, IsWorkerOf}
use Rattle.steal_pool.specs.Pools.{IsRobberOf}
use Rattle.fixpoint_rows.proofs.Teaming.{taken_first}
use Rattle.fixpoint_rows.proofs.running.team.Goals as goal

pub loop-number-preserved : goal.loop-number-preserved
loop-number-preserved c =
    let words = c.args.words.now in
    let before = c.loop-number.invariant in
    let worker : Worker = c.new.result in
    let seat = taken_first (IsReady words) c.loop-number.seats.items c.remove.new.self.items c.remove.result (omega (
      arith,
      before.0,
      c.loop-number-test.true,
      c.len-count.ensures,
    )) c.remove.ensures.value c.remove.ensures.items before.2 in
    let own = taken_first (IsPoolOf (count_in words)) c.loop-number.pools.items c.remove-in-loop-number.new.self.items c.remove-in-loop-number.result
    (omega (
      arith,
      before.0,
      before.3,
      c.loop-number-test.true,
      c.len-count.ensures,
    )) c.remove-in-loop-number.ensures.value c.remove-in-loop-number.ensures.items before.4 in
    let robber = taken_first (IsRobberOf (workers_in words) (count_in words)) c.loop-number.robbers.items c.remove-in-loop-number-2.new.self.items
    c.remove-in-loop-number-2.result
    (omega (
      arith,
      before.0,
      before.5,
      c.loop-number-test.true,
      c.len-count.ensures,
    )) c.remove-in-loop-number-2.ensures.value c.remove-in-loop-number-2.ensures.items before.6 in
    let is : IsWorkerOf words worker = record {
      ready = subst (IsReady words) (sym c.new.ensures.0) seat.0;
      pool = subst (IsPoolOf (count_in words)) (sym c.new.ensures.1) own.0;
      robber = subst (IsRobberOf (workers_in words) (count_in words)) (sym c.new.ensures.2) robber.0;
    } in
    let made : c.push.new.self.items ≡ c.loop-number.made.items ++ worker ∷ [] = c.in_ok-push.ensures.items in (
      omega (arith, before.0, c.remove.ensures.len),
      ap length made ∙ length_push c.loop-number.made.items worker ∙ ap (λ n. n + 1) before.1,
      seat.1,
      omega (arith, before.3, c.remove.ensures.len, c.remove-in-loop-number.ensures.len),
      own.1,
      omega (arith, before.5, c.remove.ensures.len, c.remove-in-loop-number-2.ensures.len),
      robber.1,
      subst (λ xs. All (IsWorkerOf words) xs) (sym made) (All-push (IsWorkerOf words) c.loop-number.made.items worker before.7 is),
    )
