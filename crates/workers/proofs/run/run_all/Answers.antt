use Rattle.std.proofs.Common.{◌≡◌, ◌*◌, ◌≤◌, ℕ, List, map, All, sum_by, ap, sym, ◌∙◌, subst, arith}
use Rattle.attr_ids.specs.declared.status.WorkerEnd.{WorkerEnd}
use Rattle.attr_ids.specs.declared.status.WorkerEnd.TheVariants.{Done}
use Rattle.rule_terms.specs.System.{System}
use Rattle.rule_terms.specs.Greatest.{AreWithin, IsAbove, IsGreatest}
use Rattle.dep_graph.specs.Graph.{budget_of}
use Rattle.fix_core.specs.declared.state.CoreMode.TheVariants.{Idle}
use Rattle.fix_core.specs.Machine.{new_seat}
use Rattle.word_rule.specs.declared.seat.WorkerSeat.{WorkerSeat}
use Rattle.word_rule.specs.declared.words.LatticeWords.{LatticeWords}
use Rattle.word_rule.specs.Belongs.{core_of, system_in, graph_in, AreSeatsOf, KnowsAll}
use Rattle.workers.specs.declared.worker.Worker.{Worker}
use Rattle.workers.specs.Workers.{count_in, IsWorkerOf, spent_count}
use Rattle.workers.proofs.Moving.{written_over}
use Rattle.workers.proofs.Teaming.{team_made, team_end, team_idle, team_know, team_pay, all_done}
use Rattle.workers.proofs.run.run_all.Goals as goal

pub run_team-requires-after_bounds : goal.run_team-requires-after_bounds
run_team-requires-after_bounds g c κs within =
    let opened = c.in_ok-words.ensures in
    let team = c.in_ok-team.ensures in
    subst (All (IsWorkerOf c.in_ok-words.words)) (sym c.as_mut_slice.ensures.value)
    (team_made c.in_ok-words.words c.args.s.now c.args.workers c.count.result c.in_ok-team.team.items c.in_ok-words.seats c.in_ok-pools.pools
    c.in_ok-pools.robbers
    opened.seats opened.fresh c.in_ok-pools.ensures.fresh opened.words.0 opened.words.2 c.count.ensures.positions team.seats team.pools team.robbers)

pub close-requires-clause-seats : goal.close-requires-clause-seats
close-requires-clause-seats g c =
    let old : List Worker = c.as_mut_slice.result.now in
    let new : List Worker = c.run_team.new.team in
    let back = written_over c.in_ok-team.team.len new c.in_ok-team.team.items (c.run_team.ensures.long ∙ c.as_mut_slice.ensures.len) in
    let seats : c.in_ok-seats.seats ≡ map (λ worker. worker.seat) new = c.in_ok-seats.ensures.seats ∙
    ap (λ (xs : List Worker). map (λ worker. worker.seat) xs) back in
    let before : map (λ worker. worker.seat) old ≡ c.in_ok-words.seats =
    ap (λ (xs : List Worker). map (λ worker. worker.seat) xs) c.as_mut_slice.ensures.value ∙ c.in_ok-team.ensures.seats in
    subst (AreSeatsOf c.in_ok-words.words) (sym seats) (team_end c.in_ok-words.words c.args.turns old new c.run_team.ensures.long c.run_team.ensures.ran
    (subst (AreSeatsOf c.in_ok-words.words) (sym before) c.in_ok-words.ensures.seats))

pub close-requires-clause-idle : goal.close-requires-clause-idle
close-requires-clause-idle g c =
    let old : List Worker = c.as_mut_slice.result.now in
    let new : List Worker = c.run_team.new.team in
    let back = written_over c.in_ok-team.team.len new c.in_ok-team.team.items (c.run_team.ensures.long ∙ c.as_mut_slice.ensures.len) in
    let seats : c.in_ok-seats.seats ≡ map (λ worker. worker.seat) new = c.in_ok-seats.ensures.seats ∙
    ap (λ (xs : List Worker). map (λ worker. worker.seat) xs) back in
    subst (λ (xs : List WorkerSeat). All (λ seat. (core_of seat).mode ≡ Idle) xs) (sym seats)
    (team_idle c.in_ok-words.words c.args.turns old new c.run_team.ensures.long c.run_team.ensures.ran)

pub returns-clause-within : goal.returns-clause-within
returns-clause-within g c = subst (λ (s : System). AreWithin c.close.result s.masks) c.in_ok-words.ensures.words.0 c.close.ensures.within

pub returns-clause-above : goal.returns-clause-above
returns-clause-above g c = subst (λ (s : System). IsAbove s c.close.result) c.in_ok-words.ensures.words.0 c.close.ensures.above

pub returns-clause-greatest : goal.returns-clause-greatest
returns-clause-greatest g c = λ done.
    let words : LatticeWords = c.in_ok-words.words in
    let old : List Worker = c.as_mut_slice.result.now in
    let new : List Worker = c.run_team.new.team in
    let back = written_over c.in_ok-team.team.len new c.in_ok-team.team.items (c.run_team.ensures.long ∙ c.as_mut_slice.ensures.len) in
    let seats : c.in_ok-seats.seats ≡ map (λ worker. worker.seat) new = c.in_ok-seats.ensures.seats ∙
    ap (λ (xs : List Worker). map (λ worker. worker.seat) xs) back in
    let ends : c.in_ok-seats.ends ≡ map (λ worker. worker.end) new = c.in_ok-seats.ensures.ends ∙ ap (λ (xs : List Worker). map (λ worker. worker.end) xs) back
    in
    let know = team_know words c.args.turns old new c.run_team.ensures.long c.run_team.ensures.ran (subst (λ (es : List WorkerEnd). All (λ end. end ≡ Done) es)
    ends done) in
    subst (λ (s : System). IsGreatest s c.close.result) c.in_ok-words.ensures.words.0
    (c.close.ensures.greatest (subst (λ (xs : List WorkerSeat). All (KnowsAll (count_in words)) (map core_of xs)) (sym seats) know))

pub returns-clause-budget : goal.returns-clause-budget
returns-clause-budget g c =
    let words : LatticeWords = c.in_ok-words.words in
    let old : List Worker = c.as_mut_slice.result.now in
    let new : List Worker = c.run_team.new.team in
    let back = written_over c.in_ok-team.team.len new c.in_ok-team.team.items (c.run_team.ensures.long ∙ c.as_mut_slice.ensures.len) in
    let seats : c.in_ok-seats.seats ≡ map (λ worker. worker.seat) new = c.in_ok-seats.ensures.seats ∙
    ap (λ (xs : List Worker). map (λ worker. worker.seat) xs) back in
    let ends : c.in_ok-seats.ends ≡ map (λ worker. worker.end) new = c.in_ok-seats.ensures.ends ∙ ap (λ (xs : List Worker). map (λ worker. worker.end) xs) back
    in
    let before : map (λ worker. worker.seat) old ≡ c.in_ok-words.seats =
    ap (λ (xs : List Worker). map (λ worker. worker.seat) xs) c.as_mut_slice.ensures.value ∙ c.in_ok-team.ensures.seats in
    let fresh = subst (λ (xs : List WorkerSeat). All (λ seat. core_of seat ≡ new_seat) xs) (sym before) c.in_ok-words.ensures.fresh in
    let pay = team_pay words c.args.turns old new c.run_team.ensures.long c.run_team.ensures.ran fresh in
    let count : spent_count c.in_ok-seats.ends * c.args.turns ≡ spent_count (map (λ worker. worker.end) new) * c.args.turns =
    ap (λ (es : List WorkerEnd). spent_count es * c.args.turns) ends in
    let sum : sum_by (λ seat. (core_of seat).took) c.in_ok-seats.seats ≡ sum_by (λ seat. (core_of seat).took) (map (λ (worker : Worker). worker.seat) new) =
    ap (λ (xs : List WorkerSeat). sum_by (λ seat. (core_of seat).took) xs) seats in
    let budget : budget_of (system_in words) (graph_in words) ≡ budget_of c.args.s.now c.args.g.now =
    (λ j. budget_of (c.in_ok-words.ensures.words.0 j) (c.in_ok-words.ensures.words.1 j)) in
    within_budget count sum budget pay c.close.ensures.budget where
      within_budget : {a b c d e f : ℕ} → a ≡ b → c ≡ d → e ≡ f → b ≤ d → c ≤ e → a ≤ f
      within_budget p q r s t = omega arith

pub returns-clause-done : goal.returns-clause-done
returns-clause-done g c = λ more. all_done c.in_ok-seats.ends c.args.turns (budget_of c.args.s.now c.args.g.now) (returns-clause-budget g c) more
