-- What contracts say of a worker: its seat, its pool and its robber.
use Rattle.std.specs.Prelude.{◌≡◌, ℕ, ◌+◌, ◌≤◌, ◌⊎◌, Bool, true, false, List, length, count_by}
use Rattle.attr_ids.specs.declared.ids.PosId.{PosId}
use Rattle.attr_ids.specs.declared.status.WorkerEnd.{WorkerEnd}
use Rattle.attr_ids.specs.declared.status.WorkerEnd.TheVariants.{Done, Spent}
use Rattle.rule_terms.specs.System.{System, inputs_of}
use Rattle.dep_graph.specs.Graph.{budget_of}
use Rattle.fix_core.specs.declared.state.CoreSeat.{CoreSeat}
use Rattle.fix_core.specs.declared.state.CoreMode.TheVariants.{Idle, Open}
use Rattle.word_rule.specs.declared.seat.WorkerSeat.{WorkerSeat}
use Rattle.word_rule.specs.declared.words.LatticeWords.{LatticeWords}
use Rattle.word_rule.specs.Views.{looked_in}
use Rattle.word_rule.specs.Belongs.{core_of, system_in, graph_in, workers_in, IsSeatOf, IsSameSeat, KnowsAll}
use Rattle.steal_pool.specs.declared.pool.OwnPool.{OwnPool}
use Rattle.steal_pool.specs.Pools.{own_log, IsRobberOf}
use Rattle.workers.specs.declared.worker.Worker.{Worker}

-- how many positions a table has
abbrev pub count_in : LatticeWords → ℕ
count_in words = length (system_in words).masks

-- how often words are taken up at most in a run over it
abbrev pub budget_in : LatticeWords → ℕ
budget_in words = budget_of (system_in words) (graph_in words)

-- a seat of this table that has nothing in hand
abbrev pub IsReady : LatticeWords → WorkerSeat → Type 0
IsReady words seat = IsSeatOf words seat × ((core_of seat).mode ≡ Idle)

-- a pool of hints below this count
abbrev pub IsPoolOf : ℕ → OwnPool → Type 0
IsPoolOf count pool = (own_log pool).count ≡ count

-- a worker of this table that has nothing in hand
pub record IsWorkerOf (words : LatticeWords) (worker : Worker) : Type 0 where
  pub ready : IsReady words worker.seat
  pub pool : IsPoolOf (count_in words) worker.own
  pub robber : IsRobberOf (workers_in words) (count_in words) worker.robber

-- the seat has the position open, with a place for the value of each input
pub record HasOpen (s : System) (p : PosId) (seat : CoreSeat) : Type 0 where
  pub mode : seat.mode ≡ Open p (looked_in seat.mode)
  pub long : length (looked_in seat.mode) ≡ length (inputs_of s p.0)

-- all but the worker's seat, its pool and what it takes that to hold is as it was
pub record HasTold (old new : Worker) : Type 0 where
  pub number : new.number ≡ old.number
  pub robber : new.robber ≡ old.robber
  pub taken : new.taken ≡ old.taken

-- the same worker has nothing in hand again, and has taken up as many words more as it has done turns more, within the
-- budget, or none
pub record HasTaken (words : LatticeWords) (old new : Worker) : Type 0 where
  pub worker : IsWorkerOf words new
  pub same : IsSameSeat old.seat new.seat
  pub took : (core_of new.seat).took + old.taken ≡ (core_of old.seat).took + new.taken
  pub rises : old.taken ≤ new.taken
  pub few : (new.taken ≡ old.taken) ⊎ ((core_of new.seat).took ≤ budget_in words)

-- the worker has run, and did at most so many turns
pub record HasRun (words : LatticeWords) (turns : ℕ) (old new : Worker) : Type 0 where
  pub same : IsSameSeat old.seat new.seat
  pub idle : (core_of new.seat).mode ≡ Idle
  pub spent : new.end ≡ Spent → (core_of new.seat).took ≡ (core_of old.seat).took + turns
  pub known : new.end ≡ Done → KnowsAll (count_in words) (core_of new.seat)

-- how many workers used up their turns
abbrev pub is_spent : WorkerEnd → Bool
is_spent Done = false
is_spent Spent = true

abbrev pub spent_count : List WorkerEnd → ℕ
spent_count ends = count_by is_spent ends
