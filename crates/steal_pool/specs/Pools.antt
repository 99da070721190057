-- What contracts say of pools and robbers.
use Rattle.std.specs.Prelude.{◌≡◌, ℕ, ◌+◌, ◌<◌, List, [], ◌∷◌, map, length, slice_set, slice_index_or, All, ⊤}
use Rattle.std.specs.Global.{Global}
use Rattle.atomic_blocks.specs.Lent.{RowsId}
use Rattle.crossbeam_deque.specs.Handles.{view, worker_deque, stealer_deque, worker_view}
use Rattle.attr_ids.specs.declared.ids.PosId.{PosId}
use Rattle.steal_pool.specs.declared.hints.Log.{Log}
use Rattle.steal_pool.specs.declared.pool.OwnPool.{OwnPool}
use Rattle.steal_pool.specs.declared.pool.TheConstants.{SLOTS}
use Rattle.steal_pool.specs.declared.robber.Door.{Door}
use Rattle.steal_pool.specs.declared.robber.Robber.{Robber}
use Rattle.steal_pool.specs.declared.robber.Robbed.{Robbed}
use Rattle.steal_pool.specs.declared.robber.Robbed.TheVariants.{Got, Empty, Again}
use Rattle.steal_pool.specs.Hints.{fresh, gave, took}

-- what the worker knows of its own pool
abbrev pub own_log : OwnPool → Log
own_log pool = worker_view pool.owner

-- which deque the pool is
abbrev pub own_deque : OwnPool → RowsId × Global
own_deque pool = worker_deque pool.owner

-- fewer positions were given than the pool began with slots for, the bound's among them
abbrev pub HasRoom : Log → Type 0
HasRoom v = length v.given + 1 < SLOTS

-- the position went into the pool as it is
abbrev pub Keeps : Log → PosId → Log → Type 0
Keeps old p new = new ≡ gave old (p ∷ [])

-- the position is below the bound, and came out of the pool
abbrev pub Yields : Log → PosId → Log → Type 0
Yields old p new = (p.0 < old.count) × (new ≡ took old (p ∷ []))

-- one step of a robber at one pool: it took the position that it answers, or nothing
abbrev pub Steals : Log → Robbed → Log → Type 0
Steals old (Got p) new = Yields old p new
Steals old Empty new = new ≡ old
Steals old Again new = new ≡ old

-- what the robber knows of the pool behind a door
abbrev pub door_log : Door → Log
door_log door = view door.pass

-- which deque is behind a door
abbrev pub door_deque : Door → RowsId × Global
door_deque door = stealer_deque door.thief

-- what the robber knows of each pool
abbrev pub robber_logs : Robber → List Log
robber_logs robber = map door_log robber.doors.items

-- which deques the robber robs
abbrev pub robber_deques : Robber → List (RowsId × Global)
robber_deques robber = map door_deque robber.doors.items

-- one step at the pool of this number, and none at another
abbrev pub Robs : List Log → ℕ → Robbed → List Log → Type 0
Robs old from robbed new = (w : Log) × (new ≡ slice_set old from w) × Steals (slice_index_or old from (fresh 0)) robbed w

-- a robber of this many pools, whose positions are below this bound
abbrev pub IsRobberOf : ℕ → ℕ → Robber → Type 0
IsRobberOf workers count robber = (length (robber_logs robber) ≡ workers) × All (λ v. v.count ≡ count) (robber_logs robber)

-- where a robber took a position, this holds of it
abbrev pub IfGot : Robbed → (PosId → Type 0) → Type 0
IfGot (Got p) P = P p
IfGot Empty P = ⊤
IfGot Again P = ⊤

-- a robber that has taken nothing yet out of these deques
pub record RobsAll (deques : List (RowsId × Global)) (count : ℕ) (robber : Robber) : Type 0 where
  pub deques_are : robber_deques robber ≡ deques
  pub all_fresh : All (λ v. v ≡ fresh count) (robber_logs robber)

abbrev pub IsFreshPool : ℕ → OwnPool → Type 0
IsFreshPool count pool = own_log pool ≡ fresh count

-- a pool and a robber for each worker, all empty, and each robber robs all of these pools in their order
pub record AreFresh (workers count : ℕ) (pools : List OwnPool) (robbers : List Robber) : Type 0 where
  pub pools_counted : length pools ≡ workers
  pub pools_fresh : All (IsFreshPool count) pools
  pub robbers_counted : length robbers ≡ workers
  pub robbers_fresh : All (RobsAll (map own_deque pools) count) robbers
