-- What a worker knows of a deque of hints, and the rule that the deque keeps.
use Rattle.std.specs.Prelude.{◌≡◌, ℕ, ◌<◌, ◌⊎◌, List, [], ◌∷◌, ◌++◌, All}
use mathlib.Core.Option.{some}
use lib.ListN.{get_elem?}
use Rattle.attr_ids.specs.declared.ids.PosId.{PosId}
use Rattle.steal_pool.specs.declared.hints.Stage.{Stage}
use Rattle.steal_pool.specs.declared.hints.Stage.TheVariants.{Made, Bounding, Used}
use Rattle.steal_pool.specs.declared.hints.Log.{Log}

abbrev pub log : ℕ → Stage → List PosId → List PosId → Log
log n stage given taken = record { count = n; stage = stage; given = given; taken = taken }

-- the log of a worker that gave these positions more
abbrev pub gave : Log → List PosId → Log
gave v ps = log v.count v.stage (v.given ++ ps) v.taken

-- the log of a worker that took these positions more
abbrev pub took : Log → List PosId → Log
took v ps = log v.count v.stage v.given (v.taken ++ ps)

-- the position is below the bound
abbrev pub IsBelow : ℕ → PosId → Type 0
IsBelow n p = p.0 < n

-- positions below the bound were taken, and no more happened
abbrev pub Takes : Log → List PosId → Log → Type 0
Takes v ps w = (w ≡ took v ps) × All (IsBelow v.count) ps

-- the bound stands in the deque, alone
abbrev pub Bounds : Log → List PosId → Log → Type 0
Bounds v ps w = (n : PosId) × (ps ≡ n ∷ []) × (w ≡ log n.0 Bounding [] [])

-- each worker that knows the deque
abbrev pub Each : (Log → Type 0) → List Log → Type 0
Each F views = (port : ℕ) (v : Log) → get_elem? views port ≡ some v → F v

-- the deque is in use and its positions are below this bound
abbrev pub IsUsed : ℕ → Log → Type 0
IsUsed n v = (v.count ≡ n) × (v.stage ≡ Used)

-- the rule: the deque is new; or it holds the bound alone; or every position in it is below the bound, which all workers know
abbrev pub Hints : List PosId → List Log → Type 0
Hints items views = ((items ≡ []) × (views ≡ log 0 Made [] [] ∷ [])) ⊎ (((n : PosId) × (items ≡ n ∷ []) × (views ≡ log n.0 Bounding [] [] ∷ [])) ⊎ ((n : ℕ) ×
    Each (IsUsed n) views × All (IsBelow n) items))

-- the log of a worker that has given and taken nothing yet
abbrev pub fresh : ℕ → Log
fresh n = log n Used [] []
