-- The numbers of positions: their places in a list, and the tables by which they are found.
use Rattle.std.specs.Prelude.{◌≡◌, ◌+◌, ◌*◌, ◌<◌, ◌≤◌, ℕ, zero, suc, List, [], ◌∷◌, ◌++◌, length, map, slice_get, Some}
use Rattle.attr_ids.specs.declared.ids.FuncId.{FuncId}
use Rattle.ir_module.specs.declared.module.Module.{Module}
use Rattle.facts.specs.declared.pos.Pos.{Pos}
use Rattle.facts.specs.declared.pos.Pos.TheVariants as pos
use Rattle.facts.specs.Masks.{mask_of}
use Rattle.positions.specs.declared.tables.Tables.{Tables}
use Rattle.positions.specs.Order.{up_to, positions_of}

-- what contracts see of `Positions`: the positions in their order, and the mask of each
pub record Numbered : Type 0 where
  pub list : List Pos
  pub masks : List ℕ

-- these are the positions of the module, with their masks
pub record AreOf (m : Module) (numbered : Numbered) : Type 0 where
  pub list : numbered.list ≡ positions_of m
  pub masks : numbered.masks ≡ map (mask_of m) numbered.list

-- the position has a number
abbrev pub IsListed : Numbered → Pos → Type 0
IsListed numbered p = (n : ℕ) × (slice_get numbered.list n ≡ Some p)

-- ---- tables

-- where the parts of the numbers below n begin, behind `first` positions
unfoldable pub starts : ℕ → (ℕ → List Pos) → ℕ → List ℕ
starts first part zero = []
starts first part (suc n) = starts first part n ++ (first + length (up_to part n)) ∷ []

-- the position is an entry of the body for a parameter before `at`
abbrev pub IsEntryBefore : FuncId → ℕ → Pos → Type 0
IsEntryBefore f at p = (less : ℕ) × (less < at) × (p ≡ pos.Entry f less)

-- the entry number n of the body, whose entries begin at `start`: those for earlier parameters stand between, and nothing else
pub record IsEntryAt (list : List Pos) (f : FuncId) (at start n : ℕ) : Type 0 where
  pub from : start ≤ n
  pub near : n ≤ start + at
  pub before : (k : ℕ) → start ≤ k → k < n → (p : Pos) × (slice_get list k ≡ Some p) × IsEntryBefore f at p

-- the position has the number n in the list: what the tables say
abbrev pub IsAt : Tables → List Pos → Pos → ℕ → Type 0
IsAt t list (pos.Segment k) n = k.0 ≡ n
IsAt t list (pos.Function f) n = slice_get t.functions.items f.0 ≡ Some n
IsAt t list (pos.Value v) n = slice_get t.values.items v.0 ≡ Some n
IsAt t list (pos.Entry f at) n = (start : ℕ) × (slice_get t.entries.items f.0 ≡ Some start) × IsEntryAt list f at start n
IsAt t list (pos.Return f) n = (at : ℕ) × (slice_get t.functions.items f.0 ≡ Some at) × (at + t.to_returns ≡ n)
IsAt t list (pos.Reach row k) n = t.first_row + (row * t.row_words + k) ≡ n
IsAt t list (pos.Effect k) n = t.first_effect + k.0 ≡ n

-- the tables tell the number of each position of the list
abbrev pub AreFound : Tables → List Pos → Type 0
AreFound t list = (n : ℕ) (p : Pos) → slice_get list n ≡ Some p → IsAt t list p n
