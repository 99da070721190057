-- What is known of lists while they are made: they have what is written before a place.
use Rattle.std.specs.Prelude.{◌≡◌, ◌<◌, ℕ, List, Some, slice_get, length}
use Rattle.ir_module.specs.declared.module.Spot.{Spot}
use Rattle.ir_module.specs.declared.module.Module.{Module}
use Rattle.ir_module.specs.Places.{spot}
use Rattle.ir_uses.specs.declared.lists.Use.{Use}
use Rattle.ir_uses.specs.Order.{IsBefore, IsCallBefore}
use Rattle.ir_uses.specs.Uses.{IsUseAt, IsCallAt}

abbrev pub use_at : ℕ → ℕ → ℕ → Use
use_at seg at operand = record { spot = spot seg at; operand = operand }

-- the list has each use of value v that is written before this place once, in text order
pub record IsUseListTo (m : Module) (here : Use) (v : ℕ) (us : List Use) : Type 0 where
  pub each : (k : ℕ) (u : Use) → slice_get us k ≡ Some u → IsUseAt m v u
  pub before : (k : ℕ) (u : Use) → slice_get us k ≡ Some u → IsBefore u here
  pub all : (u : Use) → IsUseAt m v u → IsBefore u here → (k : ℕ) × (slice_get us k ≡ Some u)
  pub order : (i k : ℕ) (a b : Use) → i < k → slice_get us i ≡ Some a → slice_get us k ≡ Some b → IsBefore a b

-- so are the lists of all values
abbrev pub AreUseListsTo : Module → Use → List (List Use) → Type 0
AreUseListsTo m here lists = (v : ℕ) → v < length m.values → (us : List Use) × (slice_get lists v ≡ Some us) × IsUseListTo m here v us

-- the list has each direct call of function f that is written before this place once, in text order
pub record IsCallListTo (m : Module) (here : Spot) (f : ℕ) (cs : List Spot) : Type 0 where
  pub each : (k : ℕ) (c : Spot) → slice_get cs k ≡ Some c → IsCallAt m f c
  pub before : (k : ℕ) (c : Spot) → slice_get cs k ≡ Some c → IsCallBefore c here
  pub all : (c : Spot) → IsCallAt m f c → IsCallBefore c here → (k : ℕ) × (slice_get cs k ≡ Some c)
  pub order : (i k : ℕ) (a b : Spot) → i < k → slice_get cs i ≡ Some a → slice_get cs k ≡ Some b → IsCallBefore a b

-- so are the lists of all functions
abbrev pub AreCallListsTo : Module → Spot → List (List Spot) → Type 0
AreCallListsTo m here lists = (f : ℕ) → f < length m.funcs → (cs : List Spot) × (slice_get lists f ≡ Some cs) × IsCallListTo m here f cs
