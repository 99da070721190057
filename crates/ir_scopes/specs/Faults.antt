-- Faults of names, and the first of them.
use Rattle.std.specs.Prelude.{◌≡◌, ℕ, ◌≤◌, Bool, List, [], ◌∷◌, Option, None, Some, if◌then◌else◌, nat_le, slice_get}
use Rattle.ir_scopes.specs.declared.faults.Cause.{Cause}
use Rattle.ir_scopes.specs.declared.faults.NameFault.{NameFault}

-- of two faults the one that stands first in the text, and the one that was found where both stand at one token
abbrev pub lesser : Option NameFault → NameFault → Option NameFault
lesser None fault = Some fault
lesser (Some old) fault = if nat_le old.at fault.at then Some old else Some fault

-- the first in the text of one that was found, if one was, and these
abbrev pub first_in : Option NameFault → List NameFault → Option NameFault
first_in found [] = found
first_in found (fault ∷ faults) = first_in (lesser found fault) faults

-- this fault, unless all is well
abbrev pub fault_unless : Bool → Cause → ℕ → List NameFault
fault_unless well cause at = if well then [] else record { cause = cause; at = at } ∷ []

-- the fault is one of these, and none of them stands before it
pub record IsFirst (faults : List NameFault) (fault : NameFault) : Type 0 where
  pub one : (k : ℕ) × (slice_get faults k ≡ Some fault)
  pub first : (k : ℕ) (other : NameFault) → slice_get faults k ≡ Some other → fault.at ≤ other.at
