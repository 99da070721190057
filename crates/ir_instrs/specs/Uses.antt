-- What instructions name, in the order of the text: values with the types that are written for them, and labels; which of these
-- have no definition of their kind, and which parts the constants among them lay.
use Rattle.std.specs.Prelude.{◌≡◌, ℕ, Bool, true, false, List, [], ◌∷◌, Option, Some, slice_index}
use Rattle.std.specs.List.{flat_map}
use Rattle.attr_ids.specs.declared.ids.TypeId.{TypeId}
use Rattle.ir_tree.specs.declared.values.Value.{Value}
use Rattle.ir_tree.specs.declared.values.Value.TheVariants as value
use Rattle.ir_operands.specs.Constants.{ArePartsBelow}
use Rattle.ir_scopes.specs.declared.slot.Entry.{Entry}
use Rattle.ir_scopes.specs.declared.slot.Entry.TheVariants as entry
use Rattle.ir_scopes.specs.declared.faults.Cause.TheVariants.{Unknown}
use Rattle.ir_scopes.specs.declared.faults.NameFault.{NameFault}
use Rattle.ir_scopes.specs.Faults.{fault_unless, first_in}
use Rattle.ir_consts.specs.declared.consts.Laid.{Laid}
use Rattle.ir_instrs.specs.Reading.{Reading, Parts}

pub data Use : Type 0 where
  Typed : (ty : TypeId) → (value : Value) → Use
  Label : (at : ℕ) → Use

abbrev pub is_value : Option Entry → Bool
is_value (Some (entry.Value v)) = true
is_value _ = false

abbrev pub is_block : Option Entry → Bool
is_block (Some (entry.Block b)) = true
is_block _ = false

-- what the name at a token stands for
abbrev pub entry_at : Reading → ℕ → Option Entry
entry_at r at = r.named (slice_index r.ids at)

abbrev pub value_faults : Reading → Value → List NameFault
value_faults r (value.Local at) = fault_unless (is_value (entry_at r at)) Unknown at
value_faults r (value.Const c) = r.unknown c

abbrev pub label_faults : Reading → ℕ → List NameFault
label_faults r at = fault_unless (is_block (entry_at r at)) Unknown at

-- a name that has no definition of its kind
abbrev pub use_faults : Reading → Use → List NameFault
use_faults r (Typed t v) = value_faults r v
use_faults r (Label at) = label_faults r at

abbrev pub faults_of : Reading → List Use → List NameFault
faults_of r us = flat_map (use_faults r) us

-- the parts that are laid behind a use, where these are laid before it
abbrev pub behind_value : Reading → Parts → TypeId → Value → Parts
behind_value r ps t (value.Local at) = ps
behind_value r ps t (value.Const c) = (r.const c t ps).1

abbrev pub behind_use : Reading → Parts → Use → Parts
behind_use r ps (Typed t v) = behind_value r ps t v
behind_use r ps (Label at) = ps

abbrev pub behind : Reading → Parts → List Use → Parts
behind r ps [] = ps
behind r ps (u ∷ us) = behind r (behind_use r ps u) us

-- things that are made one behind another, each with its own uses
abbrev pub each : {X Y : Type 0} → Reading → (Parts → X → Y) → (X → List Use) → Parts → List X → List Y
each r made uses ps [] = []
each r made uses ps (x ∷ xs) = made ps x ∷ each r made uses (behind r ps (uses x)) xs

-- these uses were taken in: their parts are laid, their faults noted, and each part still names smaller ones alone
pub record Takes (r : Reading) (us : List Use) (old new : Laid) : Type 0 where
  pub parts : new.parts.items ≡ behind r old.parts.items us
  pub found : new.found ≡ first_in old.found (faults_of r us)
  pub below : ArePartsBelow new.parts.items
