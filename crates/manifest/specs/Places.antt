-- The places of a module in text order: where something may be added to a body, to its parameters, to its calls and their arguments.
use Rattle.std.specs.Prelude.{◌+◌, ◌≤◌, ◌==◌, ℕ, if◌then◌else◌, List, [], ◌∷◌, ◌++◌, length, slice_get, Option, None, Some}
use Rattle.std.specs.Option.{option_map_or}
use Rattle.ir_module.specs.declared.op.Call.{Call}
use Rattle.ir_module.specs.declared.op.Instr.{Instr}
use Rattle.ir_module.specs.declared.module.Seg.{Seg}
use Rattle.ir_module.specs.declared.module.Block.{Block}
use Rattle.ir_module.specs.declared.module.Param.{Param}
use Rattle.ir_module.specs.declared.module.Func.{Func}
use Rattle.ir_module.specs.declared.module.Module.{Module}
use Rattle.ir_module.specs.Calls.{call_of}
use Rattle.manifest.specs.Added.{joined}

-- a place, if there is one
abbrev pub place_if : Option ℕ → List ℕ
place_if None = []
place_if (Some at) = at ∷ []

-- the places of a call
abbrev pub call_places : Call → List ℕ
call_places call = call.places.ret ∷ (joined (λ at. place_if (slice_get call.places.args at)) (length call.args) ++ call.places.after ∷ [])

abbrev pub instr_places : Option Instr → List ℕ
instr_places None = []
instr_places (Some instr) = option_map_or call_places (call_of instr.op) []

abbrev pub seg_places : Option Seg → List ℕ
seg_places None = []
seg_places (Some seg) = joined (λ at. instr_places (slice_get seg.instrs at)) (length seg.instrs)

abbrev pub block_places : Module → Option Block → List ℕ
block_places m None = []
block_places m (Some b) = joined (λ i. seg_places (slice_get m.segs (b.first_seg + i))) b.seg_count

abbrev pub param_place : Option Param → List ℕ
param_place None = []
param_place (Some p) = p.place ∷ []

-- the places of a header
abbrev pub header_places : Func → List ℕ
header_places func = func.places.ret ∷ (joined (λ at. param_place (slice_get func.params at)) (length func.params) ++ func.places.after ∷ [])

-- the places of a body
abbrev pub func_places : Module → Option Func → List ℕ
func_places m None = []
func_places m (Some func) = if func.block_count == 0 then [] else header_places func
    ++ joined (λ i. block_places m (slice_get m.blocks (func.first_block + i))) func.block_count

unfoldable pub places_of : Module → List ℕ
places_of m = joined (λ f. func_places m (slice_get m.funcs f)) (length m.funcs)

-- the numbers rise from `low` on, and none is above `high`
abbrev pub RiseWithin : ℕ → ℕ → List ℕ → Type 0
RiseWithin low high [] = Unit {0}
RiseWithin low high (x ∷ xs) = (low ≤ x) × (x ≤ high) × RiseWithin x high xs

-- the places of a module stand in a text of n bytes, in text order
abbrev pub PlacesRise : ℕ → Module → Type 0
PlacesRise n m = RiseWithin 0 n (places_of m)
