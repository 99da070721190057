-- The positions of a module in their order: kind by kind, each kind in module order.
use Rattle.std.specs.Prelude.{◌+◌, ◌-◌, ◌/◌, ℕ, zero, suc, Bool, false, if◌then◌else◌, List, [], ◌∷◌, ◌++◌, length, slice_get, Option, None, Some}
use Rattle.lattice_words.specs.declared.reach.TheConstants.{BODIES}
use Rattle.ir_module.specs.declared.module.ValueInfo.{ValueInfo}
use Rattle.ir_module.specs.declared.module.Module.{Module}
use Rattle.facts.specs.declared.pos.Pos.{Pos}
use Rattle.facts.specs.declared.pos.Pos.TheVariants as pos
use Rattle.facts.specs.Bodies.{is_body, body_count, param_of, param_count}
use Rattle.facts.specs.Masks.{is_pointer_param}
use Rattle.facts.specs.Facts.{segment, function, value, entry, returned, effect}

-- what the numbers below n give, one after the other
unfoldable pub up_to : (ℕ → List Pos) → ℕ → List Pos
up_to part zero = []
up_to part (suc n) = up_to part n ++ part n

abbrev pub segment_at : ℕ → List Pos
segment_at k = segment k ∷ []

-- each body has a position
abbrev pub body_at : Module → ℕ → List Pos
body_at m f = if is_body m f then function f ∷ [] else []

abbrev pub belongs : Module → Option ValueInfo → Bool
belongs m None = false
belongs m (Some info) = is_body m info.func.0

-- so has each value of a body
abbrev pub value_at : Module → ℕ → List Pos
value_at m v = if belongs m (slice_get m.values v) then value v ∷ [] else []

abbrev pub entry_at : Module → ℕ → ℕ → List Pos
entry_at m f at = if is_pointer_param m (param_of m f at) then entry f at ∷ [] else []

-- and each pointer parameter of a body
abbrev pub entries_at : Module → ℕ → List Pos
entries_at m f = if is_body m f then up_to (entry_at m f) (param_count m f) else []

-- and what each body returns
abbrev pub return_at : Module → ℕ → List Pos
return_at m f = if is_body m f then returned f ∷ [] else []

-- how many words a row has
abbrev pub row_words : Module → ℕ
row_words m = (body_count m + (BODIES - 1)) / BODIES

abbrev pub word_at : ℕ → ℕ → List Pos
word_at r k = pos.Reach r k ∷ []

-- and each word of each row; the last row is that of the outside
abbrev pub row_at : Module → ℕ → List Pos
row_at m r = up_to (word_at r) (row_words m)

abbrev pub effect_at : ℕ → List Pos
effect_at k = effect k ∷ []

-- ---- the positions of a module, from one kind on

abbrev pub from_effects : Module → List Pos
from_effects m = up_to effect_at (length m.segs)

abbrev pub from_rows : Module → List Pos
from_rows m = up_to (row_at m) (suc (body_count m)) ++ from_effects m

abbrev pub from_returns : Module → List Pos
from_returns m = up_to (return_at m) (length m.funcs) ++ from_rows m

abbrev pub from_entries : Module → List Pos
from_entries m = up_to (entries_at m) (length m.funcs) ++ from_returns m

abbrev pub from_values : Module → List Pos
from_values m = up_to (value_at m) (length m.values) ++ from_entries m

abbrev pub from_bodies : Module → List Pos
from_bodies m = up_to (body_at m) (length m.funcs) ++ from_values m

-- the positions of a module
unfoldable pub positions_of : Module → List Pos
positions_of m = up_to segment_at (length m.segs) ++ from_bodies m
