-- Bodies and their numbers, types of values, and the places of instructions in blocks.
use Rattle.std.specs.Prelude.{◌≡◌, ℕ, Bool, true, false, length, take, filter, slice_get, Option, None, Some}
use Rattle.std.specs.Option.{option_map_or}
use Rattle.attr_ids.specs.declared.ids.TypeId.{TypeId}
use Rattle.ir_types.specs.declared.ir_type.IrType.{IrType}
use Rattle.ir_types.specs.declared.ir_type.IrType.TheVariants.{Void, Ptr}
use Rattle.ir_module.specs.declared.module.Param.{Param}
use Rattle.ir_module.specs.declared.module.Func.{Func}
use Rattle.ir_module.specs.declared.module.Module.{Module}
use Rattle.ir_module.specs.Calls.{has_blocks}

-- function f is defined
abbrev pub is_body : Module → ℕ → Bool
is_body m f = has_blocks (slice_get m.funcs f)

-- how many bodies stand before function f: the number of the body f, and of its row
unfoldable pub rank : Module → ℕ → ℕ
rank m f = length (filter (λ func. has_blocks (Some func)) (take f m.funcs))

-- how many bodies the module has; the row of the outside has this number
abbrev pub body_count : Module → ℕ
body_count m = rank m (length m.funcs)

-- body number r is function f
abbrev pub IsBodyNumber : Module → ℕ → ℕ → Type 0
IsBodyNumber m r f = (is_body m f ≡ true) × (rank m f ≡ r)

-- the type is there, and is `ptr`
abbrev pub is_ptr : Option IrType → Bool
is_ptr (Some Ptr) = true
is_ptr _ = false

-- the type is there, and is `void`
abbrev pub is_void_type : Option IrType → Bool
is_void_type (Some Void) = true
is_void_type _ = false

-- the type is `ptr`
abbrev pub is_pointer : Module → TypeId → Bool
is_pointer m t = is_ptr (slice_get m.types t.0)

-- the type is `void`
abbrev pub is_void : Module → TypeId → Bool
is_void m t = is_void_type (slice_get m.types t.0)

-- parameter `at` of a function that may be there
abbrev pub param_in : ℕ → Option Func → Option Param
param_in at None = None
param_in at (Some func) = slice_get func.params at

-- parameter `at` of function f
abbrev pub param_of : Module → ℕ → ℕ → Option Param
param_of m f at = param_in at (slice_get m.funcs f)

-- how many parameters function f has
abbrev pub param_count : Module → ℕ → ℕ
param_count m f = option_map_or (λ func. length func.params) (slice_get m.funcs f) 0
