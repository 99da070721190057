-- Functions with the name of a lifetime marker (LangRef, "Memory Use Markers").
use Rattle.std.specs.Prelude.{Bool, true, false, not, ◌&&◌, ◌||◌, ◌==◌, List, [], ◌∷◌, Option, Some, slice_get}
use Rattle.ir_types.specs.declared.ir_type.IrType.{IrType}
use Rattle.ir_types.specs.declared.ir_type.IrType.TheVariants.{Void, Int, Ptr}
use Rattle.ir_module.specs.declared.module.Param.{Param}
use Rattle.ir_module.specs.declared.module.Func.{Func}
use Rattle.ir_module.specs.Calls.{is_lifetime_name}

abbrev pub is_void_type : Option IrType → Bool
is_void_type (Some Void) = true
is_void_type _ = false

abbrev pub is_pointer_type : Option IrType → Bool
is_pointer_type (Some Ptr) = true
is_pointer_type _ = false

abbrev pub is_i64_type : Option IrType → Bool
is_i64_type (Some (Int width)) = width == 64
is_i64_type _ = false

-- `(ptr)` or `(i64, ptr)`, named types going by their contents
abbrev pub are_marker_params : List IrType → List Param → Bool
are_marker_params types (p ∷ []) = is_pointer_type (slice_get types p.ty.0)
are_marker_params types (size ∷ p ∷ []) = is_i64_type (slice_get types size.ty.0) && is_pointer_type (slice_get types p.ty.0)
are_marker_params types _ = false

-- `void (ptr)` or `void (i64, ptr)`
abbrev pub is_marker_type : List IrType → Func → Bool
is_marker_type types f = not f.variadic && (is_void_type (slice_get types f.ret.0) && are_marker_params types f.params)

-- a lifetime name that is defined, or is declared with another type than a marker has
abbrev pub is_wrong_marker : List IrType → Func → Bool
is_wrong_marker types f = is_lifetime_name f.name && (not (f.block_count == 0) || not (is_marker_type types f))
