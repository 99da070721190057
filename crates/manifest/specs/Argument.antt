-- What is added at a pointer argument: `align`, `dereferenceable`, `nonnull` of the operand; at an inner call also `nocapture`
-- and an access of the parameter that it is handed to.
use Rattle.std.specs.Prelude.{◌&&◌, ◌||◌, ℕ, Bool, true, false, if◌then◌else◌, List, [], ◌++◌, slice_get, Option, None, Some}
use Rattle.std.specs.Option.{option_and_then}
use Rattle.attr_ids.specs.declared.insertion.Place.TheVariants as place
use Rattle.ir_module.specs.declared.attrs.ParamAttrs.{ParamAttrs}
use Rattle.ir_module.specs.declared.op.Operand.{Operand}
use Rattle.ir_module.specs.declared.op.Operand.TheVariants as operand
use Rattle.ir_module.specs.declared.op.Written.{Written}
use Rattle.ir_module.specs.declared.op.Call.{Call}
use Rattle.ir_module.specs.declared.module.Param.{Param}
use Rattle.ir_module.specs.declared.module.Spot.{Spot}
use Rattle.ir_module.specs.declared.module.Module.{Module}
use Rattle.facts.specs.Bodies.{is_pointer, param_of}
use Rattle.facts.specs.Facts.{Fact, value}
use Rattle.facts.specs.Masks.{is_built}
use Rattle.facts.specs.Known.{written_has}
use Rattle.manifest.specs.Attrs.{Attr, align_attrs, bytes_attrs, nocapture_attrs, nonnull_attrs, has_access, access_attrs}
use Rattle.manifest.specs.Added.{Added, OfArg, put}
use Rattle.manifest.specs.Parameter.{of_param}

-- a value is known by the set; of a constant the kinds of fact count that are built of values
abbrev pub counts : Operand → ℕ → Bool
counts (operand.Value v) bit = true
counts _ bit = is_built (value 0) bit

-- the bits that are known of an operand
abbrev pub of_operand : Module → (Fact → Bool) → Written → ℕ → Bool
of_operand m held w bit = counts w.val bit && written_has m held w bit

-- the parameter that argument `at` is handed to, where the call runs body g
abbrev pub param_for : Module → Option ℕ → ℕ → Option Param
param_for m callee at = option_and_then (λ g. param_of m g at) callee

-- the bits that are held of that parameter, if there is one
abbrev pub of_handed : (Fact → Bool) → Option Param → ℕ → Bool
of_handed held None bit = false
of_handed held (Some p) bit = of_param held p bit

-- beside what is written at the parameter no access is added
abbrev pub refuses_access : Option Param → Bool
refuses_access None = false
refuses_access (Some p) = p.attrs.sret || p.attrs.writable

-- the attributes that are added to an argument with these written, by what is known of the operand and held of the parameter
abbrev pub arg_attrs_by : ParamAttrs → (ℕ → Bool) → (ℕ → Bool) → Bool → List Attr
arg_attrs_by written operand uses refuses =
    align_attrs written operand
    ++ bytes_attrs written operand
    ++ nocapture_attrs written uses
    ++ nonnull_attrs written operand
    ++ access_attrs (has_access written || refuses) uses

abbrev pub arg_attrs : Module → (Fact → Bool) → Option Param → Written → ParamAttrs → List Attr
arg_attrs m held handed w written = arg_attrs_by written (of_operand m held w) (of_handed held handed) (refuses_access handed)

-- at an argument, where it is a pointer
abbrev pub at_written : Module → (Fact → Bool) → Spot → Option Param → ℕ → Written → ParamAttrs → ℕ → List Added
at_written m held s handed at w written offset = if is_pointer m w.ty then put offset place.Argument (OfArg s at) (arg_attrs m held handed w written) else []

-- an argument with its attributes and its place, where it has them
abbrev pub at_parts : Module → (Fact → Bool) → Spot → Option Param → ℕ → Option Written → Option ParamAttrs → Option ℕ → List Added
at_parts m held s handed at (Some w) (Some written) (Some offset) = at_written m held s handed at w written offset
at_parts m held s handed at _ _ _ = []

-- at argument `at` of a call
abbrev pub at_arg : Module → (Fact → Bool) → Spot → Call → Option ℕ → ℕ → List Added
at_arg m held s call callee at =
    at_parts m held s (param_for m callee at) at (slice_get call.args at) (slice_get call.attrs.args at) (slice_get call.places.args at)
