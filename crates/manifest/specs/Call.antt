-- What is added at an inner call: `nofree`, `noreturn`, `nounwind`, `memory` of the body that it runs.
use Rattle.std.specs.Prelude.{ℕ, Bool, List, [], ◌++◌, Option, None, Some}
use Rattle.std.specs.List.{list_any}
use Rattle.std.specs.Option.{is_some}
use Rattle.attr_ids.specs.declared.insertion.Place.TheVariants as place
use Rattle.ir_module.specs.declared.attrs.ParamAttrs.{ParamAttrs}
use Rattle.ir_module.specs.declared.op.Call.{Call}
use Rattle.ir_module.specs.declared.module.Spot.{Spot}
use Rattle.facts.specs.Facts.{Fact, nofree_of, noreturn_of, nounwind_of}
use Rattle.manifest.specs.Attrs.{Attr, Nofree, Noreturn, Nounwind, added, memory_attrs}
use Rattle.manifest.specs.Added.{Added, OfCall, put}
use Rattle.manifest.specs.Function.{of_body}

-- an argument is written `writable`
abbrev pub has_writable_arg : List ParamAttrs → Bool
has_writable_arg args = list_any (λ (a : ParamAttrs). a.writable) args

-- the attributes that are added to a call of body g
abbrev pub call_attrs : (Fact → Bool) → ℕ → Call → List Attr
call_attrs held g call =
    added call.attrs.func.nofree (held (nofree_of g)) Nofree
    ++ added call.attrs.func.noreturn (held (noreturn_of g)) Noreturn
    ++ added call.attrs.func.nounwind (held (nounwind_of g)) Nounwind
    ++ memory_attrs (is_some call.attrs.func.memory) (has_writable_arg call.attrs.args) (of_body held g)

-- behind the closing parenthesis of the call, where it runs a body of the module
abbrev pub at_call : (Fact → Bool) → Spot → Call → Option ℕ → List Added
at_call held s call None = []
at_call held s call (Some g) = put call.places.after place.Call (OfCall s) (call_attrs held g call)
