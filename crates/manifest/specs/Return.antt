-- What is added at what a body or an inner call returns: `align`, `dereferenceable`, `nonnull`.
use Rattle.std.specs.Prelude.{ℕ, Bool, if◌then◌else◌, List, [], ◌++◌, Option, None, Some}
use Rattle.attr_ids.specs.declared.insertion.Place.TheVariants as place
use Rattle.ir_module.specs.declared.attrs.ParamAttrs.{ParamAttrs}
use Rattle.ir_module.specs.declared.op.Call.{Call}
use Rattle.ir_module.specs.declared.module.Func.{Func}
use Rattle.ir_module.specs.declared.module.Spot.{Spot}
use Rattle.facts.specs.Facts.{Fact, noreturn_of, of_return}
use Rattle.manifest.specs.Attrs.{Attr, align_attrs, bytes_attrs, nonnull_attrs}
use Rattle.manifest.specs.Added.{Added, OfBody, OfCall, put}

-- the bits that are held of what body f returns
abbrev pub of_returned : (Fact → Bool) → ℕ → ℕ → Bool
of_returned held f bit = held (of_return f bit)

-- the attributes that are added to what is returned
abbrev pub return_attrs : ParamAttrs → (ℕ → Bool) → List Attr
return_attrs written has = align_attrs written has ++ bytes_attrs written has ++ nonnull_attrs written has

-- before the return type of body f, if it returns
abbrev pub at_return : (Fact → Bool) → ℕ → Func → List Added
at_return held f func = if held (noreturn_of f) then [] else put func.places.ret place.Return (OfBody f) (return_attrs func.ret_attrs (of_returned held f))

-- before the return type of a call of body g, if that returns
abbrev pub at_call_of : (Fact → Bool) → Spot → Call → ℕ → List Added
at_call_of held s call g = if held (noreturn_of g) then [] else put call.places.ret place.CallReturn (OfCall s) (return_attrs call.attrs.ret
    (of_returned held g))

-- before the return type of a call, where it runs a body of the module
abbrev pub at_call_return : (Fact → Bool) → Spot → Call → Option ℕ → List Added
at_call_return held s call None = []
at_call_return held s call (Some g) = at_call_of held s call g
