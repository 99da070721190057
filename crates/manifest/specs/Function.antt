-- What is added at a body: `nofree`, `norecurse`, `noreturn`, `nounwind`, `memory`.
use Rattle.std.specs.Prelude.{ℕ, Bool, List, ◌++◌}
use Rattle.std.specs.List.{list_any}
use Rattle.std.specs.Option.{is_some}
use Rattle.attr_ids.specs.declared.insertion.Place.TheVariants as place
use Rattle.ir_module.specs.declared.module.Param.{Param}
use Rattle.ir_module.specs.declared.module.Func.{Func}
use Rattle.ir_module.specs.declared.module.Module.{Module}
use Rattle.ir_module.specs.Places.{entry_of}
use Rattle.facts.specs.Kinds.{FunctionFact}
use Rattle.facts.specs.Facts.{Fact, dead_at, of_function, nofree_of, noreturn_of, nounwind_of, unreached}
use Rattle.manifest.specs.Attrs.{Attr, Nofree, Norecurse, Noreturn, Nounwind, added, memory_attrs}
use Rattle.manifest.specs.Added.{Added, OfBody, put}

-- no run comes to the body: its first segment is dead
abbrev pub is_dead_body : Module → (Fact → Bool) → ℕ → Bool
is_dead_body m held f = held (dead_at (entry_of m f))

-- the facts of body f that are held
abbrev pub of_body : (Fact → Bool) → ℕ → FunctionFact → Bool
of_body held f kind = held (of_function kind f)

-- a parameter is written `writable`
abbrev pub has_writable : List Param → Bool
has_writable params = list_any (λ (p : Param). p.attrs.writable) params

-- the attributes that are added to body f
abbrev pub function_attrs : Module → (Fact → Bool) → ℕ → Func → List Attr
function_attrs m held f func =
    added func.attrs.nofree (held (nofree_of f)) Nofree
    ++ added func.attrs.norecurse (held (unreached m f f)) Norecurse
    ++ added func.attrs.noreturn (held (noreturn_of f)) Noreturn
    ++ added func.attrs.nounwind (held (nounwind_of f)) Nounwind
    ++ memory_attrs (is_some func.attrs.memory) (has_writable func.params) (of_body held f)

-- at its header, behind the closing parenthesis
abbrev pub at_function : Module → (Fact → Bool) → ℕ → Func → List Added
at_function m held f func = put func.places.after place.Function (OfBody f) (function_attrs m held f func)
