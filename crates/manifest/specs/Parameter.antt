-- What is added at a parameter of a body: `align`, `dereferenceable`, `nocapture`, `nonnull`, an access, `returned`.
use Rattle.std.specs.Prelude.{◌&&◌, ◌||◌, ◌==◌, ℕ, zero, suc, Bool, false, if◌then◌else◌, List, [], ◌++◌, slice_get, Option, None, Some}
use Rattle.std.specs.List.{list_any}
use Rattle.attr_ids.specs.declared.insertion.Place.TheVariants as place
use Rattle.lattice_words.specs.declared.value.TheConstants.{SAME_AS_PARAMETERS}
use Rattle.ir_module.specs.declared.module.Param.{Param}
use Rattle.ir_module.specs.declared.module.Func.{Func}
use Rattle.ir_module.specs.declared.module.Module.{Module}
use Rattle.ir_module.specs.Calls.{is_same_type}
use Rattle.facts.specs.Facts.{Fact, noreturn_of, of_return, of_value, at_entry}
use Rattle.manifest.specs.Attrs.{Attr, Returned, added, align_attrs, bytes_attrs, nocapture_attrs, nonnull_attrs, has_access, access_attrs}
use Rattle.manifest.specs.Added.{Added, OfParam, put}

-- the number, if there is one, else the other one
abbrev pub or_number : Option ℕ → Option ℕ → Option ℕ
or_number None other = other
or_number (Some n) other = Some n

-- the lowest number below n that has it
abbrev pub lowest : (ℕ → Bool) → ℕ → Option ℕ
lowest has zero = None
lowest has (suc n) = or_number (lowest has n) (if has n then Some n else None)

-- the parameter has the function's return type
abbrev pub has_return_type : Module → Func → Option Param → Bool
has_return_type m func None = false
has_return_type m func (Some p) = is_same_type m p.ty func.ret

-- body f returns parameter i, whose type is its return type
abbrev pub returns : Module → (Fact → Bool) → ℕ → Func → ℕ → Bool
returns m held f func i = has_return_type m func (slice_get func.params i) && held (of_return f i)

-- `returned` is deduced for the lowest such parameter, where the body returns and no parameter has it written
abbrev pub returned_param : Module → (Fact → Bool) → ℕ → Func → Option ℕ
returned_param m held f func =
    if held (noreturn_of f) || list_any (λ (p : Param). p.attrs.returned) func.params then None else lowest (returns m held f func) SAME_AS_PARAMETERS

-- it is this number
abbrev pub is_number : ℕ → Option ℕ → Bool
is_number at None = false
is_number at (Some n) = n == at

-- the bits that are held of parameter `at` of body f at its entries
abbrev pub of_entry : (Fact → Bool) → ℕ → ℕ → ℕ → Bool
of_entry held f at bit = held (at_entry f at bit)

-- the bits that are held of a parameter as a value
abbrev pub of_param : (Fact → Bool) → Param → ℕ → Bool
of_param held p bit = held (of_value p.value.0 bit)

-- the attributes that are added to a parameter, by what is held of it at its entries and as a value
abbrev pub param_attrs_by : Param → (ℕ → Bool) → (ℕ → Bool) → Bool → List Attr
param_attrs_by p entry uses is_returned =
    align_attrs p.attrs entry
    ++ bytes_attrs p.attrs entry
    ++ nocapture_attrs p.attrs uses
    ++ nonnull_attrs p.attrs entry
    ++ access_attrs (has_access p.attrs) uses
    ++ added (p.attrs.sret || p.attrs.writable) is_returned Returned

-- the attributes that are added to parameter `at` of body f; `returned` is deduced for the one with this number
abbrev pub param_attrs : (Fact → Bool) → ℕ → Option ℕ → ℕ → Param → List Attr
param_attrs held f returned at p = param_attrs_by p (of_entry held f at) (of_param held p) (is_number at returned)

-- at a parameter of body f
abbrev pub at_param : (Fact → Bool) → ℕ → Option ℕ → ℕ → Option Param → List Added
at_param held f returned at None = []
at_param held f returned at (Some p) = put p.place place.Parameter (OfParam f at) (param_attrs held f returned at p)
