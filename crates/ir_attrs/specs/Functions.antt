-- The attributes of a function or a call, with those of its groups.
use Rattle.std.specs.Prelude.{◌≡◌, ℕ, Bool, true, false, ◌||◌, if◌then◌else◌, ◌==◌, List, [], ◌∷◌, ◌++◌, codes, slice_index, Option, None, Some}
use Rattle.std.specs.List.{list_any, flat_map}
use Rattle.ir_token.specs.Bytes.{Bytes}
use Rattle.ir_token.specs.declared.token.Token.{Token}
use Rattle.ir_tree.specs.declared.attributes.Fattr.{Fattr}
use Rattle.ir_tree.specs.declared.attributes.Gattr.{Gattr}
use Rattle.ir_tree.specs.declared.attributes.Word.{Word}
use Rattle.ir_tree.specs.declared.attributes.Word.TheVariants as word_of
use Rattle.ir_tree.specs.declared.entities.Entity.{Entity}
use Rattle.ir_tree.specs.declared.entities.Entity.TheVariants.{Attributes}
use Rattle.ir_module.specs.declared.attrs.MemoryAttr.{MemoryAttr}
use Rattle.ir_module.specs.declared.attrs.FuncAttrs.{FuncAttrs}
use Rattle.ir_attrs.specs.declared.functions.Gathered.{Gathered}
use Rattle.ir_attrs.specs.Latest.{later, latest}
use Rattle.ir_attrs.specs.Attributes.{is_attr, has, inside_of, group_attrs, own_attrs}
use Rattle.ir_attrs.specs.Memory.{everything, memory_of}

-- what an attribute says of memory, where it is a `memory`
abbrev pub memory_says : Bytes → List Token → Fattr → Option MemoryAttr
memory_says b toks f = if is_attr b toks (codes "memory") f then Some (memory_of b toks (inside_of f)) else None

-- one of the attributes that `memory` took the place of
abbrev pub is_former : Bytes → List Token → Fattr → Bool
is_former b toks f =
    ((is_attr b toks (codes "readnone") f || is_attr b toks (codes "readonly") f) || is_attr b toks (codes "writeonly") f)
    || ((is_attr b toks (codes "argmemonly") f || is_attr b toks (codes "inaccessiblememonly") f) || is_attr b toks (codes "inaccessiblemem_or_argmemonly") f)

-- what attributes say together: of several `memory` the last counts
abbrev pub gathered : Bytes → List Token → List Fattr → Gathered
gathered b toks fs = record {
  attrs = record {
    nounwind = has b toks (codes "nounwind") fs;
    noreturn = has b toks (codes "noreturn") fs;
    nofree = has b toks (codes "nofree") fs;
    norecurse = has b toks (codes "norecurse") fs;
    nocallback = has b toks (codes "nocallback") fs;
    memory = latest (memory_says b toks) None fs;
  };
  former = list_any (is_former b toks) fs;
}

-- what these say together with what stands behind them
abbrev pub merged : Gathered → Gathered → Gathered
merged x y = record {
  attrs = record {
    nounwind = x.attrs.nounwind || y.attrs.nounwind;
    noreturn = x.attrs.noreturn || y.attrs.noreturn;
    nofree = x.attrs.nofree || y.attrs.nofree;
    norecurse = x.attrs.norecurse || y.attrs.norecurse;
    nocallback = x.attrs.nocallback || y.attrs.nocallback;
    memory = later x.attrs.memory y.attrs.memory;
  };
  former = x.former || y.former;
}

-- what these say with one attribute more behind them
abbrev pub with_attr : Bytes → List Token → Gathered → Fattr → Gathered
with_attr b toks x f = record {
  attrs = record {
    nounwind = x.attrs.nounwind || is_attr b toks (codes "nounwind") f;
    noreturn = x.attrs.noreturn || is_attr b toks (codes "noreturn") f;
    nofree = x.attrs.nofree || is_attr b toks (codes "nofree") f;
    norecurse = x.attrs.norecurse || is_attr b toks (codes "norecurse") f;
    nocallback = x.attrs.nocallback || is_attr b toks (codes "nocallback") f;
    memory = later x.attrs.memory (memory_says b toks f);
  };
  former = x.former || is_former b toks f;
}

-- where one of the former attributes stands, a `memory` that permits everything is the last
abbrev pub settled : Gathered → FuncAttrs
settled x = if x.former then record x.attrs { memory = Some everything } else x.attrs

-- the attributes of the group of a name, by the entity that defines it first
abbrev pub group_in : List ℕ → List Entity → ℕ → Option (List Fattr)
group_in ids [] name = None
group_in ids (Attributes group words ∷ es) name = if slice_index ids group == name then Some (group_attrs words) else group_in ids es name
group_in ids (e ∷ es) name = group_in ids es name

abbrev pub or_nothing : Option (List Fattr) → List Fattr
or_nothing None = []
or_nothing (Some fs) = fs

-- the attributes of a group that is named at a place
abbrev pub named_attrs : List ℕ → (ℕ → Option (List Fattr)) → Word → List Fattr
named_attrs ids groups (word_of.Fattr f) = []
named_attrs ids groups (word_of.Group at) = or_nothing (groups (slice_index ids at))

-- all attributes of a place: those that are written there, and behind them those of its groups, group by group
abbrev pub all_attrs : List ℕ → (ℕ → Option (List Fattr)) → List Word → List Fattr
all_attrs ids groups ws = own_attrs ws ++ flat_map (named_attrs ids groups) ws

-- the attributes of a function or a call
unfoldable pub func_attrs : Bytes → List Token → List ℕ → (ℕ → Option (List Fattr)) → List Word → FuncAttrs
func_attrs b toks ids groups ws = settled (gathered b toks (all_attrs ids groups ws))
