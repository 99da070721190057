-- Numbers of types: 0 for `void`, 1 for `ptr`, then the named ones, then every other type by its place among the unnamed ones.
use Rattle.std.specs.Prelude.{ℕ, ◌+◌, List, [], ◌∷◌, ◌++◌, map, Option, None, Some, if◌then◌else◌}
use Rattle.std.specs.List.{flat_map, list_any, position_from}
use Rattle.std.specs.Str.{bytes_eq}
use Rattle.ir_tree.specs.declared.types.Ty.{Ty}
use Rattle.ir_tree.specs.declared.types.Ty.TheOpen.{Ty-F}
use Rattle.ir_tree.specs.declared.types.Ty.TheOpen.Ty-F.{Void, Int, Ptr, Array, Struct, Packed, Named}
use Rattle.ir_tree.specs.declared.types.Ty.TheViews.{roll-Ty, out-Ty}
use Rattle.ir_tree.specs.declared.types.Ty.TheFolds.{fold-Ty, para-Ty, map-Ty}
use Rattle.ir_tree.specs.declared.entities.Entity.{Entity}
use Rattle.ir_tree.specs.declared.entities.Entity.TheVariants as entity_of
use Rattle.ir_type_uses.specs.Written.{written}
use Rattle.ir_type_names.specs.Reading.{Reading, named, bits_of, elements_of}

-- what an unnamed type is known by: its constructor and what is written there, then the numbers of its parts
abbrev pub Key : Type 0
Key = List ℕ

-- the names of a module are read, its unnamed types are these, and the first of them has this number
pub record Table : Type 0 where
  pub names : Reading
  pub first : ℕ
  pub keys : List Key

abbrev pub placed : ℕ → Option ℕ → ℕ
placed first None = 0
placed first (Some i) = first + i

-- the number of an unnamed type; 0 where the table lacks it
abbrev pub place : ℕ → List Key → Key → ℕ
place first keys key = placed first (position_from (bytes_eq key) 0 keys)

-- a type that has a number by itself, or an unnamed one
pub data Form : Type 0 where
  Own : (number : ℕ) → Form
  Keyed : (key : Key) → Form

-- the number of a type of this form
abbrev pub number_of_form : ℕ → List Key → Form → ℕ
number_of_form first keys (Own n) = n
number_of_form first keys (Keyed key) = place first keys key

-- the form of a type, by the numbers of its parts
abbrev pub form : Reading → Ty-F ℕ → Form
form r (Void at) = Own 0
form r (Ptr at) = Own 1
form r (Named name) = Own (named r name)
form r (Int at) = Keyed (0 ∷ bits_of r at ∷ [])
form r (Array start count elem) = Keyed (1 ∷ elements_of r count ∷ elem ∷ [])
form r (Struct start parts) = Keyed (2 ∷ parts)
form r (Packed start parts) = Keyed (3 ∷ parts)

abbrev pub type_id_layer : Table → Ty-F ℕ → ℕ
type_id_layer t x = number_of_form t.first t.keys (form t.names x)

-- the number of a type of a tree
abbrev pub type_id : Table → Ty → ℕ
type_id t = fold-Ty ℕ (type_id_layer t)

abbrev pub type_ids : Table → List Ty → List ℕ
type_ids t = map (type_id t)

-- the form of a type of a tree
abbrev pub form_of : Table → Ty → Form
form_of t ty = form t.names (map-Ty Ty ℕ (type_id t) (out-Ty ty))

-- the parts of a type, each with all that it is made of before it
abbrev pub below : Ty-F (Ty × List Ty) → List Ty
below (Array start count elem) = elem.1
below (Struct start parts) = flat_map (λ part. part.1) parts
below (Packed start parts) = flat_map (λ part. part.1) parts
below _ = []

abbrev pub parts_layer : Ty-F (Ty × List Ty) → List Ty
parts_layer x = below x ++ roll-Ty (map-Ty (Ty × List Ty) Ty (λ part. part.0) x) ∷ []

-- a type and all that it is made of, parts before wholes
abbrev pub parts_first : Ty → List Ty
parts_first = para-Ty (List Ty) parts_layer

-- the unnamed types with one more, if it is none of them
abbrev pub joined_by : List Key → Form → List Key
joined_by keys (Own n) = keys
joined_by keys (Keyed key) = if list_any (bytes_eq key) keys then keys else keys ++ key ∷ []

abbrev pub with_type : Table → Ty → Table
with_type t ty = record t { keys = joined_by t.keys (form_of t ty) }

-- the table once these types are taken in, one after another
abbrev pub with_all : Table → List Ty → Table
with_all t [] = t
with_all t (ty ∷ tys) = with_all (with_type t ty) tys

-- types that are written, each with its parts before it
abbrev pub with_parts : List (Ty × ℕ) → List Ty
with_parts uses = flat_map (λ u. parts_first u.0) uses

abbrev pub is_definition : Entity → ℕ
is_definition (entity_of.Named name body) = 1
is_definition _ = 0

-- how many types have names
abbrev pub named_count : List Entity → ℕ
named_count [] = 0
named_count (e ∷ es) = is_definition e + named_count es

-- the table before any unnamed type is taken in
abbrev pub empty_table : Reading → List Entity → Table
empty_table r es = record { names = r; first = 2 + named_count es; keys = [] }

-- what i1 is known by
abbrev pub bit_key : Key
bit_key = 0 ∷ 1 ∷ []

-- the table with i1, the type of comparisons
abbrev pub with_bit : Table → Table
with_bit t = record t { keys = joined_by t.keys (Keyed bit_key) }

-- the number of i1
abbrev pub bit : Table → ℕ
bit t = place t.first t.keys bit_key

-- the table of a module: the types that it writes, and i1 behind them where it is not written
abbrev pub table_of : Reading → List Entity → Table
table_of r es = with_bit (with_all (empty_table r es) (with_parts (written es)))
