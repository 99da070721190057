-- The first place at which each type is written, as an offset.
use Rattle.std.specs.Prelude.{◌≡◌, ◌<◌, slice_index, slice_index_or, ℕ, ◌+◌, min, List, [], ◌∷◌, ◌++◌, map, length, Option, None, Some, ◌==◌, if◌then◌else◌}
use Rattle.std.specs.List.{flat_map}
use Rattle.std.specs.Option.{unwrap_or}
use Rattle.ir_tree.specs.declared.types.Ty.{Ty}
use Rattle.ir_tree.specs.declared.entities.Entity.{Entity}
use Rattle.ir_tree.specs.declared.entities.Entity.TheVariants as entity_of
use Rattle.ir_type_uses.specs.Uses.{Use}
use Rattle.ir_type_uses.specs.Written.{written}
use Rattle.ir_type_names.specs.Reading.{Reading, offset_of}
use Rattle.ir_type_names.specs.Numbers.{Table, type_id, parts_first, is_definition}

-- a type by its number, and the offset of a place at which it is written
abbrev pub Mark : Type 0
Mark = ℕ × ℕ

-- the marks of a type and of all that it is made of
abbrev pub marks_of : Table → ℕ → Ty → List Mark
marks_of t at ty = map (λ part. (type_id t part, at)) (parts_first ty)

abbrev pub marks_at : Table → Use → List Mark
marks_at t u = marks_of t (offset_of t.names u.1) u.0

-- a named type, which has this number, is written at its definition too
abbrev pub definition_in : Reading → ℕ → Entity → List Mark
definition_in r n (entity_of.Named name body) = (n, offset_of r name) ∷ []
definition_in r n _ = []

-- the definitions of the named types from this number on
abbrev pub definitions : Reading → ℕ → List Entity → List Mark
definitions r n [] = []
definitions r n (e ∷ es) = definition_in r n e ++ definitions r (n + is_definition e) es

-- all marks of a module
abbrev pub marks : Table → List Entity → List Mark
marks t es = definitions t.names 2 es ++ flat_map (marks_at t) (written es)

abbrev pub lesser : Option ℕ → ℕ → Option ℕ
lesser None at = Some at
lesser (Some old) at = Some (min old at)

-- the least of a place that was found and those of a type among these
abbrev pub least : ℕ → Option ℕ → List Mark → Option ℕ
least n found [] = found
least n found (m ∷ ms) = least n (if m.0 == n then lesser found m.1 else found) ms

-- the least offset at which a type is written; 0 where it is written nowhere
abbrev pub type_at : Table → List Entity → ℕ → ℕ
type_at t es n = unwrap_or (least n None (marks t es)) 0

abbrev pub place_in : List (Option ℕ) → ℕ → Option ℕ
place_in places n = slice_index_or places n None

-- what is known of the least place of each type, once these marks are taken in too
pub record AreMarked (old new : List (Option ℕ)) (ms : List Mark) : Type 0 where
  pub long : length new ≡ length old
  pub lowest : (n : ℕ) → n < length old → place_in new n ≡ least n (place_in old n) ms

-- a type was marked with all that it is made of, and has this number
pub record IsMarked (t : Table) (at : ℕ) (ty : Ty) (old new : List (Option ℕ)) (n : ℕ) : Type 0 where
  pub number : n ≡ type_id t ty
  pub marked : AreMarked old new (marks_of t at ty)

-- the places of so many types
pub record ArePlaces (t : Table) (es : List Entity) (count : ℕ) (places : List ℕ) : Type 0 where
  pub long : length places ≡ count
  pub lowest : (n : ℕ) → n < count → slice_index places n ≡ type_at t es n
