-- What a table in memory is, and what it is for types to be taken in.
use Rattle.std.specs.Prelude.{◌≡◌, ℕ, List, ◌∷◌, ◌++◌, map}
use Rattle.std.specs.declared.vec.Vec.{Vec}
use Rattle.ir_tree.specs.declared.types.Ty.{Ty}
use Rattle.ir_type_names.specs.declared.table.TypeIds.{TypeIds}
use Rattle.ir_type_names.specs.Reading.{reading}
use Rattle.ir_type_names.specs.Numbers.{Key, Table, type_id, type_ids, place, joined_by, parts_first, with_all}
use Rattle.ir_type_names.specs.Numbers.Form.{Keyed}
use Rattle.std.specs.List.{flat_map}

-- the keys that a set has
abbrev pub keys_at : {Z : Type 0} → List (Vec ℕ Z) → List Key
keys_at keys = map (λ key. key.items) keys

abbrev pub table : TypeIds → Table
table ids = record { names = reading ids.source; first = ids.first; keys = keys_at ids.keys.keys }

-- the table with more unnamed types behind its own
abbrev pub followed_by : Table → List Key → Table
followed_by t rest = record t { keys = t.keys ++ rest }

-- an unnamed type was taken in, and has this number, whatever follows
pub record IsPut (old : Table) (key : Key) (new : Table) (n : ℕ) : Type 0 where
  pub is : new ≡ record old { keys = joined_by old.keys (Keyed key) }
  pub stays : (rest : List Key) → place new.first (new.keys ++ rest) key ≡ n

-- a type was taken in with its parts, and has this number, whatever follows
pub record IsTaken (old : Table) (ty : Ty) (new : Table) (n : ℕ) : Type 0 where
  pub is : new ≡ with_all old (parts_first ty)
  pub stays : (rest : List Key) → type_id (followed_by new rest) ty ≡ n

-- the parts of a struct were taken in, and have these numbers behind the first word of its key, whatever follows
pub record AreTaken (old : Table) (kind : ℕ) (parts : List Ty) (new : Table) (key : Key) : Type 0 where
  pub is : new ≡ with_all old (flat_map parts_first parts)
  pub stays : (rest : List Key) → kind ∷ type_ids (followed_by new rest) parts ≡ key
