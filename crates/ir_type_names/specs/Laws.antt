-- What a table of types is worth.
use Rattle.std.specs.Prelude.{◌≡◌, ℕ, ◌+◌, ◌<◌, ◌≤◌, true, List, Some, slice_get}
use Rattle.std.specs.List.{list_any}
use Rattle.std.specs.Str.{bytes_eq}
use Rattle.ir_types.specs.IrType.{parts}
use Rattle.ir_types.specs.Standing.{Has}
use Rattle.ir_tree.specs.declared.types.Ty.{Ty}
use Rattle.ir_tree.specs.declared.entities.Entity.{Entity}
use Rattle.ir_type_names.specs.Reading.{Reading, named}
use Rattle.ir_type_names.specs.Numbers.{Key, Form, Table, with_parts, named_count}
use Rattle.ir_type_names.specs.Numbers.Form.{Own, Keyed}
use Rattle.ir_type_names.specs.Contents.{type_of_key}
use Rattle.ir_type_names.specs.Places.{Mark}
use Rattle.ir_type_uses.specs.Written.{written}

-- the names of a module stand for its named types
abbrev pub AreNames : Reading → List Entity → Type 0
AreNames r es = (leaf : ℕ) → named r leaf < 2 + named_count es

-- each part of an unnamed type has a smaller number
abbrev pub HasEarlierParts : Table → Type 0
HasEarlierParts t = (i : ℕ) (key : Key) → slice_get t.keys i ≡ Some key → (n : ℕ) → Has (parts (type_of_key key)) n → n < t.first + i

-- the table has the type, where it is an unnamed one
abbrev pub IsThere : List Key → Form → Type 0
IsThere keys (Own n) = Unit {0}
IsThere keys (Keyed key) = list_any (bytes_eq key) keys ≡ true

-- a type that is written, or is a part of one that is
abbrev pub IsWritten : List Entity → Ty → Type 0
IsWritten es ty = (k : ℕ) × (slice_get (with_parts (written es)) k ≡ Some ty)

-- the least of the offsets of a type's marks
pub record IsLeast (n : ℕ) (ms : List Mark) (at : ℕ) : Type 0 where
  pub one : (k : ℕ) × (slice_get ms k ≡ Some (n, at))
  pub least : (k other : ℕ) → slice_get ms k ≡ Some (n, other) → at ≤ other
