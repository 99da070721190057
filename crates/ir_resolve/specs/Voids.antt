-- Which names of types are written.
use Rattle.std.specs.Prelude.{ℕ, Bool, false, ◌==◌, List, slice_index}
use Rattle.std.specs.List.{list_any}
use Rattle.ir_tree.specs.declared.entities.Entity.{Entity}
use Rattle.ir_tree.specs.declared.entities.Entity.TheVariants as entity

-- the entity names a type so
abbrev pub names_type : List ℕ → ℕ → Entity → Bool
names_type ids name (entity.Named at body) = slice_index ids at == name
names_type ids name _ = false

-- one of the entities does
abbrev pub is_written : List ℕ → List Entity → ℕ → Bool
is_written ids es name = list_any (names_type ids name) es
