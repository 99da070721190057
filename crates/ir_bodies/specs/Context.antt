-- What the tree of a body is read with: what its instructions are read with, and the void types and the groups of its module.
use Rattle.std.specs.Prelude.{ℕ, Bool, List, Option, nat_eq}
use Rattle.std.specs.HashSet.{contains}
use Rattle.ir_tree.specs.declared.attributes.Fattr.{Fattr}
use Rattle.ir_attrs.specs.Functions.{group_in}
use Rattle.ir_attrs.specs.Groups as table
use Rattle.ir_instrs.specs.Reading as below
use Rattle.ir_instrs.specs.Reading.{Reading, reading}
use Rattle.ir_bodies.specs.declared.scene.Scene.{Scene}

pub record Context : Type 0 where
  pub reading : Reading
  -- the names of types whose content is void
  pub void : ℕ → Bool
  -- the attributes of each group
  pub groups : ℕ → Option (List Fattr)

abbrev pub context : Scene → Context
context s = record {
  reading = reading s.source;
  void = contains nat_eq s.voids.now;
  groups = group_in s.source.ids.now s.entities.now;
}

-- the table of groups is that of the entities, and each written type is one of the table
pub record IsSound (s : Scene) : Type 0 where
  pub source : below.IsSound s.source
  pub groups : table.Knows s.source.text.now s.source.toks.now s.source.ids.now s.entities.now s.groups.now
