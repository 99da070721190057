-- The table of the numbers of a module's types.
use Rattle.std.specs.Prelude.{◌≡◌, ℕ, ◌+◌, ◌<◌, List}
use Rattle.ir_tree.specs.declared.entities.Entity.{Entity}
use Rattle.ir_type_names.specs.Reading.{named}
use Rattle.ir_type_names.specs.Numbers.{Table, named_count}

-- its unnamed types come behind `void`, `ptr` and the named ones, and each name stands for one of those
pub record IsTableOf (t : Table) (es : List Entity) : Type 0 where
  pub first : t.first ≡ 2 + named_count es
  pub names : (leaf : ℕ) → named t.names leaf < 2 + named_count es
