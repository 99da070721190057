-- Places at which types are written.
use Rattle.std.specs.Prelude.{ℕ, List, map}
use Rattle.ir_tree.specs.declared.types.Ty.{Ty}
use Rattle.ir_type_uses.specs.declared.uses.TypeUse.{TypeUse}

-- a type, and the first token of the instruction or of the entity in which it is written
abbrev pub Use : Type 0
Use = Ty × ℕ

-- the uses that a list of references stands for
abbrev pub listed : List TypeUse → List Use
listed uses = map (λ u. (u.ty.now, u.at)) uses
