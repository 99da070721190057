-- Bodies of named types by reference.
use Rattle.std.specs.Prelude.{List, map}
use Rattle.std.specs.Borrow.{Bor}
use Rattle.ir_tree.specs.declared.entities.TypeBody.{TypeBody}

abbrev pub bodies_at : List (Bor TypeBody) → List TypeBody
bodies_at bs = map (λ b. b.now) bs
