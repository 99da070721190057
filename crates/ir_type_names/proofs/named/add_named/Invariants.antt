use Rattle.std.proofs.Common.{◌≡◌, ◌++◌}
use Rattle.ir_type_names.specs.Bodies.{bodies_at}
use Rattle.ir_type_names.specs.Contents.{named_contents}
use Rattle.ir_type_names.specs.Tables.{table}
use Rattle.ir_type_names.proofs.named.add_named.Given as goal

abbrev pub invariant-loop-k : goal.invariant-loop-k
invariant-loop-k l = l.types ≡ l.initial.types ++ named_contents (table l.ids) (bodies_at l.bodies) l.nexts.items 0 l.k
