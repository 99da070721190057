use Rattle.std.proofs.Common.{take}
use Rattle.ir_type_names.specs.Tables.{table, AreTaken}
use Rattle.ir_type_names.proofs.table.TypeIds.+taking.Given as goal

abbrev pub invariant-take_parts-loop-part : goal.invariant-take_parts-loop-part
invariant-take_parts-loop-part l = AreTaken (table l.initial.self) l.kind (take l.part-index l.parts) (table l.self) l.key.items
