use Rattle.std.proofs.Common.{◌≡◌, map, take}
use Rattle.ir_type_names.specs.Contents.{id}
use Rattle.ir_type_names.specs.Numbers.{type_ids}
use Rattle.ir_type_names.specs.Tables.{table}
use Rattle.ir_type_names.proofs.contents.part_ids.Given as goal

abbrev pub invariant-loop-part : goal.invariant-loop-part
invariant-loop-part l = l.fields.items ≡ map id (type_ids (table l.ids) (take l.part-index l.parts))
