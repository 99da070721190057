use Rattle.std.proofs.Common.{◌≡◌, ◌∷◌, take}
use Rattle.ir_type_names.specs.Numbers.{type_ids}
use Rattle.ir_type_names.specs.Tables.{table}
use Rattle.ir_type_names.proofs.table.TypeIds.+numbering.Given as goal

abbrev pub invariant-parts_key-loop-part : goal.invariant-parts_key-loop-part
invariant-parts_key-loop-part l = l.key.items ≡ l.kind ∷ type_ids (table l.self) (take l.part-index l.parts)
