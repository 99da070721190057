use Rattle.std.proofs.Common.{◌≡◌, take}
use Rattle.ir_type_uses.specs.Uses.{listed}
use Rattle.ir_type_names.specs.Numbers.{with_all, with_parts}
use Rattle.ir_type_names.specs.Tables.{table}
use Rattle.ir_type_names.proofs.table.take_all.Given as goal

abbrev pub invariant-loop-u : goal.invariant-loop-u
invariant-loop-u l = table l.ids ≡ with_all (table l.initial.ids) (with_parts (listed (take l.u-index l.uses)))
