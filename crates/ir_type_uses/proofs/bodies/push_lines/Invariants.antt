use Rattle.std.proofs.Common.{◌≡◌, ◌++◌, take}
use Rattle.std.specs.List.{flat_map}
use Rattle.ir_type_uses.specs.Uses.{listed}
use Rattle.ir_type_uses.specs.Written as spec
use Rattle.ir_type_uses.proofs.bodies.push_lines.Given as goal

abbrev pub invariant-loop-line : goal.invariant-loop-line
invariant-loop-line l = listed l.uses.items ≡ listed l.initial.uses.items ++ flat_map spec.line (take l.line-index l.lines)
