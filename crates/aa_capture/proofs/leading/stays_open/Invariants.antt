use Rattle.std.proofs.Common.{◌≡◌, false, take}
use Rattle.std.specs.List.{list_any}
use Rattle.ir_module.specs.Edges.{edges}
use Rattle.aa_capture.specs.Arms.{is_open_to}
use Rattle.aa_capture.proofs.leading.stays_open.Given as goal

abbrev pub invariant-loop-n : goal.invariant-loop-n
invariant-loop-n l = false ≡ list_any (is_open_to l.m l.op l.block) (take l.n (edges l.op))
