use Rattle.std.proofs.Common.{◌≡◌, ◌≤◌, length, drop}
use Rattle.ir_token.specs.Names.{read}
use Rattle.ir_token.specs.LeftOut.{begins_with}
use Rattle.ir_token.proofs.names.has_front.Given as goal

abbrev pub invariant-loop-c : goal.invariant-loop-c
invariant-loop-c l = (begins_with (read l.quoted l.inside) l.front ≡ begins_with (read l.quoted (drop l.at l.inside)) (drop l.c-index l.front)) ×
    (l.at ≤ length l.inside)
