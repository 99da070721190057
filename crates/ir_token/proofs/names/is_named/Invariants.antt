use Rattle.std.proofs.Common.{◌≡◌, ◌≤◌, length, drop}
use Rattle.std.specs.Str.{bytes_eq}
use Rattle.ir_token.specs.Names.{read}
use Rattle.ir_token.proofs.names.is_named.Given as goal

abbrev pub invariant-loop-c : goal.invariant-loop-c
invariant-loop-c l = (bytes_eq l.name (read l.quoted l.inside) ≡ bytes_eq (drop l.c-index l.name) (read l.quoted (drop l.at l.inside))) ×
    (l.at ≤ length l.inside)
