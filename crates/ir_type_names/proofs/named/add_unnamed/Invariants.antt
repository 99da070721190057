use Rattle.std.proofs.Common.{◌≡◌, ◌++◌, map, take}
use Rattle.ir_type_names.specs.Contents.{type_of_key}
use Rattle.ir_type_names.specs.Tables.{keys_at}
use Rattle.ir_type_names.proofs.named.add_unnamed.Given as goal

abbrev pub invariant-loop-key : goal.invariant-loop-key
invariant-loop-key l = l.types ≡ l.initial.types ++ map type_of_key (keys_at (take l.key-index l.keys))
