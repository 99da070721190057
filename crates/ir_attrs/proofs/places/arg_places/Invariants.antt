use Rattle.std.proofs.Common.{◌≡◌, map, take}
use Rattle.ir_attrs.specs.Places.{arg_place}
use Rattle.ir_attrs.proofs.places.arg_places.Given as goal

abbrev pub invariant-loop-arg : goal.invariant-loop-arg
invariant-loop-arg l = l.places.items ≡ map (arg_place l.toks) (take l.arg-index l.args)
