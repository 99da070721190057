use Rattle.std.proofs.Common.{◌≡◌, map, take}
use Rattle.std.specs.Option.{unwrap_or}
use Rattle.ir_type_names.proofs.places.offsets.Given as goal

abbrev pub invariant-loop-place : goal.invariant-loop-place
invariant-loop-place l = l.offsets.items ≡ map (λ p. unwrap_or p 0) (take l.place-index l.places)
