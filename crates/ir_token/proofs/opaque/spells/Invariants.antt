use Rattle.std.proofs.Common.{◌≡◌, ◌+◌, drop}
use Rattle.ir_token.specs.Ends.{spells}
use Rattle.ir_token.proofs.opaque.spells.Given as goal

abbrev pub invariant-loop-c : goal.invariant-loop-c
invariant-loop-c l = (spells (drop l.c-index l.word) l.text l.next ≡ spells l.word l.text l.at) × (l.next ≡ l.at + l.c-index)
