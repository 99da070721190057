use Rattle.std.proofs.Common.{◌≡◌, take}
use Rattle.ir_attrs.specs.Attributes.{own_attrs}
use Rattle.ir_attrs.specs.Functions.{gathered}
use Rattle.ir_attrs.proofs.functions.own_said.Given as goal

abbrev pub invariant-loop-word : goal.invariant-loop-word
invariant-loop-word l = l.said ≡ gathered l.text l.toks (own_attrs (take l.word-index l.words))
