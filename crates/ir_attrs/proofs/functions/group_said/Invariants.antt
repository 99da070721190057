use Rattle.std.proofs.Common.{◌≡◌, take}
use Rattle.ir_attrs.specs.Attributes.{group_attrs}
use Rattle.ir_attrs.specs.Functions.{gathered}
use Rattle.ir_attrs.proofs.functions.group_said.Given as goal

abbrev pub invariant-loop-attr : goal.invariant-loop-attr
invariant-loop-attr l = l.said ≡ gathered l.text l.toks (group_attrs (take l.attr-index l.attrs))
