use Rattle.std.proofs.Common.{◌≡◌, take}
use Rattle.ir_attrs.specs.Params.{param_attrs}
use Rattle.ir_attrs.proofs.params.param_attrs.Given as goal

abbrev pub invariant-loop-attr : goal.invariant-loop-attr
invariant-loop-attr l = l.said ≡ param_attrs l.text l.toks (take l.attr-index l.attrs)
