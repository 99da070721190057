use Rattle.std.proofs.Common.{◌≡◌, drop}
use Rattle.ir_attrs.specs.Places.{last_or, rattr_last}
use Rattle.ir_attrs.proofs.places.rattrs_last.Given as goal

abbrev pub invariant-loop-attr : goal.invariant-loop-attr
invariant-loop-attr l = last_or rattr_last l.last (drop l.attr-index l.attrs) ≡ last_or rattr_last l.before l.attrs
