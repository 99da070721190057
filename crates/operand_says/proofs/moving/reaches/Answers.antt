use Rattle.std.proofs.Common.{◌+◌, ◌^◌, inl, inr, sym, arith}
use Rattle.std.proofs.lemmas.Bool.{cases_lt}
use Rattle.facts.specs.Known.{symbol_bit}
use Rattle.operand_says.proofs.Far.{far}
use Rattle.operand_says.proofs.moving.reaches.Goals as goal

pub returns-in-None : goal.returns-in-None
returns-in-None c = sym (far (symbol_bit c.args.m.now c.args.base) (c.args.count + c.args.fixed) (elim (cases_lt (c.args.count + c.args.fixed) (2 ^ 64)) [
  | inl l ↦ absurd (c.in-None.ensures l)
  | inr l ↦ omega (arith, l)
]))
