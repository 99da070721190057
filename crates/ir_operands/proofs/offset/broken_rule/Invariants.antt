use Rattle.ir_module.proofs.Each.{EachOf}
use Rattle.ir_operands.specs.Offsets.{KeepsOffset, rules_at}
use Rattle.ir_operands.proofs.offset.broken_rule.Given as goal

abbrev pub invariant-loop-i : goal.invariant-loop-i
invariant-loop-i l = EachOf l.i (rules_at l.fn.site) (λ k r. KeepsOffset l.types l.numbers l.parts r l.elem l.operands)
