use Rattle.ir_uses.proofs.Raising.{IsSettled}
use Rattle.ir_uses.proofs.bodies.settle.Given as goal

abbrev pub invariant-loop-f : goal.invariant-loop-f
invariant-loop-f l = IsSettled l.funcs l.initial.flags l.flags l.f
