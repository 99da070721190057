use Rattle.std.proofs.Common.{◌≡◌, ◌*◌, ◌%◌, ◌^◌, ◌-◌, ◌<◌, ◌≤◌, true, ap, sym, subst, ◌∙◌, arith}
use Rattle.std.proofs.lemmas.Nat.{one_shl}
use Rattle.std.proofs.Math.Nat.{mod-eq_of_lt}
use Rattle.ir_literals.proofs.Fitting.{negative_fits}
use Rattle.ir_literals.proofs.integers.fitted.Goals as goal

pub returns-else-size-eq0 : goal.returns-else-size-eq0
returns-else-size-eq0 c =
    rw c.if-negative.true
    (negative_fits c.args.size c.args.width c.all_ones-most.result c.all_ones-most.ensures (omega (arith, c.if-size-eq0.false))
    (subst (λ n. c.args.size ≤ n) (one_shl (c.args.width - 1) 64 (omega arith)) c.if-size-width.false))
