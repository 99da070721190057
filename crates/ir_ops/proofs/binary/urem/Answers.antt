use Rattle.std.proofs.Common.{refl, ◌%◌, arith, eq-eqb}
use Rattle.std.proofs.Math.Nat.{mod-le}
use Rattle.std.proofs.lemmas.Bool.{ne_eqb}
use Rattle.ir_ops.specs.declared.binary.BinOp.TheVariants.{URem}
use Rattle.ir_ops.proofs.Answers.{gives, gives_undefined}
use Rattle.ir_ops.proofs.Arithmetic.{small}
use Rattle.ir_ops.proofs.binary.urem.Goals as goal

pub returns-then-b-eq0 : goal.returns-then-b-eq0
returns-then-b-eq0 c = gives_undefined c.args.width URem c.args.a c.args.b (eq-eqb c.args.b 0 c.if-b-eq0.true)

pub returns-else-b-eq0 : goal.returns-else-b-eq0
returns-else-b-eq0 c =
    let w = c.args.width in
    let a = c.args.a in
    let b = c.args.b in
    gives w URem a b (a % b) (ne_eqb b 0 c.if-b-eq0.false) refl (small (a % b) w (omega (arith, mod-le a b)))
