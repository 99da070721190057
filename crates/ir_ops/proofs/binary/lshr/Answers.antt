use Rattle.std.proofs.Common.{refl, ◌/◌, ◌^◌, arith}
use Rattle.std.proofs.lemmas.Bool.{le-leb, lt-leb}
use Rattle.std.proofs.lemmas.Nat.{shr_le}
use Rattle.ir_ops.specs.declared.binary.BinOp.TheVariants.{LShr}
use Rattle.ir_ops.proofs.Answers.{gives, gives_poison}
use Rattle.ir_ops.proofs.Arithmetic.{small}
use Rattle.ir_ops.proofs.binary.lshr.Goals as goal

pub returns-then-b-from : goal.returns-then-b-from
returns-then-b-from c =
    let w = c.args.width in
    let a = c.args.a in
    let b = c.args.b in
    gives w LShr a b (a / 2 ^ b) refl (lt-leb w b (omega arith)) (small (a / 2 ^ b) w (omega (arith, shr_le a b)))

pub returns-else-b-from : goal.returns-else-b-from
returns-else-b-from c = gives_poison c.args.width LShr c.args.a c.args.b refl (le-leb c.args.width c.args.b (omega arith))
