use Rattle.std.proofs.Common.{arith}
use Rattle.std.proofs.lemmas.Str.Parse.{digits_value-take-le}
use Rattle.ir_names.proofs.Digits.{next_digit, digits_below}
use Rattle.ir_names.proofs.read.number.Goals as goal

pub overflow_mul-value : goal.overflow_mul-value
overflow_mul-value c = let next =
    next_digit c.args.digits.now c.loop-c.c-index c.loop-c.value c.requires.digits c.requires.few c.loop-c-test.true c.loop-c.invariant in omega arith

pub overflow_add-value : goal.overflow_add-value
overflow_add-value c = let next =
    next_digit c.args.digits.now c.loop-c.c-index c.loop-c.value c.requires.digits c.requires.few c.loop-c-test.true c.loop-c.invariant in omega arith

pub loop-c-preserved : goal.loop-c-preserved
loop-c-preserved c = let next =
    next_digit c.args.digits.now c.loop-c.c-index c.loop-c.value c.requires.digits c.requires.few c.loop-c-test.true c.loop-c.invariant in omega arith

pub returns-clause-small : goal.returns-clause-small
returns-clause-small c =
    let least = digits_value-take-le 10 c.args.digits.now c.loop-c.c-index (omega arith) in
    let most = digits_below c.args.digits.now c.requires.digits c.requires.few in
    omega (arith, c.loop-c.invariant)
