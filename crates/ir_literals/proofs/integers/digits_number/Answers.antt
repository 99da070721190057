use Rattle.std.proofs.Common.{◌∙◌, ap, take}
use Rattle.std.specs.Str.Parse.{digits_value}
use Rattle.ir_literals.specs.Integers.{below_64}
use Rattle.ir_literals.proofs.Digits.{digits_more, digit_at}
use Rattle.ir_literals.proofs.integers.digits_number.Goals as goal

pub loop-c-preserved : goal.loop-c-preserved
loop-c-preserved c =
    c.then_digit-number.ensures (digits_value 10 (take c.loop-c.c-index c.args.digits.now)) c.loop-c.invariant
    ∙ ap below_64 (digits_more c.args.digits.now c.loop-c.c-index c.requires c.loop-c-test.true)

pub then_digit-number-requires : goal.then_digit-number-requires
then_digit-number-requires c = digit_at c.args.digits.now c.loop-c.c-index c.requires c.loop-c-test.true
