use Rattle.std.proofs.Common.{◌∙◌, ap, ℕ, ◌%◌, ◌^◌}
use Rattle.ir_ops.proofs.TwosComplement.{bits_are}
use Rattle.ir_ops.proofs.bits.bits_of.Goals as goal

pub returns : goal.returns
returns c =
    c.low_bits.ensures ∙ (ap (λ (x : ℕ). x % 2 ^ c.args.width) c.cast_unsigned.ensures ∙ bits_are c.args.width c.args.number c.requires.1 c.ranges.number)
