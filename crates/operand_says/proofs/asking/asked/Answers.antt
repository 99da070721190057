use Rattle.std.proofs.Common.{refl}
use Rattle.operand_says.proofs.Bits.{asked_is}
use Rattle.operand_says.proofs.asking.asked.Goals as goal

pub returns-clause-set : goal.returns-clause-set
returns-clause-set c = λ m numbering bit. asked_is m c.args.ps.now c.args.p c.number.result.0 c.mask.result c.args.bits _ bit numbering c.number.ensures
    c.mask.ensures refl
