use Rattle.ir_operands.proofs.Parts.{field_read}
use Rattle.ir_operands.proofs.constant.has_field_type.Goals as goal

pub returns : goal.returns
returns c =
    let read = field_read c.args.numbers.now c.args.fields.now c.args.i _ c.args.w.now c.requires in
    (λ t. read.0 (c.are_one.ensures.0 t), λ h. c.are_one.ensures.1 (read.1 h))
