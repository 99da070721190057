use Rattle.std.proofs.Common.{◌∙◌, sym}
use Rattle.std.proofs.lemmas.Bool.{true≢false}
use Rattle.ir_operands.proofs.Indices.{offset_told, offset_demanded}
use Rattle.ir_operands.proofs.offset.offset_keeps.Goals as goal

pub returns-then-demands_offset : goal.returns-then-demands_offset
returns-then-demands_offset c =
    offset_told c.args.types.now c.args.numbers.now c.args.parts.now c.args.rule c.args.elem c.args.operands.now _ c.all_keep.result
    c.requires.based (c.demands_offset.ensures.0 c.if-demands_offset.true) c.all_keep.ensures

pub returns-else-demands_offset : goal.returns-else-demands_offset
returns-else-demands_offset c = (
  λ t. absurd (true≢false (sym t ∙ c.if-demands_offset.false)),
  λ h. c.demands_offset.ensures.1 (offset_demanded c.args.types.now c.args.numbers.now c.args.parts.now c.args.rule c.args.elem c.args.operands.now _ h),
)
