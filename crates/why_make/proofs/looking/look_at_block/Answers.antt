use Rattle.std.proofs.Common.{◌+◌, ◌*◌, length, min, arith}
use Rattle.why_make.specs.declared.marks.TheConstants.{BLOCK}
use Rattle.why_make.proofs.Looked.{went_over}
use Rattle.why_make.proofs.looking.look_at_block.Goals as goal

pub returns-then-not-may_have-clause-went : goal.returns-then-not-may_have-clause-went
returns-then-not-may_have-clause-went c =
    went_over c.args.s.now c.args.course.now c.args.marks.now (c.args.b * BLOCK) (c.args.b * BLOCK + BLOCK)
    (min (c.args.b * BLOCK + BLOCK) (length c.args.s.now.masks)) (omega arith) (omega arith) (omega arith) c.requires.marked
    (c.may_have.ensures c.if-not-may_have.true)
