use Rattle.std.proofs.Common.{length, arith, refl}
use Rattle.ir_module.specs.WellFormed.{IsInstrFormed}
use Rattle.ir_module.proofs.Each.{one_more_read, answered}
use Rattle.ir_module.proofs.formed_body.are_instrs_formed.Goals as goal

pub loop-i-preserved : goal.loop-i-preserved
loop-i-preserved c =
    one_more_read (IsInstrFormed c.args.m.now c.args.block.now c.args.k (length c.args.instrs.now)) c.args.instrs.now c.args.instrs.now c.loop-i.i
    c.index-instrs-i.result refl c.loop-i.invariant (omega arith) c.index-instrs-i.is (c.is_instr_formed.ensures.0 c.if-not-is_instr_formed.false)

pub returns : goal.returns
returns c =
    answered (IsInstrFormed c.args.m.now c.args.block.now c.args.k (length c.args.instrs.now)) c.args.instrs.now c.loop-i.i c.loop-i.invariant
    (omega arith)
