use Rattle.std.proofs.Common.{ℕ, length, arith, refl}
use Rattle.ir_module.specs.declared.op.Instr.{Instr}
use Rattle.ir_module.proofs.Each.{one_more_read}
use Rattle.ir_module.proofs.Runs.{read_at}
use Rattle.ir_operands.proofs.Tests.{refused}
use Rattle.ir_rules.specs.Blocks.{IsPhi}
use Rattle.ir_rules.proofs.Pads.{counted_here, counted_all}
use Rattle.ir_rules.proofs.blocks.phi_count.Goals as goal

pub loop-i-preserved : goal.loop-i-preserved
loop-i-preserved c =
    one_more_read (λ (k : ℕ) (x : Instr). IsPhi x.op) c.args.instrs.now c.args.instrs.now c.loop-i.i c.index-instrs-i.result refl c.loop-i.invariant
    (omega arith) c.index-instrs-i.is (c.is_phi.ensures.0 c.if-not-is_phi.false)

pub returns-then-not-is_phi : goal.returns-then-not-is_phi
returns-then-not-is_phi c =
    counted_here c.args.instrs.now c.loop-i.i c.index-instrs-i.result c.loop-i.invariant
    (read_at c.args.instrs.now c.args.instrs.now c.loop-i.i c.index-instrs-i.result refl (omega arith) c.index-instrs-i.is)
    (refused c.is_phi.result c.is_phi.ensures c.if-not-is_phi.true)

pub returns : goal.returns
returns c = counted_all c.args.instrs.now c.loop-i.i (length c.args.instrs.now) c.loop-i.invariant refl (omega arith)
