use Rattle.std.proofs.Common.{length, arith, ap}
use Rattle.ir_module.specs.WellFormed.{IsFuncFormed}
use Rattle.ir_module.proofs.Each.{one_more_read, answered}
use Rattle.ir_module.proofs.formed_data.are_funcs_formed.Goals as goal

pub loop-f-preserved : goal.loop-f-preserved
loop-f-preserved c =
    one_more_read (IsFuncFormed c.args.m.now) c.args.m.now.funcs c.as_slice-func-items.result.now c.loop-f.f c.func-item.result
    c.as_slice-func-items.ensures c.loop-f.invariant c.loop-f-test.true c.func-item.is (c.is_func_formed.ensures.0 c.if-not-is_func_formed.false)

pub returns : goal.returns
returns c =
    answered (IsFuncFormed c.args.m.now) c.args.m.now.funcs c.loop-f.f c.loop-f.invariant
    (omega (arith, ap length c.as_slice-func-items.ensures))
