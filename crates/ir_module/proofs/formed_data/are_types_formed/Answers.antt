use Rattle.std.proofs.Common.{length, arith, ap}
use Rattle.ir_module.proofs.Runs.{read_at}
use Rattle.ir_module.specs.WellFormed.{IsTypeFormed}
use Rattle.ir_module.proofs.Each.{one_more_read, answered}
use Rattle.ir_module.proofs.formed_data.are_types_formed.Goals as goal

pub loop-ty-preserved : goal.loop-ty-preserved
loop-ty-preserved c =
    one_more_read (IsTypeFormed c.args.m.now) c.args.m.now.types c.as_slice-ty-items.result.now c.loop-ty.ty-index c.ty-item.result
    c.as_slice-ty-items.ensures c.loop-ty.invariant c.loop-ty-test.true c.ty-item.is (c.has_parts.ensures.0 c.if-not-has_parts.false)

pub returns : goal.returns
returns c =
    answered (IsTypeFormed c.args.m.now) c.args.m.now.types c.loop-ty.ty-index c.loop-ty.invariant
    (omega (arith, ap length c.as_slice-ty-items.ensures))

pub returns-then-not-has_parts : goal.returns-then-not-has_parts
returns-then-not-has_parts c =
    let items = c.as_slice-ty-items.ensures in
    let ys = c.as_slice-ty-items.result.now in
    let at = read_at c.args.m.now.types ys c.loop-ty.ty-index c.ty-item.result items (omega (arith, ap length items)) c.ty-item.is in
    (λ t. cc, λ h. let right = c.has_parts.ensures.1 (h c.loop-ty.ty-index c.ty-item.result at) in cc)
