use Rattle.std.proofs.Common.{arith, ap, length}
use Rattle.ir_module.proofs.Runs.{read_at}
use Rattle.ir_verify.specs.Judging.{Keeps, Breaks}
use Rattle.ir_verify.specs.Demands.{OfGlobal}
use Rattle.ir_verify.proofs.Judged.{none_yet, one_step, all_done}
use Rattle.ir_verify.proofs.entities.of_globals.Goals as goal

pub of_global-here-requires-clause-named : goal.of_global-here-requires-clause-named
of_global-here-requires-clause-named c =
    c.requires.globals c.loop-global.global-index c.global-item.result
    (read_at c.args.m.now.globals c.as_slice-global-items.result.now c.loop-global.global-index c.global-item.result c.as_slice-global-items.ensures
    (omega (arith, c.loop-global-test.true, ap length c.as_slice-global-items.ensures)) c.global-item.is)

pub loop-global-init : goal.loop-global-init
loop-global-init c =
    none_yet c.args.m.now.globals (λ g global. Keeps (OfGlobal c.args.m.now c.args.numbers.now global))
    (λ g global. Breaks global.at (OfGlobal c.args.m.now c.args.numbers.now global))

pub loop-global-preserved : goal.loop-global-preserved
loop-global-preserved c =
    one_step c.loop-global.global-index c.args.m.now.globals c.global-item.result (λ g global. Keeps (OfGlobal c.args.m.now c.args.numbers.now global))
    (λ g global. Breaks global.at (OfGlobal c.args.m.now c.args.numbers.now global)) c.loop-global.found c.of_global-here.result c.first_of-found.result
    (read_at c.args.m.now.globals c.as_slice-global-items.result.now c.loop-global.global-index c.global-item.result c.as_slice-global-items.ensures
    (omega (arith, c.loop-global-test.true, ap length c.as_slice-global-items.ensures)) c.global-item.is)
    c.first_of-found.ensures c.loop-global.invariant c.of_global-here.ensures

pub returns : goal.returns
returns c =
    all_done c.loop-global.global-index c.args.m.now.globals (λ g global. Keeps (OfGlobal c.args.m.now c.args.numbers.now global))
    (λ g global. Breaks global.at (OfGlobal c.args.m.now c.args.numbers.now global)) c.loop-global.found
    (omega (arith, c.loop-global-test.false, ap length c.as_slice-global-items.ensures)) c.loop-global.invariant
