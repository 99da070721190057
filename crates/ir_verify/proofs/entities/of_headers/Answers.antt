use Rattle.std.proofs.Common.{arith}
use Rattle.ir_verify.specs.Judging.{Keeps, Breaks}
use Rattle.ir_verify.specs.Demands.{OfHeader}
use Rattle.ir_verify.proofs.Judged.{none_yet, one_step, all_done}
use Rattle.ir_verify.proofs.entities.of_headers.Goals as goal

pub of_header-here-requires-clause-named : goal.of_header-here-requires-clause-named
of_header-here-requires-clause-named c = (c.requires.funcs c.loop-f.f c.func.result.now c.func.ensures).extra

pub loop-f-init : goal.loop-f-init
loop-f-init c =
    none_yet c.args.m.now.funcs (λ f func. Keeps (OfHeader c.args.m.now c.args.numbers.now f func))
    (λ f func. Breaks func.at (OfHeader c.args.m.now c.args.numbers.now f func))

pub loop-f-preserved : goal.loop-f-preserved
loop-f-preserved c =
    one_step c.loop-f.f c.args.m.now.funcs c.func.result.now (λ f func. Keeps (OfHeader c.args.m.now c.args.numbers.now f func))
    (λ f func. Breaks func.at (OfHeader c.args.m.now c.args.numbers.now f func)) c.loop-f.found c.of_header-here.result c.first_of-found.result
    c.func.ensures c.first_of-found.ensures c.loop-f.invariant c.of_header-here.ensures

pub returns : goal.returns
returns c =
    all_done c.loop-f.f c.args.m.now.funcs (λ f func. Keeps (OfHeader c.args.m.now c.args.numbers.now f func))
    (λ f func. Breaks func.at (OfHeader c.args.m.now c.args.numbers.now f func)) c.loop-f.found (omega arith) c.loop-f.invariant
