use Rattle.manifest.proofs.Exact.{found_is, found_body}
use Rattle.manifest.proofs.symbols.inner_callee.Goals as goal

pub returns-clause-callee : goal.returns-clause-callee
returns-clause-callee c = found_is c.inner_callee.result _ c.inner_callee.ensures.some c.inner_callee.ensures.none

pub returns-clause-body : goal.returns-clause-body
returns-clause-body c = found_body c.args.m.now c.args.op.now c.inner_callee.result c.inner_callee.ensures.some
