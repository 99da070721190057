use Rattle.std.proofs.Common.{sym}
use Rattle.ir_module.proofs.Fitting.{unfit}
use Rattle.ir_module.proofs.callee.fit_params.Goals as goal

pub returns-then-types-params : goal.returns-then-types-params
returns-then-types-params c = sym (unfit c.args.m.now c.args.types.now c.args.params.now c.if-types-params.true)
