use Rattle.std.proofs.Common.{rules}
use Rattle.ir_rules.proofs.Named.{call_named}
use Rattle.ir_rules.proofs.values.has_fitting_callee.Goals as goal

pub callee_fits-requires-clause-named : goal.callee_fits-requires-clause-named
callee_fits-requires-clause-named c =
    (call_named c.args.m.now c.args.op.now c.in-Call.call.callee c.in-Call.call.args c.requires.named (search rules)).0
