use Rattle.std.proofs.Common.{rules}
use Rattle.ir_rules.proofs.Named.{operands_named, call_named}
use Rattle.ir_rules.proofs.operations.calls_as_written.Goals as goal

pub fits_call-requires-clause-named : goal.fits_call-requires-clause-named
fits_call-requires-clause-named c =
    (call_named c.args.m.now c.args.instr.now.op c.in-Call.call.callee c.in-Call.call.args (operands_named c.args.m.now c.args.instr.now c.requires.named)
    (search rules)).0
