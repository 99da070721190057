use Rattle.std.proofs.Common.{arith}
use Rattle.accept.proofs.Sized.{bounded}
use Rattle.accept.proofs.checking.sized.Goals as goal

pub returns-clause-sized : goal.returns-clause-sized
returns-clause-sized c = record {
  functions = omega (arith, c.if-functions-gt-FUNCTION_LIMIT.false, c.len-functions.ensures);
  parameters = bounded c.args.m.now c.arity-arity.result _ c.arity-arity.ensures c.if-arity-gt-PARAMETER_LIMIT.false;
  instructions = omega (arith, c.if-instructions-gt-INSTRUCTION_LIMIT.false, c.instructions-instructions.ensures);
}
