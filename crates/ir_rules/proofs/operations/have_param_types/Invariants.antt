use Rattle.ir_module.proofs.Each.{EachOf}
use Rattle.ir_rules.specs.Operations.{HasParamType}
use Rattle.ir_rules.proofs.operations.have_param_types.Given as goal

abbrev pub invariant-loop-k : goal.invariant-loop-k
invariant-loop-k l = EachOf l.k l.args (HasParamType l.numbers l.params)
