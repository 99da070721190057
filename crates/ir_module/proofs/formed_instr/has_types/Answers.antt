use Rattle.std.proofs.Common.{[], ◌∷◌, rules}
use Rattle.ir_module.proofs.WellFormed.{types_by}
use Rattle.ir_module.proofs.formed_instr.has_types.Goals as goal

pub returns-in-Alloca : goal.returns-in-Alloca
returns-in-Alloca c =
    types_by c.args.m.now c.args.op.now (c.in-Alloca.only ∷ []) c.is_only_type.result (search rules) c.is_only_type.ensures

pub returns-in-Call : goal.returns-in-Call
returns-in-Call c =
    types_by c.args.m.now c.args.op.now (c.in-Call.call.func_ty.ret ∷ c.in-Call.call.func_ty.params) c.is_func_type.result (search rules) c.is_func_type.ensures
