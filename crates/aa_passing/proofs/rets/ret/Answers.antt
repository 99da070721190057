use Rattle.std.proofs.lemmas.Result.{on_ok_weaker}
use Rattle.aa_passing.proofs.Stands.{seg_there, body_of, ret_readable, val_met}
use Rattle.aa_passing.proofs.rets.ret.Goals as goal

pub func_of-f-requires-clause-there : goal.func_of-f-requires-clause-there
func_of-f-requires-clause-there c = seg_there c.args.m.now c.args.k.0 c.args.instr.now c.requires.there

pub ret_of-requires-clause-there : goal.ret_of-requires-clause-there
ret_of-requires-clause-there c = seg_there c.args.m.now c.args.k.0 c.args.instr.now c.requires.there

pub ret_of-requires-clause-body : goal.ret_of-requires-clause-body
ret_of-requires-clause-body c = body_of c.args.m.now c.func_of-f.result.0 c.args.k.0 c.requires.formed c.func_of-f.ensures

pub ret_of-requires-clause-readable : goal.ret_of-requires-clause-readable
ret_of-requires-clause-readable c = ret_readable c.args.m.now c.args.ps.now c.requires.formed c.requires.numbering c.args.k.0 c.args.instr.now c.in-Ret.val
    c.requires.there c.in-Ret.is

pub returns-in-Ret : goal.returns-in-Ret
returns-in-Ret c =
    on_ok_weaker c.ret_of.result (λ met. val_met c.args.m.now c.args.ps.now c.args.k.0 c.func_of-f.result.0 c.func_of-f.ensures c.args.s.now c.ret_of.new.s
    c.args.instr.now.op c.in-Ret.val c.in-Ret.is met) c.ret_of.ensures
