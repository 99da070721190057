use Rattle.std.proofs.lemmas.Result.{on_ok_weaker}
use Rattle.aa_memory.proofs.Together.{instr_met}
use Rattle.aa_memory.proofs.effects.keep_each.Goals as goal

pub returns : goal.returns
returns c =
    on_ok_weaker c.keep_access-2.result (λ met. instr_met c.args.m.now c.args.ps.now c.args.k.0 c.args.instr.now c.args.s.now c.keep_access.new.s
    c.keep_access-2.new.s c.in_ok-keep_access.ensures met) c.keep_access-2.ensures
