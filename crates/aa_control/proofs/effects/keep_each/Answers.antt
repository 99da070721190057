use Rattle.std.proofs.lemmas.Result.{on_ok_weaker}
use Rattle.aa_control.proofs.Together.{instr_met}
use Rattle.aa_control.proofs.effects.keep_each.Goals as goal

pub returns : goal.returns
returns c =
    on_ok_weaker c.keep_nofree.result (λ met. instr_met c.args.m.now c.args.ps.now c.args.k.0 c.args.instr.now c.args.s.now c.keep_nounwind.new.s
    c.keep_noreturn.new.s c.keep_nofree.new.s
    c.in_ok-keep_nounwind.ensures c.in_ok-keep_noreturn.ensures met) c.keep_nofree.ensures
