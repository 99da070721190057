use Rattle.std.proofs.lemmas.Result.{on_ok_weaker}
use Rattle.aa_capture.proofs.Together.{instr_met}
use Rattle.aa_capture.proofs.uses.instr_uses.Goals as goal

pub returns : goal.returns
returns c =
    on_ok_weaker c.arm_uses.result (λ met. instr_met c.args.m.now c.args.ps.now c.args.k.0 c.args.instr.now c.args.s.now c.plain_uses.new.s
    c.arm_uses.new.s c.in_ok-plain_uses.ensures met) c.arm_uses.ensures
