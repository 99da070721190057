use Rattle.std.proofs.Common.{arith, length, sym, ap, ◌∙◌}
use Rattle.ir_module.specs.Operands.{operands}
use Rattle.rule_says.proofs.Firsts.{first_none, first_more, first_all}
use Rattle.aa_capture.specs.Asked.{AsksUse, SpeaksUse}
use Rattle.aa_capture.proofs.Together.{plain_met, phi_met}
use Rattle.aa_capture.proofs.plain.plain_uses.Goals as goal

pub plain_use-requires-clause-known : goal.plain_use-requires-clause-known
plain_use-requires-clause-known c = c.requires.known c.loop-n.n c.in-Some.w.now (sym c.in-Some.ensures)

pub plain_use-requires-clause-long : goal.plain_use-requires-clause-long
plain_use-requires-clause-long c = ap length c.loop-n.invariant.masks ∙ c.requires.long

pub loop-n-init : goal.loop-n-init
loop-n-init c =
    first_none c.args.m.now c.args.ps.now (operands c.args.instr.now.op) (λ n w. AsksUse c.args.m.now c.args.k.0 c.args.instr.now n w)
    (λ n w. SpeaksUse c.args.m.now c.args.k.0 c.args.instr.now n w) c.args.s.now

pub loop-n-preserved : goal.loop-n-preserved
loop-n-preserved c =
    first_more c.args.m.now c.args.ps.now (operands c.args.instr.now.op) (λ n w. AsksUse c.args.m.now c.args.k.0 c.args.instr.now n w)
    (λ n w. SpeaksUse c.args.m.now c.args.k.0 c.args.instr.now n w)
    c.args.s.now c.loop-n.s c.plain_use.new.s c.loop-n.n c.in-Some.w.now (sym c.in-Some.ensures) c.loop-n.invariant c.in_ok-plain_use.ensures

pub returns-then-is_phi : goal.returns-then-is_phi
returns-then-is_phi c = phi_met c.args.m.now c.args.ps.now c.args.k.0 c.args.instr.now c.args.s.now (sym c.is_phi.ensures ∙ c.if-is_phi.true)

pub returns : goal.returns
returns c =
    plain_met c.args.m.now c.args.ps.now c.args.k.0 c.args.instr.now c.args.s.now c.loop-n.s (sym c.is_phi.ensures ∙ c.if-is_phi.false)
    (first_all c.args.m.now c.args.ps.now (operands c.args.instr.now.op) (λ n w. AsksUse c.args.m.now c.args.k.0 c.args.instr.now n w)
    (λ n w. SpeaksUse c.args.m.now c.args.k.0 c.args.instr.now n w)
    c.args.s.now c.loop-n.s c.loop-n.n (omega (arith, c.loop-n-test.false, c.operand_count-n-end.ensures)) c.loop-n.invariant)
