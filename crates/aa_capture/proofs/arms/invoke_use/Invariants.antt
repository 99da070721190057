use Rattle.ir_module.specs.Edges.{edges}
use Rattle.rule_says.specs.Meeting.{Meets}
use Rattle.rule_says.specs.Listing.{AskFirst, SpeakFirst}
use Rattle.aa_capture.specs.Arms.{AsksEdge, SpeaksEdge}
use Rattle.aa_capture.proofs.arms.invoke_use.Given as goal

abbrev pub invariant-loop-n : goal.invariant-loop-n
invariant-loop-n l =
    Meets l.m l.ps l.initial.s l.s (AskFirst l.n (edges l.t.op) (λ n e. AsksEdge l.m l.q.0 l.t l.block l.instr l.w e))
    (SpeakFirst l.n (edges l.t.op) (λ n e. SpeaksEdge l.m l.q.0 l.t l.block l.instr l.w e))
