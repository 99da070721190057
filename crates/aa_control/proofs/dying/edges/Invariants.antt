use Rattle.ir_module.specs.Edges.{edges}
use Rattle.rule_says.specs.Meeting.{Meets}
use Rattle.rule_says.specs.Listing.{AskFirst, SpeakFirst}
use Rattle.aa_control.specs.Coming.{AsksEdge, SpeaksEdge}
use Rattle.aa_control.proofs.dying.edges.Given as goal

abbrev pub invariant-loop-n : goal.invariant-loop-n
invariant-loop-n l =
    Meets l.m l.ps l.initial.s l.s (AskFirst l.n (edges l.instr.op) (λ n e. AsksEdge l.m l.q.0 l.instr e))
    (SpeakFirst l.n (edges l.instr.op) (λ n e. SpeaksEdge l.m l.q.0 l.instr e))
