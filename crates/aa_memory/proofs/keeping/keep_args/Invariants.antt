use Rattle.rule_says.specs.Meeting.{Meets}
use Rattle.rule_says.specs.Listing.{AskFirst, SpeakFirst}
use Rattle.aa_memory.specs.Asked.{AsksArg, SpeaksArg}
use Rattle.aa_memory.proofs.keeping.keep_args.Given as goal

abbrev pub invariant-loop-w : goal.invariant-loop-w
invariant-loop-w l =
    Meets l.m l.ps l.initial.s l.s (AskFirst l.w-index l.args (λ at w. AsksArg l.m l.a l.class l.k.0 l.callee w))
    (SpeakFirst l.w-index l.args (λ at w. SpeaksArg l.m l.a l.class l.k.0 l.callee w))
