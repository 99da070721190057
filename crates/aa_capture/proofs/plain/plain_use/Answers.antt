use Rattle.std.proofs.lemmas.Result.{on_ok_weaker}
use Rattle.facts.specs.Uses.{Permits, PermitSpeaks}
use Rattle.aa_capture.proofs.Used.{used_met}
use Rattle.aa_capture.proofs.plain.plain_use.Goals as goal

pub returns : goal.returns
returns c =
    on_ok_weaker c.meet.result (λ met. used_met c.args.m.now c.args.ps.now c.requires.numbering c.args.k.0
    (λ kind held. Permits c.args.m.now held kind c.args.instr.now c.args.instr.now.op c.args.n)
    (λ kind. PermitSpeaks c.args.m.now kind c.args.instr.now c.args.instr.now.op c.args.n) c.args.w.now.val c.in-Value.v c.in-Value.is
    c.args.s.now c.meet.new.s c.in_ok-permitted.permitted c.in_ok-term.term c.requires.long c.in_ok-permitted.ensures c.in_ok-term.ensures met) c.meet.ensures
