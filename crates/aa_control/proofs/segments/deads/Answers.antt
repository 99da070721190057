use Rattle.std.proofs.lemmas.Result.{on_ok_weaker}
use Rattle.rule_says.proofs.Mets.{meets_then}
use Rattle.aa_control.specs.Coming.{AsksOpens, SpeaksOpens, AsksOuts, SpeaksOuts}
use Rattle.aa_control.proofs.segments.deads.Goals as goal

pub returns : goal.returns
returns c =
    on_ok_weaker c.outs.result (λ met. meets_then c.args.m.now c.args.ps.now c.args.s.now c.opens.new.s c.outs.new.s (AsksOpens c.args.m.now)
    (AsksOuts c.args.m.now) (SpeaksOpens c.args.m.now) (SpeaksOuts c.args.m.now) c.in_ok-opens.ensures met) c.outs.ensures
