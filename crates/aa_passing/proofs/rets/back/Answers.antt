use Rattle.std.proofs.lemmas.Result.{on_ok_weaker}
use Rattle.rule_says.proofs.Mets.{meets_then}
use Rattle.aa_passing.specs.Returned.{AsksPlain, SpeaksPlain, AsksBytes, SpeaksBytes}
use Rattle.aa_passing.proofs.rets.back.Goals as goal

pub returns : goal.returns
returns c =
    on_ok_weaker c.rungs.result (λ met. meets_then c.args.m.now c.args.ps.now c.args.s.now c.plain.new.s c.rungs.new.s
    (AsksPlain c.args.m.now c.args.k.0 c.args.f.0 c.args.w.now) (AsksBytes c.args.m.now c.args.k.0 c.args.f.0 c.args.w.now)
    (SpeaksPlain c.args.m.now c.args.k.0 c.args.f.0 c.args.w.now) (SpeaksBytes c.args.m.now c.args.k.0 c.args.f.0 c.args.w.now) c.in_ok-plain.ensures met)
    c.rungs.ensures
