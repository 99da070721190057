use Rattle.std.proofs.Common.{sym, ◌∙◌}
use Rattle.std.proofs.lemmas.Result.{on_ok_weaker}
use Rattle.rule_says.proofs.Mets.{meets_then}
use Rattle.aa_passing.specs.Entered.{AsksHanded, SpeaksHanded, AsksRungs, SpeaksRungs}
use Rattle.aa_passing.proofs.Passed.{pass_none}
use Rattle.aa_passing.proofs.entries.pass.Goals as goal

pub returns-then-not-is_pointer : goal.returns-then-not-is_pointer
returns-then-not-is_pointer c = pass_none c.args.m.now c.args.ps.now c.requires.numbering c.args.f.0 c.args.at c.args.q.now c.requires.param c.args.s.now
    c.args.k.0 c.args.op.now (sym c.is_pointer.ensures ∙ c.if-not-is_pointer.true)

pub returns : goal.returns
returns c =
    on_ok_weaker c.rungs.result (λ met. meets_then c.args.m.now c.args.ps.now c.args.s.now c.handed.new.s c.rungs.new.s
    (AsksHanded c.args.m.now c.args.k.0 c.args.op.now c.args.f.0 c.args.at c.args.q.now)
    (AsksRungs c.args.m.now c.args.k.0 c.args.op.now c.args.f.0 c.args.at c.args.q.now)
    (SpeaksHanded c.args.m.now c.args.k.0 c.args.op.now c.args.f.0 c.args.at c.args.q.now)
    (SpeaksRungs c.args.m.now c.args.k.0 c.args.op.now c.args.f.0 c.args.at c.args.q.now) c.in_ok-handed.ensures met) c.rungs.ensures
