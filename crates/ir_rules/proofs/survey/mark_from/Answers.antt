use Rattle.std.proofs.Common.{length, sym, subst, ◌<◌, ◌∙◌, ℕ, List, Bool}
use Rattle.std.proofs.lemmas.Option.{none-some}
use Rattle.ir_rules.specs.Survey.{AreMarks, IsUnwoundBefore}
use Rattle.std.proofs.Common.{◌+◌}
use Rattle.ir_rules.proofs.Marks.{unwound_set, unwound_skip}
use Rattle.ir_rules.proofs.Sources.{unwind_within}
use Rattle.ir_rules.proofs.survey.mark_from.Goals as goal

pub set_mark-requires : goal.set_mark-requires
set_mark-requires c =
    subst (λ (n : ℕ). c.in-Some.to.0 < n) (sym c.requires.marked.long) (unwind_within c.args.m.now c.args.b c.in-Some.to c.requires.formed
    (sym c.in-Some.ensures))

pub returns-in-Some : goal.returns-in-Some
returns-in-Some c =
    subst (λ (ms : List Bool). AreMarks (IsUnwoundBefore c.args.m.now (c.args.b + 1)) (length c.args.m.now.blocks) ms) (sym c.set_mark.ensures)
    (unwound_set c.args.m.now (length c.args.m.now.blocks) c.args.b c.in-Some.to c.args.marks.now (sym c.in-Some.ensures)
    (subst (λ (n : ℕ). c.in-Some.to.0 < n) (sym c.requires.marked.long) (unwind_within c.args.m.now c.args.b c.in-Some.to c.requires.formed
    (sym c.in-Some.ensures)))
    c.requires.marked)

pub returns-in-None : goal.returns-in-None
returns-in-None c =
    unwound_skip c.args.m.now (length c.args.m.now.blocks) c.args.b c.args.marks.now (λ b l e. none-some _ (c.in-None.ensures ∙ e)) c.requires.marked
