use Rattle.std.proofs.Common.{refl, sym, subst, ◌<◌, ℕ}
use Rattle.std.proofs.lemmas.Result.{IfOk-weaker}
use Rattle.ir_rules.proofs.Sources.{targets_within, noted_block, adds_none}
use Rattle.ir_rules.proofs.survey.note_block.Goals as goal

pub note_edges-requires : goal.note_edges-requires
note_edges-requires c =
    λ k e at. subst (λ (n : ℕ). e.to.0 < n) (sym c.requires.long) (targets_within c.args.m.now c.args.from c.in-Some.instr.now c.requires.formed
    (sym c.in-Some.ensures) k e at)

pub returns-in-Some : goal.returns-in-Some
returns-in-Some c =
    IfOk-weaker c.note_edges.result _ _ (λ u h. noted_block c.args.m.now c.args.from c.args.lists.now c.note_edges.new.lists _ _ c.in-Some.ensures refl h)
    c.note_edges.ensures

pub returns-in-None : goal.returns-in-None
returns-in-None c = noted_block c.args.m.now c.args.from c.args.lists.now c.args.lists.now _ _ c.in-None.ensures refl
    (adds_none c.args.lists.now c.args.from _ refl)
