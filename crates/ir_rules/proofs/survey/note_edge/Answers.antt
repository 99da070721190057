use Rattle.std.proofs.Common.{List, ℕ, subst, sym, take, ◌+◌}
use Rattle.std.proofs.lemmas.Result.{IfOk-weaker}
use Rattle.ir_module.specs.Edges.{edges}
use Rattle.ir_rules.specs.Survey.{Adds}
use Rattle.ir_rules.proofs.Sources.{adds_one, never_past}
use Rattle.ir_rules.proofs.survey.note_edge.Goals as goal

pub note_source-requires : goal.note_source-requires
note_source-requires c = c.requires.targets c.args.k c.in-Some.edge (sym c.in-Some.ensures)

pub returns : goal.returns
returns c =
    IfOk-weaker c.note_source.result _ _ (λ u noted. λ old h. subst (λ (ls : List (List ℕ)). Adds old ls c.args.from (take (c.args.k + 1)
    (edges c.args.op.now))) (sym noted)
    (adds_one old c.args.lists.now c.args.from c.args.k (edges c.args.op.now) c.in-Some.edge h (sym c.in-Some.ensures)
    (c.requires.targets c.args.k c.in-Some.edge (sym c.in-Some.ensures))))
    c.note_source.ensures

pub unreachable-requires : goal.unreachable-requires
unreachable-requires c = never_past (edges c.args.op.now) c.args.k c.requires.there c.in-None.ensures
