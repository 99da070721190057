use Rattle.std.proofs.Common.{arith, sym, ap, ◌∙◌}
use Rattle.std.specs.List.{list_any}
use Rattle.std.proofs.lemmas.List.{take_all}
use Rattle.ir_module.specs.Edges.{edges}
use Rattle.aa_capture.specs.Arms.{is_to}
use Rattle.aa_capture.proofs.Found.{any_at, none_next}
use Rattle.aa_capture.proofs.leading.leads_to.Goals as goal

pub returns-then-is_to : goal.returns-then-is_to
returns-then-is_to c =
    sym (any_at (is_to c.args.block) (edges c.args.op.now)
    c.loop-n.n c.in-Some.e (sym c.in-Some.ensures) (sym c.is_to.ensures ∙ c.if-is_to.true))

pub loop-n-preserved : goal.loop-n-preserved
loop-n-preserved c =
    none_next (is_to c.args.block) (edges c.args.op.now)
    c.loop-n.n c.in-Some.e (sym c.in-Some.ensures) c.loop-n.invariant (sym c.is_to.ensures ∙ c.if-is_to.false)

pub returns : goal.returns
returns c =
    c.loop-n.invariant ∙ ap (list_any (is_to c.args.block)) (take_all c.loop-n.n (edges c.args.op.now) (omega (
      arith,
      c.loop-n-test.false,
      c.edge_count-n-end.ensures,
    )))
