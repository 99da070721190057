use Rattle.ir_type_names.proofs.Chaining.{stands_then, stands_else}
use Rattle.ir_type_names.proofs.named.stands_for.Goals as goal

pub returns-then-step-end : goal.returns-then-step-end
returns-then-step-end c =
    stands_then c.args.nexts.now c.args.ends.now c.args.name c.step-end.result c.step.result c.requires c.step-end.ensures c.step.ensures c.if-step-end.true

pub returns-else-step-end : goal.returns-else-step-end
returns-else-step-end c =
    stands_else c.args.nexts.now c.args.ends.now c.args.name c.step-end.result c.step.result c.requires c.step-end.ensures c.step.ensures c.if-step-end.false
