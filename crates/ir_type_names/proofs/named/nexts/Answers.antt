use Rattle.std.proofs.Common.{◌+◌, ap, ◌∙◌}
use Rattle.ir_type_names.specs.Reading.{reading}
use Rattle.ir_type_names.proofs.Naming.{nexts_more}
use Rattle.ir_type_names.proofs.named.nexts.Goals as goal

pub loop-body-preserved : goal.loop-body-preserved
loop-body-preserved c = (
  nexts_more (reading c.args.source.now) c.args.bodies.now c.loop-body.body-index c.body-item.result c.loop-body.k c.next_of.result c.loop-body.nexts.items
      c.push.new.self.items c.loop-body-test.true c.body-item.is c.loop-body.invariant.0 c.loop-body.invariant.1 c.next_of.ensures c.in_ok-push.ensures.items,
  c.in_ok-k.ensures ∙ ap (λ k. k + 1) c.loop-body.invariant.1,
)
