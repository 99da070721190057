use Rattle.ir_instrs.specs.Reading.{reading}
use Rattle.ir_headers.specs.Headers as spec
use Rattle.ir_headers.proofs.Making.{params_next}
use Rattle.ir_headers.proofs.params.params_from.Goals as goal

pub loop-rest-preserved : goal.loop-rest-preserved
loop-rest-preserved c =
    params_next (reading c.args.src.now) c.loop-rest.value c.in_ok-value.value c.loop-rest.rest.now c.param-item.result c.loop-rest.params.items
    c.push.new.self.items (spec.params_from (reading c.args.src.now) c.args.first c.args.list.now) c.in_ok-made.made c.in-len1-up.len_at_least c.param-item.is
    c.loop-rest.invariant c.in_ok-made.ensures c.in_ok-push.ensures.items c.in_ok-value.ensures
