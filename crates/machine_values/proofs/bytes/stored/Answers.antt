use Rattle.ir_machine.specs.Values as spec
use Rattle.machine_values.proofs.Lists.{pushed}
use Rattle.machine_values.proofs.bytes.stored.Goals as goal

pub loop-k-preserved : goal.loop-k-preserved
loop-k-preserved c =
    pushed (spec.stored_byte c.args.x.now c.args.x.now.datum) c.loop-k.k c.loop-k.bytes.items c.push.new.self.items c.in_ok-stored_byte.field-0
    c.in_ok-push.ensures.items c.loop-k.invariant c.in_ok-stored_byte.ensures
