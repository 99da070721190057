use Rattle.ir_type_names.specs.Reading.{reading}
use Rattle.ir_type_names.proofs.Uses.{uses_found}
use Rattle.ir_type_names.proofs.unknown.note_unknown_types.Goals as goal

pub loop-u-preserved : goal.loop-u-preserved
loop-u-preserved c =
    uses_found (reading c.args.source.now) c.args.uses.now c.loop-u.u-index c.u-item.result c.args.found.now c.loop-u.found c.note_unknown.new.found
    c.loop-u-test.true c.u-item.is c.loop-u.invariant c.note_unknown.ensures
