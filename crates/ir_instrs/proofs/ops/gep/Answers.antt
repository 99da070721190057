use Rattle.ir_instrs.specs.Reading.{reading}
use Rattle.ir_instrs.proofs.Steps.{front_taken}
use Rattle.ir_instrs.proofs.ops.gep.Goals as goal

pub returns-in_ok-indices-in-len1-up-clause-takes : goal.returns-in_ok-indices-in-len1-up-clause-takes
returns-in_ok-indices-in-len1-up-clause-takes c =
    front_taken (reading c.args.src.now) c.args.list.now c.base-item.result c.args.notes.now c.tvalue.new.notes c.tvalues.new.notes
    c.in-len1-up.len_at_least c.base-item.is c.in_ok-base-in-len1-up.ensures.takes c.in_ok-indices-in-len1-up.ensures.takes
