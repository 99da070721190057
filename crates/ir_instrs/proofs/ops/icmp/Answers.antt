use Rattle.ir_instrs.specs.Reading.{reading}
use Rattle.ir_instrs.proofs.Steps.{pair_taken}
use Rattle.ir_instrs.proofs.ops.icmp.Goals as goal

pub returns-clause-takes : goal.returns-clause-takes
returns-clause-takes c =
    pair_taken (reading c.args.src.now) c.in_ok-ty.ty ((reading c.args.src.now).kind c.args.x.now.ty) c.args.x.now.left c.args.x.now.right
    c.args.notes.now c.written.new.notes c.written-2.new.notes
    c.in_ok-ty.ensures c.in_ok-a.ensures.takes c.in_ok-b.ensures.takes
