use Rattle.std.proofs.Common.{◌++◌}
use Rattle.ir_instrs.specs.Reading.{reading}
use Rattle.ir_instrs.specs.Operands.{tvalue_uses}
use Rattle.ir_instrs.proofs.Taking.{takes_both}
use Rattle.ir_instrs.proofs.ops.select.Goals as goal

pub returns-clause-takes : goal.returns-clause-takes
returns-clause-takes c =
    let r = reading c.args.src.now in
    takes_both r (tvalue_uses r c.args.x.now.on) (tvalue_uses r c.args.x.now.yes ++ tvalue_uses r c.args.x.now.no) c.args.notes.now c.tvalue.new.notes
    c.tvalue-3.new.notes c.in_ok-c.ensures.takes
    (takes_both r (tvalue_uses r c.args.x.now.yes) (tvalue_uses r c.args.x.now.no) c.tvalue.new.notes c.tvalue-2.new.notes c.tvalue-3.new.notes
    c.in_ok-a.ensures.takes c.in_ok-b.ensures.takes)
