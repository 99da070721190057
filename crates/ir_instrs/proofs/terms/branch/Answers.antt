use Rattle.std.proofs.Common.{[], ◌∷◌}
use Rattle.ir_instrs.specs.Reading.{reading}
use Rattle.ir_instrs.specs.Uses.Use.{Label}
use Rattle.ir_instrs.specs.Operands.{tvalue_uses}
use Rattle.ir_instrs.proofs.Taking.{takes_both}
use Rattle.ir_instrs.proofs.terms.branch.Goals as goal

pub returns-clause-takes : goal.returns-clause-takes
returns-clause-takes c =
    let r = reading c.args.src.now in
    takes_both r (tvalue_uses r c.args.on.now) (Label c.args.yes ∷ Label c.args.no ∷ []) c.args.notes.now c.tvalue.new.notes c.label-no.new.notes
    c.in_ok-c.ensures.takes
    (takes_both r (Label c.args.yes ∷ []) (Label c.args.no ∷ []) c.tvalue.new.notes c.label-yes.new.notes c.label-no.new.notes c.label-yes.ensures.takes
    c.label-no.ensures.takes)
