use Rattle.std.proofs.Common.{[], ◌∷◌, subst}
use Rattle.ir_instrs.specs.Reading.{reading}
use Rattle.ir_instrs.specs.Uses.{Takes}
use Rattle.ir_instrs.specs.Uses.Use.{Label}
use Rattle.ir_instrs.specs.Operands.{tvalue_uses}
use Rattle.ir_instrs.specs.Terms.{cases_uses}
use Rattle.ir_instrs.proofs.Taking.{takes_both}
use Rattle.ir_instrs.proofs.terms.switch.Goals as goal

pub returns-clause-takes : goal.returns-clause-takes
returns-clause-takes c =
    let r = reading c.args.src.now in
    let on = tvalue_uses r c.args.x.now.on in
    let cases = cases_uses r c.args.x.now.cases in
    takes_both r on (Label c.args.x.now.other ∷ cases) c.args.notes.now c.tvalue.new.notes c.cases_of.new.notes c.in_ok-on.ensures.takes
    (takes_both r (Label c.args.x.now.other ∷ []) cases c.tvalue.new.notes c.label-other.new.notes c.cases_of.new.notes c.label-other.ensures.takes
    (subst (λ xs. Takes r (cases_uses r xs) c.label-other.new.notes c.cases_of.new.notes) c.as_slice.ensures c.in_ok-cases.ensures.takes))
