use Rattle.std.proofs.Common.{[], ◌∷◌, subst}
use Rattle.ir_tree.specs.declared.values.Value.TheVariants as value
use Rattle.ir_instrs.specs.Reading.{reading}
use Rattle.ir_instrs.specs.Uses.{Takes}
use Rattle.ir_instrs.specs.Uses.Use.{Typed, Label}
use Rattle.ir_instrs.specs.Terms.{literal}
use Rattle.ir_instrs.proofs.Taking.{takes_both}
use Rattle.ir_instrs.proofs.terms.case_of.Goals as goal

pub returns-clause-takes : goal.returns-clause-takes
returns-clause-takes c =
    let r = reading c.args.src.now in
    let lit = value.Const (literal c.args.case.now) in
    takes_both r (Typed (r.kind c.args.case.now.ty) lit ∷ []) (Label c.args.case.now.to ∷ []) c.args.notes.now c.literal.new.notes c.label-to.new.notes
    (subst (λ t. Takes r (Typed t lit ∷ []) c.args.notes.now c.literal.new.notes) c.in_ok-ty.ensures c.in_ok-val.ensures.takes) c.label-to.ensures.takes
