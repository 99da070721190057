use Rattle.std.proofs.Common.{ap, subst, sym, ◌∙◌}
use Rattle.ir_operands.specs.Constants.{ArePartsBelow}
use Rattle.ir_type_names.proofs.Numbering.{if_ok}
use Rattle.ir_consts.specs.Reading.{AreThere}
use Rattle.ir_consts.specs.Consts.{const_of}
use Rattle.ir_consts.proofs.Below.{const_sits}
use Rattle.ir_instrs.specs.Reading.{consts, reading}
use Rattle.ir_instrs.proofs.source.constant.Goals as goal

pub constant-requires-clause-there : goal.constant-requires-clause-there
constant-requires-clause-there c = subst AreThere (sym c.const_source-src.ensures) c.requires.sound

pub returns-clause-value : goal.returns-clause-value
unfolding reading
returns-clause-value c =
    if_ok c.constant.result (λ w is. ap (λ x. x.0) is ∙ ap (λ r. (const_of r c.args.value.now c.args.ty c.args.notes.now.parts.items).0)
    c.const_source-src.ensures)
    c.constant.ensures.value

pub returns-clause-parts : goal.returns-clause-parts
unfolding reading
returns-clause-parts c =
    if_ok c.constant.result (λ w is. ap (λ x. x.1) is ∙ ap (λ r. (const_of r c.args.value.now c.args.ty c.args.notes.now.parts.items).1)
    c.const_source-src.ensures)
    c.constant.ensures.value

pub returns-clause-below : goal.returns-clause-below
returns-clause-below c =
    if_ok c.constant.result (λ w is. subst ArePartsBelow (sym (ap (λ x. x.1) is ∙ ap (λ r. (const_of r c.args.value.now c.args.ty
    c.args.notes.now.parts.items).1)
    c.const_source-src.ensures)) (const_sits (consts c.args.src.now) c.args.value.now c.args.ty c.args.notes.now.parts.items c.requires.below).below)
    c.constant.ensures.value
