use Rattle.std.proofs.Common.{◌≡◌, ◌<◌, length, ◌∙◌, refl, rules}
use Rattle.ir_consts.specs.Source.{reading}
use Rattle.std.proofs.lemmas.List.{nil_from_length}
use Rattle.ir_consts.proofs.Judged.{baseless_is, wrong_is, right_is, address_is}
use Rattle.ir_consts.proofs.consts.offset_of.Goals as goal

pub returns-then-is_empty : goal.returns-then-is_empty
returns-then-is_empty c =
    let len : length c.args.operands.now ≡ 0 = search rules in
    baseless_is (reading c.args.src.now) c.args.flags.now c.args.elem c.args.parts.now c.requires.below c.args.operands.now
    (nil_from_length c.args.operands.now len)

pub returns-in-Some : goal.returns-in-Some
returns-in-Some c =
    wrong_is (reading c.args.src.now) c.args.flags.now c.args.elem c.args.parts.now c.requires.below c.args.operands.now c.requires.within c.in-Some.rule
    c.number.result c.in-Some.ensures.broken c.number.ensures

pub returns-in-None : goal.returns-in-None
returns-in-None c =
    let some : 0 < length c.args.operands.now = search rules in
    address_is (reading c.args.src.now) c.args.flags.now c.args.elem c.args.operands.now c.address.result _ some c.address.ensures
    ∙ right_is (reading c.args.src.now) c.args.flags.now c.args.elem c.args.parts.now c.requires.below c.args.operands.now (c.in-None.ensures.kept refl)
