use Rattle.std.proofs.Common.{ap, subst, sym}
use Rattle.ir_operands.specs.Constants.{ArePartsBelow}
use Rattle.ir_consts.specs.Source.{reading}
use Rattle.ir_consts.proofs.Below.{const_sits}
use Rattle.ir_headers.proofs.globals.initial_of.Goals as goal

pub returns-in_ok-made-in-Some-clause-below : goal.returns-in_ok-made-in-Some-clause-below
returns-in_ok-made-in-Some-clause-below c =
    subst ArePartsBelow (sym (ap (λ x. x.1) c.in_ok-made-in-Some.ensures.value))
    (const_sits (reading c.args.src.now) c.in-Some.c c.args.ty c.args.out.now.parts.items c.requires.below).below
