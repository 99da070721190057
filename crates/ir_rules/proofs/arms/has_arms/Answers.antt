use Rattle.std.proofs.Common.{◌↔◌, List, IsTrue, subst, sym, rules, arith}
use Rattle.std.proofs.lemmas.Result.{IfOk-weaker}
use Rattle.ir_module.specs.declared.op.Arm.{Arm}
use Rattle.ir_module.specs.WellFormed.{Each}
use Rattle.ir_module.specs.declared.op.Op.{Op}
use Rattle.ir_rules.specs.Named.{IsNamed}
use Rattle.ir_rules.specs.Blocks.{HasArms}
use Rattle.ir_rules.proofs.Named.{arms_named}
use Rattle.ir_rules.proofs.Leading.{arms_told}
use Rattle.ir_rules.proofs.arms.has_arms.Goals as goal

pub sources_of-requires : goal.sources_of-requires
sources_of-requires c = omega (arith, c.requires.surveyed.sources.long, c.requires.there)

pub arms_fit-requires-clause-named : goal.arms_fit-requires-clause-named
arms_fit-requires-clause-named c =
    subst (λ (as' : List Arm). Each as' (λ k arm. IsNamed c.args.m.now arm.val)) (sym c.as_slice.ensures)
    (arms_named c.args.m.now c.args.instr.now c.in-Phi.arms c.requires.named (search rules))

pub returns-in-Phi : goal.returns-in-Phi
returns-in-Phi c =
    IfOk-weaker c.arms_fit.result _ _ (λ yes h. subst (λ (o : Op). IsTrue yes ↔ HasArms c.args.m.now c.args.numbers.now c.args.b.0 o) (sym c.in-Phi.is)
    (arms_told c.args.m.now c.args.numbers.now c.args.b.0 c.in-Phi.arms c.as_slice.result.now c.sources_of.result.now yes c.as_slice.ensures
    (λ x. c.requires.surveyed.sources.counts c.args.b.0 x c.sources_of.result.now c.sources_of.ensures) h)) c.arms_fit.ensures
