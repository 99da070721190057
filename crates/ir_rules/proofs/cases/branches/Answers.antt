use Rattle.std.proofs.Common.{◌↔◌, IsTrue, List, subst, sym}
use Rattle.std.proofs.lemmas.Result.{IfOk-weaker}
use Rattle.ir_module.specs.declared.op.Case.{Case}
use Rattle.ir_module.specs.declared.op.Op.{Op}
use Rattle.ir_rules.specs.Operations.{Branches, Switches}
use Rattle.ir_rules.proofs.cases.branches.Goals as goal

pub returns-in-Switch : goal.returns-in-Switch
returns-in-Switch c =
    IfOk-weaker c.switches.result _ _ (λ yes h. subst (λ (o : Op). IsTrue yes ↔ Branches c.args.m.now c.args.numbers.now o) (sym c.in-Switch.is)
    (subst (λ (cases : List Case). IsTrue yes ↔ Switches c.args.m.now c.args.numbers.now c.in-Switch.on cases) c.as_slice.ensures h)) c.switches.ensures
