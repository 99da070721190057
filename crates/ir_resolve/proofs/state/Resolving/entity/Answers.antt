use Rattle.std.proofs.Common.{ap, subst, sym, ◌∙◌}
use Rattle.ir_scopes.proofs.Entering.{on_ok}
use Rattle.ir_tree.specs.declared.entities.Entity.TheVariants as entity
use Rattle.ir_resolve.specs.Building.{setting_of, Adds}
use Rattle.ir_resolve.proofs.Adding.{adds_declare, adds_define}
use Rattle.ir_resolve.proofs.state.Resolving.entity.Goals as goal

pub returns-in-Declare : goal.returns-in-Declare
returns-in-Declare c =
    let x = setting_of c.args.desk.now in
    on_ok c.function.result (λ puts. subst (λ e. Adds x e c.args.self.now c.function.new.self)
    (ap entity.Declare c.get-declare.ensures ∙ sym c.in-Declare.is) (adds_declare x c.get-declare.result.now c.args.self.now c.function.new.self puts))
    c.function.ensures

pub returns-in-Define : goal.returns-in-Define
returns-in-Define c =
    let x = setting_of c.args.desk.now in
    on_ok c.function-in-Define.result (λ puts. subst (λ e. Adds x e c.args.self.now c.function-in-Define.new.self)
    (ap entity.Define c.get-define.ensures ∙ sym c.in-Define.is) (adds_define x c.get-define.result.now c.args.self.now c.function-in-Define.new.self puts))
    c.function-in-Define.ensures
