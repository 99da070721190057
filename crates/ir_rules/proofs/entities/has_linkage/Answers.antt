use Rattle.std.proofs.Common.{◌≡◌, ◌∙◌, true, sym}
use Rattle.ir_rules.specs.Entities.{may_declare, may_define}
use Rattle.ir_rules.proofs.Told.{of_true, of_false, as_is}
use Rattle.ir_rules.proofs.entities.has_linkage.Goals as goal

pub returns-then-is_declaration : goal.returns-then-is_declaration
returns-then-is_declaration c =
    of_true (may_declare c.args.func.now.linkage ≡ true) (may_define c.args.func.now.linkage ≡ true) c.may_declare.result _ (sym c.is_declaration.ensures
    ∙ c.if-is_declaration.true) (as_is c.may_declare.result _ c.may_declare.ensures)

pub returns-else-is_declaration : goal.returns-else-is_declaration
returns-else-is_declaration c =
    of_false (may_declare c.args.func.now.linkage ≡ true) (may_define c.args.func.now.linkage ≡ true) c.may_define.result _ (sym c.is_declaration.ensures
    ∙ c.if-is_declaration.false) (as_is c.may_define.result _ c.may_define.ensures)
