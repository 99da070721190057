use Rattle.ir_verify.specs.declared.rule.Rule.TheVariants as rule
use Rattle.ir_verify.specs.Demands.{OfType}
use Rattle.ir_verify.proofs.Judged.{one_rule}
use Rattle.ir_verify.proofs.Covers.{type_covers}
use Rattle.ir_verify.proofs.entities.of_type.Goals as goal

pub returns : goal.returns
returns c = one_rule rule.V17 c.args.at (OfType c.args.ty.now) _ c.unless.result (type_covers c.args.ty.now) c.has_fitting_count.ensures c.unless.ensures
