use Rattle.std.proofs.Common.{ℕ, List, subst, sym}
use Rattle.ir_module.specs.declared.op.Written.{Written}
use Rattle.ir_operands.specs.declared.rule.Site.TheVariants as site
use Rattle.ir_operands.specs.Constants.{IsScalarOperand}
use Rattle.ir_rules.specs.Named.{AreNamed}
use Rattle.ir_rules.proofs.Named.{constants_named}
use Rattle.ir_rules.proofs.Told.{each_of}
use Rattle.ir_rules.proofs.entities.has_scalar_header.Goals as goal

pub are_scalar_constants-requires-clause-named : goal.are_scalar_constants-requires-clause-named
are_scalar_constants-requires-clause-named c = subst (λ (ws : List Written). AreNamed c.args.m.now ws) (sym c.as_slice.ensures)
    (constants_named c.args.m.now c.args.func.now.extra c.requires.named)

pub returns-then-has_scalar_type : goal.returns-then-has_scalar_type
returns-then-has_scalar_type c =
    let all = each_of (λ (k : ℕ) (w : Written). IsScalarOperand c.args.m.now.types c.args.numbers.now c.args.m.now.parts site.Plain w) c.as_slice.result.now
    c.args.func.now.extra c.are_scalar_constants.result c.as_slice.ensures c.are_scalar_constants.ensures in
    (λ t. record { type = c.has_scalar_type.ensures.0 c.if-has_scalar_type.true; extra = all.0 t }, λ h. all.1 h.extra)
