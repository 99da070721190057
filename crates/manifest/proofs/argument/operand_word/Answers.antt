use Rattle.std.proofs.Common.{◌≡◌, ◌&&◌, ℕ, Bool, false, sym, ap, refl, ◌∙◌}
use Rattle.attr_ids.specs.declared.ids.TypeId.{TypeId}
use Rattle.attr_ids.specs.declared.ids.ValueId.{ValueId}
use Rattle.ir_module.specs.declared.op.Operand.{Operand}
use Rattle.ir_module.specs.declared.op.Operand.TheVariants as operand
use Rattle.ir_module.specs.declared.module.Module.{Module}
use Rattle.facts.specs.Facts.{Fact}
use Rattle.facts.specs.Known.{operand_has}
use Rattle.manifest.specs.Argument.{counts}
use Rattle.manifest.specs.Ready.{set_of}
use Rattle.manifest.proofs.Reading.{zero_bit}
use Rattle.manifest.proofs.argument.operand_word.Goals as goal

pub returns-in-Value : goal.returns-in-Value
returns-in-Value c = λ bit. c.value_word.ensures bit ∙
    ap (λ val. counts val bit && operand_has c.args.held.now.m.now (set_of c.args.held.now) c.args.w.now.ty val bit) (sym c.in-Value.is)

-- of a constant nothing is known
constant : (m : Module) (held : Fact → Bool) (ty : TypeId) (val : Operand) (bit : ℕ) → ((v : ValueId) → val ≡ operand.Value v → ⊥) →
    false ≡ (counts val bit && operand_has m held ty val bit)
constant m held ty (operand.Value v) bit other = absurd (other v refl)
constant m held ty _ bit other = refl

pub returns-in_default : goal.returns-in_default
returns-in_default c = λ bit. zero_bit bit ∙ constant c.args.held.now.m.now (set_of c.args.held.now) c.args.w.now.ty c.args.w.now.val bit c.in_default.not-Value
