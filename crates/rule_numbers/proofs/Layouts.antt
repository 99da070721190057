-- Types that have layouts are not nested too deep, and so all canonical numbers tell them apart alike.
use Rattle.std.proofs.Common.{◌≡◌, ℕ, List, Option, None, Some, Err, refl}
use Rattle.attr_ids.specs.declared.ids.TypeId.{TypeId}
use Rattle.ir_types.specs.declared.refusal.TypeRefusal.TheVariants as refusal
use Rattle.ir_types.specs.Layout.{Layout, layout}
use Rattle.ir_types.specs.TypeTable.{checked}
use Rattle.ir_type_equality.specs.Numbers.{AreCanonical}
use Rattle.ir_module.specs.declared.module.Module.{Module}
use Rattle.ir_operands.specs.Types.{AreOne}
use Rattle.ir_verify.specs.Verified.{HaveLayouts}
use Rattle.const_numbers.specs.Numbered.{AreLaidOut}
use Rattle.const_numbers.proofs.Alike.{told}

-- a type that is not refused as too deep has a layout
laid_by : (o : Option Layout) → (checked (λ (l : Layout). l.size) o ≡ Err refusal.Deep → ⊥) → (l : Layout) × (o ≡ Some l)
laid_by None shallow = absurd (shallow refl)
laid_by (Some l) shallow = (l, refl)

are_laid_out : (m : Module) → HaveLayouts m → AreLaidOut m.types
are_laid_out m layouts t inside = laid_by (layout m.types 64 t) (λ deep. layouts.shallow (t, inside, deep))

pub leads : (m : Module) (a b : List ℕ) → HaveLayouts m → AreCanonical m.types a → AreCanonical m.types b → (t u : TypeId) → AreOne a t u → AreOne b t u
leads m a b layouts one other = told m.types a b one other (are_laid_out m layouts)
