-- Parts of what makes a module well formed, in the two forms in which they are said.
use Rattle.std.proofs.Common.{◌≡◌, ◌↔◌, ◌<◌, ℕ, Bool, IsTrue, List, [], length, Some, subst, sym, refl}
use Rattle.attr_ids.specs.declared.ids.BlockId.{BlockId}
use Rattle.attr_ids.specs.declared.ids.TypeId.{TypeId}
use Rattle.ir_types.specs.declared.ir_type.IrType.TheVariants.{Array, Struct}
use Rattle.ir_module.specs.declared.op.Arm.{Arm}
use Rattle.ir_module.specs.declared.op.Written.{Written}
use Rattle.ir_module.specs.declared.op.Op.{Op}
use Rattle.ir_module.specs.declared.op.Op.TheVariants as op
use Rattle.ir_module.specs.declared.module.Module.{Module}
use Rattle.ir_module.specs.Operands.{optional}
use Rattle.ir_module.specs.Formed.{IsBlockIn, IsType, IsConstant, AreConstants, sources, written_types}
use Rattle.ir_module.specs.WellFormed.{Each, IsTypeFormed}
use Rattle.ir_module.proofs.Each.{each_headed, each_mapped, each_unmapped}

abbrev pub IsSourceIn : Module → ℕ → ℕ → BlockId → Type 0
IsSourceIn m f k b = IsBlockIn m f b.0

pub arms_are_sources : (m : Module) (f : ℕ) (arms : List Arm) → Each arms (λ k arm. IsSourceIn m f k arm.from) ↔ Each (sources (op.Phi arms)) (IsSourceIn m f)
arms_are_sources m f arms = (each_mapped (IsSourceIn m f) (λ arm. arm.from) arms, each_unmapped (IsSourceIn m f) (λ arm. arm.from) arms)

-- the types that an instruction writes, from a list of them
pub types_by : (m : Module) (o : Op) (ts : List TypeId) (b : Bool) → written_types o ≡ ts → IsTrue b ↔ Each ts (λ k t. IsType m t)
    → IsTrue b ↔ Each (written_types o) (λ k t. IsType m t)
types_by m o ts b e h = subst (λ (xs : List TypeId). IsTrue b ↔ Each xs (λ k t. IsType m t)) (sym e) h

pub one_constant : (m : Module) (w : Written) → (IsType m w.ty × IsConstant m w.val) ↔ AreConstants m (optional (Some w))
one_constant m w =
    let one = each_headed (λ (x : Written). IsType m x.ty × IsConstant m x.val) w [] in
    (λ h. one.1 (h, λ k y e. cc), λ h. (one.0 h).0)

pub array_parts : (m : Module) (t count : ℕ) (elem : TypeId) → IsType m elem ↔ IsTypeFormed m t (Array count elem)
array_parts m t count elem =
    let one = each_headed (λ (n : ℕ). n < length m.types) elem.0 [] in
    (λ l part p. one.1 (l, λ k y e. cc) p.0 part p.1, λ h. h elem.0 (0, refl))

pub struct_parts : (m : Module) (t : ℕ) (fields : List TypeId) (packed : Bool) → Each fields (λ k t. IsType m t) ↔ IsTypeFormed m t (Struct fields packed)
struct_parts m t fields packed = (
  λ h part p. each_mapped (λ k n. n < length m.types) (λ t. t.0) fields h p.0 part p.1,
  λ h. each_unmapped (λ k n. n < length m.types) (λ t. t.0) fields (λ k n e. h n (k, e)),
)
