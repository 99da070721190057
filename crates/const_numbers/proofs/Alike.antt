-- Two lists of canonical numbers tell the same types apart.
use Rattle.std.proofs.Common.{◌↔◌, ◌⊎◌, ◌∙◌, ◌≤◌, inl, inr, ℕ, List, length, sym, arith}
use Rattle.std.proofs.lemmas.Bool.{cases_lt}
use Rattle.std.proofs.lemmas.Option.{slice_get_past}
use Rattle.attr_ids.specs.declared.ids.TypeId.{TypeId}
use Rattle.ir_types.specs.declared.ir_type.IrType.{IrType}
use Rattle.ir_type_equality.specs.Numbers.{AreCanonical, HaveOneNumber, IsLaidOut}
use Rattle.ir_operands.specs.Types.{AreOne}
use Rattle.const_numbers.specs.Numbered.{AreLaidOut}

module _ (types : List IrType) (a b : List ℕ) (one : AreCanonical types a) (other : AreCanonical types b) where
  pub same_first : (t u : ℕ) → IsLaidOut types t → HaveOneNumber a t u ↔ HaveOneNumber b t u
  same_first t u l = (λ h. (other.equal t u l).1 ((one.equal t u l).0 h), λ h. (one.equal t u l).1 ((other.equal t u l).0 h))

  pub same_either : (t u : ℕ) → IsLaidOut types t ⊎ IsLaidOut types u → HaveOneNumber a t u ↔ HaveOneNumber b t u
  same_either t u (inl l) = same_first t u l
  same_either t u (inr l) = let s = same_first u t l in (λ h. sym (s.0 (sym h)), λ h. sym (s.1 (sym h)))

-- past the end of a table no two numbers differ
past : (types : List IrType) (ns : List ℕ) → AreCanonical types ns → (t u : ℕ) → length types ≤ t → length types ≤ u → HaveOneNumber ns t u
past types ns canonical t u l m =
    let long = canonical.long in slice_get_past ns t (omega (arith, long, l)) ∙ sym (slice_get_past ns u (omega (arith, long, m)))

pub told : (types : List IrType) (a b : List ℕ) → AreCanonical types a → AreCanonical types b → AreLaidOut types → (t u : TypeId)
    → AreOne a t u → AreOne b t u
told types a b one other laid t u h = elim (cases_lt t.0 (length types)) [
  | inl l ↦ (same_first types a b one other t.0 u.0 (laid t.0 l)).0 h
  | inr l ↦
      elim (cases_lt u.0 (length types)) [
        | inl m ↦ (same_either types a b one other t.0 u.0 (inr (laid u.0 m))).0 h
        | inr m ↦ past types b other t.0 u.0 l m
      ]
]
