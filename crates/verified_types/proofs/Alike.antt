-- Types with one canonical number are both pointers, or neither is.
use Rattle.std.proofs.Common.{◌≡◌, ℕ, zero, suc, Bool, true, false, List, slice_get, Option, None, Some, refl, sym, ap, subst, ◌∙◌}
use Rattle.std.proofs.lemmas.Option.{same_Some}
use Rattle.attr_ids.specs.declared.ids.TypeId.{TypeId}
use Rattle.ir_types.specs.declared.ir_type.IrType.{IrType}
use Rattle.ir_types.specs.declared.ir_type.IrType.TheVariants.{Void, Int, Ptr, Array, Struct, Opaque}
use Rattle.std.specs.Option.{option_and_then}
use Rattle.ir_types.specs.Layout.{layout, scalar, laid_out as laid_out_by}
use Rattle.ir_type_equality.specs.Equality.{AreEqualWithin}
use Rattle.ir_type_equality.specs.Equality.{AreAlike as HaveOneContent}
use Rattle.ir_type_equality.specs.Numbers.{IsLaidOut, AreCanonical}
use Rattle.ir_module.specs.declared.module.Module.{Module}
use Rattle.ir_operands.specs.Types.{IsInteger, IsIntegerOf, IsPointer, IsPair, IsNarrower, AreOne}
use Rattle.facts.specs.Bodies.{is_ptr, is_pointer}
use Rattle.law_premises.specs.Types.{AreAlike}

-- ---- kinds of types

pub pointer_is : (o : Option IrType) → IsPointer o → is_ptr o ≡ true
pointer_is (Some Ptr) is = refl
pointer_is (Some Void) is = absurd is
pointer_is (Some (Int width)) is = absurd is
pointer_is (Some (Array count elem)) is = absurd is
pointer_is (Some (Struct fields packed)) is = absurd is
pointer_is (Some Opaque) is = absurd is
pointer_is None is = absurd is

pub integer_is_none : (o : Option IrType) → IsInteger o → is_ptr o ≡ false
integer_is_none (Some (Int width)) is = refl
integer_is_none (Some Ptr) is = absurd is
integer_is_none (Some Void) is = absurd is
integer_is_none (Some (Array count elem)) is = absurd is
integer_is_none (Some (Struct fields packed)) is = absurd is
integer_is_none (Some Opaque) is = absurd is
integer_is_none None is = absurd is

pub integer_of : (bits : ℕ) (o : Option IrType) → IsIntegerOf bits o → IsInteger o
integer_of bits (Some (Int width)) is = tt
integer_of bits (Some Ptr) is = absurd is
integer_of bits (Some Void) is = absurd is
integer_of bits (Some (Array count elem)) is = absurd is
integer_of bits (Some (Struct fields packed)) is = absurd is
integer_of bits (Some Opaque) is = absurd is
integer_of bits None is = absurd is

pub narrower_is : (a b : Option IrType) → IsNarrower a b → IsInteger a × IsInteger b
narrower_is (Some (Int width)) (Some (Int other)) is = (tt, tt)
narrower_is (Some (Int width)) (Some Ptr) is = absurd is
narrower_is (Some (Int width)) (Some Void) is = absurd is
narrower_is (Some (Int width)) (Some (Array count elem)) is = absurd is
narrower_is (Some (Int width)) (Some (Struct fields packed)) is = absurd is
narrower_is (Some (Int width)) (Some Opaque) is = absurd is
narrower_is (Some (Int width)) None is = absurd is
narrower_is (Some Ptr) b is = absurd is
narrower_is (Some Void) b is = absurd is
narrower_is (Some (Array count elem)) b is = absurd is
narrower_is (Some (Struct fields packed)) b is = absurd is
narrower_is (Some Opaque) b is = absurd is
narrower_is None b is = absurd is

pub pair_is_none : (types : List IrType) (o : Option IrType) → IsPair types o → is_ptr o ≡ false
pair_is_none types (Some (Struct fields packed)) is = refl
pair_is_none types (Some (Int width)) is = refl
pair_is_none types (Some Void) is = refl
pair_is_none types (Some (Array count elem)) is = refl
pair_is_none types (Some Opaque) is = refl
pair_is_none types (Some Ptr) is = absurd is
pair_is_none types None is = refl

-- ---- canonical numbers

ptr_by : (o : Option IrType) → is_ptr o ≡ true → o ≡ Some Ptr
ptr_by (Some Ptr) is = refl
ptr_by (Some Void) is = cc
ptr_by (Some (Int width)) is = cc
ptr_by (Some (Array count elem)) is = cc
ptr_by (Some (Struct fields packed)) is = cc
ptr_by (Some Opaque) is = cc
ptr_by None is = cc

pointer_like : (same : ℕ → ℕ → Type 0) (t u : ℕ) (b : IrType) → HaveOneContent same t u Ptr b → b ≡ Ptr
pointer_like same t u Ptr like = refl
pointer_like same t u Void like = absurd like
pointer_like same t u (Int width) like = absurd like
pointer_like same t u (Array count elem) like = absurd like
pointer_like same t u (Struct fields packed) like = absurd like
pointer_like same t u Opaque like = absurd like

module _ (types : List IrType) (numbers : List ℕ) (canonical : AreCanonical types numbers) where
  layout_is : (levels t : ℕ) → slice_get types t ≡ Some Ptr → layout types (suc levels) t ≡ Some (scalar 8)
  unfolding layout
  layout_is levels t is = ap (λ o. option_and_then (laid_out_by (layout types levels)) o) is

  laid_out : (t : ℕ) → slice_get types t ≡ Some Ptr → IsLaidOut types t
  laid_out t is = (scalar 8, layout_is 63 t is)

  equal_within : (levels t u : ℕ) → slice_get types t ≡ Some Ptr → AreEqualWithin types levels t u → slice_get types u ≡ Some Ptr
  equal_within zero t u is equal = absurd equal
  equal_within (suc levels) t u is equal =
      let first : equal.0 ≡ Ptr = same_Some equal.0 Ptr (sym equal.2 ∙ is) in
      let like = pointer_like (AreEqualWithin types levels) t u equal.1 (subst (λ a. HaveOneContent (AreEqualWithin types levels) t u a equal.1)
      first equal.4) in
      equal.3 ∙ ap Some like

  -- where one of the two is a pointer, so is the other
  also_pointer : (t u : TypeId) → AreOne numbers t u → is_ptr (slice_get types t.0) ≡ true → is_ptr (slice_get types u.0) ≡ true
  also_pointer t u one is =
      let at = ptr_by (slice_get types t.0) is in
      let equal = (canonical.equal t.0 u.0 (laid_out t.0 at)).0 one in
      ap is_ptr (equal_within equal.0 t.0 u.0 at equal.1)

both_or_neither : (a b : Bool) → (a ≡ true → b ≡ true) → (b ≡ true → a ≡ true) → a ≡ b
both_or_neither true b to from = sym (to refl)
both_or_neither false true to from = from refl
both_or_neither false false to from = refl

pub alike : (m : Module) (numbers : List ℕ) → AreCanonical m.types numbers → (t u : TypeId) → AreOne numbers t u → AreAlike m t u
alike m numbers canonical t u one =
    both_or_neither (is_pointer m t) (is_pointer m u) (also_pointer m.types numbers canonical t u one) (also_pointer m.types numbers canonical u t (sym one))
