-- The bytes to what indices lead to, added up one index after the other.
use Rattle.std.proofs.Common.{◌≡◌, ◌<◌, ◌+◌, ℕ, ℤ, pos, ◌+ℤ◌, List, [], ◌∷◌, length, get_or, take, drop, ◌-◌, refl, sym, ap, subst, ◌∙◌, arith, add-one}
use Rattle.std.proofs.Common.{drop-cons}
use Rattle.std.specs.Prelude.{Option, None, Some}
use Rattle.std.proofs.Math.Seq.{drop-length}
use Rattle.std.proofs.lemmas.List.{take_all, length-drop}
use Rattle.std.specs.Int.{w64, int_wrap}
use Rattle.std.proofs.lemmas.Int.{ints, int_wrap-add_left, int_wrap_fits, SFits-int_wrap}
use Rattle.attr_ids.specs.declared.ids.TypeId.{TypeId}
use Rattle.ir_types.specs.declared.ir_type.IrType.{IrType}
use Rattle.ir_module.specs.declared.op.Written.{Written}
use Rattle.ir_operands.specs.Types.{type_of}
use Rattle.ir_operands.specs.Offsets.{entered_by}
use Rattle.ir_consts.specs.Offsets.{element_of, into, over, offsets, offsets_into, total}

-- no bytes
pub none_wrapped : pos 0 ≡ int_wrap w64 (pos 0)
unfolding int_wrap
none_wrapped = refl

pub wrapped_twice : (z : ℤ) → int_wrap w64 z ≡ int_wrap w64 (int_wrap w64 z)
wrapped_twice z = sym (int_wrap_fits w64 (int_wrap w64 z) (SFits-int_wrap w64 z))

module _ (types : List IrType) (indices : List Written) (all : ℤ) where
  -- the bytes so far and those of the indices that are left come to all of them
  pub record WalksOn (bytes : ℤ) (at : Option TypeId) (i : ℕ) : Type 0 where
    pub on : int_wrap w64 (bytes +ℤ total (offsets_into types at (drop i indices))) ≡ int_wrap w64 all
    pub small : bytes ≡ int_wrap w64 bytes

  nowhere : (ws : List Written) → offsets_into types None ws ≡ []
  nowhere [] = refl
  nowhere (w ∷ ws) = refl

  nothing : (bytes : ℤ) → bytes +ℤ pos 0 ≡ bytes
  nothing bytes = omega (arith, ints)

  -- the indices that are left lead nowhere
  pub ends_nowhere : (bytes : ℤ) (i : ℕ) → WalksOn bytes None i → bytes ≡ int_wrap w64 all
  ends_nowhere bytes i h =
      h.small ∙ ap (int_wrap w64) (sym (nothing bytes)) ∙ ap (λ zs. int_wrap w64 (bytes +ℤ total zs)) (sym (nowhere (drop i indices))) ∙ h.on

  -- none is left
  pub ends : (bytes : ℤ) (at : Option TypeId) → WalksOn bytes at (length indices) → bytes ≡ int_wrap w64 all
  ends bytes at h =
      let left : int_wrap w64 (bytes +ℤ pos 0) ≡ int_wrap w64 all =
      subst (λ ws. int_wrap w64 (bytes +ℤ total (offsets_into types at ws)) ≡ int_wrap w64 all) (drop-length indices) h.on in
      h.small ∙ ap (int_wrap w64) (sym (nothing bytes)) ∙ left

  -- one index more
  pub goes_on : (bytes next more : ℤ) (here : TypeId) (at : Option TypeId) (i : ℕ) (w d : Written) → i < length indices → w ≡ get_or indices i d
      → WalksOn bytes (Some here) i → more ≡ int_wrap w64 (into types here (element_of (type_of types here)) w) → next ≡ int_wrap w64 (bytes +ℤ more)
      → at ≡ entered_by types here (w ∷ []) → WalksOn next at (i + 1)
  goes_on bytes next more here at i w d l is h step sum to =
      let rest : List Written = drop (i + 1) indices in
      let left : drop i indices ≡ w ∷ rest =
      drop-cons indices i d l ∙ ap (λ n. get_or indices i d ∷ drop n indices) (sym (add-one i)) ∙ ap (λ x. x ∷ rest) (sym is) in
      let z : ℤ = into types here (element_of (type_of types here)) w in
      let t : ℤ = total (offsets_into types (entered_by types here (w ∷ [])) rest) in
      let before : int_wrap w64 (bytes +ℤ (z +ℤ t)) ≡ int_wrap w64 all =
      subst (λ ws. int_wrap w64 (bytes +ℤ total (offsets_into types (Some here) ws)) ≡ int_wrap w64 all) left h.on in
      record {
        on = ap (λ o. int_wrap w64 (next +ℤ total (offsets_into types o rest))) to ∙ ap (λ y. int_wrap w64 (y +ℤ t)) sum
            ∙ int_wrap-add_left w64 (bytes +ℤ more) t ∙ ap (λ y. int_wrap w64 ((bytes +ℤ y) +ℤ t)) step
            ∙ ap (int_wrap w64) (turned bytes (int_wrap w64 z) t) ∙ int_wrap-add_left w64 z (bytes +ℤ t) ∙ ap (int_wrap w64) (sym (turned bytes z t))
            ∙ ap (int_wrap w64) (grouped bytes z t) ∙ before;
        small = sum ∙ wrapped_twice (bytes +ℤ more) ∙ ap (int_wrap w64) (sym sum);
      } where
        turned : (a b c : ℤ) → (a +ℤ b) +ℤ c ≡ b +ℤ (a +ℤ c)
        turned a b c = omega (arith, ints)

        grouped : (a b c : ℤ) → (a +ℤ b) +ℤ c ≡ a +ℤ (b +ℤ c)
        grouped a b c = omega (arith, ints)

  -- before any
  pub begins : (t : TypeId) → all ≡ total (offsets_into types (Some t) indices) → WalksOn (pos 0) (Some t) 0
  begins t is = record { on = ap (int_wrap w64) (first (total (offsets_into types (Some t) indices))) ∙ ap (int_wrap w64) (sym is); small = none_wrapped } where
    first : (a : ℤ) → pos 0 +ℤ a ≡ a
    first a = omega (arith, ints)

-- the first index, and the others
pub offsets_split : (types : List IrType) (elem : TypeId) (indices : List Written) (w d : Written) → 0 < length indices → w ≡ get_or indices 0 d
    → total (offsets types elem indices) ≡ over types elem w +ℤ total (offsets_into types (Some elem) (drop 1 indices))
offsets_split types elem [] w d l is = absurd (omega (arith, l))
offsets_split types elem (x ∷ xs) w d l is = ap (λ y. over types elem y +ℤ total (offsets_into types (Some elem) xs)) (sym is)

-- all but the first
pub rest_is : {X : Type 0} (xs : List X) → take (length xs - 1) (drop 1 xs) ≡ drop 1 xs
rest_is xs = take_all (length xs - 1) (drop 1 xs) (omega (arith, length-drop 1 xs))

-- the slice of one
pub one_slice : {X : Type 0} (xs : List X) (i : ℕ) (d : X) → i < length xs → take (i + 1 - i) (drop i xs) ≡ get_or xs i d ∷ []
one_slice xs i d l = let e : i + 1 - i ≡ 1 = omega arith in ap (λ n. take n (drop i xs)) e ∙ ap (take 1) (drop-cons xs i d l)
