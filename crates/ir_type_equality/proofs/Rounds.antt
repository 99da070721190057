-- Each round of numbers tells types apart one level deeper.
use Rattle.std.proofs.Common.{◌≡◌, ◌+◌, ◌<◌, ◌↔◌, ◌∙◌, ℕ, zero, suc, List, [], ◌∷◌, length, slice_get, Option, Some, None}
use Rattle.std.proofs.Common.{arith, subst, sym, refl}
use Rattle.std.specs.Option.{option_and_then, option_map}
use Rattle.std.proofs.lemmas.Option.{slice_get_within, none-some, same_Some}
use Rattle.attr_ids.specs.declared.ids.TypeId.{TypeId}
use Rattle.ir_types.specs.declared.ir_type.IrType.{IrType}
use Rattle.ir_types.specs.declared.ir_type.IrType.TheVariants.{Void, Int, Ptr, Array, Struct, Opaque}
use Rattle.ir_types.specs.IrType.{parts, numbers}
use Rattle.ir_types.specs.Layout.{Layout, layout, laid_out, undivided, every, joined, array_of, struct_of}
use Rattle.ir_types.specs.Standing.{Has}
use Rattle.ir_type_equality.specs.Equality.{AreAll, AreAlike, AreEqualWithin, Ends}
use Rattle.ir_type_equality.specs.Numbers.{HaveOneNumber, IsRound, AreCanonical, RoundsAreEnough}

-- the numbers tell equal types from others, where the structure of the first ends within so many levels
abbrev pub AreExact : List IrType → ℕ → List ℕ → Type 0
AreExact types levels ns = (t u : ℕ) → Ends types levels t → HaveOneNumber ns t u ↔ AreEqualWithin types levels t u

-- fields that are the same by P, where P gives Q for each field of the first list
all_from : (P Q : ℕ → ℕ → Type 0) (ts us : List TypeId) → ((x y : ℕ) → Has (numbers ts) x → P x y → Q x y) → AreAll P ts us → AreAll Q ts us
all_from P Q [] [] f h = tt
all_from P Q [] (u ∷ us) f h = absurd h
all_from P Q (t ∷ ts) [] f h = absurd h
all_from P Q (t ∷ ts) (u ∷ us) f h = (f t.0 u.0 (0, refl) h.0, all_from P Q ts us (λ x y i p. f x y (suc i.0, i.1) p) h.1)

-- contents that are alike by P, where P gives Q for each part of the first
alike_from : (P Q : ℕ → ℕ → Type 0) (t u : ℕ) (a b : IrType) → ((x y : ℕ) → Has (parts a) x → P x y → Q x y) → AreAlike P t u a b → AreAlike Q t u a b
alike_from P Q t u Void Void f h = tt
alike_from P Q t u (Int width) (Int other) f h = h
alike_from P Q t u Ptr Ptr f h = tt
alike_from P Q t u (Array count elem) (Array size item) f h = (h.0, f elem.0 item.0 (0, refl) h.1)
alike_from P Q t u (Struct fields packed) (Struct others is_packed) f h = (h.0, all_from P Q fields others f h.1)
alike_from P Q t u Opaque Opaque f h = h
alike_from P Q t u _ _ f h = absurd h

there : {X : Type 0} → (xs : List X) (k : ℕ) → k < length xs → (x : X) × (slice_get xs k ≡ Some x)
there [] k l = absurd (omega (arith, l))
there (x ∷ xs) zero l = (x, refl)
there (x ∷ xs) (suc k) l = there xs k (omega (arith, l))

-- a number that a type of the table shares is that of a type of the table
shared : (types : List IrType) (ns : List ℕ) (t u : ℕ) (a : IrType) → length ns ≡ length types → slice_get types t ≡ Some a → HaveOneNumber ns t u
    → (b : IrType) × (slice_get types u ≡ Some b)
shared types ns t u a long at same =
    let inside : t < length types = slice_get_within types t a at in
    let n = there ns t (omega arith) in
    let here : slice_get ns u ≡ Some n.0 = sym same ∙ n.1 in
    let within : u < length ns = slice_get_within ns u n.0 here in
    there types u (omega arith)

-- one round makes numbers exact one level deeper
pub one_deeper : (types : List IrType) (levels : ℕ) (old new : List ℕ) → AreExact types levels old → IsRound types old new → AreExact types (suc levels) new
one_deeper types levels old new exact round t u ends = (
  λ same. let other = shared types new t u ends.0 round.long ends.1 same in (
    ends.0,
    other.0,
    ends.1,
    other.1,
    alike_from (HaveOneNumber old) (AreEqualWithin types levels) t u ends.0 other.0 (λ x y i p. (exact x y (ends.2 x i)).0 p)
        ((round.same t u ends.0 other.0 ends.1 other.1).0 same),
  ),
  λ equal. let is : equal.0 ≡ ends.0 = same_Some equal.0 ends.0 (sym equal.2 ∙ ends.1) in
      (round.same t u ends.0 equal.1 ends.1 equal.3).1
      (alike_from (AreEqualWithin types levels) (HaveOneNumber old) t u ends.0 equal.1 (λ x y i p. (exact x y (ends.2 x i)).1 p)
      (subst (λ (a : IrType). AreAlike (AreEqualWithin types levels) t u a equal.1) is equal.4)),
)

-- before the first round nothing is claimed
pub none_yet : (types : List IrType) (ns : List ℕ) → AreExact types 0 ns
none_yet types ns t u ends = absurd ends

-- numbers that a round leaves as they are are exact at each level
pub stable : (types : List IrType) (ns : List ℕ) → IsRound types ns ns → (levels : ℕ) → AreExact types levels ns
stable types ns round zero = none_yet types ns
stable types ns round (suc levels) = one_deeper types levels ns ns (stable types ns round levels) round

-- equal types are equal within the levels in which the structure of the first ends
trimmed : (types : List IrType) (levels n t u : ℕ) → AreEqualWithin types levels t u → Ends types n t → AreEqualWithin types n t u
trimmed types zero n t u equal ends = absurd equal
trimmed types (suc levels) zero t u equal ends = absurd ends
trimmed types (suc levels) (suc n) t u equal ends =
    let is : equal.0 ≡ ends.0 = same_Some equal.0 ends.0 (sym equal.2 ∙ ends.1) in
    let alike = subst (λ (a : IrType). AreAlike (AreEqualWithin types levels) t u a equal.1) is equal.4 in (
      ends.0,
      equal.1,
      ends.1,
      equal.3,
      alike_from (AreEqualWithin types levels) (AreEqualWithin types n) t u ends.0 equal.1 (λ x y i p. trimmed types levels n x y p (ends.2 x i)) alike,
    )

joined_some : (o : Option Layout) (os : Option (List Layout)) (ls : List Layout) → joined o os ≡ Some ls
    → ((l : Layout) × (o ≡ Some l)) × ((rest : List Layout) × (os ≡ Some rest))
joined_some None os ls e = absurd (none-some ls e)
joined_some (Some l) None ls e = absurd (none-some ls e)
joined_some (Some l) (Some rest) ls e = ((l, refl), (rest, refl))

-- where all of the types have layouts, each has one
each_laid : (of : ℕ → Option Layout) (ts : List ℕ) (ls : List Layout) → every of ts ≡ Some ls → (part : ℕ) → Has ts part → (l : Layout) × (of part ≡ Some l)
each_laid of [] ls e part (k, at) = absurd (none-some part at)
each_laid of (t ∷ ts) ls e part (zero, at) =
    let is : t ≡ part = same_Some t part at in
    subst (λ (x : ℕ). (l : Layout) × (of x ≡ Some l)) is (joined_some (of t) (every of ts) ls e).0
each_laid of (t ∷ ts) ls e part (suc k, at) = let rest = (joined_some (of t) (every of ts) ls e).1 in each_laid of ts rest.0 rest.1 part (k, at)

mapped_some : {A B : Type 0} → (f : A → B) (o : Option A) (b : B) → option_map f o ≡ Some b → (a : A) × (o ≡ Some a)
mapped_some f None b e = absurd (none-some b e)
mapped_some f (Some a) b e = (a, refl)

-- the parts of a type that is laid out are laid out
parts_laid : (of : ℕ → Option Layout) (a : IrType) (l : Layout) → laid_out of a ≡ Some l → (part : ℕ) → Has (parts a) part → (m : Layout) × (of part ≡ Some m)
parts_laid of (Array count elem) l e part (zero, at) =
    let is : elem.0 ≡ part = same_Some elem.0 part at in
    subst (λ (x : ℕ). (m : Layout) × (of x ≡ Some m)) is (mapped_some (array_of count) (of elem.0) l e)
parts_laid of (Array count elem) l e part (suc k, at) = absurd (none-some part at)
parts_laid of (Struct fields packed) l e part h =
    let ls = mapped_some (struct_of packed) (every of (numbers fields)) l e in each_laid of (numbers fields) ls.0 ls.1 part h
parts_laid of _ l e part h = absurd (none-some part h.1)

-- a type that is laid out has a structure that ends
pub laid_ends : (types : List IrType) (levels t : ℕ) (l : Layout) → layout types levels t ≡ Some l → Ends types (suc levels) t
unfolding layout
laid_ends types zero t l e = go (slice_get types t) refl e
  where
    bare : (a : IrType) → undivided a ≡ Some l → (part : ℕ) → Has (parts a) part → ⊥
    bare (Array count elem) f part h = none-some l f
    bare (Struct fields packed) f part h = none-some l f
    bare _ f part h = none-some part h.1

    go : (o : Option IrType) → slice_get types t ≡ o → option_and_then undivided o ≡ Some l → Ends types 1 t
    go None is f = absurd (none-some l f)
    go (Some a) is f = (a, is, λ part h. absurd (bare a f part h))
laid_ends types (suc levels) t l e = go (λ part m f. laid_ends types levels part m f) (slice_get types t) refl e
  where
    go : ((part : ℕ) (m : Layout) → layout types levels part ≡ Some m → Ends types (suc levels) part) → (o : Option IrType) → slice_get types t ≡ o
        → option_and_then (laid_out (layout types levels)) o ≡ Some l → Ends types (suc (suc levels)) t
    go below None is f = absurd (none-some l f)
    go below (Some a) is f = (a, is, λ part h. let m = parts_laid (layout types levels) a l f part h in below part m.0 m.1)

-- numbers that are exact 65 levels deep are canonical
pub canonical_by : (types : List IrType) (ns : List ℕ) → length ns ≡ length types → AreExact types 65 ns → AreCanonical types ns
canonical_by types ns long exact = record {
  long = long;
  equal = λ t u laid. let ends = laid_ends types 64 t laid.0 laid.1 in (
    λ same. (65, (exact t u ends).0 same),
    λ equal. (exact t u ends).1 (trimmed types equal.0 65 t u equal.1 ends),
  );
}

-- numbers after so many rounds are exact as many levels deep
after : (types : List IrType) (ns : ℕ → List ℕ) (most : ℕ) → ((i : ℕ) → i < most → IsRound types (ns i) (ns (i + 1))) → (levels : ℕ) → levels < most + 1
    → AreExact types levels (ns levels)
after types ns most rounds zero l = none_yet types (ns 0)
after types ns most rounds (suc levels) l =
    let next : levels + 1 ≡ suc levels = omega arith in
    let round : IsRound types (ns levels) (ns (suc levels)) = subst (λ (n : ℕ). IsRound types (ns levels) (ns n)) next (rounds levels (omega (arith, l))) in
    one_deeper types levels (ns levels) (ns (suc levels)) (after types ns most rounds levels (omega (arith, l))) round

-- the law of rounds
pub enough : RoundsAreEnough
enough = record {
  stable = λ types ns round. canonical_by types ns round.long (stable types ns round 65);
  last = λ types ns rounds. canonical_by types (ns 65) (rounds 64 (omega arith)).long (after types ns 65 rounds 65 (omega arith));
}

-- ---- round after round

-- numbers of all types, exact so many levels deep
pub record AreExactTo (types : List IrType) (levels : ℕ) (ns : List ℕ) : Type 0 where
  pub long : length ns ≡ length types
  pub exact : AreExact types levels ns

-- numbers after the first round, whatever was there
pub first_round : (types : List IrType) (old new : List ℕ) → IsRound types old new → AreExactTo types (suc 0) new
first_round types old new round = record { long = round.long; exact = one_deeper types 0 old new (none_yet types old) round }

-- numbers after one more, which read those before it as `seen`
pub next_round : (types : List IrType) (i : ℕ) (old seen new : List ℕ) → AreExactTo types (suc i) old → seen ≡ old → IsRound types seen new
    → AreExactTo types (suc (i + 1)) new
next_round types i old seen new h is round =
    let next : suc i ≡ i + 1 = omega arith in
    let old_round : IsRound types old new = subst (λ xs. IsRound types xs new) is round in
    record { long = round.long; exact = subst (λ n. AreExact types (suc n) new) next (one_deeper types (suc i) old new h.exact old_round) }

-- numbers that the next round leaves as they are
pub settled : (types : List IrType) (ns seen new shown : List ℕ) → seen ≡ ns → IsRound types seen new → new ≡ ns → shown ≡ ns → AreCanonical types shown
settled types ns seen new shown is round same out =
    let round_of : IsRound types ns new = subst (λ xs. IsRound types xs new) is round in
    subst (λ xs. AreCanonical types xs) (sym out) (enough.stable types ns (subst (λ xs. IsRound types ns xs) same round_of))

-- numbers after the last one
pub enough_rounds : (types : List IrType) (i : ℕ) (ns shown : List ℕ) → AreExactTo types (suc i) ns → i ≡ 64 → shown ≡ ns → AreCanonical types shown
enough_rounds types i ns shown h is out =
    subst (λ xs. AreCanonical types xs) (sym out) (canonical_by types ns h.long (subst (λ n. AreExact types (suc n) ns) is h.exact))
