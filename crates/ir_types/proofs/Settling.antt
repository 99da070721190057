-- Types that are settled as others are laid out.
use Rattle.std.proofs.Common.{ℕ, zero, suc, ◌≤◌, ◌≡◌, refl, sym, ap, subst, ◌∙◌, arith, inl, inr, Option, None, Some, List, [], ◌∷◌, ◌++◌, length, drop}
use Rattle.std.specs.Prelude.{slice_get}
use Rattle.std.proofs.lemmas.Option.{none-some, same_Some, slice_get_within}
use Rattle.std.proofs.lemmas.Bool.{cases_eq}
use Rattle.shelf.proofs.Shelf.{get_kept}
use Rattle.ir_types.specs.declared.ir_type.IrType.{IrType}
use Rattle.ir_types.specs.declared.standing.Extent.{Extent}
use Rattle.ir_types.specs.declared.standing.Standing.{Standing}
use Rattle.ir_types.specs.IrType.{parts}
use Rattle.ir_types.specs.Layout.{Layout, layout}
use Rattle.ir_types.specs.Standing.{Shows, AreSound, AreSettledBut, AreWaiting, Grows, Has, IsBlocked, laid, users_of}
use Rattle.ir_types.proofs.Layouts.{laid_out_part, flat_has_no_part, layout_depth, layout_entry, layout_flat, layout_at}
use Rattle.ir_types.proofs.Standings.{blocked_alike}

-- ---- lists of numbers
pub has_left : (xs ys : List ℕ) (x : ℕ) → Has xs x → Has (xs ++ ys) x
has_left xs ys x (k, at) = (k, get_kept xs ys k x at)

pub has_right : (xs ys : List ℕ) (x : ℕ) → Has ys x → Has (xs ++ ys) x
has_right [] ys x h = h
has_right (y ∷ xs) ys x h = let rest = has_right xs ys x h in (suc rest.0, rest.1)

has_first : (xs : List ℕ) (x y : ℕ) → x ≡ y → Has (y ∷ xs) x
has_first xs x y e = (zero, ap Some (sym e))

has_later : (xs : List ℕ) (x y : ℕ) → Has xs x → Has (y ∷ xs) x
has_later xs x y (k, at) = (suc k, at)

has_cases : {P : Type 0} (xs : List ℕ) (x y : ℕ) → Has (y ∷ xs) x → (x ≡ y → P) → (Has xs x → P) → P
has_cases xs x y (zero, at) p q = p (sym (same_Some y x at))
has_cases xs x y (suc k, at) p q = q (k, at)

pub drop_all : (xs : List ℕ) (n : ℕ) → length xs ≤ n → drop n xs ≡ []
drop_all [] zero l = refl
drop_all [] (suc n) l = refl
drop_all (x ∷ xs) zero l = absurd (omega arith)
drop_all (x ∷ xs) (suc n) l = drop_all xs n (omega arith)

-- ---- what is laid out stays
pub open_back : (old new : List Standing) (t : ℕ) → Grows old new → laid new t ≡ None → laid old t ≡ None
open_back old new t grows e = go (laid old t) refl
  where
    go : (o : Option Extent) → laid old t ≡ o → laid old t ≡ None
    go None is = is
    go (Some x) is = absurd (none-some x (sym e ∙ grows t x is))

pub waiting_grows : (users : List (List ℕ)) (types : List IrType) (old new : List Standing) → Grows old new → AreWaiting users types old
    → AreWaiting users types new
waiting_grows users types old new grows h t part type at open_t is_part open_part =
    h t part type at (open_back old new t grows open_t) is_part (open_back old new part grows open_part)

-- ---- one type is looked at
-- it could not be laid out
pub passed : (types : List IrType) (old new : List Standing) (t : ℕ) → ((u : ℕ) → laid new u ≡ laid old u)
    → ((type : IrType) → slice_get types t ≡ Some type → laid new t ≡ None → IsBlocked new type)
    → (pending : List ℕ) → AreSettledBut (t ∷ pending) types old → AreSettledBut pending types new
passed types old new t alike here pending h u type at is out =
    elim (cases_eq u t) [
      | inl same ↦ here type (subst (λ (x : ℕ). slice_get types x ≡ Some type) same at) (subst (λ (x : ℕ). laid new x ≡ None) same is)
      | inr other ↦ blocked_alike old new type alike (h u type at (sym (alike u) ∙ is) (λ has. has_cases pending u t has other out))
    ]

-- it was laid out, and those that wait for it are next
pub laid_then : (users : List (List ℕ)) (types : List IrType) (old new : List Standing) (t : ℕ) → laid old t ≡ None
    → ((u : ℕ) → (u ≡ t → ⊥) → laid new u ≡ laid old u)
    → ((type : IrType) → slice_get types t ≡ Some type → laid new t ≡ None → IsBlocked new type) → AreWaiting users types old
    → (pending : List ℕ) → AreSettledBut (t ∷ pending) types old → AreSettledBut (users_of users t ++ pending) types new
laid_then users types old new t before others here waits pending h u type at is out =
    elim (cases_eq u t) [
      | inl same ↦ here type (subst (λ (x : ℕ). slice_get types x ≡ Some type) same at) (subst (λ (x : ℕ). laid new x ≡ None) same is)
      | inr other ↦
          (let was : laid old u ≡ None = sym (others u other) ∙ is in
          let b = h u type at was (λ has. has_cases pending u t has other (λ p. out (has_right (users_of users t) pending u p))) in
          record {
            part = b.part;
            is_part = b.is_part;
            deep = λ e laid_part. elim (cases_eq b.part t) [
              | inl same ↦ absurd (out (has_left (users_of users t) pending u
                  (waits u t type at was (subst (Has (parts type)) same b.is_part) before)))
              | inr elsewhere ↦ b.deep e (sym (others b.part elsewhere) ∙ laid_part)
            ];
          })
    ]

-- no such type is in the table
pub absent : (types : List IrType) (ss : List Standing) (t : ℕ) → length types ≤ t → (pending : List ℕ) → AreSettledBut (t ∷ pending) types ss
    → AreSettledBut pending types ss
absent types ss t past pending h u type at is out =
    h u type at is (λ has. has_cases pending u t has (λ e. let inside = slice_get_within types u type at in absurd (omega arith)) out)

pub grows_by : (old new : List Standing) (t : ℕ) → laid old t ≡ None → ((u : ℕ) → (u ≡ t → ⊥) → laid new u ≡ laid old u) → Grows old new
grows_by old new t before others u e is =
    elim (cases_eq u t) [
      | inl same ↦ absurd (none-some e (sym before ∙ (rw same at is)))
      | inr other ↦ others u other ∙ is
    ]

pub alike_but : (old new : List Standing) (t : ℕ) → laid new t ≡ laid old t → ((u : ℕ) → (u ≡ t → ⊥) → laid new u ≡ laid old u) → (u : ℕ)
    → laid new u ≡ laid old u
alike_but old new t here others u =
    elim (cases_eq u t) [
      | inl same ↦ rw same here
      | inr other ↦ others u other
    ]

-- ---- a type that is nested within bounds is laid out
-- an extent that is there is that of the layout
shown : (types : List IrType) (ss : List Standing) → AreSound types ss → (k t : ℕ) (l : Layout) (e : Extent) → k ≤ 64 → layout types k t ≡ Some l
    → laid ss t ≡ Some e → Shows l e
shown types ss sound k t l e few is at =
    let from = sound t e at in
    let same : from.0 ≡ l = same_Some from.0 l (sym from.1 ∙ layout_at types k 64 t l few is) in
    subst (λ (x : Layout). Shows x e) same from.2

there : (ss : List Standing) (t : ℕ) (o : Option Extent) → laid ss t ≡ o → (laid ss t ≡ None → ⊥) → (e : Extent) × (laid ss t ≡ Some e)
there ss t None is n = absurd (n is)
there ss t (Some e) is n = (e, is)

not_open_flat : (types : List IrType) (ss : List Standing) → AreSettledBut [] types ss → (t : ℕ) (l : Layout) → layout types zero t ≡ Some l
    → laid ss t ≡ None → ⊥
not_open_flat types ss settled t l is at =
    let from = layout_flat types t l is in
    let b = settled t from.0 from.1 at (λ has. none-some t has.1) in
    flat_has_no_part from.0 l b.part from.2 b.is_part

not_open : (types : List IrType) (ss : List Standing) → AreSettledBut [] types ss → (k t : ℕ) (l : Layout) → suc k ≤ 64 → layout types (suc k) t ≡ Some l
    → ((p : ℕ) (q : Layout) → layout types k p ≡ Some q → (e : Extent) × (laid ss p ≡ Some e) × Shows q e) → laid ss t ≡ None → ⊥
not_open types ss settled k t l few is parts_are at =
    let from = layout_entry types k t l is in
    let b = settled t from.0 from.1 at (λ has. none-some t has.1) in
    let part = laid_out_part (layout types k) from.0 l b.part from.2 b.is_part in
    let kept = parts_are b.part part.0 part.1 in
    let depth = layout_depth types k b.part part.0 part.1 in
    omega (arith, b.deep kept.0 kept.1, kept.2.nesting, depth)

pub laid_if_finite : (types : List IrType) (ss : List Standing) → AreSound types ss → AreSettledBut [] types ss
    → (k t : ℕ) (l : Layout) → k ≤ 64 → layout types k t ≡ Some l → (e : Extent) × (laid ss t ≡ Some e) × Shows l e
laid_if_finite types ss sound settled zero t l few is =
    let e = there ss t (laid ss t) refl (not_open_flat types ss settled t l is) in
    (e.0, e.1, shown types ss sound zero t l e.0 few is e.1)
laid_if_finite types ss sound settled (suc k) t l few is =
    let e = there ss t (laid ss t) refl (not_open types ss settled k t l few is (λ p q at. laid_if_finite types ss sound settled k p q (omega arith) at)) in
    (e.0, e.1, shown types ss sound (suc k) t l e.0 few is e.1)
