-- Cases of a `switch`, looked up one after the other.
use Rattle.std.proofs.Common.{◌≡◌, ◌+◌, ◌<◌, ◌≤◌, ◌∙◌, ◌↔◌, ℕ, Bool, true, false, not, MatchBool, List, length, slice_get, None, Some}
use Rattle.std.proofs.Common.{arith, ap, subst, sym, refl, inl, inr, IsTrue}
use Rattle.std.proofs.lemmas.Bool.{true≢false}
use Rattle.std.proofs.lemmas.Bool.Decides.{eqb_tells}
use Rattle.std.proofs.lemmas.Option.{none-some, same_Some, slice_get_within}
use Rattle.ir_module.specs.declared.op.Case.{Case}
use Rattle.ir_module.specs.declared.module.Module.{Module}
use Rattle.ir_module.specs.Operands.{literal}
use Rattle.ir_rules.specs.Operations.{AreDistinct}
use Rattle.ir_rules.specs.Lookups.{AreSeen}

-- before the first case none is seen
pub none_seen : (m : Module) (cases : List Case) (has : ℕ → Bool) → ((n : ℕ) → has n ≡ false) → AreSeen m cases has 0
none_seen m cases has none = record {
  from = λ n e. absurd (true≢false (sym e ∙ none n));
  all = λ k n c l at is. absurd (omega (arith, l));
  distinct = λ j k n a b lj lk at_j at_k x y. absurd (omega (arith, lj));
}

-- a case that is no literal
pub seen_skip : (m : Module) (cases : List Case) (has : ℕ → Bool) (i : ℕ) (c : Case) → slice_get cases i ≡ Some c → literal m c.val ≡ None
    → AreSeen m cases has i → AreSeen m cases has (i + 1)
seen_skip m cases has i c here no_number h = record {
  from = λ n e. let f = h.from n e in (f.0, f.1, omega (arith, f.2), f.3, f.4);
  all = λ k n x l at is. elim (eqb_tells k i) [
    | inl (_, same) ↦ absurd (not_here k x n same at is)
    | inr (_, other) ↦ h.all k n x (omega (arith, l, other)) at is
  ];
  distinct = λ j k n a b lj lk at_j at_k x y. elim (eqb_tells j i) [
    | inl (_, same) ↦ absurd (not_here j a n same at_j x)
    | inr (_, other_j) ↦ elim (eqb_tells k i) [
      | inl (_, same) ↦ absurd (not_here k b n same at_k y)
      | inr (_, other_k) ↦ h.distinct j k n a b (omega (arith, lj, other_j)) (omega (arith, lk, other_k)) at_j at_k x y
    ]
  ];
}
  where
    not_here : (k : ℕ) (x : Case) (n : ℕ) → k ≡ i → slice_get cases k ≡ Some x → literal m x.val ≡ Some n → ⊥
    not_here k x n same at is =
        let at_i : slice_get cases i ≡ Some x = subst (λ (p : ℕ). slice_get cases p ≡ Some x) same at in
        let one : c ≡ x = same_Some c x (sym here ∙ at_i) in
        none-some n (sym no_number ∙ ap (λ (z : Case). literal m z.val) one ∙ is)

-- a case with a number that was not seen
pub seen_more : (m : Module) (cases : List Case) (has more : ℕ → Bool) (i : ℕ) (c : Case) (n0 : ℕ) → slice_get cases i ≡ Some c → literal m c.val ≡ Some n0
    → has n0 ≡ false → more n0 ≡ true → ((n : ℕ) → (n0 ≡ n → ⊥) → more n ≡ has n) → AreSeen m cases has i → AreSeen m cases more (i + 1)
seen_more m cases has more i c n0 here number fresh now others h = record {
  from = λ n e. elim (eqb_tells n0 n) [
    | inl (_, same) ↦ (i, c, omega arith, here, number ∙ ap Some same)
    | inr (_, other) ↦ (let f = h.from n (sym (others n other) ∙ e) in (f.0, f.1, omega (arith, f.2), f.3, f.4))
  ];
  all = λ k n x l at is. elim (eqb_tells n0 n) [
    | inl (_, same) ↦ subst (λ (z : ℕ). more z ≡ true) same now
    | inr (_, other) ↦ elim (eqb_tells k i) [
      | inl (_, same) ↦ absurd (other (number_is k x n same at is))
      | inr (_, before) ↦ others n other ∙ h.all k n x (omega (arith, l, before)) at is
    ]
  ];
  distinct = λ j k n a b lj lk at_j at_k x y. elim (eqb_tells j i) [
    | inl (_, same_j) ↦ elim (eqb_tells k i) [
      | inl (_, same_k) ↦ same_j ∙ sym same_k
      | inr (_, other_k) ↦ absurd (not_before k b (omega (arith, lk, other_k)) at_k (y ∙ ap Some (sym (number_is j a n same_j at_j x))))
    ]
    | inr (_, other_j) ↦ elim (eqb_tells k i) [
      | inl (_, same_k) ↦ absurd (not_before j a (omega (arith, lj, other_j)) at_j (x ∙ ap Some (sym (number_is k b n same_k at_k y))))
      | inr (_, other_k) ↦ h.distinct j k n a b (omega (arith, lj, other_j)) (omega (arith, lk, other_k)) at_j at_k x y
    ]
  ];
}
  where
    number_is : (k : ℕ) (x : Case) (n : ℕ) → k ≡ i → slice_get cases k ≡ Some x → literal m x.val ≡ Some n → n0 ≡ n
    number_is k x n same at is =
        let at_i : slice_get cases i ≡ Some x = subst (λ (p : ℕ). slice_get cases p ≡ Some x) same at in
        let one : c ≡ x = same_Some c x (sym here ∙ at_i) in
        same_Some n0 n (sym number ∙ ap (λ (z : Case). literal m z.val) one ∙ is)

    not_before : (k : ℕ) (x : Case) → k < i → slice_get cases k ≡ Some x → literal m x.val ≡ Some n0 → ⊥
    not_before k x l at is = true≢false (sym (h.all k n0 x l at is) ∙ fresh)

-- a case with a number that was seen
pub not_distinct : (m : Module) (cases : List Case) (has : ℕ → Bool) (i : ℕ) (c : Case) (n : ℕ) → slice_get cases i ≡ Some c → literal m c.val ≡ Some n
    → has n ≡ true → AreSeen m cases has i → IsTrue false ↔ AreDistinct m cases
not_distinct m cases has i c n here number seen h = (
  λ t. absurd (true≢false (sym t)),
  λ d. let f = h.from n seen in let same : f.0 ≡ i = d f.0 i n f.1 c f.3 here f.4 number in absurd (omega (arith, f.2, same)),
)

-- all cases were seen
pub all_distinct : (m : Module) (cases : List Case) (has : ℕ → Bool) (i : ℕ) → length cases ≤ i → AreSeen m cases has i → IsTrue true ↔ AreDistinct m cases
all_distinct m cases has i l h = (
  λ t. λ j k n a b at_j at_k x y. h.distinct j k n a b (omega (arith, l, slice_get_within cases j a at_j)) (omega
      (arith, l, slice_get_within cases k b at_k)) at_j at_k x y,
  λ d. refl,
)

-- what a look at one more case tells
pub case_told : (m : Module) (cases : List Case) (has more : ℕ → Bool) (i : ℕ) (c : Case) (n : ℕ) (r : Bool) → slice_get cases i ≡ Some c
    → literal m c.val ≡ Some n
    → r ≡ not (has n) → more n ≡ true → ((k : ℕ) → (n ≡ k → ⊥) → more k ≡ has k) → AreSeen m cases has i
    → MatchBool r (AreSeen m cases more (i + 1)) (AreDistinct m cases → ⊥)
case_told m cases has more i c n r here number is now others h = go (has n) refl r is
  where
    go : (t : Bool) → has n ≡ t → (b : Bool) → b ≡ not (has n) → MatchBool b (AreSeen m cases more (i + 1)) (AreDistinct m cases → ⊥)
    go true e true f = absurd (true≢false (f ∙ ap not e))
    go true e false f = λ d. true≢false (sym ((not_distinct m cases has i c n here number e h).1 d))
    go false e true f = seen_more m cases has more i c n here number e now others h
    go false e false f = absurd (true≢false (sym (f ∙ ap not e)))
