-- Every system has one list of sweeps.
use Rattle.std.proofs.Common.{◌≡◌, ◌≢◌, ◌⊎◌, ◌^◌, ℕ, zero, suc, ◌+◌, ◌-◌, ◌<◌, ◌≤◌, List, length, set, sum, bit_xor, slice_index, refl, ap, sym, subst}
use Rattle.std.proofs.Common.{◌∙◌, arith, inl, inr}
use Rattle.std.proofs.lemmas.Bool.{cases_eq, cases_lt}
use Rattle.std.proofs.lemmas.List.Sums.{sum_by-set}
use Rattle.rule_terms.specs.System.{System, IsSystem, value_in}
use Rattle.why_check.specs.declared.entry.Entry.{Entry}
use Rattle.why_check.proofs.Removed.{left_fits}
use Rattle.why_make.specs.declared.course.Course.{Course}
use Rattle.why_make.specs.declared.refusal.TheConstants.{MAX_ENTRIES}
use Rattle.why_make.specs.Sweeps.{IsListOfSweeps, lost_of, swept, sweeps, visited}
use Rattle.why_make.specs.Going.{IsSettled, SweepsOverflow}
use Rattle.why_make.proofs.Lost.{lost_less}
use Rattle.why_make.proofs.Sweeping.{IsCourse, course_long, swept_course, sweeps_course, swept_grows}
use Rattle.why_make.proofs.Going.{visited_none, visited_some}

module _ (s : System) where
  -- what a sweep does not change, no number of sweeps changes
  settled_on : (n k : ℕ) → sweeps s (suc n) ≡ sweeps s n → sweeps s (n + k) ≡ sweeps s n
  unfolding sweeps
  settled_on n zero e = let f : n + 0 ≡ n = omega arith in rw f refl
  settled_on n (suc k) e = let f : n + suc k ≡ suc (n + k) = omega arith in rw f (ap (λ (c : Course). swept s c (length s.masks)) (settled_on n k e) ∙ e)

  settled_past : (n m : ℕ) → n ≤ m → sweeps s (suc n) ≡ sweeps s n → sweeps s m ≡ sweeps s n
  settled_past n m l e = let f : n + (m - n) ≡ m = omega arith in subst (λ (k : ℕ). sweeps s k ≡ sweeps s n) f (settled_on n (m - n) e)

  sweep_grows : (n : ℕ) → length (sweeps s n).entries ≤ length (sweeps s (suc n)).entries
  unfolding sweeps swept
  sweep_grows n =
      let e : 0 + length s.masks ≡ length s.masks = omega arith in
      subst (λ (k : ℕ). length (sweeps s n).entries ≤ length (swept s (sweeps s n) k).entries) e (swept_grows s (sweeps s n) 0 (length s.masks))

  sweeps_grow : (n k : ℕ) → length (sweeps s n).entries ≤ length (sweeps s (n + k)).entries
  sweeps_grow n zero = let f : n + 0 ≡ n = omega arith in rw f (omega arith)
  sweeps_grow n (suc k) = let f : n + suc k ≡ suc (n + k) = omega arith in rw f (omega (arith, sweeps_grow n k, sweep_grows (n + k)))

  -- no number of sweeps makes more entries than the list has
  list_longest : (entries : List Entry) → IsListOfSweeps s entries → (n : ℕ) → length (sweeps s n).entries ≤ length entries
  list_longest entries list n = elim (cases_lt list.0 n) [
    | inl past ↦ omega (arith, ap (λ (c : Course). length c.entries) (settled_past list.0 n (omega (arith, past)) list.2), ap length list.1)
    | inr before ↦
        let f : n + (list.0 - n) ≡ list.0 = omega (arith, before) in
        let grows : length (sweeps s n).entries ≤ length (sweeps s list.0).entries =
        subst (λ (k : ℕ). length (sweeps s n).entries ≤ length (sweeps s k).entries) f (sweeps_grow n (list.0 - n)) in
        omega (arith, grows, ap length list.1)
  ]

  pub list_overflows : (count : ℕ) → SweepsOverflow s count →
      (count ≡ MAX_ENTRIES + 1) × ((entries : List Entry) → IsListOfSweeps s entries → MAX_ENTRIES < length entries)
  list_overflows count over = (over.0, λ entries list. omega (arith, over.1.1, list_longest entries list over.1.0))

  pub list_one : (entries others : List Entry) → IsListOfSweeps s entries → IsListOfSweeps s others → entries ≡ others
  list_one entries others a b = elim (cases_lt a.0 b.0) [
    | inl l ↦ a.1 ∙ ap (λ (c : Course). c.entries) (sym (settled_past a.0 b.0 (omega (arith, l)) a.2)) ∙ sym b.1
    | inr l ↦ a.1 ∙ ap (λ (c : Course). c.entries) (settled_past b.0 a.0 (omega (arith, l)) b.2) ∙ sym b.1
  ]

  pub settled_list : (c : Course) (entries : List Entry) → entries ≡ c.entries → IsSettled s c → IsListOfSweeps s entries
  settled_list c entries e is = (is.0, e ∙ ap (λ (d : Course). d.entries) is.1, is.2)

  -- ---- sweeps end: one that changes something lowers the sum of the words
  module _ (is_system : IsSystem s) where
    visited_lower : (c : Course) (p : ℕ) → IsCourse s c → p < length s.masks → (visited s c p ≡ c) ⊎ (sum (visited s c p).words < sum c.words)
    visited_lower c p is l = elim (cases_eq (lost_of s c.words p) 0) [
      | inl none ↦ inl (visited_none s c p none)
      | inr some ↦
          let small : slice_index c.words p < 2 ^ 64 =
          subst (λ (xs : List ℕ). slice_index xs p < 2 ^ 64) (sym is.words) (left_fits s is_system c.entries is.may p l) in
          let written : ℕ = bit_xor (slice_index c.words p) (lost_of s c.words p) in
          let after : sum (visited s c p).words ≡ sum (set c.words p written) = ap (λ (d : Course). sum d.words) (visited_some s c p some) in
          let sums : sum (set c.words p written) + slice_index c.words p ≡ sum c.words + written =
          sum_by-set (λ (x : ℕ). x) c.words p written 0 (omega (arith, l, course_long s is_system c is)) in
          let less : written < slice_index c.words p = lost_less (slice_index c.words p) (value_in s p c.words) small some in
          inr (omega (arith, after, sums, less))
    ]

    swept_lower : (c : Course) (n : ℕ) → IsCourse s c → n ≤ length s.masks → (swept s c n ≡ c) ⊎ (sum (swept s c n).words < sum c.words)
    unfolding swept
    swept_lower c zero is l = inl refl
    swept_lower c (suc n) is l =
        elim (swept_lower c n is (omega arith)) [
          | inl same ↦ elim (visited_lower c n is (omega arith)) [
            | inl also ↦ inl (ap (λ (d : Course). visited s d n) same ∙ also)
            | inr less ↦ inr (omega (arith, ap (λ (d : Course). sum (visited s d n).words) same, less))
          ]
          | inr less ↦ elim (visited_lower (swept s c n) n (swept_course s is_system c n is (omega arith)) (omega arith)) [
            | inl also ↦ inr (omega (arith, ap (λ (d : Course). sum d.words) also, less))
            | inr more ↦ inr (omega (arith, more, less))
          ]
        ]

    -- so many sweeps as the sum of the words are enough
    ends : (k n : ℕ) → sum (sweeps s n).words < k → (entries : List Entry) × IsListOfSweeps s entries
    unfolding sweeps
    ends zero n l = absurd (omega arith)
    ends (suc k) n l = elim (swept_lower (sweeps s n) (length s.masks) (sweeps_course s is_system n) (omega arith)) [
      | inl same ↦ ((sweeps s n).entries, (n, refl, same))
      | inr less ↦ let fewer : sum (sweeps s (suc n)).words < sum (sweeps s n).words = less in ends k (suc n) (omega (arith, fewer, l))
    ]

    pub list_exists : (entries : List Entry) × IsListOfSweeps s entries
    list_exists = ends (sum (sweeps s 0).words + 1) 0 (omega arith)
