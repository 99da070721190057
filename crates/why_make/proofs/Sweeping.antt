-- Sweeps: their entries are a removal, and a sweep that finds nothing leaves nothing to be found.
use Rattle.std.proofs.Common.{◌≡◌, ◌≢◌, ℕ, zero, suc, ◌+◌, ◌^◌, ◌<◌, ◌≤◌, Bool, true, false, ◌==◌, List, [], ◌∷◌, ◌++◌, length, length-append, take}
use Rattle.std.proofs.Common.{bit_and, slice_index, slice_index_or, refl, ap, sym, subst, ◌∙◌, arith, inl, inr, eqb-true}
use Rattle.std.proofs.lemmas.Bool.{cases_lt}
use Rattle.std.proofs.lemmas.List.{get_or_append_left, get_or_push, length_push, take-append-le, take_at}
use Rattle.rule_terms.specs.System.{System, IsSystem, value_in}
use Rattle.rule_terms.proofs.Greatest.{reached_long}
use Rattle.why_check.specs.declared.entry.Entry.{Entry}
use Rattle.why_check.specs.Removal.{IsRemovable, IsRemovableAt, IsRemoval, after_entry, words_after, words_left}
use Rattle.why_check.specs.Judged.{IsComplete, IsGiven}
use Rattle.why_check.proofs.Removed.{after_more, after_none, left_fits, left_reached}
use Rattle.why_make.specs.declared.course.Course.{Course}
use Rattle.why_make.specs.Sweeps.{IsListOfSweeps, entry_at, lost_of, opening, swept, sweeps, visited}
use Rattle.why_make.proofs.Lost.{lost_absent, lost_none, lost_present}

-- the entries of a course are a removal, and its words are what they leave
pub record IsCourse (s : System) (c : Course) : Type 0 where
  pub words : c.words ≡ words_left s c.entries
  pub may : IsRemoval s c.entries

module _ (s : System) where
  -- a removal with one more entry, which may be removed over what is left
  removal_longer : (entries : List Entry) (entry : Entry) → IsRemoval s entries → IsRemovable s (words_left s entries) entry →
      IsRemoval s (entries ++ entry ∷ [])
  removal_longer entries entry may r k l d = elim (cases_lt k (length entries)) [
    | inl before ↦
        let front : take k (entries ++ entry ∷ []) ≡ take k entries = take-append-le k entries (entry ∷ []) (omega arith) in
        let same : slice_index_or (entries ++ entry ∷ []) k d ≡ slice_index_or entries k d = get_or_append_left entries (entry ∷ []) d k before in
        subst (λ (xs : List Entry). IsRemovable s (words_left s xs) (slice_index_or (entries ++ entry ∷ []) k d)) (sym front)
        (subst (IsRemovable s (words_left s (take k entries))) (sym same) (may k before d))
    | inr past ↦
        let last : length entries ≡ k = omega (arith, length_push entries entry) in
        let front : take k (entries ++ entry ∷ []) ≡ entries = take_at entries (entry ∷ []) k last in
        let here : slice_index_or (entries ++ entry ∷ []) k d ≡ entry = get_or_push entries entry d k last in
        subst (λ (xs : List Entry). IsRemovable s (words_left s xs) (slice_index_or (entries ++ entry ∷ []) k d)) (sym front)
        (subst (IsRemovable s (words_left s entries)) (sym here) r)
  ]

  opening_course : IsCourse s (opening s)
  opening_course = record { words = sym (after_none s.masks); may = λ k l d. absurd (omega arith) }

  module _ (is_system : IsSystem s) where
    -- what a position loses may be removed
    lost_removable : (c : Course) (p : ℕ) → IsCourse s c → p < length s.masks → lost_of s c.words p ≢ 0 → IsRemovable s c.words (entry_at s c.words p)
    lost_removable c p is l some =
        let small : slice_index c.words p < 2 ^ 64 =
        subst (λ (xs : List ℕ). slice_index xs p < 2 ^ 64) (sym is.words) (left_fits s is_system c.entries is.may p l) in
        record {
          position = l;
          some = some;
          present = lost_present (slice_index c.words p) (value_in s p c.words) small;
          absent = lost_absent (slice_index c.words p) (value_in s p c.words) small;
        }

    course_longer : (c : Course) (p : ℕ) → IsCourse s c → p < length s.masks → lost_of s c.words p ≢ 0 →
        IsCourse s (record { words = after_entry c.words (entry_at s c.words p); entries = c.entries ++ entry_at s c.words p ∷ [] })
    course_longer c p is l some = record {
      words = ap (λ (xs : List ℕ). after_entry xs (entry_at s c.words p)) is.words ∙ sym (after_more s.masks c.entries (entry_at s c.words p));
      may = removal_longer c.entries (entry_at s c.words p) is.may
          (subst (λ (xs : List ℕ). IsRemovable s xs (entry_at s c.words p)) is.words (lost_removable c p is l some));
    }

    visited_course : (c : Course) (p : ℕ) → IsCourse s c → p < length s.masks → IsCourse s (visited s c p)
    visited_course c p is l = over (lost_of s c.words p == 0) refl where
      over : (b : Bool) → (lost_of s c.words p == 0) ≡ b → IsCourse s (visited s c p)
      over true e = rw e is
      over false e = rw e (course_longer c p is l (λ z. let f : (lost_of s c.words p == 0) ≡ true = ap (λ (x : ℕ). x == 0) z in cc))

    pub swept_course : (c : Course) (n : ℕ) → IsCourse s c → n ≤ length s.masks → IsCourse s (swept s c n)
    unfolding swept
    swept_course c zero is l = is
    swept_course c (suc n) is l = visited_course (swept s c n) n (swept_course c n is (omega arith)) (omega arith)

    pub sweeps_course : (n : ℕ) → IsCourse s (sweeps s n)
    unfolding sweeps
    sweeps_course zero = opening_course
    sweeps_course (suc n) = swept_course (sweeps s n) (length s.masks) (sweeps_course n) (omega arith)

    pub course_long : (c : Course) → IsCourse s c → length c.words ≡ length s.masks
    course_long c is = ap length is.words ∙ reached_long s is_system (words_left s c.entries) (left_reached s is_system c.entries is.may)

  -- ---- entries are never taken back
  visited_grows : (c : Course) (p : ℕ) → length c.entries ≤ length (visited s c p).entries
  visited_grows c p = over (lost_of s c.words p == 0) refl where
    over : (b : Bool) → (lost_of s c.words p == 0) ≡ b → length c.entries ≤ length (visited s c p).entries
    over true e = rw e (omega arith)
    over false e = rw e (omega (arith, length_push c.entries (entry_at s c.words p)))

  pub swept_grows : (c : Course) (n k : ℕ) → length (swept s c n).entries ≤ length (swept s c (n + k)).entries
  unfolding swept
  swept_grows c n zero = let e : n + 0 ≡ n = omega arith in rw e (omega arith)
  swept_grows c n (suc k) =
      let e : n + suc k ≡ suc (n + k) = omega arith in
      rw e (omega (arith, swept_grows c n k, visited_grows (swept s c (n + k)) (n + k)))

  -- a visit that adds no entry found nothing
  visited_none : (c : Course) (p : ℕ) → length (visited s c p).entries ≤ length c.entries → (visited s c p ≡ c) × (lost_of s c.words p ≡ 0)
  visited_none c p short = over (lost_of s c.words p == 0) refl short where
    over : (b : Bool) → (lost_of s c.words p == 0) ≡ b → length (visited s c p).entries ≤ length c.entries → (visited s c p ≡ c) × (lost_of s c.words p ≡ 0)
    over true e h = (rw e refl, eqb-true (lost_of s c.words p) 0 e)
    over false e h =
        let longer : length (c.entries ++ entry_at s c.words p ∷ []) ≤ length c.entries = rw e at h in
        absurd (omega (arith, longer, length_push c.entries (entry_at s c.words p)))

  -- nor did a sweep that adds none
  pub swept_none : (c : Course) (n : ℕ) → length (swept s c n).entries ≤ length c.entries →
      (swept s c n ≡ c) × ((p : ℕ) → p < n → lost_of s c.words p ≡ 0)
  unfolding swept
  swept_none c zero short = (refl, λ p l. absurd (omega arith))
  swept_none c (suc n) short =
      let so_far = swept_none c n (omega (arith, visited_grows (swept s c n) n)) in
      let e : swept s c n ≡ c = so_far.0 in
      let here = visited_none c n (subst (λ (d : Course). length (visited s d n).entries ≤ length c.entries) e short) in (
        ap (λ (d : Course). visited s d n) e ∙ here.0,
        λ p l. elim (cases_lt p n) [
          | inl before ↦ so_far.1 p before
          | inr past ↦ let last : n ≡ p = omega arith in subst (λ (q : ℕ). lost_of s c.words q ≡ 0) last here.1
        ],
      )

  -- ---- the list of sweeps
  pub list_removal : (entries : List Entry) → IsSystem s → IsListOfSweeps s entries → IsRemoval s entries
  list_removal entries is_system list = subst (IsRemoval s) (sym list.1) (sweeps_course is_system list.0).may

  pub list_complete : (entries : List Entry) → IsSystem s → IsListOfSweeps s entries → IsComplete s entries
  unfolding sweeps
  list_complete entries is_system list =
      let n : ℕ = list.0 in
      let c : Course = sweeps s n in
      let is : IsCourse s c = sweeps_course is_system n in
      let none = swept_none c (length s.masks) (omega (arith, ap (λ (d : Course). length d.entries) list.2)) in
      let given : (p : ℕ) → p < length s.masks → IsGiven s c.words p = (λ p l.
      lost_none (slice_index c.words p) (value_in s p c.words)
      (subst (λ (xs : List ℕ). slice_index xs p < 2 ^ 64) (sym is.words) (left_fits s is_system c.entries is.may p l)) (none.1 p l)) in
      subst (λ (xs : List Entry). IsComplete s xs) (sym list.1)
      (subst (λ (xs : List ℕ). (p : ℕ) → p < length s.masks → IsGiven s xs p) is.words given)
