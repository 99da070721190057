-- Parts of sweeps, one after another.
use Rattle.std.proofs.Common.{◌≡◌, ◌≢◌, ◌⊎◌, ℕ, zero, suc, ◌+◌, ◌-◌, ◌<◌, ◌≤◌, Bool, true, false, ◌==◌, List, [], ◌∷◌, ◌++◌, length, length-set, bit_xor}
use Rattle.std.proofs.Common.{slice_index, refl, ap, sym, subst, ◌∙◌, arith, inl, inr, eqb-true}
use Rattle.std.proofs.Common.{Result, Ok, Err, IsErrAnd}
use Rattle.std.proofs.lemmas.Bool.{cases_Bool}
use Rattle.std.proofs.lemmas.List.{length_push}
use Rattle.rule_terms.specs.System.{System}
use Rattle.why_check.specs.Removal.{after_entry}
use Rattle.why_make.specs.declared.course.Course.{Course}
use Rattle.why_make.specs.declared.refusal.TheConstants.{MAX_ENTRIES}
use Rattle.why_make.specs.declared.refusal.WhyRefusal.{WhyRefusal}
use Rattle.why_make.specs.declared.refusal.WhyRefusal.TheVariants.{TooMany}
use Rattle.why_make.specs.Sweeps.{entry_at, lost_of, opening, swept, sweeps, visited}
use Rattle.why_make.specs.Going.{IsSettled, Overflows, SweepsOverflow, Went}
use Rattle.why_make.proofs.Sweeping.{swept_grows}

-- a refusal that is passed on is the one that was answered
passed : {T : Type 0} (r : Result T WhyRefusal) (x y : WhyRefusal) → IsErrAnd r (λ z. z ≡ x) → r ≡ Err y → x ≡ y
passed (Ok v) x y is e = absurd is
passed (Err z) x y is e = cc

pub carried : {T U : Type 0} (r : Result T WhyRefusal) (q : Result U WhyRefusal) (x : WhyRefusal) (count : ℕ) → q ≡ Err x → IsErrAnd r (λ z. z ≡ x) →
    r ≡ Err (TooMany count) → q ≡ Err (TooMany count)
carried r q x count was is e = was ∙ ap Err (passed r x (TooMany count) is e)

module _ (s : System) where
  -- a visit where nothing is lost changes nothing
  pub visited_none : (c : Course) (p : ℕ) → lost_of s c.words p ≡ 0 → visited s c p ≡ c
  visited_none c p none = let e : (lost_of s c.words p == 0) ≡ true = ap (λ (x : ℕ). x == 0) none in rw e refl

  -- a visit where something is lost adds an entry
  pub visited_some : (c : Course) (p : ℕ) → lost_of s c.words p ≢ 0 →
      visited s c p ≡ record { words = after_entry c.words (entry_at s c.words p); entries = c.entries ++ entry_at s c.words p ∷ [] }
  visited_some c p some = elim (cases_Bool (lost_of s c.words p == 0)) [
    | inl e ↦ absurd (some (eqb-true (lost_of s c.words p) 0 e))
    | inr e ↦ rw e refl
  ]

  pub entries_more : (c : Course) (p : ℕ) → lost_of s c.words p ≢ 0 → length (visited s c p).entries ≡ length c.entries + 1
  entries_more c p some = ap (λ (d : Course). length d.entries) (visited_some c p some) ∙ length_push c.entries (entry_at s c.words p)

  pub swept_more : (c : Course) (p : ℕ) → swept s c (p + 1) ≡ visited s (swept s c p) p
  unfolding swept
  swept_more c p = let e : p + 1 ≡ suc p = omega arith in rw e refl

  -- ---- parts
  pub went_none : (c : Course) (p : ℕ) → Went s c c p p false
  went_none c p = record { visits = λ d e. e; more = λ e. absurd (cc); same = λ e. refl; long = refl; short = λ l. l }

  went_grown : (a b : Course) (p q : ℕ) (fell : Bool) → Went s a b p q fell → length a.entries ≤ length b.entries
  went_grown a b p q true w = omega (arith, w.more refl)
  went_grown a b p q false w = omega (arith, ap (λ (c : Course). length c.entries) (w.same refl))

  -- one part more, in which something fell
  went_then : (a b c : Course) (p q r : ℕ) (fell : Bool) → Went s a b p q fell → Went s b c q r true → Went s a c p r true
  went_then a b c p q r fell v w = record {
    visits = λ d e. w.visits d (v.visits d e);
    more = λ e. omega (arith, went_grown a b p q fell v, w.more refl);
    same = λ e. absurd (cc);
    long = w.long ∙ v.long;
    short = λ l. w.short (v.short l);
  }

  -- one part more, in which nothing fell
  went_rest : (a b c : Course) (p q r : ℕ) (fell : Bool) → Went s a b p q fell → Went s b c q r false → Went s a c p r fell
  went_rest a b c p q r fell v w = record {
    visits = λ d e. w.visits d (v.visits d e);
    more = λ e. omega (arith, v.more e, ap (λ (d : Course). length d.entries) (w.same refl));
    same = λ e. w.same refl ∙ v.same e;
    long = w.long ∙ v.long;
    short = λ l. w.short (v.short l);
  }

  -- one part more, and whether something fell so far
  pub went_on : (a b c : Course) (p q r : ℕ) (so_far here now : Bool) → Went s a b p q so_far → Went s b c q r here →
      ((here ≡ true) × (now ≡ true)) ⊎ ((here ≡ false) × (now ≡ so_far)) → Went s a c p r now
  went_on a b c p q r so_far here now v w how = elim how [
    | inl fell ↦ subst (λ (f : Bool). Went s a c p r f) (sym fell.1)
        (went_then a b c p q r so_far v (subst (λ (f : Bool). Went s b c q r f) fell.0 w))
    | inr rest ↦ subst (λ (f : Bool). Went s a c p r f) (sym rest.1)
        (went_rest a b c p q r so_far v (subst (λ (f : Bool). Went s b c q r f) rest.0 w))
  ]

  -- a visit is a part
  pub visit_went : (old new : Course) (p : ℕ) (fell : Bool) → new ≡ visited s old p → (fell ≡ true → lost_of s old.words p ≢ 0) →
      (fell ≡ false → lost_of s old.words p ≡ 0) → (length old.entries ≤ MAX_ENTRIES → length new.entries ≤ MAX_ENTRIES) → Went s old new p (p + 1) fell
  visit_went old new p fell is some none short = record {
    visits = λ c e. is ∙ ap (λ (d : Course). visited s d p) e ∙ sym (swept_more c p);
    more = λ e. omega (arith, ap (λ (d : Course). length d.entries) is, entries_more old p (some e));
    same = λ e. is ∙ visited_none old p (none e);
    long = ap (λ (d : Course). length d.words) is ∙ long_kept fell refl;
    short = short;
  } where
    long_kept : (b : Bool) → fell ≡ b → length (visited s old p).words ≡ length old.words
    long_kept true e = ap (λ (d : Course). length d.words) (visited_some old p (some e))
        ∙ length-set old.words p (bit_xor (slice_index old.words p) (lost_of s old.words p))
    long_kept false e = ap (λ (d : Course). length d.words) (visited_none old p (none e))

  -- positions at which nothing is lost may be passed over
  passed_over : (c d : Course) (from k : ℕ) → c ≡ swept s d from → ((q : ℕ) → from ≤ q → q < from + k → lost_of s c.words q ≡ 0) → c ≡ swept s d (from + k)
  passed_over c d from zero is none = let e : from + 0 ≡ from = omega arith in rw e is
  passed_over c d from (suc k) is none =
      let e : from + suc k ≡ from + k + 1 = omega arith in
      let so_far : c ≡ swept s d (from + k) = passed_over c d from k is (λ q l m. none q l (omega arith)) in
      rw e (sym (visited_none c (from + k) (none (from + k) (omega arith) (omega arith))) ∙ ap (λ (x : Course). visited s x (from + k)) so_far
      ∙ sym (swept_more d (from + k)))

  pub went_past : (c : Course) (from to : ℕ) → from ≤ to → ((q : ℕ) → from ≤ q → q < to → lost_of s c.words q ≡ 0) → Went s c c from to false
  went_past c from to l none = record {
    visits = λ d e. let there : from + (to - from) ≡ to = omega arith in
        subst (λ (n : ℕ). c ≡ swept s d n) there (passed_over c d from (to - from) e (λ q m n. none q m (omega arith)));
    more = λ e. absurd (cc);
    same = λ e. refl;
    long = refl;
    short = λ m. m;
  }

  -- ---- too many entries
  pub visit_overflows : (old : Course) (p count : ℕ) → count ≡ MAX_ENTRIES + 1 → MAX_ENTRIES ≤ length old.entries → lost_of s old.words p ≢ 0 →
      Overflows s old p (p + 1) count
  visit_overflows old p count e full some = (
    e,
    λ c is. omega (
      arith,
      ap (λ (d : Course). length d.entries) (swept_more c p),
      ap (λ (d : Course). length (visited s d p).entries) (sym is),
      entries_more old p some,
      full,
    ),
  )

  -- a part of a part overflows, so does the whole
  pub overflows_more : (a b : Course) (from p q to count : ℕ) (fell : Bool) → Went s a b from p fell → Overflows s b p q count → q ≤ to →
      Overflows s a from to count
  overflows_more a b from p q to count fell w over l = (
    over.0,
    λ c is. let there : q + (to - q) ≡ to = omega arith in
        let grows : length (swept s c q).entries ≤ length (swept s c to).entries =
        subst (λ (n : ℕ). length (swept s c q).entries ≤ length (swept s c n).entries) there (swept_grows s c q (to - q)) in
        omega (arith, grows, over.1 c (w.visits c is)),
  )

  -- ---- whole sweeps
  pub sweep_more : (c d : Course) (n : ℕ) (fell : Bool) → c ≡ sweeps s n → Went s c d 0 (length s.masks) fell → d ≡ sweeps s (n + 1)
  unfolding sweeps swept
  sweep_more c d n fell is w = let e : n + 1 ≡ suc n = omega arith in rw e (w.visits (sweeps s n) is)

  pub opening_none : (c : Course) → c ≡ opening s → c ≡ sweeps s 0
  unfolding sweeps
  opening_none c e = e

  pub sweep_settles : (c d : Course) (n : ℕ) → c ≡ sweeps s n → Went s c d 0 (length s.masks) false → IsSettled s d
  sweep_settles c d n is w =
      let e : n + 1 ≡ suc n = omega arith in
      let next : d ≡ sweeps s (suc n) = subst (λ (k : ℕ). d ≡ sweeps s k) e (sweep_more c d n false is w) in
      (n, w.same refl ∙ is, sym next ∙ w.same refl ∙ is)

  pub sweep_overflows : (c : Course) (n count : ℕ) → c ≡ sweeps s n → Overflows s c 0 (length s.masks) count → SweepsOverflow s count
  unfolding sweeps swept
  sweep_overflows c n count is over = (over.0, (suc n, over.1 (sweeps s n) is))

-- the end of a part may be written otherwise
pub went_to : (s : System) (a b : Course) (from to end : ℕ) (f : Bool) → to ≡ end → Went s a b from to f → Went s a b from end f
went_to s a b from to end f e w = subst (λ (k : ℕ). Went s a b from k f) e w
