-- What each event changes of the counts of one word and one seat.
use Rattle.std.proofs.Common.{◌≡◌, ◌≢◌, ℕ, zero, suc, ◌+◌, ◌-◌, ◌*◌, ◌/◌, ◌%◌, ◌^◌, ◌<◌, ◌≤◌, Bool, true, false, not, cond, eqb, eqb-true, eq-eqb, List, []}
use Rattle.std.proofs.Common.{◌∷◌, length, slice_index, slice_index_or, slice_get, set, bit_and, bit_or, count_ones, Some, Contains, refl, ap, sym, ◌∙◌, subst}
use Rattle.std.proofs.Common.{arith, inl, inr, suc-mul, mul-le-mul, le_refl, mod-lt}
use Rattle.std.specs.Int.{bit_at}
use Rattle.std.specs.List.{sum_by}
use Rattle.std.specs.Int.Bits.{mask_lt}
use Rattle.std.proofs.lemmas.Bool.{cases_eq, cases_lt}
use Rattle.std.proofs.lemmas.List.Sums.{sum_by-set}
use Rattle.std.proofs.lemmas.Nat.{and_le_l, and_le_r, div-add-mod'}
use Rattle.std.proofs.lemmas.Nat.Bits.{bit_at_cat_high, bit_at_above, bit_at_xor, bit_at-zero, bit_at-lt, same_from_bits}
use Rattle.std.proofs.lemmas.Option.{get_or_from_slice_get, slice_get_within}
use Rattle.attr_ids.specs.declared.ids.PosId.{PosId}
use Rattle.lattice_words.specs.declared.word.TheConstants.{DIRTY, FACT_BITS}
use Rattle.dep_graph.specs.Row.{Row}
use Rattle.dep_graph.specs.Graph.{row_at}
use Rattle.fix_core.specs.declared.state.CoreSeat.{CoreSeat}
use Rattle.fix_core.specs.Machine.{facts_of, dirty_at, is_clean, cleaned, dirtied, cut_to, lost_by, readers_of, owing, without}
use Rattle.fix_core.specs.Counts.{dirty_count, owed_count, paid_for, paid}
use Rattle.fix_core.proofs.Words.{dirtied_here, dirtied_other, cut_dirty, cut_facts}
use Rattle.fix_core.proofs.Ones.{ones_zero, ones_less, ones_same, ones_more, ones_some}

-- ---- dirty bits
-- the bits of a word above its facts
high : (n w : ℕ) → bit_at (n / 2 ^ DIRTY) w ≡ dirty_at n w
high n w =
    let parts : n / 2 ^ DIRTY * 2 ^ DIRTY + n % 2 ^ DIRTY ≡ n = div-add-mod' n (2 ^ DIRTY) in
    let low : n % 2 ^ DIRTY < 2 ^ DIRTY = mod-lt n (let some : 0 < 2 ^ DIRTY = omega arith in some) in
    let at : bit_at (n / 2 ^ DIRTY * 2 ^ DIRTY + n % 2 ^ DIRTY) (DIRTY + w) ≡ bit_at (n / 2 ^ DIRTY) (DIRTY + w - DIRTY) =
    bit_at_cat_high (n / 2 ^ DIRTY) DIRTY (n % 2 ^ DIRTY) (DIRTY + w) low (omega arith) in
    let place : DIRTY + w - DIRTY ≡ w = omega arith in
    sym (ap (λ m. bit_at m (DIRTY + w)) (sym parts) ∙ at ∙ ap (bit_at (n / 2 ^ DIRTY)) place)

pub cleaned_count : (n : ℕ) → dirty_count (cleaned n) ≡ 0
cleaned_count n =
    let small : cleaned n < 2 ^ DIRTY = mask_lt n DIRTY in
    let none : cleaned n / 2 ^ DIRTY ≡ 0 = omega arith in
    ap count_ones none ∙ ones_zero

-- taking up a dirty word pays for it by one bit at least
pub take_pays : (n took : ℕ) (b : Bool) → is_clean n ≡ b → cond b took (took + 1) ≤ took + dirty_count n
take_pays n took true e = omega arith
take_pays n took false e =
    let dirty : n / 2 ^ DIRTY ≢ 0 = λ none. let clean : is_clean n ≡ true = eq-eqb (n / 2 ^ DIRTY) 0 none in let bad : false ≡ true = sym e ∙ clean in
    absurd (cc) in
    omega (arith, ones_some (n / 2 ^ DIRTY) dirty)

-- a tell that sets a bit counts it
pub tell_pays : (n w told : ℕ) (b : Bool) → eqb (dirty_at n w) 0 ≡ b → dirty_count (dirtied n w) + told ≡ dirty_count n + cond b (told + 1) told
tell_pays n w told true e =
    let a : ℕ = n / 2 ^ DIRTY in
    let c : ℕ = dirtied n w / 2 ^ DIRTY in
    omega (
      arith,
      ones_more (a + c) a c w (omega arith) (omega arith) (high n w ∙ eqb-true (dirty_at n w) 0 e) (high (dirtied n w) w ∙ dirtied_here n w)
          (λ j ne. high n j ∙ sym (dirtied_other n w j ne) ∙ sym (high (dirtied n w) j)),
    )
tell_pays n w told false e =
    let set_already : dirty_at n w ≡ 1 = elim (cases_eq (dirty_at n w) 0) [
      | inl none ↦ (let bad : false ≡ true = sym e ∙ eq-eqb (dirty_at n w) 0 none in absurd (cc))
      | inr some ↦ omega (arith, bit_at-lt n (DIRTY + w), some)
    ] in
    let same : dirtied n w / 2 ^ DIRTY ≡ n / 2 ^ DIRTY = same_from_bits (dirtied n w / 2 ^ DIRTY) (n / 2 ^ DIRTY) (λ j. high (dirtied n w) j ∙
    elim (cases_eq j w) [
      | inl here ↦ subst (λ u. dirty_at (dirtied n w) u ≡ bit_at (n / 2 ^ DIRTY) u) (sym here) (dirtied_here n w ∙ sym (high n w ∙ set_already))
      | inr other ↦ dirtied_other n w j other ∙ sym (high n j)
    ]) in
    omega (arith, ap count_ones same)

pub cut_count : (new n : ℕ) → n < 2 ^ 64 → dirty_count (cut_to new n) ≡ dirty_count n
cut_count new n fits =
    let less : cut_to new n < 2 ^ 64 = omega (arith, and_le_l n (bit_or new (2 ^ 64 - 2 ^ FACT_BITS)), fits) in
    ap count_ones (same_from_bits (cut_to new n / 2 ^ DIRTY) (n / 2 ^ DIRTY) (λ w. high (cut_to new n) w ∙ (elim (cases_lt w 16) [
      | inl low ↦ cut_dirty new n w low
      | inr past ↦ bit_at_above (cut_to new n) 64 (DIRTY + w) less (omega arith) ∙ sym (bit_at_above n 64 (DIRTY + w) fits (omega arith))
    ] ∙ sym (high n w))))

-- ---- facts that fall
-- a fall of a bits of m that are left to b, at d each, pays for as many as d
pays_more : (m a b d o : ℕ) → b < a → a ≤ m → o ≤ d → (m - a) * d + o ≤ (m - b) * d
pays_more m a b d o less most few =
    let one : suc (m - a) ≤ m - b = omega arith in
    let rows : suc (m - a) * d ≤ (m - b) * d = mul-le-mul one (le_refl d) in
    let split : suc (m - a) * d ≡ (m - a) * d + d = suc-mul (m - a) d in
    omega arith

readers_few : (lost : ℕ) (ds : List PosId) (reads : List ℕ) → length (readers_of lost ds reads) ≤ length ds
readers_few lost [] reads = omega arith
readers_few lost (d ∷ ds) [] = omega arith
readers_few lost (d ∷ ds) (bits ∷ reads) = by_case (eqb (bit_and bits lost) 0) (readers_few lost ds reads) where
  by_case : (b : Bool) → length (readers_of lost ds reads) ≤ length ds →
      length (cond b (readers_of lost ds reads) (d ∷ readers_of lost ds reads)) ≤ suc (length ds)
  by_case true rest = omega arith
  by_case false rest = omega arith

readers_none : (ds : List PosId) (reads : List ℕ) → length (readers_of 0 ds reads) ≡ 0
readers_none [] reads = refl
readers_none (d ∷ ds) [] = refl
readers_none (d ∷ ds) (bits ∷ reads) =
    let nothing : bit_and bits 0 ≡ 0 = omega (arith, and_le_r bits 0) in
    by_case (eqb (bit_and bits 0) 0) (eq-eqb (bit_and bits 0) 0 nothing) (readers_none ds reads) where
      by_case : (b : Bool) → b ≡ true → length (readers_of 0 ds reads) ≡ 0 → length (cond b (readers_of 0 ds reads) (d ∷ readers_of 0 ds reads)) ≡ 0
      by_case true e rest = rest
      by_case false e rest = absurd (cc)

-- what a cut leaves owed is paid for by the facts that fell
pub cut_pays : (mask new n : ℕ) (row : Row) → ((i : ℕ) → bit_at (facts_of n) i ≤ bit_at mask i) →
    paid_for mask n row + length (readers_of (lost_by new n) row.dependents row.reads) ≤ paid_for mask (cut_to new n) row
cut_pays mask new n row within =
    let had : ℕ = facts_of n in
    let has : ℕ = facts_of (cut_to new n) in
    let less : (i : ℕ) → bit_at has i ≤ bit_at had i = λ i. omega (arith, cut_facts new n i) in
    let most : count_ones had ≤ count_ones mask = ones_less (had + mask) had mask (omega arith) (omega arith) within in
    elim (cases_lt (count_ones has) (count_ones had)) [
      | inl fell ↦ pays_more (count_ones mask) (count_ones had) (count_ones has) (length row.dependents)
          (length (readers_of (lost_by new n) row.dependents row.reads))
          fell most (readers_few (lost_by new n) row.dependents row.reads)
      | inr stayed ↦
          let same : has ≡ had = ones_same (has + had) has had (omega arith) (omega arith) less stayed in
          let nothing : lost_by new n ≡ 0 =
          same_from_bits (lost_by new n) 0 (λ i. omega (arith, bit_at_xor had has i, ap (λ m. bit_at m i) same, bit_at-zero i)) in
          omega (
            arith,
            ap (λ l. length (readers_of l row.dependents row.reads)) nothing,
            readers_none row.dependents row.reads,
            ap (λ m. (count_ones mask - count_ones m) * length row.dependents) same,
          )
    ]

-- ---- what a seat owes
pub owing_count : (list : List PosId) → owed_count (owing list) ≡ length list
owing_count [] = refl
owing_count (d ∷ ds) = refl

without_few : (d : PosId) (xs : List PosId) → length (without d xs) ≤ length xs
without_few d [] = omega arith
without_few d (x ∷ xs) = by_case (not (eqb d.0 x.0)) (without_few d xs) where
  by_case : (b : Bool) → length (without d xs) ≤ length xs → length (cond b (x ∷ without d xs) (without d xs)) ≤ suc (length xs)
  by_case true rest = omega arith
  by_case false rest = omega arith

-- a position that is told leaves the list
pub without_fewer : (d : PosId) (xs : List PosId) → Contains xs d → length (without d xs) + 1 ≤ length xs
without_fewer d [] has = absurd (omega (arith, has.1))
without_fewer d (x ∷ xs) (zero, l, is) = by_case (not (eqb d.0 x.0)) (ap not (eq-eqb d.0 x.0 (ap (λ (q : PosId). q.0) (sym is)))) where
  by_case : (b : Bool) → b ≡ false → length (cond b (x ∷ without d xs) (without d xs)) + 1 ≤ suc (length xs)
  by_case true e = absurd (cc)
  by_case false e = omega (arith, without_few d xs)
without_fewer d (x ∷ xs) (suc k, l, is) = by_case (not (eqb d.0 x.0)) (without_fewer d xs (k, omega arith, is)) where
  by_case : (b : Bool) → length (without d xs) + 1 ≤ length xs → length (cond b (x ∷ without d xs) (without d xs)) + 1 ≤ suc (length xs)
  by_case true rest = omega arith
  by_case false rest = omega arith

-- ---- sums
-- a sum over seats, once one was written
pub sum_seats : (f : CoreSeat → ℕ) (seats : List CoreSeat) (w : ℕ) (seat v : CoreSeat) → slice_get seats w ≡ Some seat →
    sum_by f (set seats w v) + f seat ≡ sum_by f seats + f v
sum_seats f seats w seat v at =
    let is : slice_index_or seats w seat ≡ seat = get_or_from_slice_get seats w seat seat at in
    omega (arith, sum_by-set f seats w v seat (slice_get_within seats w seat at), ap f is)

-- what is paid, once the word of a position was written
pub paid_set : (masks words : List ℕ) (g : List Row) (p n : ℕ) → p < length masks → p < length words → p < length g →
    paid masks (set words p n) g + paid_for (slice_index masks p) (slice_index words p) (row_at g p) ≡ paid masks words g + paid_for (slice_index masks p) n
    (row_at g p)
paid_set [] words g p n l k j = absurd (omega arith)
paid_set (mask ∷ masks) [] g p n l k j = absurd (omega arith)
paid_set (mask ∷ masks) (word ∷ words) [] p n l k j = absurd (omega arith)
paid_set (mask ∷ masks) (word ∷ words) (row ∷ g) zero n l k j = omega arith
paid_set (mask ∷ masks) (word ∷ words) (row ∷ g) (suc p) n l k j = omega (arith, paid_set masks words g p n (omega arith) (omega arith) (omega arith))
