-- The end of a run of one class of bytes, by places.
use Rattle.std.proofs.Common.{◌≡◌, ℕ, ◌+◌, ◌-◌, ◌<◌, ◌≤◌, Bool, true, false, length, get_or, drop, ap, ◌∙◌, subst, ⊎_elim, arith, length-drop, get_or-drop}
use Rattle.std.proofs.lemmas.Bool.{cases_lt}
use Rattle.std.proofs.lemmas.List.{get_or_past}
use Rattle.std.proofs.lemmas.List.Sums.{prefix_len-le-length, prefix_len-drop_yes, prefix_len-drop_no, prefix_len-drop_all, prefix_len_passes, prefix_len_stops}
use Rattle.std.specs.List.{prefix_len, slice_index}
use Rattle.ir_token.specs.Bytes.{Bytes, IsRun}
use Rattle.ir_token.specs.Ends.{past}

pub past_within : (p : ℕ → Bool) (b : Bytes) (i : ℕ) → i ≤ length b → (i ≤ past p b i) × (past p b i ≤ length b)
past_within p b i h = (omega arith, omega (arith, prefix_len-le-length p (drop i b), length-drop i b))

-- a byte that is not 0 is in the text
pub within_if : (b : Bytes) (i : ℕ) → 0 < slice_index b i → i < length b
within_if b i h = ⊎_elim (λ inside. inside)
    (λ outside. let none : slice_index b i ≡ 0 = get_or_past b i 0 outside in absurd (omega arith)) (cases_lt i (length b))

-- a byte of the class is passed
pub past_step : (p : ℕ → Bool) (b : Bytes) (i : ℕ) → i < length b → p (slice_index b i) ≡ true → past p b i ≡ past p b (i + 1)
past_step p b i h holds = omega (arith, prefix_len-drop_yes p b i 0 h holds)

-- a byte of another class is not
pub past_stays : (p : ℕ → Bool) (b : Bytes) (i : ℕ) → i < length b → p (slice_index b i) ≡ false → past p b i ≡ i
past_stays p b i h fails = omega (arith, prefix_len-drop_no p b i 0 h fails)

pub past_end : (p : ℕ → Bool) (b : Bytes) (i : ℕ) → length b ≤ i → past p b i ≡ i
past_end p b i h = omega (arith, prefix_len-drop_all p b i h)

pub past_moves : (p : ℕ → Bool) (b : Bytes) (i : ℕ) → i < length b → p (slice_index b i) ≡ true → i < past p b i
past_moves p b i h holds = omega (arith, prefix_len-drop_yes p b i 0 h holds)

-- each byte before the end of the run is of the class
pub past_passes : (p : ℕ → Bool) (b : Bytes) (i j : ℕ) → i ≤ j → j < past p b i → p (slice_index b j) ≡ true
past_passes p b i j from below =
    let k : j - i < prefix_len p (drop i b) = omega arith in
    let there : i + (j - i) ≡ j = omega arith in
    let here : get_or (drop i b) (j - i) 0 ≡ get_or b j 0 = get_or-drop i b (j - i) 0 ∙ ap (λ m. get_or b m 0) there in
    subst (λ c. p c ≡ true) here (prefix_len_passes p (drop i b) (j - i) 0 k)

-- and the byte at the end of the run is not
pub past_stops : (p : ℕ → Bool) (b : Bytes) (i : ℕ) → past p b i < length b → p (slice_index b (past p b i)) ≡ false
past_stops p b i h =
    let k : prefix_len p (drop i b) < length (drop i b) = omega (arith, length-drop i b) in
    subst (λ c. p c ≡ false) (get_or-drop i b (prefix_len p (drop i b)) 0) (prefix_len_stops p (drop i b) 0 k)

-- a run goes no further than to the end of the class
pub run_past : (p : ℕ → Bool) (b : Bytes) (i e : ℕ) → e ≤ length b → IsRun p b i e → e ≤ past p b i
run_past p b i e within run =
    ⊎_elim
    (λ short. let stop : p (slice_index b (past p b i)) ≡ false = past_stops p b i (omega arith) in
    let pass : p (slice_index b (past p b i)) ≡ true = run.each (past p b i) (omega arith) short in absurd (cc))
    (λ h. h) (cases_lt (past p b i) e)

-- and every stretch up to the end of the class is a run
pub past_run : (p : ℕ → Bool) (b : Bytes) (i e : ℕ) → i ≤ e → e ≤ past p b i → IsRun p b i e
past_run p b i e from below = record { forward = from; each = λ j low high. past_passes p b i j low (omega arith) }

-- the end of a run is where a byte of another class stands
pub run_is_past : (p : ℕ → Bool) (b : Bytes) (i e : ℕ) → e < length b → IsRun p b i e → p (slice_index b e) ≡ false → past p b i ≡ e
run_is_past p b i e within run fails =
    ⊎_elim
    (λ further. let holds : p (slice_index b e) ≡ true = past_passes p b i e run.forward further in absurd (cc))
    (λ h. let low : e ≤ past p b i = run_past p b i e (omega arith) run in omega arith) (cases_lt e (past p b i))

-- the end of a run is where a byte of another class stands, if it is not 0
pub run_there : (p : ℕ → Bool) (b : Bytes) (i e : ℕ) → IsRun p b i e → p (slice_index b e) ≡ false → 0 < slice_index b e → past p b i ≡ e
run_there p b i e run fails some = run_is_past p b i e (within_if b e some) run fails

-- where the run of i goes beyond j, the run of j ends where it does
pub past_later : (p : ℕ → Bool) (b : Bytes) (i j : ℕ) → i ≤ j → j ≤ past p b i → past p b i ≤ length b → past p b j ≡ past p b i
past_later p b i j from below within =
    let low : past p b i ≤ past p b j = run_past p b j (past p b i) within (record { forward = below; each = λ k l h. past_passes p b i k (omega arith) h }) in
    ⊎_elim
    (λ further. let holds : p (slice_index b (past p b i)) ≡ true = past_passes p b j (past p b i) below further in
    ⊎_elim (λ inside. let fails : p (slice_index b (past p b i)) ≡ false = past_stops p b i inside in absurd (cc))
    (λ outside. let top : past p b j ≤ length b = (past_within p b j (omega arith)).1 in omega arith) (cases_lt (past p b i) (length b)))
    (λ h. omega arith) (cases_lt (past p b i) (past p b j))

-- a class that is part of another ends no later
pub past_mono : (p q : ℕ → Bool) (b : Bytes) (i : ℕ) → i ≤ length b → ((c : ℕ) → p c ≡ true → q c ≡ true) → past p b i ≤ past q b i
past_mono p q b i within inside =
    run_past q b i (past p b i) (past_within p b i within).1
    (record { forward = omega arith; each = λ j low high. inside (slice_index b j) (past_passes p b i j low high) })
