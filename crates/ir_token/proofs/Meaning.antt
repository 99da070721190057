-- The end that is computed for each kind is the greatest end of a text of that kind.
use Rattle.std.proofs.Common.{◌≡◌, ℕ, ◌+◌, ◌<◌, ◌≤◌, Bool, true, false, inl, inr, length, refl, sym, ap, ◌∙◌, subst, ⊎_elim, arith}
use Rattle.std.proofs.lemmas.Bool.{cases_lt, cases_Bool}
use Rattle.std.proofs.lemmas.Bool.Decides.{nat_tests}
use Rattle.std.proofs.lemmas.List.{get_or_past}
use Rattle.std.specs.List.{slice_index}
use Rattle.std.specs.Char.{is_ascii_digit}
use Rattle.ir_token.specs.Bytes.{Bytes, is_label, is_meta, is_inside}
use Rattle.ir_token.specs.Texts.{IsString, IsSome, IsName, IsMeta, IsUnclosed, LacksQuote, is_prefix}
use Rattle.ir_token.specs.Ends.{past, string_end, name_end, meta_end, is_unclosed, lacks_quote}
use Rattle.ir_token.proofs.Past.{within_if, past_within, past_stops, run_past, past_run, run_is_past}

-- a run that is not empty

pub some_past : (p : ℕ → Bool) (b : Bytes) (i : ℕ) → i < past p b i → IsSome p b i (past p b i)
some_past p b i h = (h, past_run p b i (past p b i) (omega arith) (omega arith))

pub some_first : (p : ℕ → Bool) (b : Bytes) (i e : ℕ) → IsSome p b i e → p (slice_index b i) ≡ true
some_first p b i e h = h.1.each i (omega arith) h.0

-- strings

pub string_is : (b : Bytes) (i : ℕ) → i < string_end b i → IsString b i (string_end b i)
string_is b i h =
    let opens : slice_index b i ≡ 34 = grind (arith, nat_tests) in
    let closes : slice_index b (past is_inside b (i + 1)) ≡ 34 = grind (arith, nat_tests) in
    let ends : string_end b i ≡ past is_inside b (i + 1) + 1 = grind (arith, nat_tests) in
    (past is_inside b (i + 1), (opens, past_run is_inside b (i + 1) (past is_inside b (i + 1)) (omega arith) (omega arith), closes, ends))

pub string_to : (b : Bytes) (i e : ℕ) → e ≤ length b → IsString b i e → e ≡ string_end b i
string_to b i e within (quote, (opens, run, closes, ends)) =
    let stops : is_inside (slice_index b quote) ≡ false = grind (arith, nat_tests) in
    let there : past is_inside b (i + 1) ≡ quote = run_is_past is_inside b (i + 1) quote (omega arith) run stops in
    let closes' : slice_index b (past is_inside b (i + 1)) ≡ 34 = ap (slice_index b) there ∙ closes in
    let both : string_end b i ≡ past is_inside b (i + 1) + 1 = grind (arith, nat_tests) in
    omega arith

pub string_moves : (b : Bytes) (i e : ℕ) → IsString b i e → i + 1 < e
string_moves b i e (quote, (opens, run, closes, ends)) = let f = run.forward in omega arith

-- names

pub name_is : (b : Bytes) (i : ℕ) → i < name_end b i → IsName b i (name_end b i)
name_is b i h = by_digit (is_ascii_digit (slice_index b i)) refl
  where
    other : (is_ascii_digit (slice_index b i) ≡ false) → (t : Bool) → is_label (slice_index b i) ≡ t → IsName b i (name_end b i)
    other plain true is =
        let e : name_end b i ≡ past is_label b i = grind (arith, nat_tests) in
        subst (λ n. IsName b i n) (sym e) (inr (inl (plain, some_past is_label b i (omega arith))))
    other plain false is =
        let e : name_end b i ≡ string_end b i = grind (arith, nat_tests) in
        subst (λ n. IsName b i n) (sym e) (inr (inr (string_is b i (omega arith))))

    by_digit : (t : Bool) → is_ascii_digit (slice_index b i) ≡ t → IsName b i (name_end b i)
    by_digit true is =
        let e : name_end b i ≡ past is_ascii_digit b i = grind (arith, nat_tests) in
        subst (λ n. IsName b i n) (sym e) (inl (some_past is_ascii_digit b i (omega arith)))
    by_digit false is = other is (is_label (slice_index b i)) refl

pub name_to : (b : Bytes) (i e : ℕ) → e ≤ length b → IsName b i e → e ≤ name_end b i
name_to b i e within name =
    ⊎_elim
    (λ digits. let first : is_ascii_digit (slice_index b i) ≡ true = some_first is_ascii_digit b i e digits in
    let low : e ≤ past is_ascii_digit b i = run_past is_ascii_digit b i e within digits.1 in
    let e : name_end b i ≡ past is_ascii_digit b i = grind (arith, nat_tests) in omega arith)
    (⊎_elim
    (λ plain. let first : is_label (slice_index b i) ≡ true = some_first is_label b i e plain.1 in
    let bare : is_ascii_digit (slice_index b i) ≡ false = plain.0 in let low : e ≤ past is_label b i = run_past is_label b i e within plain.1.1 in
    let e : name_end b i ≡ past is_label b i = grind (arith, nat_tests) in omega arith)
    (λ string. let opens : slice_index b i ≡ 34 = string.1.0 in let low : e ≡ string_end b i = string_to b i e within string in
    let e : name_end b i ≡ string_end b i = grind (arith, nat_tests) in omega arith))
    name

pub name_moves : (b : Bytes) (i e : ℕ) → IsName b i e → i < e
name_moves b i e name = ⊎_elim (λ digits. digits.0) (⊎_elim (λ plain. plain.1.0) (λ string. omega (arith, string_moves b i e string))) name

-- the bytes of a Meta

pub meta_is : (b : Bytes) (i : ℕ) → slice_index b i ≡ 33 → i + 1 < meta_end b (i + 1) → IsMeta b i (meta_end b (i + 1))
meta_is b i mark h = by_digit (is_ascii_digit (slice_index b (i + 1))) refl
  where
    by_digit : (t : Bool) → is_ascii_digit (slice_index b (i + 1)) ≡ t → IsMeta b i (meta_end b (i + 1))
    by_digit true is =
        let e : meta_end b (i + 1) ≡ past is_ascii_digit b (i + 1) = grind (arith, nat_tests) in
        subst (λ n. IsMeta b i n) (sym e) (mark, inl (some_past is_ascii_digit b (i + 1) (omega arith)))
    by_digit false is =
        let e : meta_end b (i + 1) ≡ past is_meta b (i + 1) = grind (arith, nat_tests) in
        subst (λ n. IsMeta b i n) (sym e) (mark, inr (is, some_past is_meta b (i + 1) (omega arith)))

pub meta_to : (b : Bytes) (i e : ℕ) → e ≤ length b → IsMeta b i e → e ≤ meta_end b (i + 1)
meta_to b i e within (mark, either) =
    ⊎_elim
    (λ digits. let first : is_ascii_digit (slice_index b (i + 1)) ≡ true = some_first is_ascii_digit b (i + 1) e digits in
    let low : e ≤ past is_ascii_digit b (i + 1) = run_past is_ascii_digit b (i + 1) e within digits.1 in
    let e : meta_end b (i + 1) ≡ past is_ascii_digit b (i + 1) = grind (arith, nat_tests) in omega arith)
    (λ other. let bare : is_ascii_digit (slice_index b (i + 1)) ≡ false = other.0 in
    let low : e ≤ past is_meta b (i + 1) = run_past is_meta b (i + 1) e within other.1.1 in
    let e : meta_end b (i + 1) ≡ past is_meta b (i + 1) = grind (arith, nat_tests) in omega arith)
    either

pub meta_moves : (b : Bytes) (i e : ℕ) → IsMeta b i e → i + 1 < e
meta_moves b i e (mark, either) = ⊎_elim (λ digits. digits.0) (λ other. other.1.0) either

-- strings that are not closed

pub unclosed_is : (b : Bytes) (i : ℕ) → is_unclosed b i ≡ true → IsUnclosed b i
unclosed_is b i h =
    let opens : slice_index b i ≡ 34 = grind (arith, nat_tests) in
    let inside : i < length b = within_if b i (omega arith) in
    let still : string_end b i ≡ i = grind (arith, nat_tests) in
    let top : past is_inside b (i + 1) ≤ length b = (past_within is_inside b (i + 1) (omega arith)).1 in
    ⊎_elim
    (λ before. let stops : is_inside (slice_index b (past is_inside b (i + 1))) ≡ false = past_stops is_inside b (i + 1) before in
    let quote : slice_index b (past is_inside b (i + 1)) ≡ 34 = grind (arith, nat_tests) in
    let moves : string_end b i ≡ past is_inside b (i + 1) + 1 = grind (arith, nat_tests) in absurd (omega arith))
    (λ at_end. (opens, past_run is_inside b (i + 1) (length b) (omega arith) at_end))
    (cases_lt (past is_inside b (i + 1)) (length b))

pub unclosed_from : (b : Bytes) (i : ℕ) → IsUnclosed b i → is_unclosed b i ≡ true
unclosed_from b i (opens, run) =
    let low : length b ≤ past is_inside b (i + 1) = run_past is_inside b (i + 1) (length b) (omega arith) run in
    let none : slice_index b (past is_inside b (i + 1)) ≡ 0 = get_or_past b (past is_inside b (i + 1)) 0 low in
    let still : string_end b i ≡ i = grind (arith, nat_tests) in
    grind (arith, nat_tests)

pub lacks_is : (b : Bytes) (i : ℕ) → lacks_quote b i ≡ true → LacksQuote b i
lacks_is b i h =
    ⊎_elim (λ here. inl (unclosed_is b i here))
    (λ before. let behind : is_unclosed b (i + 1) ≡ true = grind (arith, nat_tests) in
    let prefix : is_prefix (slice_index b i) ≡ true = grind (arith, nat_tests) in inr (prefix, unclosed_is b (i + 1) behind))
    (cases_Bool (is_unclosed b i))

pub lacks_from : (b : Bytes) (i : ℕ) → LacksQuote b i → lacks_quote b i ≡ true
lacks_from b i h =
    ⊎_elim (λ here. let e = unclosed_from b i here in grind (arith, nat_tests, e))
    (λ behind. let e = unclosed_from b (i + 1) behind.1 in let p = behind.0 in grind (arith, nat_tests, e, p)) h
