-- What a string is read as, one escape after another.
use Rattle.std.proofs.Common.{◌≡◌, ℕ, suc, ◌+◌, ◌-◌, ◌*◌, ◌<◌, ◌≤◌, min, Bool, true, false, cond, ◌&&◌, ◌⊎◌, inl, inr, eqb, ltb, [], ◌∷◌, length, get_or, take}
use Rattle.std.proofs.Common.{drop, refl, sym, ap, ◌∙◌, ⊎_elim, arith, get_or-drop}
use Rattle.std.proofs.lemmas.Bool.{cases_lt, ne_eqb, and_parts}
use Rattle.std.proofs.lemmas.Bool.Decides.{nat_tests}
use Rattle.std.proofs.lemmas.List.{drop_all, drop_more}
use Rattle.std.specs.List.{slice_index}
use Rattle.std.specs.Char.{digit_value}
use Rattle.std.specs.Str.{bytes_eq}
use Rattle.ir_token.specs.Bytes.{Bytes}
use Rattle.std.specs.Char.{is_ascii_digit}
use Rattle.std.specs.List.{list_all}
use Rattle.std.specs.Str.Parse.{digits_value}
use Rattle.ir_token.specs.Names.{begins_hex, hex_byte, unescaped_after, unescaped, bytes_of, name_of, read}
use Rattle.ir_token.specs.Names.Name.{Number, Bytes as Spelled}
use Rattle.ir_token.specs.LeftOut.{begins_with, are_left, is_left_name}

not_eqb : (m n : ℕ) → (m ≡ n → ⊥) → eqb m n ≡ false
not_eqb m n h = ne_eqb m n h

below : (v n : ℕ) → n ≡ min v 16 → n < 16 → v ≡ n
below v n is small = omega arith

reaches : (v n : ℕ) → n ≡ min v 16 → 16 ≤ n → (w : ℕ) → w ≡ v → 16 ≤ w
reaches v n is large w same = omega arith

two_digits : (v w : ℕ) → v < 16 → w < 16 → (ltb v 16 && ltb w 16) ≡ true
two_digits v w h k = grind (arith, nat_tests)

no_digits : (v w : ℕ) → ((16 ≤ v) ⊎ (16 ≤ w)) → (ltb v 16 && ltb w 16) ≡ false
no_digits v w h = ⊎_elim (λ one. grind (arith, nat_tests)) (λ two. grind (arith, nat_tests)) h

-- a byte that an escape has used is passed over
used : (z : Bytes) (i n : ℕ) → i < length z → unescaped_after (suc n) (drop i z) ≡ unescaped_after n (drop (i + 1) z)
used z i n h = ap (unescaped_after (suc n)) (drop_more z i 0 h)

at_front : (z : Bytes) (i k : ℕ) → slice_index (drop i z) k ≡ slice_index z (i + k)
at_front z i k = get_or-drop i z k 0

pub read_other : (z : Bytes) (i : ℕ) → i < length z → eqb (slice_index z i) 92 ≡ false → unescaped (drop i z) ≡ slice_index z i ∷ unescaped (drop (i + 1) z)
read_other z i h other = let e = ap unescaped (drop_more z i 0 h) in grind (arith, e)

-- the three ways in which a backslash is read
first_way : (s t u : Bool) (a b c d : Bytes) → s ≡ true → t ≡ true → cond s (cond t a (cond u b c)) d ≡ a
first_way s t u a b c d p q = ap (λ x. cond x (cond t a (cond u b c)) d) p ∙ ap (λ x. cond x a (cond u b c)) q

second_way : (s t u : Bool) (a b c d : Bytes) → s ≡ true → t ≡ false → u ≡ true → cond s (cond t a (cond u b c)) d ≡ b
second_way s t u a b c d p q r = ap (λ x. cond x (cond t a (cond u b c)) d) p ∙ ap (λ x. cond x a (cond u b c)) q ∙ ap (λ x. cond x b c) r

third_way : (s t u : Bool) (a b c d : Bytes) → s ≡ true → t ≡ false → u ≡ false → cond s (cond t a (cond u b c)) d ≡ c
third_way s t u a b c d p q r = ap (λ x. cond x (cond t a (cond u b c)) d) p ∙ ap (λ x. cond x a (cond u b c)) q ∙ ap (λ x. cond x b c) r

-- the bytes behind a place, by their places in the whole
behind : (z : Bytes) (i k n : ℕ) → i + 1 + k ≡ n → slice_index (drop (i + 1) z) k ≡ slice_index z n
behind z i k n same = at_front z (i + 1) k ∙ ap (slice_index z) same

pub read_backslash : (z : Bytes) (i : ℕ) → slice_index z i ≡ 92 → slice_index z (i + 1) ≡ 92 → i + 1 < length z
    → unescaped (drop i z) ≡ 92 ∷ unescaped (drop (i + 2) z)
read_backslash z i is second within =
    let one : eqb (slice_index z i) 92 ≡ true = grind (arith, nat_tests) in
    let there : slice_index (drop (i + 1) z) 0 ≡ 92 = behind z i 0 (i + 1) (omega arith) ∙ second in
    let two : eqb (slice_index (drop (i + 1) z) 0) 92 ≡ true = grind (arith, nat_tests) in
    let same : i + 1 + 1 ≡ i + 2 = omega arith in
    let rest : unescaped_after 1 (drop (i + 1) z) ≡ unescaped (drop (i + 2) z) = used z (i + 1) 0 within ∙ ap (λ n. unescaped (drop n z)) same in
    ap unescaped (drop_more z i 0 (omega arith))
    ∙ first_way (eqb (slice_index z i) 92) (eqb (slice_index (drop (i + 1) z) 0) 92) (begins_hex (drop (i + 1) z)) _ _ _ _ one two ∙ ap (λ x. 92 ∷ x) rest

pub read_hex : (z : Bytes) (i high low : ℕ) → i + 2 < length z → slice_index z i ≡ 92 → (slice_index z (i + 1) ≡ 92 → ⊥)
    → high ≡ min (digit_value (slice_index z (i + 1))) 16 → low ≡ min (digit_value (slice_index z (i + 2))) 16 → high < 16 → low < 16
    → unescaped (drop i z) ≡ (high * 16 + low) ∷ unescaped (drop (i + 3) z)
read_hex z i high low within is other high_is low_is high_small low_small =
    let one : eqb (slice_index z i) 92 ≡ true = grind (arith, nat_tests) in
    let first : slice_index (drop (i + 1) z) 0 ≡ slice_index z (i + 1) = behind z i 0 (i + 1) (omega arith) in
    let second : slice_index (drop (i + 1) z) 1 ≡ slice_index z (i + 2) = behind z i 1 (i + 2) (omega arith) in
    let two : eqb (slice_index (drop (i + 1) z) 0) 92 ≡ false = not_eqb (slice_index (drop (i + 1) z) 0) 92 (λ h. other (sym first ∙ h)) in
    let high_value : digit_value (slice_index (drop (i + 1) z) 0) ≡ high = ap digit_value first
    ∙ below (digit_value (slice_index z (i + 1))) high high_is high_small in
    let low_value : digit_value (slice_index (drop (i + 1) z) 1) ≡ low = ap digit_value second
    ∙ below (digit_value (slice_index z (i + 2))) low low_is low_small in
    let hex : begins_hex (drop (i + 1) z) ≡ true = two_digits (digit_value (slice_index (drop (i + 1) z) 0)) (digit_value (slice_index (drop (i + 1) z) 1))
    (omega arith) (omega arith) in
    let value : hex_byte (drop (i + 1) z) ≡ high * 16 + low = omega arith in
    let same : i + 1 + 1 + 1 ≡ i + 3 = omega arith in
    let rest : unescaped_after 2 (drop (i + 1) z) ≡ unescaped (drop (i + 3) z) = used z (i + 1) 1 (omega arith) ∙ used z (i + 1 + 1) 0 (omega arith) ∙ ap
    (λ n. unescaped (drop n z)) same in
    ap unescaped (drop_more z i 0 (omega arith))
    ∙ second_way (eqb (slice_index z i) 92) (eqb (slice_index (drop (i + 1) z) 0) 92) (begins_hex (drop (i + 1) z)) _ _ _ _ one two hex ∙ ap
    (λ x. x ∷ unescaped_after 2 (drop (i + 1) z)) value ∙ ap (λ x. (high * 16 + low) ∷ x) rest

pub read_lone : (z : Bytes) (i high low : ℕ) → i < length z → slice_index z i ≡ 92 → (slice_index z (i + 1) ≡ 92 → ⊥)
    → high ≡ min (digit_value (slice_index z (i + 1))) 16 → low ≡ min (digit_value (slice_index z (i + 2))) 16 → ((16 ≤ high) ⊎ (16 ≤ low))
    → unescaped (drop i z) ≡ 92 ∷ unescaped (drop (i + 1) z)
read_lone z i high low within is other high_is low_is large =
    let one : eqb (slice_index z i) 92 ≡ true = grind (arith, nat_tests) in
    let first : slice_index (drop (i + 1) z) 0 ≡ slice_index z (i + 1) = behind z i 0 (i + 1) (omega arith) in
    let second : slice_index (drop (i + 1) z) 1 ≡ slice_index z (i + 2) = behind z i 1 (i + 2) (omega arith) in
    let two : eqb (slice_index (drop (i + 1) z) 0) 92 ≡ false = not_eqb (slice_index (drop (i + 1) z) 0) 92 (λ h. other (sym first ∙ h)) in
    let high_value : digit_value (slice_index (drop (i + 1) z) 0) ≡ digit_value (slice_index z (i + 1)) = ap digit_value first in
    let low_value : digit_value (slice_index (drop (i + 1) z) 1) ≡ digit_value (slice_index z (i + 2)) = ap digit_value second in
    let hex : begins_hex (drop (i + 1) z) ≡ false = no_digits (digit_value (slice_index (drop (i + 1) z) 0)) (digit_value (slice_index (drop (i + 1) z) 1))
    (⊎_elim (λ h. inl (reaches (digit_value (slice_index z (i + 1))) high high_is h (digit_value (slice_index (drop (i + 1) z) 0)) high_value))
    (λ h. inr (reaches (digit_value (slice_index z (i + 2))) low low_is h (digit_value (slice_index (drop (i + 1) z) 1)) low_value)) large) in
    ap unescaped (drop_more z i 0 within)
    ∙ third_way (eqb (slice_index z i) 92) (eqb (slice_index (drop (i + 1) z) 0) 92) (begins_hex (drop (i + 1) z)) _ _ _ _ one two hex ∙ ap
    (λ x. x ∷ unescaped (drop (i + 1) z)) is

-- names that are quoted and names that are not

pub read_none : (quoted : Bool) → read quoted [] ≡ []
read_none true = refl
read_none false = refl

pub read_end : (quoted : Bool) (z : Bytes) (i : ℕ) → length z ≤ i → read quoted (drop i z) ≡ []
read_end quoted z i h = ap (read quoted) (drop_all i z h) ∙ read_none quoted

pub read_bare : (quoted : Bool) (z : Bytes) (i : ℕ) → i < length z → (quoted ≡ true → slice_index z i ≡ 92 → ⊥)
    → read quoted (drop i z) ≡ slice_index z i ∷ read quoted (drop (i + 1) z)
read_bare true z i h other = read_other z i h (not_eqb (slice_index z i) 92 (other refl))
read_bare false z i h other = drop_more z i 0 h

pub read_some : (quoted : Bool) (z : Bytes) (i : ℕ) → i < length z → bytes_eq [] (read quoted (drop i z)) ≡ false
read_some false z i h = ap (bytes_eq []) (drop_more z i 0 h)
read_some true z i h = ap (λ x. bytes_eq [] (unescaped x)) (drop_more z i 0 h) ∙ not_none (slice_index z i) (drop (i + 1) z)
  where
    ways : (s t u : Bool) (a b c d : ℕ) (v w x y : Bytes) → bytes_eq [] (cond s (cond t (a ∷ v) (cond u (b ∷ w) (c ∷ x))) (d ∷ y)) ≡ false
    ways true true u a b c d v w x y = refl
    ways true false true a b c d v w x y = refl
    ways true false false a b c d v w x y = refl
    ways false t u a b c d v w x y = refl

    not_none : (c : ℕ) (z : Bytes) → bytes_eq [] (unescaped (c ∷ z)) ≡ false
    not_none c z = ways (eqb c 92) (eqb (slice_index z 0) 92) (begins_hex z) 92 (hex_byte z) c c (unescaped_after 1 z) (unescaped_after 2 z)
        (unescaped_after 0 z) (unescaped_after 0 z)

-- one byte of the name against one byte of another

pub front_end : (w : Bytes) → begins_with w [] ≡ true
front_end [] = refl
front_end (x ∷ w) = refl

pub front_past : (front : Bytes) (i : ℕ) → i < length front → begins_with [] (drop i front) ≡ false
front_past word i h = ap (begins_with []) (drop_more word i 0 h)

pub front_more : (w rest : Bytes) (c : ℕ) (word : Bytes) (i : ℕ) → w ≡ c ∷ rest → i < length word
    → begins_with w (drop i word) ≡ (eqb c (slice_index word i) && begins_with rest (drop (i + 1) word))
front_more w rest c word i is h = ap (λ x. begins_with x (drop i word)) is ∙ ap (begins_with (c ∷ rest)) (drop_more word i 0 h)

pub named_past : (word : Bytes) (i : ℕ) → i < length word → bytes_eq (drop i word) [] ≡ false
named_past word i h = ap (λ x. bytes_eq x []) (drop_more word i 0 h)

pub named_more : (w rest : Bytes) (c : ℕ) (word : Bytes) (i : ℕ) → w ≡ c ∷ rest → i < length word
    → bytes_eq (drop i word) w ≡ (eqb (slice_index word i) c && bytes_eq (drop (i + 1) word) rest)
named_more w rest c word i is h = ap (bytes_eq (drop i word)) is ∙ ap (λ x. bytes_eq x (c ∷ rest)) (drop_more word i 0 h)

-- the name ends where its bytes do
pub named_end : (quoted : Bool) (z word : Bytes) (i k : ℕ) → i ≤ length z → length word ≤ k → eqb i (length z) ≡ bytes_eq (drop k word) (read quoted (drop i z))
named_end quoted z word i k within past =
    ⊎_elim
    (λ inside. let apart : eqb i (length z) ≡ false = grind (arith, nat_tests) in
    apart ∙ sym (read_some quoted z i inside) ∙ ap (λ x. bytes_eq x (read quoted (drop i z))) (sym (drop_all k word past)))
    (λ outside. let same : eqb i (length z) ≡ true = grind (arith, nat_tests) in
    same ∙ ap (bytes_eq []) (sym (read_end quoted z i outside)) ∙ ap (λ x. bytes_eq x (read quoted (drop i z))) (sym (drop_all k word past)))
    (cases_lt i (length z))

-- names that are left out

digits_or : (z : Bytes) (t : Bool) (n : ℕ) (bytes : Bytes) → t ≡ false → is_left_name (cond t (Number n) (Spelled bytes)) ≡ are_left bytes
digits_or z t n bytes h = ap (λ x. is_left_name (cond x (Number n) (Spelled bytes))) h

-- a name that is quoted is what its quotes hold, read
pub left_quoted : (z : Bytes) → slice_index z 0 ≡ 34 → is_left_name (name_of z) ≡ are_left (unescaped (take (length z - 1 - 1) (drop 1 z)))
left_quoted z h =
    let quoted : eqb (slice_index z 0) 34 ≡ true = grind (arith, nat_tests) in
    let same : length z - 2 ≡ length z - 1 - 1 = omega arith in
    digits_or z (list_all is_ascii_digit z) (digits_value 10 z) (bytes_of z) (no_digits_quoted z h)
    ∙ ap (λ s. are_left (cond s (unescaped (take (length z - 2) (drop 1 z))) z)) quoted ∙ ap (λ n. are_left (unescaped (take n (drop 1 z)))) same
  where
    no_digits_quoted : (z : Bytes) → slice_index z 0 ≡ 34 → list_all is_ascii_digit z ≡ false
    no_digits_quoted [] h = absurd (omega arith)
    no_digits_quoted (c ∷ z) h = let first : c ≡ 34 = h in let bare : is_ascii_digit c ≡ false = grind (arith, nat_tests) in
        ap (λ s. s && list_all is_ascii_digit z) bare

-- no name that is left out begins with a digit
number_is_kept : (z : Bytes) → list_all is_ascii_digit z ≡ true → are_left z ≡ false
number_is_kept [] h = refl
number_is_kept (c ∷ z) h =
    let digit : is_ascii_digit c ≡ true = (and_parts (is_ascii_digit c) (list_all is_ascii_digit z) h).0 in
    let other : eqb c 108 ≡ false = grind (arith, nat_tests, digit) in
    grind (arith, other)

-- and one that is not quoted is its bytes
pub left_bare : (z : Bytes) → (slice_index z 0 ≡ 34 → ⊥) → is_left_name (name_of z) ≡ are_left z
left_bare z h = by_digits (list_all is_ascii_digit z) refl
  where
    bare : eqb (slice_index z 0) 34 ≡ false
    bare = not_eqb (slice_index z 0) 34 h

    by_digits : (t : Bool) → list_all is_ascii_digit z ≡ t → is_left_name (cond t (Number (digits_value 10 z)) (Spelled (bytes_of z))) ≡ are_left z
    by_digits true is = sym (number_is_kept z is)
    by_digits false is = ap (λ s. are_left (cond s (unescaped (take (length z - 2) (drop 1 z))) z)) bare
