-- Which kinds may begin with a byte, and that the longest of them is the token.
use Rattle.std.proofs.Common.{◌≡◌, ℕ, ◌+◌, ◌<◌, ◌≤◌, true, false, cond, ◌&&◌, ◌⊎◌, inl, inr, eqb, Some, length, refl, sym, ap, ◌∙◌, subst, ⊎_elim, arith}
use Rattle.std.proofs.lemmas.Bool.{cases_lt, cases_Bool, ne_eqb}
use Rattle.std.proofs.lemmas.Bool.Decides.{nat_tests}
use Rattle.std.specs.List.{slice_index}
use Rattle.std.specs.Char.{is_ascii_digit}
use Rattle.ir_token.specs.declared.token.Kind.{Kind}
use Rattle.ir_token.specs.declared.token.Kind.TheVariants.{Word, Global, Local, Comdat, Label, Int, Str, CStr, Group, Meta, Punct, Dots, Opaque}
use Rattle.ir_token.specs.Bytes.{Bytes, begins_word, is_word, is_label, is_punct}
use Rattle.ir_token.specs.Texts.{order, is_prefix}
use Rattle.ir_token.specs.Ends.{past, string_end, begins, end_at, text_end, begins_opaque, opaque_end, lacks_quote, IsTokenEnd, IsBadEnd}
use Rattle.ir_token.proofs.Past.{within_if, past_within, past_moves, past_stays, past_mono, past_step, past_end}
use Rattle.ir_token.proofs.Opaques.{opaque_within}

-- a text of kind k that is longer than each of the other kinds is the token
longest_token : (b : Bytes) (i : ℕ) (k : Kind) (e : ℕ) → begins_opaque b i ≡ false → lacks_quote b i ≡ false → i < e → e ≤ length b → e ≡ text_end b i k
    → ((j : Kind) → (text_end b i j < e) ⊎ (j ≡ k)) → IsTokenEnd b i k e
longest_token b i k e plain closed moves within ends others = record {
  within = within;
  unread = λ begins. let h : begins_opaque b i ≡ true = begins in absurd (cc);
  longest = λ _. (
    record {
      is_one = (moves, ends);
      longest = λ j. ⊎_elim (λ less. omega arith)
          (λ same. let P : Kind → Type 0 = λ x. text_end b i x ≤ e in let at_k : text_end b i k ≤ e = omega arith in subst P (sym same) at_k) (others j);
      first = λ j reaches. ⊎_elim (λ less. absurd (omega arith))
          (λ same. let P : Kind → Type 0 = λ x. order k ≤ order x in let at_k : order k ≤ order k = omega arith in subst P (sym same) at_k) (others j);
    },
    closed,
  );
}

-- a kind that may not begin so has no text here
none_here : (b : Bytes) (i : ℕ) (k : Kind) → begins k (slice_index b i) ≡ false → text_end b i k ≡ i
none_here b i k h = ap (λ t. cond t (end_at b i k) i) h

-- the kinds that begin with a digit, a letter, a byte of a label, a mark
digit : (c : ℕ) → is_ascii_digit c ≡ true → (k : Kind) → (begins k c ≡ false) ⊎ ((k ≡ Label) ⊎ (k ≡ Int))
digit c is Opaque = inl (grind (arith, nat_tests))
digit c is Label = inr (inl refl)
digit c is Global = inl (grind (arith, nat_tests))
digit c is Local = inl (grind (arith, nat_tests))
digit c is Comdat = inl (grind (arith, nat_tests))
digit c is Str = inl (grind (arith, nat_tests))
digit c is CStr = inl (grind (arith, nat_tests))
digit c is Group = inl (grind (arith, nat_tests))
digit c is Meta = inl (grind (arith, nat_tests))
digit c is Int = inr (inr refl)
digit c is Word = inl (grind (arith, nat_tests))
digit c is Dots = inl (grind (arith, nat_tests))
digit c is Punct = inl (grind (arith, nat_tests))

letter : (c : ℕ) → begins_word c ≡ true → (k : Kind) → (begins k c ≡ false) ⊎ ((k ≡ Label) ⊎ ((k ≡ CStr) ⊎ (k ≡ Word)))
letter c is Opaque = inl (grind (arith, nat_tests))
letter c is Label = inr (inl refl)
letter c is Global = inl (grind (arith, nat_tests))
letter c is Local = inl (grind (arith, nat_tests))
letter c is Comdat = inl (grind (arith, nat_tests))
letter c is Str = inl (grind (arith, nat_tests))
letter c is CStr = inr (inr (inl refl))
letter c is Group = inl (grind (arith, nat_tests))
letter c is Meta = inl (grind (arith, nat_tests))
letter c is Int = inl (grind (arith, nat_tests))
letter c is Word = inr (inr (inr refl))
letter c is Dots = inl (grind (arith, nat_tests))
letter c is Punct = inl (grind (arith, nat_tests))

mark : (c : ℕ) → is_punct c ≡ true → (k : Kind) → (begins k c ≡ false) ⊎ (k ≡ Punct)
mark c is Opaque = inl (grind (arith, nat_tests))
mark c is Label = inl (grind (arith, nat_tests))
mark c is Global = inl (grind (arith, nat_tests))
mark c is Local = inl (grind (arith, nat_tests))
mark c is Comdat = inl (grind (arith, nat_tests))
mark c is Str = inl (grind (arith, nat_tests))
mark c is CStr = inl (grind (arith, nat_tests))
mark c is Group = inl (grind (arith, nat_tests))
mark c is Meta = inl (grind (arith, nat_tests))
mark c is Int = inl (grind (arith, nat_tests))
mark c is Word = inl (grind (arith, nat_tests))
mark c is Dots = inl (grind (arith, nat_tests))
mark c is Punct = inr refl

-- a text within the run of label bytes is shorter than the label that ends behind it
within_run : (c : ℕ) → is_label c ≡ true → (k : Kind)
    → (begins k c ≡ false) ⊎ ((k ≡ Label) ⊎ (((k ≡ Int) ⊎ (k ≡ Word)) ⊎ (((k ≡ CStr) ⊎ (k ≡ Dots)) ⊎ ((k ≡ Comdat) ⊎ (k ≡ Opaque)))))
within_run c is Opaque = inr (inr (inr (inr (inr refl))))
within_run c is Label = inr (inl refl)
within_run c is Global = inl (grind (arith, nat_tests))
within_run c is Local = inl (grind (arith, nat_tests))
within_run c is Comdat = inr (inr (inr (inr (inl refl))))
within_run c is Str = inl (grind (arith, nat_tests))
within_run c is CStr = inr (inr (inr (inl (inl refl))))
within_run c is Group = inl (grind (arith, nat_tests))
within_run c is Meta = inl (grind (arith, nat_tests))
within_run c is Int = inr (inr (inl (inl refl)))
within_run c is Word = inr (inr (inl (inr refl)))
within_run c is Dots = inr (inr (inr (inl (inr refl))))
within_run c is Punct = inl (grind (arith, nat_tests))

quote : (c : ℕ) → c ≡ 34 → (k : Kind) → (begins k c ≡ false) ⊎ ((k ≡ Label) ⊎ (k ≡ Str))
quote c is Opaque = inl (grind (arith, nat_tests))
quote c is Label = inr (inl refl)
quote c is Global = inl (grind (arith, nat_tests))
quote c is Local = inl (grind (arith, nat_tests))
quote c is Comdat = inl (grind (arith, nat_tests))
quote c is Str = inr (inr refl)
quote c is CStr = inl (grind (arith, nat_tests))
quote c is Group = inl (grind (arith, nat_tests))
quote c is Meta = inl (grind (arith, nat_tests))
quote c is Int = inl (grind (arith, nat_tests))
quote c is Word = inl (grind (arith, nat_tests))
quote c is Dots = inl (grind (arith, nat_tests))
quote c is Punct = inl (grind (arith, nat_tests))

-- a string that no colon follows is the token
pub string_token : (b : Bytes) (i e : ℕ) → slice_index b i ≡ 34 → begins_opaque b i ≡ false → e ≡ string_end b i → i < e → e ≤ length b
    → (slice_index b e ≡ 58 → ⊥) → IsTokenEnd b i Str e
string_token b i e is plain there moves within bare =
    let end : e ≡ text_end b i Str = grind (arith, nat_tests) in
    let closed : lacks_quote b i ≡ false = grind (arith, nat_tests) in
    let colon : eqb (slice_index b e) 58 ≡ false = ne_eqb (slice_index b e) 58 bare in
    let unlabelled : text_end b i Label ≡ i = grind (arith, nat_tests) in
    longest_token b i Str e plain closed moves within end
    (λ k. ⊎_elim (λ other. inl (omega (arith, none_here b i k other)))
    (⊎_elim (λ label. inl (let P : Kind → Type 0 = λ x. text_end b i x < e in let less : text_end b i Label < e = omega arith in subst P (sym label) less))
    (λ same. inr same)) (quote (slice_index b i) is k))

-- a byte with which no text begins
pub bad_byte : (b : Bytes) (i : ℕ) → i < length b → begins_opaque b i ≡ false → is_label (slice_index b i) ≡ false → is_punct (slice_index b i) ≡ false
    → (slice_index b i ≡ 37 → ⊥) → (slice_index b i ≡ 64 → ⊥) → (slice_index b i ≡ 34 → ⊥) → (slice_index b i ≡ 35 → ⊥) → (slice_index b i ≡ 33 → ⊥)
    → IsBadEnd b i
bad_byte b i inside plain label punct no_37 no_64 no_34 no_35 no_33 = record {
  within = inside;
  unread = λ begins. let h : begins_opaque b i ≡ true = begins in absurd (cc);
  none = λ _. (
    λ k. omega (
      arith,
      none_here b i k
          (none (slice_index b i) label punct (ne_eqb _ _ no_37) (ne_eqb _ _ no_64) (ne_eqb _ _ no_34) (ne_eqb _ _ no_35) (ne_eqb _ _ no_33) k),
    ),
    closed
        (ne_eqb _ _ no_64) (ne_eqb _ _ no_37) (ne_eqb _ _ no_34),
  );
}
  where
    closed : eqb (slice_index b i) 64 ≡ false → eqb (slice_index b i) 37 ≡ false → eqb (slice_index b i) 34 ≡ false → lacks_quote b i ≡ false
    closed one two three = let prefix : is_prefix (slice_index b i) ≡ false = grind (arith, nat_tests) in grind (arith, nat_tests)

    none : (c : ℕ) → is_label c ≡ false → is_punct c ≡ false → eqb c 37 ≡ false → eqb c 64 ≡ false → eqb c 34 ≡ false → eqb c 35 ≡ false → eqb c 33 ≡ false
        → (k : Kind) → begins k c ≡ false
    none c label punct one two three four five Opaque = grind (arith, nat_tests)
    none c label punct one two three four five Label = grind (arith, nat_tests)
    none c label punct one two three four five Global = two
    none c label punct one two three four five Local = one
    none c label punct one two three four five Comdat = grind (arith, nat_tests)
    none c label punct one two three four five Str = three
    none c label punct one two three four five CStr = grind (arith, nat_tests)
    none c label punct one two three four five Group = four
    none c label punct one two three four five Meta = five
    none c label punct one two three four five Int = grind (arith, nat_tests)
    none c label punct one two three four five Word = grind (arith, nat_tests)
    none c label punct one two three four five Dots = grind (arith, nat_tests)
    none c label punct one two three four five Punct = punct

-- an Opaque comes before all others
pub opaque_token : (b : Bytes) (i e : ℕ) → begins_opaque b i ≡ true → opaque_end b i ≡ Some e → IsTokenEnd b i Opaque e
opaque_token b i e begins ends = record {
  within = opaque_within b i e begins ends;
  unread = λ _. (refl, ends);
  longest = λ plain. let h : begins_opaque b i ≡ false = plain in absurd (cc);
}

pub int_token : (b : Bytes) (i e : ℕ) → i < length b → is_ascii_digit (slice_index b i) ≡ true → begins_opaque b i ≡ false → text_end b i Label ≡ i
    → e ≡ past is_ascii_digit b i → e ≤ length b → IsTokenEnd b i Int e
int_token b i e inside is plain unlabelled there within =
    let moves : i < past is_ascii_digit b i = past_moves is_ascii_digit b i inside is in
    let end : e ≡ text_end b i Int = grind (arith, nat_tests) in
    let closed : lacks_quote b i ≡ false = grind (arith, nat_tests) in
    longest_token b i Int e plain closed (omega arith) within end
    (λ k. ⊎_elim (λ other. inl (omega (arith, none_here b i k other)))
    (⊎_elim (λ label. inl (let P : Kind → Type 0 = λ x. text_end b i x < e in let less : text_end b i Label < e = omega arith in subst P (sym label) less))
    (λ same. inr same)) (digit (slice_index b i) is k))

pub word_token : (b : Bytes) (i e : ℕ) → i < length b → begins_word (slice_index b i) ≡ true
    → (eqb (slice_index b i) 99 && eqb (slice_index b (i + 1)) 34) ≡ false
    → begins_opaque b i ≡ false → text_end b i Label ≡ i → e ≡ past is_word b i → e ≤ length b → IsTokenEnd b i Word e
word_token b i e inside is unquoted plain unlabelled there within =
    let first : is_word (slice_index b i) ≡ true = grind (arith, nat_tests) in
    let moves : i < past is_word b i = past_moves is_word b i inside first in
    let end : e ≡ text_end b i Word = grind (arith, nat_tests) in
    let closed : lacks_quote b i ≡ false = grind (arith, nat_tests) in
    let constant : text_end b i CStr ≡ i = grind (arith, nat_tests) in
    longest_token b i Word e plain closed (omega arith) within end
    (λ k. ⊎_elim (λ other. inl (omega (arith, none_here b i k other)))
    (⊎_elim (λ label. inl (let P : Kind → Type 0 = λ x. text_end b i x < e in let less : text_end b i Label < e = omega arith in subst P (sym label) less))
    (⊎_elim (λ same. inl (let P : Kind → Type 0 = λ x. text_end b i x < e in let less : text_end b i CStr < e = omega arith in subst P (sym same) less))
    (λ same. inr same))) (letter (slice_index b i) is k))

pub constant_token : (b : Bytes) (i e : ℕ) → i < length b → slice_index b i ≡ 99 → slice_index b (i + 1) ≡ 34
    → begins_opaque b i ≡ false → text_end b i Label ≡ i → e ≡ string_end b (i + 1) → i + 1 < e → e ≤ length b → IsTokenEnd b i CStr e
constant_token b i e inside is quote plain unlabelled there further within =
    let letter_here : begins_word (slice_index b i) ≡ true = grind (arith, nat_tests) in
    let behind : is_word (slice_index b (i + 1)) ≡ false = grind (arith, nat_tests) in
    let first : is_word (slice_index b i) ≡ true = grind (arith, nat_tests) in
    let one : past is_word b i ≡ i + 1 = past_step is_word b i inside first ∙ past_stays is_word b (i + 1) (omega arith) behind in
    let word : text_end b i Word ≡ i + 1 = grind (arith, nat_tests) in
    let end : e ≡ text_end b i CStr = grind (arith, nat_tests) in
    let closed : lacks_quote b i ≡ false = grind (arith, nat_tests) in
    longest_token b i CStr e plain closed (omega arith) within end
    (λ k. ⊎_elim (λ other. inl (omega (arith, none_here b i k other)))
    (⊎_elim (λ label. inl (let P : Kind → Type 0 = λ x. text_end b i x < e in let less : text_end b i Label < e = omega arith in subst P (sym label) less))
    (⊎_elim (λ same. inr same)
    (λ same. inl (let P : Kind → Type 0 = λ x. text_end b i x < e in let less : text_end b i Word < e = omega arith in subst P (sym same) less))))
    (letter (slice_index b i) letter_here k))

pub punct_token : (b : Bytes) (i : ℕ) → i < length b → is_punct (slice_index b i) ≡ true → begins_opaque b i ≡ false → IsTokenEnd b i Punct (i + 1)
punct_token b i inside is plain =
    let end : i + 1 ≡ text_end b i Punct = grind (arith, nat_tests) in
    let closed : lacks_quote b i ≡ false = grind (arith, nat_tests) in
    longest_token b i Punct (i + 1) plain closed (omega arith) (omega arith) end
    (λ k. ⊎_elim (λ other. inl (omega (arith, none_here b i k other))) (λ same. inr same) (mark (slice_index b i) is k))

-- the kinds within a run of label bytes end within it
module _ (b : Bytes) (i : ℕ) (inside : i < length b) (is : is_label (slice_index b i) ≡ true) (colon : slice_index b (past is_label b i) ≡ 58)
    (plain : begins_opaque b i ≡ false) where
  top : past is_label b i ≤ length b
  top = (past_within is_label b i (omega arith)).1

  next : past is_label b i ≡ past is_label b (i + 1)
  next = past_step is_label b i inside is

  -- no string begins behind the first byte
  no_quote : eqb (slice_index b (i + 1)) 34 ≡ false
  no_quote = ⊎_elim
      (λ quoted. let quote : slice_index b (i + 1) ≡ 34 = grind (arith, nat_tests) in absurd (at_quote quote))
      (λ h. h) (cases_Bool (eqb (slice_index b (i + 1)) 34))
    where
      at_quote : slice_index b (i + 1) ≡ 34 → ⊥
      at_quote quote =
          let other : is_label (slice_index b (i + 1)) ≡ false = grind (arith, nat_tests) in
          let stay : past is_label b (i + 1) ≡ i + 1 = ⊎_elim (λ within. past_stays is_label b (i + 1) within other)
          (λ outside. past_end is_label b (i + 1) outside) (cases_lt (i + 1) (length b)) in
          let here : slice_index b (i + 1) ≡ 58 = ap (slice_index b) (sym (next ∙ stay)) ∙ colon in
          omega arith

  digits_end : (j : ℕ) → j ≤ length b → past is_ascii_digit b j ≤ past is_label b j
  digits_end j within = past_mono is_ascii_digit is_label b j within (λ c h. grind (arith, nat_tests))

  int_end : text_end b i Int ≤ past is_label b i
  int_end = let low = digits_end i (omega arith) in let behind = digits_end (i + 1) (omega arith) in let moves = past_moves is_label b i inside is in
      grind (arith, nat_tests, low, behind, moves, next)

  word_end : text_end b i Word ≤ past is_label b i
  word_end = let low : past is_word b i ≤ past is_label b i = past_mono is_word is_label b i (omega arith) (λ c h. grind (arith, nat_tests)) in
      grind (arith, nat_tests)

  constant_end : text_end b i CStr ≡ i
  constant_end = let bare = no_quote in grind (arith, nat_tests, bare)

  dots_end : text_end b i Dots ≤ past is_label b i
  dots_end = ⊎_elim
      (λ two. let second : slice_index b (i + 1) ≡ 46 = grind (arith, nat_tests) in let third : slice_index b (i + 2) ≡ 46 = grind (arith, nat_tests) in
      let e : text_end b i Dots ≤ i + 3 = grind (arith, nat_tests) in let far = three second third in omega arith)
      (λ less. let e : text_end b i Dots ≡ i = grind (arith, nat_tests) in omega (arith, (past_within is_label b i (omega arith)).0))
      (cases_Bool (eqb (slice_index b (i + 1)) 46 && eqb (slice_index b (i + 2)) 46))
    where
      three : slice_index b (i + 1) ≡ 46 → slice_index b (i + 2) ≡ 46 → i + 3 ≤ past is_label b i
      three second third =
          let within : i + 2 < length b = within_if b (i + 2) (omega arith) in
          let is2 : is_label (slice_index b (i + 1)) ≡ true = grind (arith, nat_tests) in
          let is3 : is_label (slice_index b (i + 2)) ≡ true = grind (arith, nat_tests) in
          let step : past is_label b (i + 1) ≡ past is_label b (i + 1 + 1) = past_step is_label b (i + 1) (omega arith) is2 in
          let same : i + 1 + 1 ≡ i + 2 = omega arith in
          let last : i + 2 < past is_label b (i + 2) = past_moves is_label b (i + 2) within is3 in
          let here : past is_label b (i + 1 + 1) ≡ past is_label b (i + 2) = ap (past is_label b) same in
          omega (arith, next)

  comdat_end : text_end b i Comdat ≤ past is_label b i
  comdat_end =
      let bare = no_quote in
      let digits = digits_end (i + 1) (omega arith) in
      let moves : i < past is_label b i = past_moves is_label b i inside is in
      grind (arith, nat_tests, bare, digits, next)

  pub label_token : IsTokenEnd b i Label (past is_label b i + 1)
  label_token =
      let moves : i < past is_label b i = past_moves is_label b i inside is in
      let end : past is_label b i + 1 ≡ text_end b i Label = grind (arith, nat_tests) in
      let within : past is_label b i < length b = within_if b (past is_label b i) (omega arith) in
      let bare = no_quote in
      let closed : lacks_quote b i ≡ false = grind (arith, nat_tests, bare) in
      let P : Kind → Type 0 = λ x. text_end b i x < past is_label b i + 1 in
      let int : P Int = omega (arith, int_end) in
      let word : P Word = omega (arith, word_end) in
      let constant : P CStr = omega (arith, constant_end) in
      let dots : P Dots = omega (arith, dots_end) in
      let comdat : P Comdat = omega (arith, comdat_end) in
      let opaque : P Opaque = grind (arith, nat_tests) in
      longest_token b i Label (past is_label b i + 1) plain closed (omega arith) (omega arith) end
      (λ k. ⊎_elim (λ other. inl (omega (arith, none_here b i k other)))
      (⊎_elim (λ same. inr same)
      (⊎_elim (⊎_elim (λ same. inl (subst P (sym same) int)) (λ same. inl (subst P (sym same) word)))
      (⊎_elim (⊎_elim (λ same. inl (subst P (sym same) constant)) (λ same. inl (subst P (sym same) dots)))
      (⊎_elim (λ same. inl (subst P (sym same) comdat)) (λ same. inl (subst P (sym same) opaque))))))
      (within_run (slice_index b i) is k))
