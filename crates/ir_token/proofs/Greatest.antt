-- For each kind the end that is computed is that of a text of the kind, and no text of the kind ends beyond it.
use Rattle.std.proofs.Common.{◌≡◌, ℕ, ◌+◌, ◌<◌, ◌≤◌, Bool, true, false, inl, inr, eqb, Option, None, Some, length, refl, sym, ap, ◌∙◌, subst, ⊎_elim, arith}
use Rattle.std.proofs.lemmas.Bool.{cases_Bool}
use Rattle.std.proofs.lemmas.Bool.Decides.{nat_tests}
use Rattle.std.specs.List.{slice_index}
use Rattle.std.specs.Char.{is_ascii_digit}
use Rattle.ir_token.specs.declared.token.Kind.{Kind}
use Rattle.ir_token.specs.declared.token.Kind.TheVariants.{Word, Global, Local, Comdat, Label, Int, Str, CStr, Group, Meta, Punct, Dots, Opaque}
use Rattle.ir_token.specs.Bytes.{Bytes, begins_word, is_word, is_label, is_punct}
use Rattle.ir_token.specs.Texts.{IsText, IsString, IsSome, IsName, IsNamed}
use Rattle.ir_token.specs.Ends.{past, string_end, name_end, meta_end, prefixed, text_end, begins_opaque, opaque_end, place_or}
use Rattle.ir_token.proofs.Past.{run_past, run_is_past}
use Rattle.ir_token.proofs.Meaning.{some_past, some_first, string_is, string_to, string_moves, name_is, name_to, name_moves, meta_is, meta_to, meta_moves}
use Rattle.ir_token.proofs.Opaques.{opaque_from, opaque_begins, opaque_moves, opaque_text, opaque_text_end, opaque_none, opaque_to}

pub record IsGreatest (b : Bytes) (i : ℕ) (k : Kind) : Type 0 where
  pub is_text : i < text_end b i k → IsText k b i (text_end b i k)
  pub no_further : (e : ℕ) → e ≤ length b → IsText k b i e → e ≤ text_end b i k

-- a text has a byte
pub text_moves : (k : Kind) (b : Bytes) (i e : ℕ) → IsText k b i e → i < e
text_moves Opaque b i e h = opaque_moves b i e h
text_moves Label b i e (colon, (either, is, ends)) = ⊎_elim (λ run. omega (arith, run.0)) (λ string. omega (arith, string_moves b i colon string)) either
text_moves Global b i e h = omega (arith, name_moves b (i + 1) e h.1)
text_moves Local b i e h = omega (arith, name_moves b (i + 1) e h.1)
text_moves Comdat b i e h = omega (arith, name_moves b (i + 1) e h.1)
text_moves Str b i e h = omega (arith, string_moves b i e h)
text_moves CStr b i e h = omega (arith, string_moves b (i + 1) e h.1)
text_moves Group b i e h = omega (arith, h.1.0)
text_moves Meta b i e h = omega (arith, meta_moves b i e h)
text_moves Int b i e h = ⊎_elim (λ run. run.0) (λ signed. omega (arith, signed.1.0)) h
text_moves Word b i e h = h.1.0
text_moves Dots b i e h = omega (arith, h.1)
text_moves Punct b i e h = omega (arith, h.1)

opaque : (b : Bytes) (i : ℕ) → IsGreatest b i Opaque
opaque b i = record { is_text = λ h. is h; no_further = λ e within text. to e within text }
  where
    by_end : begins_opaque b i ≡ true → (o : Option ℕ) → opaque_end b i ≡ o → i < place_or i o → IsText Opaque b i (place_or i o)
    by_end begins None ends h = absurd (omega arith)
    by_end begins (Some e) ends h = opaque_text b i e begins ends

    is : i < text_end b i Opaque → IsText Opaque b i (text_end b i Opaque)
    is h = ⊎_elim (λ begins. let same = opaque_text_end b i begins in
        subst (λ n. IsText Opaque b i n) (sym same) (by_end begins (opaque_end b i) refl (omega arith)))
        (λ plain. absurd (omega (arith, opaque_none b i plain))) (cases_Bool (begins_opaque b i))

    to : (e : ℕ) → e ≤ length b → IsText Opaque b i e → e ≤ text_end b i Opaque
    to e within text =
        let begins : begins_opaque b i ≡ true = opaque_from b i (opaque_begins b i e text) in
        let same : text_end b i Opaque ≡ e = opaque_text_end b i begins ∙ ap (place_or i) (opaque_to b i e within text) in
        omega arith

label : (b : Bytes) (i : ℕ) → IsGreatest b i Label
label b i = record { is_text = λ h. is h; no_further = λ e within text. to e within text }
  where
    quoted : i < text_end b i Label → slice_index b i ≡ 34 → IsText Label b i (text_end b i Label)
    quoted h opens =
        let colon : slice_index b (string_end b i) ≡ 58 = grind (arith, nat_tests) in
        let moves : i < string_end b i = grind (arith, nat_tests) in
        let e : text_end b i Label ≡ string_end b i + 1 = grind (arith, nat_tests) in
        (string_end b i, (inr (string_is b i moves), colon, e))

    plain : i < text_end b i Label → (eqb (slice_index b i) 34 ≡ false) → IsText Label b i (text_end b i Label)
    plain h other =
        let colon : slice_index b (past is_label b i) ≡ 58 = grind (arith, nat_tests) in
        let moves : i < past is_label b i = grind (arith, nat_tests) in
        let e : text_end b i Label ≡ past is_label b i + 1 = grind (arith, nat_tests) in
        (past is_label b i, (inl (some_past is_label b i moves), colon, e))

    is : i < text_end b i Label → IsText Label b i (text_end b i Label)
    is h = ⊎_elim (λ string. let opens : slice_index b i ≡ 34 = grind (arith, nat_tests) in quoted h opens)
        (λ other. plain h other) (cases_Bool (eqb (slice_index b i) 34))

    from_run : (colon : ℕ) → colon < length b → IsSome is_label b i colon → slice_index b colon ≡ 58 → colon + 1 ≤ text_end b i Label
    from_run colon within run is58 =
        let first : is_label (slice_index b i) ≡ true = some_first is_label b i colon run in
        let stops : is_label (slice_index b colon) ≡ false = grind (arith, nat_tests) in
        let there : past is_label b i ≡ colon = run_is_past is_label b i colon within run.1 stops in
        let last : slice_index b (past is_label b i) ≡ 58 = ap (slice_index b) there ∙ is58 in
        let moves : i < past is_label b i = omega (arith, run.0) in
        let e : text_end b i Label ≡ past is_label b i + 1 = grind (arith, nat_tests) in
        omega arith

    from_string : (colon : ℕ) → colon < length b → IsString b i colon → slice_index b colon ≡ 58 → colon + 1 ≤ text_end b i Label
    from_string colon within string is58 =
        let opens : slice_index b i ≡ 34 = string.1.0 in
        let there : colon ≡ string_end b i = string_to b i colon (omega arith) string in
        let last : slice_index b (string_end b i) ≡ 58 = ap (slice_index b) (sym there) ∙ is58 in
        let moves : i < string_end b i = omega (arith, string_moves b i colon string) in
        let e : text_end b i Label ≡ string_end b i + 1 = grind (arith, nat_tests) in
        omega arith

    to : (e : ℕ) → e ≤ length b → IsText Label b i e → e ≤ text_end b i Label
    to e within (colon, (either, is58, ends)) =
        let inside : colon < length b = omega arith in
        let reach : colon + 1 ≤ text_end b i Label = ⊎_elim (λ run. from_run colon inside run is58) (λ string. from_string colon inside string is58) either in
        omega arith

-- the three kinds of a byte and a name

named_is : (b : Bytes) (i sigil e : ℕ) → slice_index b i ≡ sigil → e ≡ prefixed i (name_end b (i + 1)) → i < e → IsNamed sigil b i e
named_is b i sigil e is same moves =
    let further : i + 1 < name_end b (i + 1) = grind (arith, nat_tests) in
    let there : e ≡ name_end b (i + 1) = grind (arith, nat_tests) in
    (is, subst (λ n. IsName b (i + 1) n) (sym there) (name_is b (i + 1) further))

named_to : (b : Bytes) (i sigil e : ℕ) → e ≤ length b → IsNamed sigil b i e → e ≤ prefixed i (name_end b (i + 1))
named_to b i sigil e within named =
    let moves : i + 1 < e = name_moves b (i + 1) e named.1 in
    let low : e ≤ name_end b (i + 1) = name_to b (i + 1) e within named.1 in
    grind (arith, nat_tests)

global : (b : Bytes) (i : ℕ) → IsGreatest b i Global
global b i = record {
  is_text = λ h. let is : slice_index b i ≡ 64 = grind (arith, nat_tests) in
      let e : text_end b i Global ≡ prefixed i (name_end b (i + 1)) = grind (arith, nat_tests) in named_is b i 64 (text_end b i Global) is e h;
  no_further = λ e within text. let is : slice_index b i ≡ 64 = text.0 in
      let same : text_end b i Global ≡ prefixed i (name_end b (i + 1)) = grind (arith, nat_tests) in omega (arith, named_to b i 64 e within text);
}

local : (b : Bytes) (i : ℕ) → IsGreatest b i Local
local b i = record {
  is_text = λ h. let is : slice_index b i ≡ 37 = grind (arith, nat_tests) in
      let e : text_end b i Local ≡ prefixed i (name_end b (i + 1)) = grind (arith, nat_tests) in named_is b i 37 (text_end b i Local) is e h;
  no_further = λ e within text. let is : slice_index b i ≡ 37 = text.0 in
      let same : text_end b i Local ≡ prefixed i (name_end b (i + 1)) = grind (arith, nat_tests) in omega (arith, named_to b i 37 e within text);
}

comdat : (b : Bytes) (i : ℕ) → IsGreatest b i Comdat
comdat b i = record {
  is_text = λ h. let is : slice_index b i ≡ 36 = grind (arith, nat_tests) in
      let e : text_end b i Comdat ≡ prefixed i (name_end b (i + 1)) = grind (arith, nat_tests) in named_is b i 36 (text_end b i Comdat) is e h;
  no_further = λ e within text. let is : slice_index b i ≡ 36 = text.0 in
      let same : text_end b i Comdat ≡ prefixed i (name_end b (i + 1)) = grind (arith, nat_tests) in omega (arith, named_to b i 36 e within text);
}

-- strings

str : (b : Bytes) (i : ℕ) → IsGreatest b i Str
str b i = record {
  is_text = λ h. let e : text_end b i Str ≡ string_end b i = grind (arith, nat_tests) in subst (λ n. IsString b i n) (sym e) (string_is b i (omega arith));
  no_further = λ e within text. let opens : slice_index b i ≡ 34 = text.1.0 in let same : text_end b i Str ≡ string_end b i = grind (arith, nat_tests) in
      omega (arith, string_to b i e within text);
}

constant : (b : Bytes) (i : ℕ) → IsGreatest b i CStr
constant b i = record {
  is_text = λ h. let is : slice_index b i ≡ 99 = grind (arith, nat_tests) in let moves : i + 1 < string_end b (i + 1) = grind (arith, nat_tests) in
      let e : text_end b i CStr ≡ string_end b (i + 1) = grind (arith, nat_tests) in
      (is, subst (λ n. IsString b (i + 1) n) (sym e) (string_is b (i + 1) moves));
  no_further = λ e within text. let is : slice_index b i ≡ 99 = text.0 in let there : e ≡ string_end b (i + 1) = string_to b (i + 1) e within text.1 in
      let moves : i + 1 + 1 < e = string_moves b (i + 1) e text.1 in let same : text_end b i CStr ≡ string_end b (i + 1) = grind (arith, nat_tests) in
      omega arith;
}

-- a byte and a run behind it

marked_is : (p : ℕ → Bool) (b : Bytes) (i e : ℕ) → e ≡ prefixed i (past p b (i + 1)) → i < e → IsSome p b (i + 1) e
marked_is p b i e same moves =
    let further : i + 1 < past p b (i + 1) = grind (arith, nat_tests) in
    let there : e ≡ past p b (i + 1) = grind (arith, nat_tests) in
    subst (λ n. IsSome p b (i + 1) n) (sym there) (some_past p b (i + 1) further)

marked_to : (p : ℕ → Bool) (b : Bytes) (i e : ℕ) → e ≤ length b → IsSome p b (i + 1) e → e ≤ prefixed i (past p b (i + 1))
marked_to p b i e within some =
    let moves : i + 1 < e = some.0 in
    let low : e ≤ past p b (i + 1) = run_past p b (i + 1) e within some.1 in
    grind (arith, nat_tests)

group : (b : Bytes) (i : ℕ) → IsGreatest b i Group
group b i = record {
  is_text = λ h. let is : slice_index b i ≡ 35 = grind (arith, nat_tests) in
      let e : text_end b i Group ≡ prefixed i (past is_ascii_digit b (i + 1)) = grind (arith, nat_tests) in
      (is, marked_is is_ascii_digit b i (text_end b i Group) e h);
  no_further = λ e within text. let is : slice_index b i ≡ 35 = text.0 in
      let same : text_end b i Group ≡ prefixed i (past is_ascii_digit b (i + 1)) = grind (arith, nat_tests) in
      omega (arith, marked_to is_ascii_digit b i e within text.1);
}

meta : (b : Bytes) (i : ℕ) → IsGreatest b i Meta
meta b i = record { is_text = λ h. is h; no_further = λ e within text. to e within text }
  where
    is : i < text_end b i Meta → IsText Meta b i (text_end b i Meta)
    is h =
        let mark : slice_index b i ≡ 33 = grind (arith, nat_tests) in
        let e : text_end b i Meta ≡ prefixed i (meta_end b (i + 1)) = grind (arith, nat_tests) in
        let further : i + 1 < meta_end b (i + 1) = grind (arith, nat_tests) in
        let there : text_end b i Meta ≡ meta_end b (i + 1) = grind (arith, nat_tests) in
        subst (λ n. IsText Meta b i n) (sym there) (meta_is b i mark further)

    to : (e : ℕ) → e ≤ length b → IsText Meta b i e → e ≤ text_end b i Meta
    to e within text =
        let mark : slice_index b i ≡ 33 = text.0 in
        let moves : i + 1 < e = meta_moves b i e text in
        let low : e ≤ meta_end b (i + 1) = meta_to b i e within text in
        let same : text_end b i Meta ≡ prefixed i (meta_end b (i + 1)) = grind (arith, nat_tests) in
        grind (arith, nat_tests)

int : (b : Bytes) (i : ℕ) → IsGreatest b i Int
int b i = record { is_text = λ h. is h; no_further = λ e within text. to e within text }
  where
    is : i < text_end b i Int → IsText Int b i (text_end b i Int)
    is h =
        ⊎_elim
        (λ sign. let minus : slice_index b i ≡ 45 = grind (arith, nat_tests) in
        let e : text_end b i Int ≡ prefixed i (past is_ascii_digit b (i + 1)) = grind (arith, nat_tests) in
        inr (minus, marked_is is_ascii_digit b i (text_end b i Int) e h))
        (λ plain. let e : text_end b i Int ≡ past is_ascii_digit b i = grind (arith, nat_tests) in
        inl (subst (λ n. IsSome is_ascii_digit b i n) (sym e) (some_past is_ascii_digit b i (omega arith))))
        (cases_Bool (eqb (slice_index b i) 45))

    to : (e : ℕ) → e ≤ length b → IsText Int b i e → e ≤ text_end b i Int
    to e within text =
        ⊎_elim
        (λ digits. let first : is_ascii_digit (slice_index b i) ≡ true = some_first is_ascii_digit b i e digits in
        let same : text_end b i Int ≡ past is_ascii_digit b i = grind (arith, nat_tests) in omega (arith, run_past is_ascii_digit b i e within digits.1))
        (λ signed. let minus : slice_index b i ≡ 45 = signed.0 in
        let same : text_end b i Int ≡ prefixed i (past is_ascii_digit b (i + 1)) = grind (arith, nat_tests) in
        omega (arith, marked_to is_ascii_digit b i e within signed.1))
        text

word : (b : Bytes) (i : ℕ) → IsGreatest b i Word
word b i = record {
  is_text = λ h. let is : begins_word (slice_index b i) ≡ true = grind (arith, nat_tests) in
      let e : text_end b i Word ≡ past is_word b i = grind (arith, nat_tests) in
      (is, subst (λ n. IsSome is_word b i n) (sym e) (some_past is_word b i (omega arith)));
  no_further = λ e within text. let is : begins_word (slice_index b i) ≡ true = text.0 in
      let same : text_end b i Word ≡ past is_word b i = grind (arith, nat_tests) in omega (arith, run_past is_word b i e within text.1.1);
}

dots : (b : Bytes) (i : ℕ) → IsGreatest b i Dots
dots b i = record { is_text = λ h. is h; no_further = λ e within text. to e text }
  where
    is : i < text_end b i Dots → IsText Dots b i (text_end b i Dots)
    is h =
        let one : slice_index b i ≡ 46 = grind (arith, nat_tests) in
        let two : slice_index b (i + 1) ≡ 46 = grind (arith, nat_tests) in
        let three : slice_index b (i + 2) ≡ 46 = grind (arith, nat_tests) in
        let e : text_end b i Dots ≡ i + 3 = grind (arith, nat_tests) in
        let same : i + 2 ≡ i + 1 + 1 = omega arith in
        ((one, (two, (ap (slice_index b) (sym same) ∙ three, tt))), e)

    to : (e : ℕ) → IsText Dots b i e → e ≤ text_end b i Dots
    to e text =
        let one : slice_index b i ≡ 46 = text.0.0 in
        let two : slice_index b (i + 1) ≡ 46 = text.0.1.0 in
        let same : i + 2 ≡ i + 1 + 1 = omega arith in
        let three : slice_index b (i + 2) ≡ 46 = ap (slice_index b) same ∙ text.0.1.1.0 in
        let there : text_end b i Dots ≡ i + 3 = grind (arith, nat_tests) in
        omega (arith, text.1)

punct : (b : Bytes) (i : ℕ) → IsGreatest b i Punct
punct b i = record {
  is_text = λ h. let is : is_punct (slice_index b i) ≡ true = grind (arith, nat_tests) in let e : text_end b i Punct ≡ i + 1 = grind (arith, nat_tests) in
      (is, e);
  no_further = λ e within text. let is : is_punct (slice_index b i) ≡ true = text.0 in let same : text_end b i Punct ≡ i + 1 = grind (arith, nat_tests) in
      omega (arith, text.1);
}

pub greatest : (k : Kind) (b : Bytes) (i : ℕ) → i < length b → IsGreatest b i k
greatest Opaque b i inside = opaque b i
greatest Label b i inside = label b i
greatest Global b i inside = global b i
greatest Local b i inside = local b i
greatest Comdat b i inside = comdat b i
greatest Str b i inside = str b i
greatest CStr b i inside = constant b i
greatest Group b i inside = group b i
greatest Meta b i inside = meta b i
greatest Int b i inside = int b i
greatest Word b i inside = word b i
greatest Dots b i inside = dots b i
greatest Punct b i inside = punct b i
