-- How often a name stands in the words of what is added: once for each attribute of that name.
use Rattle.std.proofs.Common.{arith, ◌≡◌, ◌≢◌, ◌+◌, ◌%◌, ◌^◌, ◌<◌, ◌≤◌, ◌==◌, ◌&&◌, not, nat_le, if◌then◌else◌, ℕ, zero, suc, Bool, true, false}
use Rattle.std.proofs.Common.{List, [], ◌∷◌, ◌++◌, length, map, drop, take, sum_by, slice_get, slice_index, codes, decimal, Some, refl, sym, ap}
use Rattle.std.proofs.Common.{subst, ◌∙◌, inl, inr}
use Rattle.std.specs.List.{AllByRecursion, list_all}
use Rattle.std.specs.Str.{bytes_eq}
use Rattle.std.proofs.lemmas.Bool.{and_parts, eqb-true, leb-true}
use Rattle.std.proofs.lemmas.Bool.Decides.{eqb_tells}
use Rattle.std.proofs.lemmas.Fmt.{decimal_by_steps}
use Rattle.std.proofs.lemmas.List.{append-nil}
use Rattle.std.proofs.lemmas.List.Sums.{sum_by-cons}
use Rattle.shelf.proofs.Every.{every_append}
use Rattle.ir_module.specs.declared.module.Module.{Module}
use Rattle.facts.specs.Facts.{Fact}
use Rattle.manifest.specs.Attrs.{Attr}
use Rattle.manifest.specs.Added.{Added, inserted}
use Rattle.manifest.specs.Additions.{additions_of, insertions_of}
use Rattle.manifest.specs.Spelling.{IsProper, spelled, words_of}
use Rattle.manifest.proofs.Proper.{all_proper}
use Rattle.manifest.proofs.Told.{four, memory, behind_first, words_are}
use Rattle.attr_list.specs.Summed.{count_of, names, name_of, named, ends_name, begins_with, stands_at, times_in, times}
use Rattle.attr_list.proofs.Counting.{none_yet, next}

-- ---- the count of places, byte by byte

-- the same from a place on, where a word begins or does not
abbrev times_from : Bool → List ℕ → List ℕ → ℕ
times_from begins name [] = 0
times_from begins name (c ∷ text) = (if begins && begins_with name (c ∷ text) then 1 else 0) + times_from (c == 32) name text

abbrev word_after : Bool → List ℕ → ℕ → Bool
word_after begins text zero = begins
word_after begins text (suc k) = slice_index text k == 32

abbrev stands_after : Bool → List ℕ → List ℕ → ℕ → Bool
stands_after begins name text k = word_after begins text k && begins_with name (drop k text)

same_count : (f g : ℕ → Bool) (n : ℕ) → ((k : ℕ) → f k ≡ g k) → count_of f n ≡ count_of g n
same_count f g n agree = let same : f ≡ g = λ i k. agree k i in ap (λ h. count_of h n) same

-- the first number, and those behind it
first : (f : ℕ → Bool) (n : ℕ) → count_of f (suc n) ≡ (if f 0 then 1 else 0) + count_of (λ k. f (suc k)) n
first f zero = let more = next f 0 in let a = none_yet f in let b = none_yet (λ k. f (suc k)) in omega (arith, more, a, b)
first f (suc n) = let more = next f (suc n) in let rest = first f n in let last = next (λ k. f (suc k)) n in omega (arith, more, rest, last)

one_on : (begins : Bool) (name text : List ℕ) (c k : ℕ) → stands_after begins name (c ∷ text) (suc k) ≡ stands_after (c == 32) name text k
one_on begins name text c zero = refl
one_on begins name text c (suc k) = refl

counted : (begins : Bool) (name text : List ℕ) → count_of (stands_after begins name text) (length text) ≡ times_from begins name text
counted begins name [] = sym (none_yet (stands_after begins name []))
counted begins name (c ∷ text) =
    first (stands_after begins name (c ∷ text)) (length text) ∙ ap (λ n. (if begins && begins_with name (c ∷ text) then 1 else 0) + n)
    (same_count (λ k. stands_after begins name (c ∷ text) (suc k)) (stands_after (c == 32) name text) (length text) (one_on begins name text c) ∙
    counted (c == 32) name text)

at_places : (name text : List ℕ) (k : ℕ) → stands_at name text k ≡ stands_after true name text k
at_places name text zero = refl
at_places name text (suc k) = refl

places : (name text : List ℕ) → count_of (stands_at name text) (length text) ≡ times_from true name text
places name text = same_count (stands_at name text) (stands_after true name text) (length text) (at_places name text) ∙ counted true name text

-- ---- names and blanks

unlike : (a b : ℕ) → a ≢ b → (a == b) ≡ false
unlike a b apart = elim (eqb_tells a b) [
  | inl (t, same) ↦ absurd (apart same)
  | inr (f, other) ↦ f
]

-- it begins with a letter, and has no blank
abbrev is_name : List ℕ → Bool
is_name [] = false
is_name (c ∷ name) = nat_le 97 c && list_all (λ d. not (d == 32)) (c ∷ name)

names_are : list_all is_name names ≡ true
names_are = refl

flip : (b : Bool) → not b ≡ true → b ≡ false
flip true e = absurd (cc)
flip false e = refl

under : (x y z v w : Bool) → (y && z) ≡ (v && w) → ((x && y) && z) ≡ ((x && v) && w)
under true y z v w e = e
under false y z v w e = refl

-- a blank behind the text ends a name there as the end does
cut : (name text rest : List ℕ) → list_all (λ d. not (d == 32)) name ≡ true → begins_with name (text ++ 32 ∷ rest) ≡ begins_with name text
cut [] [] rest plain = refl
cut [] (b ∷ text) rest plain = refl
cut (c ∷ name) [] rest plain =
    let e : (c == 32) ≡ false = flip (c == 32) (and_parts (not (c == 32)) (list_all (λ d. not (d == 32)) name) plain).0 in
    ap (λ b. (b && bytes_eq name (take (length name) rest)) && ends_name (drop (length name) rest)) e
cut (c ∷ name) (b ∷ text) rest plain =
    under (c == b) _ _ _ _ (cut name text rest (and_parts (not (c == 32)) (list_all (λ d. not (d == 32)) name) plain).1)

plain_of : (name : List ℕ) → is_name name ≡ true → list_all (λ d. not (d == 32)) name ≡ true
plain_of [] e = absurd (cc)
plain_of (c ∷ name) e = (and_parts (nat_le 97 c) (list_all (λ d. not (d == 32)) (c ∷ name)) e).1

not_nothing : (name : List ℕ) → is_name name ≡ true → begins_with name [] ≡ false
not_nothing [] e = absurd (cc)
not_nothing (c ∷ name) e = refl

none_if : (b x : Bool) → x ≡ false → ◌≡◌ {A = ℕ} (if b && x then 1 else 0) 0
none_if true x e = ap {B = ℕ} (λ y. if y then 1 else 0) e
none_if false x e = refl

sums : (a b x y z : ℕ) → a ≡ b → x ≡ y + z → a + x ≡ (b + y) + z
sums a b x y z e f = omega (arith, e, f)

-- what stands before a blank, and what behind
parted : (begins : Bool) (name text rest : List ℕ) → is_name name ≡ true →
    times_from begins name (text ++ 32 ∷ rest) ≡ times_from begins name text + times_from true name rest
parted begins name [] rest e =
    let none = none_if begins (begins_with name (32 ∷ rest)) (cut name [] rest (plain_of name e) ∙ not_nothing name e) in
    ap (λ n. n + times_from true name rest) none
parted begins name (c ∷ text) rest e =
    let here = ap {B = ℕ} (λ x. if begins && x then 1 else 0) (cut name (c ∷ text) rest (plain_of name e)) in
    sums (if begins && begins_with name (c ∷ (text ++ 32 ∷ rest)) then 1 else 0) (if begins && begins_with name (c ∷ text) then 1 else 0) _
    (times_from (c == 32) name text) (times_from true name rest) here (parted (c == 32) name text rest e)

none_and : (n : ℕ) → 0 + n ≡ n
none_and n = omega arith

and_none : (n : ℕ) → n + 0 ≡ n
and_none n = omega arith

abbrev NoBlank : List ℕ → Type 0
NoBlank text = AllByRecursion (λ d. d ≢ 32) text

no_blank : (text : List ℕ) → list_all (λ d. not (d == 32)) text ≡ true → NoBlank text
no_blank [] e = tt
no_blank (c ∷ text) e =
    let parts = and_parts (not (c == 32)) (list_all (λ d. not (d == 32)) text) e in (
      (λ same. elim (eqb_tells c 32) [
        | inl (t, is) ↦ absurd (let f = flip (c == 32) parts.0 in cc)
        | inr (f, apart) ↦ apart same
      ]),
      no_blank text parts.1,
    )

-- behind the front of a word no other begins before a blank
quiet : (name text : List ℕ) → NoBlank text → times_from false name text ≡ 0
quiet name [] plain = refl
quiet name (c ∷ text) plain =
    none_and (times_from (c == 32) name text) ∙ (ap (λ b. times_from b name text) (unlike c 32 plain.0) ∙ quiet name text plain.1)

-- one word
single : (name : List ℕ) (c : ℕ) (text : List ℕ) → NoBlank (c ∷ text) → times_from true name (c ∷ text) ≡ (if begins_with name (c ∷ text) then 1 else 0)
single name c text plain =
    let rest = ap (λ b. times_from b name text) (unlike c 32 plain.0) ∙ quiet name text plain.1 in
    ap (λ n. (if begins_with name (c ∷ text) then 1 else 0) + n) rest ∙ and_none (if begins_with name (c ∷ text) then 1 else 0)

-- ---- numbers

abbrev IsDigit : ℕ → Type 0
IsDigit d = (48 ≤ d) × (d < 58)

digits : (n : ℕ) → n < 2 ^ 64 → AllByRecursion IsDigit (decimal n)
digits n small = decimal_by_steps (λ n ds. AllByRecursion IsDigit ds) one more n small
  where
    one : (n : ℕ) → n < 10 → AllByRecursion IsDigit ((48 + n) ∷ [])
    one n less = ((omega arith, omega (arith, less)), tt)

    more : (n : ℕ) (ds : List ℕ) → 10 ≤ n → AllByRecursion IsDigit ds → AllByRecursion IsDigit (ds ++ ((48 + n % 10) ∷ []))
    more n ds large before = every_append IsDigit ds ((48 + n % 10) ∷ []) before ((omega arith, omega arith), tt)

digits_plain : (text : List ℕ) → AllByRecursion IsDigit text → NoBlank text
digits_plain [] all = tt
digits_plain (d ∷ text) all = ((λ same. absurd (let low = all.0.0 in omega (arith, low, same))), digits_plain text all.1)

-- no name stands in a number
no_name : (name text : List ℕ) → is_name name ≡ true → AllByRecursion IsDigit text → begins_with name text ≡ false
no_name [] text e all = absurd (cc)
no_name (c ∷ name) [] e all = refl
no_name (c ∷ name) (d ∷ text) e all =
    let letter = leb-true 97 c (and_parts (nat_le 97 c) (list_all (λ d. not (d == 32)) (c ∷ name)) e).0 in
    let other : (c == d) ≡ false = unlike c d (λ same. absurd (let low = all.0.1 in omega (arith, letter, low, same))) in
    ap (λ b. (b && bytes_eq name (take (length name) text)) && ends_name (drop (length name) text)) other

number_quiet : (name text : List ℕ) → is_name name ≡ true → AllByRecursion IsDigit text → times_from true name text ≡ 0
number_quiet name [] e all = refl
number_quiet name (d ∷ text) e all =
    single name d text (digits_plain (d ∷ text) all) ∙ ap {B = ℕ} (λ b. if b then 1 else 0) (no_name name (d ∷ text) e all)

-- ---- each attribute

abbrev Counts : List ℕ → Attr → Type 0
Counts name attr = times_from true name (spelled attr) ≡ (if bytes_eq name (name_of attr) then 1 else 0)

all_at : (p : List ℕ → Bool) (xs : List (List ℕ)) (k : ℕ) (x : List ℕ) → list_all p xs ≡ true → slice_get xs k ≡ Some x → p x ≡ true
all_at p [] k x all there = absurd (cc)
all_at p (y ∷ xs) zero x all there = subst (λ z. p z ≡ true) (let same : y ≡ x = cc in same) (and_parts (p y) (list_all p xs) all).0
all_at p (y ∷ xs) (suc k) x all there = all_at p xs k x (and_parts (p y) (list_all p xs) all).1 there

abbrev same_truth : Bool → Bool → Bool
same_truth true b = b
same_truth false b = not b

truths : (a b : Bool) → same_truth a b ≡ true → a ≡ b
truths true true e = refl
truths true false e = absurd (cc)
truths false true e = absurd (cc)
truths false false e = refl

-- where the names that the text begins with are those of the attribute
abbrev BeginAlike : List ℕ → List ℕ → Type 0
BeginAlike text word = list_all (λ name. same_truth (begins_with name text) (bytes_eq name word)) names ≡ true

alike : (k : ℕ) (name : List ℕ) (c : ℕ) (text word : List ℕ) → slice_get names k ≡ Some name → NoBlank (c ∷ text) → BeginAlike (c ∷ text) word →
    times_from true name (c ∷ text) ≡ (if bytes_eq name word then 1 else 0)
alike k name c text word there plain same =
    single name c text plain ∙ ap {B = ℕ} (λ b. if b then 1 else 0) (truths (begins_with name (c ∷ text)) (bytes_eq name word)
    (all_at (λ n. same_truth (begins_with n (c ∷ text)) (bytes_eq n word)) names k name same there))

-- a word that is the name itself
word : (k : ℕ) (name : List ℕ) (c : ℕ) (text : List ℕ) → slice_get names k ≡ Some name → list_all (λ d. not (d == 32)) (c ∷ text) ≡ true →
    BeginAlike (c ∷ text) (c ∷ text) → times_from true name (c ∷ text) ≡ (if bytes_eq name (c ∷ text) then 1 else 0)
word k name c text there plain same = alike k name c text (c ∷ text) there (no_blank (c ∷ text) plain) same

abbrev memory_agrees : ℕ → ℕ → ℕ → Bool
memory_agrees o a i = list_all (λ name. times_from true name (spelled (Attr.Memory (memory o a i))) == (if bytes_eq name (codes "memory") then 1 else 0)) names

abbrev Agrees : ℕ → ℕ → ℕ → Type 0
Agrees o a i = memory_agrees o a i ≡ true

memory_counts : (o a i : ℕ) → o < 4 → a < 4 → i < 4 → Agrees o a i
memory_counts o a i lo la li = four (λ o. Agrees o a i)
    (four (λ a. Agrees 0 a i) (four (Agrees 0 0) refl refl refl refl i li) (four (Agrees 0 1) refl refl refl refl i li)
    (four (Agrees 0 2) refl refl refl refl i li) (four (Agrees 0 3) refl refl refl refl i li) a la)
    (four (λ a. Agrees 1 a i) (four (Agrees 1 0) refl refl refl refl i li) (four (Agrees 1 1) refl refl refl refl i li)
    (four (Agrees 1 2) refl refl refl refl i li) (four (Agrees 1 3) refl refl refl refl i li) a la)
    (four (λ a. Agrees 2 a i) (four (Agrees 2 0) refl refl refl refl i li) (four (Agrees 2 1) refl refl refl refl i li)
    (four (Agrees 2 2) refl refl refl refl i li) (four (Agrees 2 3) refl refl refl refl i li) a la)
    (four (λ a. Agrees 3 a i) (four (Agrees 3 0) refl refl refl refl i li) (four (Agrees 3 1) refl refl refl refl i li)
    (four (Agrees 3 2) refl refl refl refl i li) (four (Agrees 3 3) refl refl refl refl i li) a la)
    o lo

counts : (k : ℕ) (name : List ℕ) (attr : Attr) → slice_get names k ≡ Some name → IsProper attr → Counts name attr
counts k name Attr.Nofree there proper = word k name _ _ there refl refl
counts k name Attr.Norecurse there proper = word k name _ _ there refl refl
counts k name Attr.Noreturn there proper = word k name _ _ there refl refl
counts k name Attr.Nounwind there proper = word k name _ _ there refl refl
counts k name Attr.Nocapture there proper = word k name _ _ there refl refl
counts k name Attr.Nonnull there proper = word k name _ _ there refl refl
counts k name Attr.Readnone there proper = word k name _ _ there refl refl
counts k name Attr.Readonly there proper = word k name _ _ there refl refl
counts k name Attr.Writeonly there proper = word k name _ _ there refl refl
counts k name Attr.Returned there proper = word k name _ _ there refl refl
counts k name (Attr.Memory m) there proper =
    eqb-true (times_from true name (spelled (Attr.Memory m))) (if bytes_eq name (codes "memory") then 1 else 0)
    (all_at (λ name. times_from true name (spelled (Attr.Memory m)) == (if bytes_eq name (codes "memory") then 1 else 0)) names k name
    (memory_counts m.other m.argmem m.inaccessible proper.0 proper.1 proper.2) there)
counts k name (Attr.Align bytes) there proper =
    let is = all_at is_name names k name names_are there in
    let front = word k name 97 (drop 1 (codes "align")) there refl refl in
    let number = number_quiet name (decimal bytes) is (digits bytes proper) in
    let both = parted true name (codes "align") (decimal bytes) is in
    let one = if bytes_eq name (codes "align") then 1 else 0 in
    both ∙ (ap (λ n. n + times_from true name (decimal bytes)) front ∙ (ap (λ n. one + n) number ∙ and_none one))
counts k name (Attr.Dereferenceable bytes) there proper =
    alike k name _ _ (codes "dereferenceable") there (every_append (λ d. d ≢ 32) (codes "dereferenceable(") (decimal bytes ++ codes ")")
    (no_blank (codes "dereferenceable(") refl) (every_append (λ d. d ≢ 32) (decimal bytes) (codes ")")
    (digits_plain (decimal bytes) (digits bytes proper)) (no_blank (codes ")") refl))) refl

-- ---- lists of attributes

module _ (k : ℕ) (name : List ℕ) (there : slice_get names k ≡ Some name) where
  abbrev one : Attr → ℕ
  one attr = if bytes_eq name (name_of attr) then 1 else 0

  is : is_name name ≡ true
  is = all_at is_name names k name names_are there

  one_first : (attr : Attr) (attrs : List Attr) → IsProper attr → AllByRecursion IsProper attrs →
      times_from true name (spelled attr ++ behind_first attrs) ≡ named name (attr ∷ attrs)
  one_first attr [] proper rest =
      ap (times_from true name) (append-nil (spelled attr)) ∙ (counts k name attr there proper ∙
      sym (sum_by-cons one attr [] ∙ and_none (one attr)))
  one_first attr (second ∷ attrs) proper rest =
      let both = parted true name (spelled attr) (spelled second ++ behind_first attrs) is in
      both ∙ (ap (λ n. n + times_from true name (spelled second ++ behind_first attrs)) (counts k name attr there proper) ∙
      (ap (λ n. one attr + n) (one_first second attrs rest.0 rest.1) ∙ sym (sum_by-cons one attr (second ∷ attrs))))

  in_words : (attrs : List Attr) → AllByRecursion IsProper attrs → times_from true name (words_of attrs) ≡ named name attrs
  in_words [] proper = refl
  in_words (attr ∷ attrs) proper = ap (times_from true name) (words_are attr attrs) ∙ one_first attr attrs proper.0 proper.1

  in_insertion : (a : Added) → AllByRecursion IsProper a.attrs → times_in name (inserted a) ≡ named name a.attrs
  in_insertion a proper = places name (words_of a.attrs) ∙ in_words a.attrs proper

  in_all : (list : List Added) → AllByRecursion (λ (a : Added). AllByRecursion IsProper a.attrs) list →
      times (map inserted list) name ≡ sum_by (λ (a : Added). named name a.attrs) list
  in_all [] proper = refl
  in_all (a ∷ list) proper =
      sum_by-cons (times_in name) (inserted a) (map inserted list) ∙ (ap (λ n. n + times (map inserted list) name) (in_insertion a proper.0) ∙
      (ap (λ n. named name a.attrs + n) (in_all list proper.1) ∙ sym (sum_by-cons (λ (b : Added). named name b.attrs) a list)))

insertions_are : (m : Module) (held : Fact → Bool) → insertions_of m held ≡ map inserted (additions_of m held)
unfolding insertions_of
insertions_are m held = refl

-- the lines of a summary count attributes
pub names_count : (m : Module) (held : Fact → Bool) (k : ℕ) (name : List ℕ) → slice_get names k ≡ Some name →
    times (insertions_of m held) name ≡ sum_by (λ (a : Added). named name a.attrs) (additions_of m held)
names_count m held k name there =
    ap (λ list. times list name) (insertions_are m held) ∙ in_all k name there (additions_of m held) (all_proper m held)
