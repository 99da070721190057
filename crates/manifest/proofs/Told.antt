-- Attributes are told by their spelling: what is read of a text that begins with a spelled attribute is that attribute.
use Rattle.std.proofs.Common.{arith, ◌≡◌, ◌+◌, ◌-◌, ◌*◌, ◌%◌, ◌/◌, ◌^◌, ◌<◌, ◌≤◌, ◌==◌, ◌||◌, if◌then◌else◌, ℕ, zero, suc, Bool, true, false}
use Rattle.std.proofs.Common.{List, [], ◌∷◌, ◌++◌}
use Rattle.std.proofs.Common.{codes, decimal, drop, slice_index, Option, None, Some, refl, sym, ap, ◌∙◌, inl, inr}
use Rattle.std.proofs.lemmas.Bool.Decides.{eqb_tells}
use Rattle.std.proofs.lemmas.Fmt.{decimal_by_steps}
use Rattle.std.proofs.lemmas.List.{append_assoc, append-nil, append_cancel_left}
use Rattle.std.specs.List.{AllByRecursion}
use Rattle.ir_module.specs.declared.attrs.MemoryAttr.{MemoryAttr}
use Rattle.manifest.specs.Attrs.{Attr}
use Rattle.manifest.specs.Spelling.{IsProper, spelled, parted, spelled_behind, words_of, memory_items}
use Rattle.manifest.proofs.Texts.{Begins, begins_back, spelled_begins}

-- ---- numbers: the digits before a blank or a bracket

abbrev ends : ℕ → Bool
ends c = c == 32 || c == 41

abbrev number_from : ℕ → List ℕ → ℕ
number_from n [] = n
number_from n (c ∷ text) = if ends c then n else number_from (n * 10 + (c - 48)) text

-- no digit stands in front
abbrev Stops : List ℕ → Type 0
Stops [] = Unit {0}
Stops (c ∷ text) = ends c ≡ true

stopped : (n : ℕ) (rest : List ℕ) → Stops rest → number_from n rest ≡ n
stopped n [] stop = refl
stopped n (c ∷ rest) stop = ap {B = ℕ} (λ b. if b then n else number_from (n * 10 + (c - 48)) rest) stop

no_end : (d : ℕ) → ends (48 + d) ≡ false
no_end d = elim (eqb_tells (48 + d) 32) [
  | inl (t, same) ↦ absurd (omega (arith, same))
  | inr (blank, apart) ↦ elim (eqb_tells (48 + d) 41) [
    | inl (t, same) ↦ absurd (omega (arith, same))
    | inr (bracket, other) ↦ ap (λ b. b || (48 + d == 41)) blank ∙ bracket
  ]
]

-- one digit more
digit : (n d : ℕ) (rest : List ℕ) → number_from n ((48 + d) ∷ rest) ≡ number_from (n * 10 + d) rest
digit n d rest =
    let e : n * 10 + (48 + d - 48) ≡ n * 10 + d = omega arith in
    ap {B = ℕ} (λ b. if b then n else number_from (n * 10 + (48 + d - 48)) rest) (no_end d) ∙ ap (λ k. number_from k rest) e

abbrev Reads : ℕ → List ℕ → Type 0
Reads n digits = (rest : List ℕ) → number_from 0 (digits ++ rest) ≡ number_from n rest

number_read : (n : ℕ) → n < 2 ^ 64 → (rest : List ℕ) → Stops rest → number_from 0 (decimal n ++ rest) ≡ n
number_read n small rest stop = decimal_by_steps Reads one more n small rest ∙ stopped n rest stop
  where
    one : (n : ℕ) → n < 10 → Reads n ((48 + n) ∷ [])
    one n less rest = let e : 0 * 10 + n ≡ n = omega arith in digit 0 n rest ∙ ap (λ k. number_from k rest) e

    more : (n : ℕ) (digits : List ℕ) → 10 ≤ n → Reads (n / 10) digits → Reads n (digits ++ ((48 + n % 10) ∷ []))
    more n digits large read rest =
        let e : (n / 10) * 10 + n % 10 ≡ n = omega arith in
        ap (number_from 0) (append_assoc digits ((48 + n % 10) ∷ []) rest) ∙
        (read ((48 + n % 10) ∷ rest) ∙ (digit (n / 10) (n % 10) rest ∙ ap (λ k. number_from k rest) e))

-- ---- accesses: told by their first byte, and `readwrite` by its fifth

abbrev access_in : List ℕ → ℕ
access_in text = if slice_index text 0 == 110 then 0 else (if slice_index text 0 == 119 then 2 else (if slice_index text 4 == 119 then 3 else 1))

-- what stands behind the first such byte before the bracket
abbrev behind : ℕ → List ℕ → Option (List ℕ)
behind c [] = None
behind c (x ∷ text) = if x == 41 then None else (if x == c then Some text else behind c text)

-- the access that stands so far behind; without one the default
abbrev access_behind : ℕ → ℕ → Option (List ℕ) → ℕ
access_behind other skip None = other
access_behind other skip (Some text) = access_in (drop skip text)

-- the default is `none` where another location stands first
abbrev other_in : List ℕ → ℕ
other_in text = if slice_index text 0 == 97 || slice_index text 0 == 105 then 0 else access_in text

abbrev pub memory : ℕ → ℕ → ℕ → MemoryAttr
memory o a i = record { other = o; argmem = a; inaccessible = i }

-- `argmem` is told by its `g`, `inaccessiblemem` by its `b`
abbrev memory_in : List ℕ → MemoryAttr
memory_in text = memory (other_in text) (access_behind (other_in text) 5 (behind 103 text)) (access_behind (other_in text) 7 (behind 98 text))

pub four : (P : ℕ → Type 0) → P 0 → P 1 → P 2 → P 3 → (n : ℕ) → n < 4 → P n
four P a b c d zero less = a
four P a b c d (suc zero) less = b
four P a b c d (suc (suc zero)) less = c
four P a b c d (suc (suc (suc zero))) less = d
four P a b c d (suc (suc (suc (suc n)))) less = absurd (omega (arith, less))

module _ (rest : List ℕ) where
  abbrev Told : ℕ → ℕ → ℕ → Type 0
  Told o a i = memory_in (memory_items (memory o a i) ++ 41 ∷ rest) ≡ memory o a i

  -- each of the sixty-four
  memory_told : (o a i : ℕ) → o < 4 → a < 4 → i < 4 → Told o a i
  memory_told o a i lo la li = four (λ o. Told o a i)
      (four (λ a. Told 0 a i) (four (Told 0 0) refl refl refl refl i li) (four (Told 0 1) refl refl refl refl i li)
      (four (Told 0 2) refl refl refl refl i li) (four (Told 0 3) refl refl refl refl i li) a la)
      (four (λ a. Told 1 a i) (four (Told 1 0) refl refl refl refl i li) (four (Told 1 1) refl refl refl refl i li)
      (four (Told 1 2) refl refl refl refl i li) (four (Told 1 3) refl refl refl refl i li) a la)
      (four (λ a. Told 2 a i) (four (Told 2 0) refl refl refl refl i li) (four (Told 2 1) refl refl refl refl i li)
      (four (Told 2 2) refl refl refl refl i li) (four (Told 2 3) refl refl refl refl i li) a la)
      (four (λ a. Told 3 a i) (four (Told 3 0) refl refl refl refl i li) (four (Told 3 1) refl refl refl refl i li)
      (four (Told 3 2) refl refl refl refl i li) (four (Told 3 3) refl refl refl refl i li) a la)
      o lo

-- ---- attributes: told by their first byte and their fifth

abbrev key : List ℕ → ℕ
key text = slice_index text 0 * 256 + slice_index text 4

key_is : (attr : Attr) (rest : List ℕ) → key (spelled attr ++ rest) ≡ key (spelled attr)
key_is Attr.Nofree rest = refl
key_is Attr.Norecurse rest = refl
key_is Attr.Noreturn rest = refl
key_is Attr.Nounwind rest = refl
key_is (Attr.Memory m) rest = refl
key_is (Attr.Align bytes) rest = refl
key_is (Attr.Dereferenceable bytes) rest = refl
key_is Attr.Nocapture rest = refl
key_is Attr.Nonnull rest = refl
key_is Attr.Readnone rest = refl
key_is Attr.Readonly rest = refl
key_is Attr.Writeonly rest = refl
key_is Attr.Returned rest = refl

-- what stands in the brackets, or behind `align`
abbrev number_of : Attr → ℕ
number_of (Attr.Align bytes) = bytes
number_of (Attr.Dereferenceable bytes) = bytes
number_of _ = 0

abbrev memory_of : Attr → MemoryAttr
memory_of (Attr.Memory m) = m
memory_of _ = memory 0 0 0

abbrev number_in : ℕ → List ℕ → ℕ
number_in k text = if k == 24942 then number_from 0 (drop 6 text) else (if k == 25702 then number_from 0 (drop 16 text) else 0)

abbrev memory_by : ℕ → List ℕ → MemoryAttr
memory_by k text = if k == 28018 then memory_in (drop 7 text) else memory 0 0 0

-- the attribute of this key, with this number or these accesses
abbrev attr_by : ℕ → ℕ → MemoryAttr → Attr
attr_by k n m =
    if k == 28261 then Attr.Nofree else (if k == 28259 then Attr.Norecurse else (if k == 28276 then Attr.Noreturn else (
    if k == 28279 then Attr.Nounwind else (if k == 28018 then Attr.Memory m else (if k == 24942 then Attr.Align n else (
    if k == 25702 then Attr.Dereferenceable n else (if k == 28272 then Attr.Nocapture else (if k == 28277 then Attr.Nonnull else (
    if k == 29294 then Attr.Readnone else (if k == 29295 then Attr.Readonly else (if k == 30565 then Attr.Writeonly else Attr.Returned)))))))))))

rebuilt : (attr : Attr) → attr_by (key (spelled attr)) (number_of attr) (memory_of attr) ≡ attr
rebuilt Attr.Nofree = refl
rebuilt Attr.Norecurse = refl
rebuilt Attr.Noreturn = refl
rebuilt Attr.Nounwind = refl
rebuilt (Attr.Memory m) = refl
rebuilt (Attr.Align bytes) = refl
rebuilt (Attr.Dereferenceable bytes) = refl
rebuilt Attr.Nocapture = refl
rebuilt Attr.Nonnull = refl
rebuilt Attr.Readnone = refl
rebuilt Attr.Readonly = refl
rebuilt Attr.Writeonly = refl
rebuilt Attr.Returned = refl

number_is : (attr : Attr) (rest : List ℕ) → IsProper attr → Stops rest → number_in (key (spelled attr)) (spelled attr ++ rest) ≡ number_of attr
number_is (Attr.Align bytes) rest proper stop = number_read bytes proper rest stop
number_is (Attr.Dereferenceable bytes) rest proper stop =
    ap (number_from 0) (append_assoc (decimal bytes) (codes ")") rest) ∙ number_read bytes proper (41 ∷ rest) refl
number_is Attr.Nofree rest proper stop = refl
number_is Attr.Norecurse rest proper stop = refl
number_is Attr.Noreturn rest proper stop = refl
number_is Attr.Nounwind rest proper stop = refl
number_is (Attr.Memory m) rest proper stop = refl
number_is Attr.Nocapture rest proper stop = refl
number_is Attr.Nonnull rest proper stop = refl
number_is Attr.Readnone rest proper stop = refl
number_is Attr.Readonly rest proper stop = refl
number_is Attr.Writeonly rest proper stop = refl
number_is Attr.Returned rest proper stop = refl

memory_is : (attr : Attr) (rest : List ℕ) → IsProper attr → memory_by (key (spelled attr)) (spelled attr ++ rest) ≡ memory_of attr
memory_is (Attr.Memory m) rest proper =
    ap memory_in (append_assoc (memory_items m) (codes ")") rest) ∙ memory_told rest m.other m.argmem m.inaccessible proper.0 proper.1 proper.2
memory_is (Attr.Align bytes) rest proper = refl
memory_is (Attr.Dereferenceable bytes) rest proper = refl
memory_is Attr.Nofree rest proper = refl
memory_is Attr.Norecurse rest proper = refl
memory_is Attr.Noreturn rest proper = refl
memory_is Attr.Nounwind rest proper = refl
memory_is Attr.Nocapture rest proper = refl
memory_is Attr.Nonnull rest proper = refl
memory_is Attr.Readnone rest proper = refl
memory_is Attr.Readonly rest proper = refl
memory_is Attr.Writeonly rest proper = refl
memory_is Attr.Returned rest proper = refl

-- texts that begin with an attribute each, and are one: so are the attributes
same_first : (a b : Attr) (r s : List ℕ) → IsProper a → IsProper b → Stops r → Stops s → spelled a ++ r ≡ spelled b ++ s → a ≡ b
same_first a b r s proper_a proper_b stop_r stop_s same =
    let keys : key (spelled a) ≡ key (spelled b) = sym (key_is a r) ∙ (ap key same ∙ key_is b s) in
    let numbers : number_of a ≡ number_of b =
    sym (number_is a r proper_a stop_r) ∙ (ap (number_in (key (spelled a))) same ∙
    (ap (λ k. number_in k (spelled b ++ s)) keys ∙ number_is b s proper_b stop_s)) in
    let memories : memory_of a ≡ memory_of b =
    sym (memory_is a r proper_a) ∙ (ap (memory_by (key (spelled a))) same ∙ (ap (λ k. memory_by k (spelled b ++ s)) keys ∙ memory_is b s proper_b)) in
    sym (rebuilt a) ∙ (ap (λ k. attr_by k (number_of a) (memory_of a)) keys ∙ (ap (λ n. attr_by (key (spelled b)) n (memory_of a)) numbers ∙
    (ap (attr_by (key (spelled b)) (number_of b)) memories ∙ rebuilt b)))

-- ---- lists of attributes

-- the attributes behind the first
abbrev pub behind_first : List Attr → List ℕ
behind_first [] = []
behind_first (attr ∷ attrs) = 32 ∷ (spelled attr ++ behind_first attrs)

behind_stops : (attrs : List Attr) → Stops (behind_first attrs)
behind_stops [] = tt
behind_stops (attr ∷ attrs) = refl

parted_is : (text : List ℕ) → Begins text → parted text ≡ text ++ 32 ∷ []
parted_is [] begins = absurd begins
parted_is (c ∷ text) begins = refl

behind_is : (text : List ℕ) (attrs : List Attr) → Begins text → spelled_behind text attrs ≡ text ++ behind_first attrs
behind_is text [] begins = sym (append-nil text)
behind_is text (attr ∷ attrs) begins =
    behind_is (parted text ++ spelled attr) attrs (begins_back (parted text) (spelled attr) (spelled_begins attr)) ∙
    (ap (λ t. (t ++ spelled attr) ++ behind_first attrs) (parted_is text begins) ∙
    (append_assoc (text ++ 32 ∷ []) (spelled attr) (behind_first attrs) ∙ append_assoc text (32 ∷ []) (spelled attr ++ behind_first attrs)))

pub words_are : (attr : Attr) (attrs : List Attr) → words_of (attr ∷ attrs) ≡ spelled attr ++ behind_first attrs
words_are attr attrs = behind_is (spelled attr) attrs (spelled_begins attr)

some_words : (attr : Attr) (attrs : List Attr) → words_of (attr ∷ attrs) ≡ [] → ⊥
some_words attr attrs none = by (spelled attr) (spelled_begins attr) (sym (words_are attr attrs) ∙ none)
  where
    by : (text : List ℕ) → Begins text → text ++ behind_first attrs ≡ [] → ⊥
    by [] begins none = begins
    by (c ∷ text) begins none = absurd (cc)

-- what stands behind two attributes that are one
tails : (a b : Attr) (xs ys : List Attr) → a ≡ b → spelled a ++ behind_first xs ≡ spelled b ++ behind_first ys → behind_first xs ≡ behind_first ys
tails a b xs ys same whole =
    append_cancel_left (spelled a) (behind_first xs) (behind_first ys) (whole ∙ ap (λ x. spelled x ++ behind_first ys) (sym same))

same_behind : (xs ys : List Attr) → AllByRecursion IsProper xs → AllByRecursion IsProper ys → behind_first xs ≡ behind_first ys → xs ≡ ys
same_behind [] [] pa pb same = refl
same_behind [] (b ∷ ys) pa pb same = absurd (cc)
same_behind (a ∷ xs) [] pa pb same = absurd (cc)
same_behind (a ∷ xs) (b ∷ ys) pa pb same =
    let whole : spelled a ++ behind_first xs ≡ spelled b ++ behind_first ys = ap (drop 1) same in
    let first = same_first a b (behind_first xs) (behind_first ys) pa.0 pb.0 (behind_stops xs) (behind_stops ys) whole in
    ap (λ x. x ∷ xs) first ∙ ap (λ zs. b ∷ zs) (same_behind xs ys pa.1 pb.1 (tails a b xs ys first whole))

-- one spelling, one list of attributes
pub one_spelling : (xs ys : List Attr) → AllByRecursion IsProper xs → AllByRecursion IsProper ys → words_of xs ≡ words_of ys → xs ≡ ys
one_spelling [] [] pa pb same = refl
one_spelling [] (b ∷ ys) pa pb same = absurd (some_words b ys (sym same))
one_spelling (a ∷ xs) [] pa pb same = absurd (some_words a xs same)
one_spelling (a ∷ xs) (b ∷ ys) pa pb same =
    let whole : spelled a ++ behind_first xs ≡ spelled b ++ behind_first ys = sym (words_are a xs) ∙ (same ∙ words_are b ys) in
    let first = same_first a b (behind_first xs) (behind_first ys) pa.0 pb.0 (behind_stops xs) (behind_stops ys) whole in
    ap (λ x. x ∷ xs) first ∙ ap (λ zs. b ∷ zs) (same_behind xs ys pa.1 pb.1 (tails a b xs ys first whole))
