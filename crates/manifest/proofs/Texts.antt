-- Texts of attributes: what stands behind them, and that no attribute is spelled by nothing.
use Rattle.std.proofs.Common.{◌≡◌, ◌&&◌, ◌||◌, not, ℕ, Bool, true, false, if◌then◌else◌, List, [], ◌∷◌, ◌++◌, map, codes, slice_index}
use Rattle.std.proofs.Common.{Option, None, Some, refl, sym, ap, subst, ◌∙◌}
use Rattle.std.proofs.lemmas.List.{append_assoc, append-nil}
use Rattle.attr_ids.specs.declared.insertion.Place.{Place}
use Rattle.ir_module.specs.declared.attrs.MemoryAttr.{MemoryAttr}
use Rattle.manifest.specs.Attrs.{Attr, added, added_some, with_rung, access_attr}
use Rattle.manifest.specs.Spelling.{spelled, parted, spelled_behind, words_of, access_word, access_of, item, comma, has_default, has_argmem}
use Rattle.manifest.specs.Spelling.{has_inaccessible, memory_items}
use Rattle.manifest.specs.Added.{Subject, inserted, put}

-- two lists of attributes, one behind the other
pub behind_both : (text : List ℕ) (a b : List Attr) → spelled_behind text (a ++ b) ≡ spelled_behind (spelled_behind text a) b
behind_both text [] b = refl
behind_both text (attr ∷ a) b = behind_both (parted text ++ spelled attr) a b

-- one attribute more
pub one_more : (text new more : List ℕ) (a b : List Attr) → more ≡ spelled_behind text a → new ≡ spelled_behind more b → new ≡ spelled_behind text (a ++ b)
one_more text new more a b is grown = grown ∙ (ap (λ t. spelled_behind t b) is ∙ sym (behind_both text a b))

-- an attribute that is added
pub is_added : (written deduced : Bool) (text : List ℕ) (attr : Attr) → (deduced && not written) ≡ true →
    parted text ++ spelled attr ≡ spelled_behind text (added written deduced attr)
is_added false true text attr is = refl
is_added true true text attr is = absurd (cc)
is_added written false text attr is = absurd (cc)

-- and one that is not
pub not_added : (written deduced : Bool) (text : List ℕ) (attr : Attr) → (deduced && not written) ≡ false → text ≡ spelled_behind text
    (added written deduced attr)
not_added false true text attr is = absurd (cc)
not_added true true text attr is = refl
not_added written false text attr is = refl

-- what begins with a byte
abbrev pub Begins : List ℕ → Type 0
Begins [] = ⊥
Begins (byte ∷ text) = Unit {0}

begins_front : (a b : List ℕ) → Begins a → Begins (a ++ b)
begins_front [] b is = absurd is
begins_front (byte ∷ a) b is = tt

pub begins_back : (a b : List ℕ) → Begins b → Begins (a ++ b)
begins_back [] b is = is
begins_back (byte ∷ a) b is = tt

-- every attribute is spelled by something
pub spelled_begins : (attr : Attr) → Begins (spelled attr)
spelled_begins Attr.Nofree = tt
spelled_begins Attr.Norecurse = tt
spelled_begins Attr.Noreturn = tt
spelled_begins Attr.Nounwind = tt
spelled_begins (Attr.Memory memory) = tt
spelled_begins (Attr.Align bytes) = tt
spelled_begins (Attr.Dereferenceable bytes) = tt
spelled_begins Attr.Nocapture = tt
spelled_begins Attr.Nonnull = tt
spelled_begins Attr.Readnone = tt
spelled_begins Attr.Readonly = tt
spelled_begins Attr.Writeonly = tt
spelled_begins Attr.Returned = tt

behind_begins : (text : List ℕ) (attrs : List Attr) → Begins text → Begins (spelled_behind text attrs)
behind_begins text [] is = is
behind_begins text (attr ∷ attrs) is = behind_begins (parted text ++ spelled attr) attrs (begins_back (parted text) (spelled attr) (spelled_begins attr))

-- words of no attribute are no words, and of some are some
pub put_none : (at : ℕ) (place : Place) (subject : Subject) (attrs : List Attr) → words_of attrs ≡ [] → map inserted (put at place subject attrs) ≡ []
put_none at place subject [] is = refl
put_none at place subject (attr ∷ attrs) is =
    absurd (subst Begins is (behind_begins (spelled attr) attrs (spelled_begins attr)))

pub put_some : (at : ℕ) (place : Place) (subject : Subject) (attrs : List Attr) (words : List ℕ) → words ≡ words_of attrs → (words ≡ [] → ⊥) →
    map inserted (put at place subject attrs) ≡ record { at = at; place = place; words = words } ∷ []
put_some at place subject [] words is some = absurd (some is)
put_some at place subject (attr ∷ attrs) words is some = ap (λ (w : List ℕ). record { at = at; place = place; words = w } ∷ []) (sym is)

-- a blank parts only what stands behind something
pub parted_none : (text : List ℕ) → text ≡ [] → text ≡ parted text
parted_none text is = is ∙ sym (ap parted is)

pub parted_some : (text : List ℕ) → (text ≡ [] → ⊥) → text ++ 32 ∷ [] ≡ parted text
parted_some [] some = absurd (some refl)
parted_some (byte ∷ text) some = refl

-- the first attributes of a text
pub first_words : (old new : List ℕ) (a b : List Attr) → old ≡ [] → new ≡ spelled_behind old a → a ≡ b → new ≡ words_of b
first_words old new a b none is same = is ∙ (ap (λ t. spelled_behind t a) none ∙ ap words_of same)

-- and more behind them
pub more_words : (now new : List ℕ) (before a b : List Attr) → now ≡ words_of before → new ≡ spelled_behind now a → a ≡ b → new ≡ words_of (before ++ b)
more_words now new before a b is grown same = one_more [] new now before b is (grown ∙ ap (spelled_behind now) same)

-- an item of `memory(..)` that stands, and one that does not
pub item_stands : (old a b d : List ℕ) (stands : Bool) → stands ≡ true → ((old ++ a) ++ b) ++ d ≡ old ++ item stands ((a ++ b) ++ d)
item_stands old a b d true is = ap (λ xs. xs ++ d) (append_assoc old a b) ∙ append_assoc old (a ++ b) d
item_stands old a b d false is = absurd (cc)

pub item_none : (old text : List ℕ) (stands : Bool) → stands ≡ false → old ≡ old ++ item stands text
item_none old text true is = absurd (cc)
item_none old text false is = sym (append-nil old)

-- three texts behind another
pub three : (old a b d : List ℕ) → ((old ++ a) ++ b) ++ d ≡ old ++ ((a ++ b) ++ d)
three old a b d = ap (λ xs. xs ++ d) (append_assoc old a b) ∙ append_assoc old (a ++ b) d

-- the items of `memory(..)`, one after the other
pub items_are : (old new t1 t2 : List ℕ) (m : MemoryAttr) (d a i b : Bool) → d ≡ has_default m → a ≡ has_argmem m → i ≡ has_inaccessible m → b ≡ (d || a) →
    t1 ≡ old ++ item d (access_word m.other) → t2 ≡ t1 ++ item a (comma d ++ codes "argmem: " ++ access_word m.argmem) →
    new ≡ t2 ++ item i (comma b ++ codes "inaccessiblemem: " ++ access_word m.inaccessible) → new ≡ old ++ memory_items m
items_are old new t1 t2 m d a i b is_d is_a is_i is_b one two more =
    let first = item (has_default m) (access_word m.other) in
    let second = item (has_argmem m) (comma (has_default m) ++ codes "argmem: " ++ access_word m.argmem) in
    let last = item (has_inaccessible m) (comma (has_default m || has_argmem m) ++ codes "inaccessiblemem: " ++ access_word m.inaccessible) in
    more ∙ (ap (λ t. t ++ item i (comma b ++ codes "inaccessiblemem: " ++ access_word m.inaccessible))
    (two ∙ (ap (λ t. t ++ item a (comma d ++ codes "argmem: " ++ access_word m.argmem)) (one ∙ ap (λ x. old ++ item x (access_word m.other)) is_d) ∙
    (ap (λ x. (old ++ first) ++ item x (comma d ++ codes "argmem: " ++ access_word m.argmem)) is_a ∙
    ap (λ x. (old ++ first) ++ item (has_argmem m) (comma x ++ codes "argmem: " ++ access_word m.argmem)) is_d))) ∙
    (ap (λ x. ((old ++ first) ++ second) ++ item x (comma b ++ codes "inaccessiblemem: " ++ access_word m.inaccessible)) is_i ∙
    (ap (λ x. ((old ++ first) ++ second) ++ item (has_inaccessible m) (comma x ++ codes "inaccessiblemem: " ++ access_word m.inaccessible))
    (is_b ∙ (ap (λ x. x || a) is_d ∙ ap (λ x. has_default m || x) is_a)) ∙ three old first second last)))

-- a rung that is not added, and one that is
pub rung_none : (text : List ℕ) (written : Bool) (attr : ℕ → Attr) (rungs : List ℕ) (o : Option ℕ) → o ≡ None →
    text ≡ spelled_behind text (added_some written (with_rung attr rungs o))
rung_none text written attr rungs o is = sym (ap (λ x. spelled_behind text (added_some written (with_rung attr rungs x))) is)

pub rung_written : (text : List ℕ) (written : Bool) (attr : ℕ → Attr) (rungs : List ℕ) (o : Option ℕ) → written ≡ true →
    text ≡ spelled_behind text (added_some written (with_rung attr rungs o))
rung_written text written attr rungs None is = refl
rung_written text written attr rungs (Some k) is = sym (ap (λ b. spelled_behind text (if b then [] else attr (slice_index rungs k) ∷ [])) is)

pub rung_added : (text : List ℕ) (written : Bool) (attr : ℕ → Attr) (rungs : List ℕ) (o : Option ℕ) (k : ℕ) → written ≡ false → o ≡ Some k →
    parted text ++ spelled (attr (slice_index rungs k)) ≡ spelled_behind text (added_some written (with_rung attr rungs o))
rung_added text written attr rungs o k is there =
    sym (ap (λ x. spelled_behind text (added_some written (with_rung attr rungs x))) there ∙
    ap (λ b. spelled_behind text (if b then [] else attr (slice_index rungs k) ∷ [])) is)

-- the attribute of an access, by what is not done
pub access_is : (unread unwritten written : Bool) (text : List ℕ) →
    spelled_behind text (added written (unread || unwritten) (access_of unread unwritten)) ≡ spelled_behind text (added_some written
    (access_attr unread unwritten))
access_is true true true text = refl
access_is true true false text = refl
access_is true false true text = refl
access_is true false false text = refl
access_is false true true text = refl
access_is false true false text = refl
access_is false false true text = refl
access_is false false false text = refl
