-- Terms in slots: what a slot says stays as slots and inputs are added.
use Rattle.std.proofs.Common.{◌≡◌, ℕ, zero, suc, ◌+◌, ◌<◌, ◌≤◌, true, ◌&&◌, List, [], ◌∷◌, ◌++◌, length, slice_get, Some, refl, ap, sym, ◌∙◌, subst, arith}
use Rattle.std.proofs.Common.{append_assoc, length-append, nat_lt}
use Rattle.std.specs.List.{fold}
use Rattle.std.proofs.lemmas.Bool.{and_parts, and_from, ltb-true, lt-ltb}
use Rattle.std.proofs.lemmas.List.{get_or_append_left}
use Rattle.std.proofs.Math.Seq.{get_or-append_seam}
use Rattle.std.proofs.lemmas.List.Sums.{fold_push, fold-append}
use Rattle.attr_ids.specs.declared.ids.PosId.{PosId}
use Rattle.rule_terms.specs.declared.term.Term.{Term}
use Rattle.rule_terms.specs.declared.term.Term.TheVariants as slot
use Rattle.std.proofs.lemmas.Option.{same_Some}
use Rattle.rule_terms.specs.Slots.{Numbered, const, word, both, either, unless, shift, keep_align, spread, nth, slot_term, slot_terms, named, input_at}
use Rattle.rule_terms.specs.Slots.{is_numbered, AreOrdered, IsBehind}

abbrev with_slot : List Numbered → Term → List Numbered
with_slot terms slot = terms ++ slot_term terms slot ∷ []

pub slot_terms-push : (slots : List Term) (slot : Term) → slot_terms (slots ++ slot ∷ []) ≡ slot_terms slots ++ slot_term (slot_terms slots) slot ∷ []
unfolding slot_terms
slot_terms-push slots slot = fold_push with_slot [] slots slot

length-with_slots : (terms : List Numbered) (slots : List Term) → length (fold with_slot terms slots) ≡ length terms + length slots
length-with_slots terms [] = omega arith
length-with_slots terms (slot ∷ slots) = omega (arith, length-with_slots (with_slot terms slot) slots, length-append terms (slot_term terms slot ∷ []))

pub length-slot_terms : (slots : List Term) → length (slot_terms slots) ≡ length slots
unfolding slot_terms
length-slot_terms slots = omega (arith, length-with_slots [] slots)

nth-with_slots : (terms : List Numbered) (slots : List Term) (place : ℕ) → place < length terms → nth (fold with_slot terms slots) place ≡ nth terms place
nth-with_slots terms [] place l = refl
nth-with_slots terms (slot ∷ slots) place l =
    nth-with_slots (with_slot terms slot) slots place (omega (arith, length-append terms (slot_term terms slot ∷ [])))
    ∙ get_or_append_left terms (slot_term terms slot ∷ []) (const 0) place l

-- a slot says the same where more slots follow
pub nth-grown : (slots more : List Term) (place : ℕ) → place < length slots → nth (slot_terms (slots ++ more)) place ≡ nth (slot_terms slots) place
unfolding slot_terms
nth-grown slots more place l =
    ap (λ terms. nth terms place) (fold-append with_slot [] slots more)
    ∙ nth-with_slots (fold with_slot [] slots) more place (omega (arith, length-with_slots [] slots))

-- the last slot says what it says of the slots before it
pub nth-pushed : (slots : List Term) (slot : Term) → nth (slot_terms (slots ++ slot ∷ [])) (length slots) ≡ slot_term (slot_terms slots) slot
nth-pushed slots slot =
    ap (λ terms. nth terms (length slots)) (slot_terms-push slots slot)
    ∙ subst (λ n. nth (slot_terms slots ++ slot_term (slot_terms slots) slot ∷ []) n ≡ slot_term (slot_terms slots) slot) (length-slot_terms slots)
    (get_or-append_seam (slot_terms slots) (slot_term (slot_terms slots) slot) [] (const 0))

below_more : (number m n : ℕ) → m ≤ n → nat_lt number m ≡ true → nat_lt number n ≡ true
below_more number m n l is = lt-ltb number n (omega (arith, ltb-true number m is))

-- a term over some inputs is one over more
pub is_numbered-more : (m n : ℕ) → m ≤ n → (t : Numbered) → is_numbered m t ≡ true → is_numbered n t ≡ true
is_numbered-more m n l (const bits) is = refl
is_numbered-more m n l (word number) is = below_more number m n l is
is_numbered-more m n l (both left right) is =
    let parts = and_parts (is_numbered m left) (is_numbered m right) is in
    and_from (is_numbered n left) (is_numbered n right) (is_numbered-more m n l left parts.0) (is_numbered-more m n l right parts.1)
is_numbered-more m n l (either left right) is =
    let parts = and_parts (is_numbered m left) (is_numbered m right) is in
    and_from (is_numbered n left) (is_numbered n right) (is_numbered-more m n l left parts.0) (is_numbered-more m n l right parts.1)
is_numbered-more m n l (unless input bit then') is =
    let outer = and_parts (nat_lt input m && nat_lt bit 64) (is_numbered m then') is in
    let inner = and_parts (nat_lt input m) (nat_lt bit 64) outer.0 in
    and_from (nat_lt input n && nat_lt bit 64) (is_numbered n then') (and_from (nat_lt input n) (nat_lt bit 64) (below_more input m n l inner.0) inner.1)
    (is_numbered-more m n l then' outer.1)
is_numbered-more m n l (shift bytes of) is = is_numbered-more m n l of is
is_numbered-more m n l (keep_align step of) is = is_numbered-more m n l of is
is_numbered-more m n l (spread bit to of) is =
    let parts = and_parts (nat_lt bit 64) (is_numbered m of) is in
    and_from (nat_lt bit 64) (is_numbered n of) parts.0 (is_numbered-more m n l of parts.1)

input_at-grown : (inputs more : List PosId) (number : ℕ) → nat_lt number (length inputs) ≡ true → input_at (inputs ++ more) number ≡ input_at inputs number
input_at-grown inputs more number is = get_or_append_left inputs more (record { 0 = 0 }) number (ltb-true number (length inputs) is)

-- a term names the same positions where more inputs follow
pub named-grown : (inputs more : List PosId) (t : Numbered) → is_numbered (length inputs) t ≡ true → named (inputs ++ more) t ≡ named inputs t
named-grown inputs more (const bits) is = refl
named-grown inputs more (word number) is = rw (input_at-grown inputs more number is) refl
named-grown inputs more (both left right) is =
    let parts = and_parts (is_numbered (length inputs) left) (is_numbered (length inputs) right) is in
    rw (named-grown inputs more left parts.0, named-grown inputs more right parts.1) refl
named-grown inputs more (either left right) is =
    let parts = and_parts (is_numbered (length inputs) left) (is_numbered (length inputs) right) is in
    rw (named-grown inputs more left parts.0, named-grown inputs more right parts.1) refl
named-grown inputs more (unless input bit then') is =
    let outer = and_parts (nat_lt input (length inputs) && nat_lt bit 64) (is_numbered (length inputs) then') is in
    let inner = and_parts (nat_lt input (length inputs)) (nat_lt bit 64) outer.0 in
    rw (input_at-grown inputs more input inner.0, named-grown inputs more then' outer.1) refl
named-grown inputs more (shift bytes of) is = rw (named-grown inputs more of is) refl
named-grown inputs more (keep_align step of) is = rw (named-grown inputs more of is) refl
named-grown inputs more (spread bit to of) is =
    let parts = and_parts (nat_lt bit 64) (is_numbered (length inputs) of) is in
    rw (named-grown inputs more of parts.1) refl

-- a list around one of its elements
split_at : {A : Type 0} (xs : List A) (k : ℕ) (x : A) → slice_get xs k ≡ Some x → (front : List A) × (back : List A) × (length front ≡ k) ×
    (xs ≡ (front ++ x ∷ []) ++ back)
split_at [] k x e = cc
split_at (y ∷ ys) zero x e = ([], ys, refl, ap (λ z. z ∷ ys) (same_Some y x e))
split_at (y ∷ ys) (suc k) x e = let rest = split_at ys k x e in (y ∷ rest.0, rest.1, ap suc rest.2, ap (λ l. y ∷ l) rest.3)

-- a slot that stands behind its parts says the same over the slots before it as over all
slot_term-grown : (slots more : List Term) (slot : Term) → IsBehind (length slots) slot →
    slot_term (slot_terms (slots ++ more)) slot ≡ slot_term (slot_terms slots) slot
slot_term-grown slots more (slot.Const bits) behind = refl
slot_term-grown slots more (slot.Word number) behind = refl
slot_term-grown slots more (slot.And left right) behind = rw (nth-grown slots more left.0 behind.0, nth-grown slots more right.0 behind.1) refl
slot_term-grown slots more (slot.Or left right) behind = rw (nth-grown slots more left.0 behind.0, nth-grown slots more right.0 behind.1) refl
slot_term-grown slots more (slot.Unless input bit then') behind = rw (nth-grown slots more then'.0 behind) refl
slot_term-grown slots more (slot.Shift bytes of) behind = rw (nth-grown slots more of.0 behind) refl
slot_term-grown slots more (slot.KeepAlign step of) behind = rw (nth-grown slots more of.0 behind) refl
slot_term-grown slots more (slot.Spread bit to of) behind = rw (nth-grown slots more of.0 behind) refl

-- the term at a place is that of its slot
pub nth-slot : (slots : List Term) (place : ℕ) (slot : Term) → AreOrdered slots → slice_get slots place ≡ Some slot →
    nth (slot_terms slots) place ≡ slot_term (slot_terms slots) slot
nth-slot slots place slot ordered is =
    let parts = split_at slots place slot is in
    let front : List Term = parts.0 in
    let back : List Term = parts.1 in
    let whole : slots ≡ (front ++ slot ∷ []) ++ back = parts.3 in
    let behind : IsBehind (length front) slot = rw parts.2 (ordered place slot is) in
    let short : length front < length (front ++ slot ∷ []) = omega (arith, length-append front (slot ∷ [])) in
    let first : nth (slot_terms ((front ++ slot ∷ []) ++ back)) (length front) ≡ slot_term (slot_terms ((front ++ slot ∷ []) ++ back)) slot =
    nth-grown (front ++ slot ∷ []) back (length front) short
    ∙ nth-pushed front slot
    ∙ sym (slot_term-grown front (slot ∷ [] ++ back) slot behind)
    ∙ ap (λ l. slot_term (slot_terms l) slot) (sym (append_assoc front (slot ∷ []) back)) in
    subst (λ k. nth (slot_terms slots) k ≡ slot_term (slot_terms slots) slot) parts.2
    (subst (λ l. nth (slot_terms l) (length front) ≡ slot_term (slot_terms l) slot) (sym whole) first)
