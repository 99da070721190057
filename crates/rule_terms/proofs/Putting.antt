-- One more term in a pool.
use Rattle.std.proofs.Common.{◌≡◌, ℕ, ◌<◌, ◌≤◌, Bool, true, ◌&&◌, List, [], ◌∷◌, ◌++◌, length, slice_get, Some, refl, ap, sym, ◌∙◌, arith, append_assoc}
use Rattle.std.proofs.Common.{length-append, nat_lt, append-nil, inl, inr}
use Rattle.std.proofs.lemmas.Bool.{and_parts, and_from, ltb-true, lt-ltb}
use Rattle.std.proofs.lemmas.List.Sums.{fold-append}
use Rattle.std.proofs.lemmas.Option.{slice_get_within, get_or_from_slice_get}
use Rattle.attr_ids.specs.declared.ids.PosId.{PosId}
use Rattle.shelf.proofs.Shelf.{get_kept, get_push}
use Rattle.rule_terms.specs.declared.pool.Pool.{Pool}
use Rattle.rule_terms.specs.declared.term.Term.{Term}
use Rattle.rule_terms.specs.declared.term.Term.TheVariants as slot
use Rattle.rule_terms.specs.declared.term.TermId.{TermId}
use Rattle.rule_terms.specs.declared.term.NewTerm.{NewTerm}
use Rattle.rule_terms.specs.declared.term.NewTerm.TheOpen.{NewTerm-F, NewTerm-F as new}
use Rattle.rule_terms.specs.declared.term.NewTerm.TheViews.{roll-NewTerm}
use Rattle.rule_terms.specs.declared.term.NewTerm.TheFolds.{fold-roll-NewTerm, map-NewTerm}
use Rattle.rule_terms.specs.Names.{names_of, layer_names, with_name, with_names, is_over, is_layer_over}
use Rattle.rule_terms.specs.Slots.{Numbered, const, word, both, either, unless, shift, keep_align, spread, nth, slot_term, slot_terms, named, is_numbered}
use Rattle.rule_terms.specs.Slots.{AreOrdered, IsBehind}
use Rattle.rule_terms.specs.Pool.{IsGrown, GoesOn, Has}
use Rattle.rule_terms.proofs.Slotted.{nth-grown, nth-pushed, is_numbered-more, named-grown}

pub grown_refl : {A : Type 0} (xs : List A) → IsGrown xs xs
grown_refl xs = ([], sym (append-nil xs))

pub grown_trans : {A : Type 0} (xs ys zs : List A) → IsGrown xs ys → IsGrown ys zs → IsGrown xs zs
grown_trans xs ys zs (m, e) (n, f) = (m ++ n, f ∙ ap (λ l. l ++ n) e ∙ append_assoc xs m n)

pub goes_on_trans : (a b c : Pool) → GoesOn a b → GoesOn b c → GoesOn a c
goes_on_trans a b c ab bc = record {
  pool = bc.pool;
  slots = grown_trans a.slots.items b.slots.items c.slots.items ab.slots bc.slots;
  inputs = grown_trans a.inputs.items b.inputs.items c.inputs.items ab.inputs bc.inputs;
  size = bc.size ∙ ab.size;
}

-- the same over two pools in between
pub goes_on_twice : (a b c d : Pool) → GoesOn a b → GoesOn b c → GoesOn c d → GoesOn a d
goes_on_twice a b c d ab bc cd = goes_on_trans a b d ab (goes_on_trans b c d bc cd)

-- one more slot stands behind its parts, too
pub AreOrdered-push : (slots : List Term) (slot : Term) → AreOrdered slots → IsBehind (length slots) slot → AreOrdered (slots ++ slot ∷ [])
AreOrdered-push slots slot ordered behind k s e = elim (get_push slots slot s k e) [
  | inl is ↦ ordered k s is
  | inr last ↦ rw (sym last.1, last.0) behind
]

pub grown_length : {A : Type 0} (xs ys : List A) → IsGrown xs ys → length xs ≤ length ys
grown_length xs ys (more, e) = omega (arith, length-append xs more, ap length e)

-- what a pool has it keeps as it goes on
pub has_stays : (a b : Pool) (t : NewTerm) (place : ℕ) → Has a t place → GoesOn a b → Has b t place
has_stays a b t place has on =
    let here : nth (slot_terms b.slots.items) place ≡ nth (slot_terms a.slots.items) place =
    ap (λ l. nth (slot_terms l) place) on.slots.1 ∙ nth-grown a.slots.items on.slots.0 place has.within in
    let longer = grown_length a.slots.items b.slots.items on.slots in
    let more = grown_length a.inputs.items b.inputs.items on.inputs in
    record {
      within = omega (arith, longer, has.within);
      numbered = rw here (is_numbered-more (length a.inputs.items) (length b.inputs.items) more (nth (slot_terms a.slots.items) place) has.numbered);
      named = rw here (ap (λ l. named l (nth (slot_terms a.slots.items) place)) on.inputs.1 ∙
          named-grown a.inputs.items on.inputs.0 (nth (slot_terms a.slots.items) place) has.numbered ∙ has.named);
    }

-- an input keeps its number
pub input_stays : (xs ys : List PosId) (k : ℕ) (p : PosId) → IsGrown xs ys → slice_get xs k ≡ Some p → slice_get ys k ≡ Some p
input_stays xs ys k p (more, e) is = ap (λ l. slice_get l k) e ∙ get_kept xs more k p is

-- b is the pool a with this slot at its end, which stands at the place
pub record Pushes (a b : Pool) (slot : Term) (place : ℕ) : Type 0 where
  pub inputs : b.inputs.items ≡ a.inputs.items
  pub slots : b.slots.items ≡ a.slots.items ++ slot ∷ []
  pub last : place ≡ length a.slots.items

module _ (a b : Pool) (place : ℕ) where
  has_pushed : (slot : Term) → Pushes a b slot place → (s : Numbered) → slot_term (slot_terms a.slots.items) slot ≡ s →
      is_numbered (length a.inputs.items) s ≡ true → (t : NewTerm) → named a.inputs.items s ≡ t → Has b t place
  has_pushed slot pushes s said numbered t is =
      let here : nth (slot_terms b.slots.items) place ≡ s =
      ap (λ l. nth (slot_terms l) place) pushes.slots ∙ ap (λ n. nth (slot_terms (a.slots.items ++ slot ∷ [])) n) pushes.last ∙ nth-pushed a.slots.items slot ∙
      said in
      record {
        within = omega (arith, ap length pushes.slots, length-append a.slots.items (slot ∷ []), pushes.last);
        numbered = rw here (ap (λ l. is_numbered (length l) s) pushes.inputs ∙ numbered);
        named = rw here (ap (λ l. named l s) pushes.inputs ∙ is);
      }

  pub put_const : (bits : ℕ) (t : NewTerm) → Pushes a b (slot.Const bits) place → roll-NewTerm (new.Const bits) ≡ t → Has b t place
  put_const bits t pushes is = has_pushed (slot.Const bits) pushes (const bits) refl refl t is

  pub put_word : (number : ℕ) (p : PosId) (t : NewTerm) → slice_get a.inputs.items number ≡ Some p → Pushes a b (slot.Word number) place →
      roll-NewTerm (new.Word p) ≡ t → Has b t place
  put_word number p t input pushes is =
      has_pushed (slot.Word number) pushes (word number) refl (lt-ltb number (length a.inputs.items) (slice_get_within a.inputs.items number p input)) t
      (ap (λ q. roll-NewTerm (new.Word q)) (get_or_from_slice_get a.inputs.items number p (record { 0 = 0 }) input) ∙ is)

  pub put_and : (l r : TermId) (left right t : NewTerm) → Has a left l.0 → Has a right r.0 → Pushes a b (slot.And l r) place →
      roll-NewTerm (new.And left right) ≡ t → Has b t place
  put_and l r left right t x y pushes is =
      has_pushed (slot.And l r) pushes (both (nth (slot_terms a.slots.items) l.0) (nth (slot_terms a.slots.items) r.0)) refl
      (and_from _ _ x.numbered y.numbered) t
      (rw (x.named, y.named) is)

  pub put_or : (l r : TermId) (left right t : NewTerm) → Has a left l.0 → Has a right r.0 → Pushes a b (slot.Or l r) place →
      roll-NewTerm (new.Or left right) ≡ t → Has b t place
  put_or l r left right t x y pushes is =
      has_pushed (slot.Or l r) pushes (either (nth (slot_terms a.slots.items) l.0) (nth (slot_terms a.slots.items) r.0)) refl
      (and_from _ _ x.numbered y.numbered) t
      (rw (x.named, y.named) is)

  pub put_unless : (number bit : ℕ) (then' : TermId) (p : PosId) (of t : NewTerm) → slice_get a.inputs.items number ≡ Some p → bit < 64 → Has a of then'.0 →
      Pushes a b (slot.Unless number bit then') place → roll-NewTerm (new.Unless p bit of) ≡ t → Has b t place
  put_unless number bit then' p of t input small x pushes is =
      has_pushed (slot.Unless number bit then') pushes (unless number bit (nth (slot_terms a.slots.items) then'.0)) refl
      (and_from _ _ (and_from _ _ (lt-ltb number (length a.inputs.items) (slice_get_within a.inputs.items number p input)) (lt-ltb bit 64 small)) x.numbered) t
      (rw (get_or_from_slice_get a.inputs.items number p (record { 0 = 0 }) input, x.named) is)

  pub put_shift : (bytes : ℕ) (o : TermId) (of t : NewTerm) → Has a of o.0 → Pushes a b (slot.Shift bytes o) place → roll-NewTerm (new.Shift bytes of) ≡ t →
      Has b t place
  put_shift bytes o of t x pushes is =
      has_pushed (slot.Shift bytes o) pushes (shift bytes (nth (slot_terms a.slots.items) o.0)) refl x.numbered t (rw x.named is)

  pub put_keep_align : (step : ℕ) (o : TermId) (of t : NewTerm) → Has a of o.0 → Pushes a b (slot.KeepAlign step o) place →
      roll-NewTerm (new.KeepAlign step of) ≡ t → Has b t place
  put_keep_align step o of t x pushes is =
      has_pushed (slot.KeepAlign step o) pushes (keep_align step (nth (slot_terms a.slots.items) o.0)) refl x.numbered t (rw x.named is)

  pub put_spread : (bit to : ℕ) (o : TermId) (of t : NewTerm) → bit < 64 → Has a of o.0 → Pushes a b (slot.Spread bit to o) place →
      roll-NewTerm (new.Spread bit to of) ≡ t → Has b t place
  put_spread bit to o of t small x pushes is =
      has_pushed (slot.Spread bit to o) pushes (spread bit to (nth (slot_terms a.slots.items) o.0)) refl (and_from _ _ (lt-ltb bit 64 small) x.numbered) t
      (rw x.named is)

-- ---- the names and bits of a term and of its parts
pub two_names : (start first second all xs ys : List PosId) → first ≡ with_names start xs → second ≡ with_names first ys → all ≡ second →
    all ≡ with_names start (xs ++ ys)
two_names start first second all xs ys e f g = g ∙ f ∙ ap (λ l. with_names l ys) e ∙ sym (fold-append with_name start xs ys)

pub names_and : (left right t : NewTerm) → roll-NewTerm (new.And left right) ≡ t → names_of t ≡ names_of left ++ names_of right
names_and left right t is = ap names_of (sym is) ∙ fold-roll-NewTerm (List PosId) layer_names (new.And left right)

pub names_or : (left right t : NewTerm) → roll-NewTerm (new.Or left right) ≡ t → names_of t ≡ names_of left ++ names_of right
names_or left right t is = ap names_of (sym is) ∙ fold-roll-NewTerm (List PosId) layer_names (new.Or left right)

module _ (count : ℕ) where
  -- what holds of a term holds of its layer
  over_layer : (x : NewTerm-F NewTerm) (t : NewTerm) → roll-NewTerm x ≡ t → is_over count t ≡ true →
      is_layer_over count (map-NewTerm NewTerm Bool (is_over count) x) ≡ true
  over_layer x t is over = sym (fold-roll-NewTerm Bool (is_layer_over count) x) ∙ ap (is_over count) is ∙ over

  pub over_and : (left right t : NewTerm) → roll-NewTerm (new.And left right) ≡ t → is_over count t ≡ true → (is_over count left ≡ true) ×
      (is_over count right ≡ true)
  over_and left right t is over = and_parts (is_over count left) (is_over count right) (over_layer (new.And left right) t is over)

  pub over_or : (left right t : NewTerm) → roll-NewTerm (new.Or left right) ≡ t → is_over count t ≡ true → (is_over count left ≡ true) ×
      (is_over count right ≡ true)
  over_or left right t is over = and_parts (is_over count left) (is_over count right) (over_layer (new.Or left right) t is over)

  pub over_unless : (p : PosId) (bit : ℕ) (of t : NewTerm) → roll-NewTerm (new.Unless p bit of) ≡ t → is_over count t ≡ true → bit < 64
  over_unless p bit of t is over =
      ltb-true bit 64 (and_parts (nat_lt p.0 count) (nat_lt bit 64) (and_parts (nat_lt p.0 count && nat_lt bit 64) (is_over count of)
      (over_layer (new.Unless p bit of) t is over)).0).1

  pub over_spread : (bit to : ℕ) (of t : NewTerm) → roll-NewTerm (new.Spread bit to of) ≡ t → is_over count t ≡ true → bit < 64
  over_spread bit to of t is over = ltb-true bit 64 (and_parts (nat_lt bit 64) (is_over count of) (over_layer (new.Spread bit to of) t is over)).0
