-- Numbers of types, by those of their parts; and where a key of a set stands.
use Rattle.std.proofs.Common.{◌≡◌, ℕ, ◌+◌, ◌<◌, Bool, true, false, cond, List, [], ◌∷◌, ◌++◌, length, get_or, map, take, Some, None, Vec, refl, sym, ap, ◌∙◌}
use Rattle.std.specs.Prelude.{Result, Ok, Err, IfOk}
use Rattle.std.specs.List.{list_any, position, position_from, position_or_len}
use Rattle.std.specs.Str.{bytes_eq}
use Rattle.std.proofs.lemmas.Iterator.Adapters.{position_from-zero}
use Rattle.std.proofs.lemmas.List.{take_more, map_push, map-append}
use Rattle.ir_tree.specs.declared.types.Ty.{Ty}
use Rattle.ir_tree.specs.declared.types.Ty.TheOpen.Ty-F.{Int, Array, Struct, Packed}
use Rattle.ir_tree.specs.declared.types.Ty.TheViews.{roll-Ty}
use Rattle.ir_type_names.specs.Reading.{bits_of, elements_of}
use Rattle.ir_type_names.specs.Numbers.Form.{Keyed}
use Rattle.ir_type_names.specs.Numbers.{Key, Table, placed, place, type_id, type_ids, joined_by}
use Rattle.ir_type_names.specs.Tables.{IsPut}
use Rattle.ir_type_names.proofs.Found.{any_mapped, position_mapped, place_mapped, key_stays}
use Rattle.ir_type_names.proofs.Taking.{id_roll}

-- what follows from a result
pub if_ok : {X E : Type 0} {P Q : X → Type 0} (r : Result X E) → ((x : X) → P x → Q x) → IfOk r P → IfOk r Q
if_ok (Ok x) leads is = leads x is
if_ok (Err e) leads is = is

pub if_both : {X E : Type 0} {P Q R : X → Type 0} (r : Result X E) → ((x : X) → P x → Q x → R x) → IfOk r P → IfOk r Q → IfOk r R
if_both (Ok x) leads first second = leads x first second
if_both (Err e) leads first second = first

module _ (t : Table) where
  pub int_number : (at n : ℕ) (key : Key) → n ≡ place t.first t.keys key → key ≡ 0 ∷ bits_of t.names at ∷ [] → n ≡ type_id t (roll-Ty (Int at))
  int_number at n key is same = is ∙ ap (place t.first t.keys) same ∙ sym (id_roll t (Int at))

  pub array_number : (start count : ℕ) (elem : Ty) (m n : ℕ) (key : Key) → n ≡ place t.first t.keys key → key ≡ 1 ∷ elements_of t.names count ∷ m ∷ []
      → m ≡ type_id t elem → n ≡ type_id t (roll-Ty (Array start count elem))
  array_number start count elem m n key is same part =
      is ∙ ap (place t.first t.keys) (same ∙ ap (λ k. 1 ∷ elements_of t.names count ∷ k ∷ []) part) ∙ sym (id_roll t (Array start count elem))

  pub struct_number : (start : ℕ) (parts : List Ty) (n : ℕ) (key : Key) → n ≡ place t.first t.keys key → key ≡ 2 ∷ type_ids t parts
      → n ≡ type_id t (roll-Ty (Struct start parts))
  struct_number start parts n key is same = is ∙ ap (place t.first t.keys) same ∙ sym (id_roll t (Struct start parts))

  pub packed_number : (start : ℕ) (parts : List Ty) (n : ℕ) (key : Key) → n ≡ place t.first t.keys key → key ≡ 3 ∷ type_ids t parts
      → n ≡ type_id t (roll-Ty (Packed start parts))
  packed_number start parts n key is same = is ∙ ap (place t.first t.keys) same ∙ sym (id_roll t (Packed start parts))

-- one part's number more
pub more_numbers : (t : Table) (kind : ℕ) (parts : List Ty) (i : ℕ) (part : Ty) (old new : Key) (n : ℕ) → i < length parts → part ≡ get_or parts i part
    → old ≡ kind ∷ type_ids t (take i parts) → n ≡ type_id t part → new ≡ old ++ n ∷ [] → new ≡ kind ∷ type_ids t (take (i + 1) parts)
more_numbers t kind parts i part old new n within here before one push =
    push ∙ ap (λ ks. ks ++ n ∷ []) before ∙ ap (λ m. kind ∷ (type_ids t (take i parts) ++ m ∷ [])) (one ∙ ap (type_id t) here)
    ∙ ap (λ ns. kind ∷ ns) (sym (map_push (type_id t) (take i parts) (get_or parts i part)) ∙ ap (type_ids t) (sym (take_more parts i part within)))

module _ {Z : Type 0} where
  abbrev words : Vec ℕ Z → Key
  words key = key.items

  abbrev same_words : Vec ℕ Z → Vec ℕ Z → Bool
  same_words x y = bytes_eq x.items y.items

  at_keys : (keys : List (Vec ℕ Z)) (key : Vec ℕ Z) → position_from (bytes_eq key.items) 0 (map words keys) ≡ position (same_words key) keys
  at_keys keys key = sym (position_mapped words (bytes_eq key.items) keys 0) ∙ sym (position_from-zero (same_words key) keys)

  -- the number of a key that a set has, and of one that it lacks
  pub place_some : (first : ℕ) (keys : List (Vec ℕ Z)) (key : Vec ℕ Z) (i n : ℕ) → position (same_words key) keys ≡ Some i → n ≡ first + i
      → n ≡ place first (map words keys) key.items
  place_some first keys key i n found is = is ∙ sym (ap (placed first) (at_keys keys key ∙ found))

  pub place_none : (first : ℕ) (keys : List (Vec ℕ Z)) (key : Vec ℕ Z) → position (same_words key) keys ≡ None → 0 ≡ place first (map words keys) key.items
  place_none first keys key none = sym (ap (placed first) (at_keys keys key ∙ none))

  grown_by : (b : Bool) (keys : List (Vec ℕ Z)) (key : Vec ℕ Z) →
      map words (cond b keys (keys ++ key ∷ [])) ≡ cond b (map words keys) (map words keys ++ key.items ∷ [])
  grown_by true keys key = refl
  grown_by false keys key = map-append words keys (key ∷ [])

  -- the keys of a set that takes a key in
  pub put_keys : (keys : List (Vec ℕ Z)) (key : Vec ℕ Z) →
      map words (cond (list_any (same_words key) keys) keys (keys ++ key ∷ [])) ≡ joined_by (map words keys) (Keyed key.items)
  put_keys keys key = grown_by (list_any (same_words key) keys) keys key
      ∙ ap (λ b. cond b (map words keys) (map words keys ++ key.items ∷ [])) (any_mapped words (bytes_eq key.items) keys)

  pub put_number : (old new : Table) (keys : List (Vec ℕ Z)) (key : Vec ℕ Z) (n : ℕ) → old.keys ≡ map words keys
      → new ≡ record old { keys = map words (cond (list_any (same_words key) keys) keys (keys ++ key ∷ [])) }
      → n ≡ old.first + position_or_len (same_words key) keys → IsPut old key.items new n
  put_number old new keys key n were are is =
      let grew : new ≡ record old { keys = joined_by old.keys (Keyed key.items) } =
      are ∙ ap (λ ks. record old { keys = ks }) (put_keys keys key ∙ ap (λ ks. joined_by ks (Keyed key.items)) (sym were)) in record {
        is = grew;
        stays = λ rest. ap (λ (u : Table). place u.first (u.keys ++ rest) key.items) grew
            ∙ ap (placed old.first) (key_stays old.keys rest key.items)
            ∙ ap (λ i. old.first + i) (ap (position_or_len (bytes_eq key.items)) were ∙ sym (place_mapped words (bytes_eq key.items) keys)) ∙ sym is;
      }
