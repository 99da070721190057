-- Parts of unnamed types have smaller numbers.
use Rattle.std.proofs.Common.{◌≡◌, ℕ, zero, suc, ◌+◌, ◌<◌, ◌≤◌, Bool, true, false, cond, List, [], ◌∷◌, ◌++◌, length, map, slice_get, Option, Some, None, inl}
use Rattle.std.proofs.Common.{inr}
use Rattle.std.proofs.Common.{refl, sym, ap, subst, arith}
use Rattle.std.specs.List.{list_any, position_from}
use Rattle.std.specs.Str.{bytes_eq}
use Rattle.ir_types.specs.IrType.{parts}
use Rattle.ir_types.specs.Standing.{Has}
use Rattle.ir_tree.specs.declared.types.Ty.{Ty}
use Rattle.ir_tree.specs.declared.types.Ty.TheOpen.{Ty-F}
use Rattle.ir_tree.specs.declared.types.Ty.TheOpen.Ty-F.{Void, Int, Ptr, Array, Struct, Packed, Named}
use Rattle.ir_tree.specs.declared.types.Ty.TheViews.{out-Ty}
use Rattle.ir_tree.specs.declared.types.Ty.TheFolds.{fold_out-Ty, map-Ty}
use Rattle.ir_tree.specs.declared.entities.Entity.{Entity}
use Rattle.ir_type_uses.specs.Written.{written}
use Rattle.ir_names.proofs.First.{found_passes}
use Rattle.shelf.proofs.Shelf.{get_push}
use Rattle.ir_type_names.specs.Reading.{Reading, named, bits_of, elements_of}
use Rattle.ir_type_names.specs.Numbers.Form.{Own, Keyed}
use Rattle.ir_type_names.specs.Numbers.{Key, Table, Form, placed, place, number_of_form, form, form_of, type_id_layer, type_id, joined_by, with_type, with_all}
use Rattle.ir_type_names.specs.Numbers.{with_parts, empty_table, bit_key, table_of}
use Rattle.ir_type_names.specs.Contents.{id, type_of_key}
use Rattle.ir_type_names.specs.Laws.{AreNames, HasEarlierParts}

-- the numbers of named types come before those of the unnamed ones
abbrev IsBounded : Table → Type 0
IsBounded t = (2 ≤ t.first) × ((leaf : ℕ) → named t.names leaf < t.first)

placed_below : (first many : ℕ) (r : Option ℕ) → 2 ≤ first → ((k : ℕ) → r ≡ Some k → k < many) → placed first r < first + many
placed_below first many None least below = omega (arith, least)
placed_below first many (Some k) least below = omega (arith, below k refl)

place_below : (first : ℕ) (keys : List Key) (key : Key) → 2 ≤ first → place first keys key < first + length keys
place_below first keys key least = placed_below first (length keys) (position_from (bytes_eq key) 0 keys) least
    (λ k found. let at = found_passes (bytes_eq key) keys [] 0 k found in omega (arith, at.1, at.2))

form_below : (t : Table) → IsBounded t → (x : Ty-F ℕ) → number_of_form t.first t.keys (form t.names x) < t.first + length t.keys
form_below t is (Void at) = omega (arith, is.0)
form_below t is (Ptr at) = omega (arith, is.0)
form_below t is (Named name) = omega (arith, is.1 name)
form_below t is (Int at) = place_below t.first t.keys (0 ∷ bits_of t.names at ∷ []) is.0
form_below t is (Array start count elem) = place_below t.first t.keys (1 ∷ elements_of t.names count ∷ elem ∷ []) is.0
form_below t is (Struct start ps) = place_below t.first t.keys (2 ∷ ps) is.0
form_below t is (Packed start ps) = place_below t.first t.keys (3 ∷ ps) is.0

id_below : (t : Table) → IsBounded t → (ty : Ty) → type_id t ty < t.first + length t.keys
id_below t is ty = subst (λ n. n < t.first + length t.keys) (sym (fold_out-Ty ℕ (type_id_layer t) ty)) (form_below t is (map-Ty Ty ℕ (type_id t) (out-Ty ty)))

abbrev key_in : Form → Key
key_in (Own n) = []
key_in (Keyed key) = key

module _ (f : Ty → ℕ) (bound : ℕ) (below : (ty : Ty) → f ty < bound) where
  fields_below : (ys : List Ty) (k n : ℕ) → slice_get (map (λ t. t.0) (map id (map f ys))) k ≡ Some n → n < bound
  fields_below [] k n at = absurd cc
  fields_below (y ∷ ys) zero n at = subst (λ m. m < bound) (let same : f y ≡ n = cc in same) (below y)
  fields_below (y ∷ ys) (suc k) n at = fields_below ys k n at

  elem_below : (y : Ty) (k n : ℕ) → slice_get (f y ∷ []) k ≡ Some n → n < bound
  elem_below y zero n at = subst (λ m. m < bound) (let same : f y ≡ n = cc in same) (below y)
  elem_below y (suc k) n at = absurd cc

  -- the parts of a type that is new have their numbers already
  new_parts : (r : Reading) (y : Ty-F Ty) (key : Key) → form r (map-Ty Ty ℕ f y) ≡ Keyed key → (n : ℕ) → Has (parts (type_of_key key)) n → n < bound
  new_parts r (Void at) key is n has = absurd cc
  new_parts r (Ptr at) key is n has = absurd cc
  new_parts r (Named name) key is n has = absurd cc
  new_parts r (Int at) key is n has = let none = subst (λ k. Has (parts (type_of_key k)) n) (sym (ap key_in is)) has in absurd cc
  new_parts r (Array start count elem) key is n has =
      let there = subst (λ k. Has (parts (type_of_key k)) n) (sym (ap key_in is)) has in elem_below elem there.0 n there.1
  new_parts r (Struct start ps) key is n has =
      let there = subst (λ k. Has (parts (type_of_key k)) n) (sym (ap key_in is)) has in fields_below ps there.0 n there.1
  new_parts r (Packed start ps) key is n has =
      let there = subst (λ k. Has (parts (type_of_key k)) n) (sym (ap key_in is)) has in fields_below ps there.0 n there.1

-- a table with one more key
more_earlier : (t : Table) (b : Bool) (key : Key) → HasEarlierParts t → ((n : ℕ) → Has (parts (type_of_key key)) n → n < t.first + length t.keys)
    → HasEarlierParts (record t { keys = cond b t.keys (t.keys ++ key ∷ []) })
more_earlier t true key before new = before
more_earlier t false key before new = λ i k at n has. elim (get_push t.keys key k i at) [
  | inl old ↦ (before i k old n has)
  | inr last ↦ (let less = new n (subst (λ j. Has (parts (type_of_key j)) n) (sym last.1) has) in omega (arith, less, last.0))
]

joined_earlier : (t : Table) (f : Form) → HasEarlierParts t
    → ((key : Key) → f ≡ Keyed key → (n : ℕ) → Has (parts (type_of_key key)) n → n < t.first + length t.keys)
    → HasEarlierParts (record t { keys = joined_by t.keys f })
joined_earlier t (Own n) before new = before
joined_earlier t (Keyed key) before new = more_earlier t (list_any (bytes_eq key) t.keys) key before (new key refl)

all_earlier : (t : Table) (tys : List Ty) → IsBounded t → HasEarlierParts t → HasEarlierParts (with_all t tys)
all_earlier t [] is before = before
all_earlier t (ty ∷ tys) is before = all_earlier (with_type t ty) tys is
    (joined_earlier t (form_of t ty) before (λ key same. new_parts (type_id t) (t.first + length t.keys) (id_below t is) t.names (out-Ty ty) key same))

pub earlier : (r : Reading) (es : List Entity) → AreNames r es → HasEarlierParts (table_of r es)
earlier r es names =
    let start = empty_table r es in
    let all = all_earlier start (with_parts (written es)) (omega arith, names) (λ i key at n has. absurd cc) in
    joined_earlier (with_all start (with_parts (written es))) (Keyed bit_key) all (λ key same n has.
    let none = subst (λ k. Has (parts (type_of_key k)) n) (sym (ap key_in same)) has in absurd cc)
