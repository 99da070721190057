-- Each type of a tree has a number in the table of types.
use Rattle.std.proofs.Common.{◌≡◌, ℕ, zero, suc, ◌+◌, ◌<◌, ◌≤◌, List, [], ◌∷◌, length, map, Some, None, refl, sym, ap, subst, arith}
use Rattle.std.proofs.Common.{length-append}
use Rattle.std.proofs.lemmas.List.{length-map}
use Rattle.std.specs.Prelude.{Option}
use Rattle.std.specs.List.{position_from}
use Rattle.std.specs.Str.{bytes_eq}
use Rattle.ir_tree.specs.declared.types.Ty.{Ty}
use Rattle.ir_tree.specs.declared.types.Ty.TheOpen.{Ty-F}
use Rattle.ir_tree.specs.declared.types.Ty.TheOpen.Ty-F.{Void, Int, Ptr, Array, Struct, Packed, Named}
use Rattle.ir_tree.specs.declared.types.Ty.TheViews.{out-Ty}
use Rattle.ir_tree.specs.declared.types.Ty.TheFolds.{fold_out-Ty, map-Ty}
use Rattle.ir_tree.specs.declared.entities.Entity.{Entity}
use Rattle.ir_tree.specs.declared.entities.Entity.TheVariants as entity_of
use Rattle.ir_tree.specs.declared.entities.TypeBody.{TypeBody}
use Rattle.ir_names.proofs.First.{found_passes}
use Rattle.ir_type_names.specs.Reading.{named, bits_of, elements_of}
use Rattle.ir_type_names.specs.Numbers.{Key, Table, placed, place, number_of_form, form, type_id_layer, type_id, named_count}
use Rattle.ir_type_names.specs.Contents.{type_of_key, nexts_from, bodies, named_contents, all_named, types_of}
use Rattle.ir_consts.specs.There.{IsTableOf}

placed_below : (first many : ℕ) (r : Option ℕ) → 2 ≤ first → ((k : ℕ) → r ≡ Some k → k < many) → placed first r < first + many
placed_below first many None least below = omega (arith, least)
placed_below first many (Some k) least below = omega (arith, below k refl)

place_below : (first : ℕ) (keys : List Key) (key : Key) → 2 ≤ first → place first keys key < first + length keys
place_below first keys key least = placed_below first (length keys) (position_from (bytes_eq key) 0 keys) least
    (λ k found. let at = found_passes (bytes_eq key) keys [] 0 k found in omega (arith, at.1, at.2))

module _ (t : Table) (least : 2 ≤ t.first) (names : (leaf : ℕ) → named t.names leaf < t.first) where
  form_below : (x : Ty-F ℕ) → number_of_form t.first t.keys (form t.names x) < t.first + length t.keys
  form_below (Void at) = omega (arith, least)
  form_below (Ptr at) = omega (arith, least)
  form_below (Named name) = omega (arith, names name)
  form_below (Int at) = place_below t.first t.keys (0 ∷ bits_of t.names at ∷ []) least
  form_below (Array start count elem) = place_below t.first t.keys (1 ∷ elements_of t.names count ∷ elem ∷ []) least
  form_below (Struct start parts) = place_below t.first t.keys (2 ∷ parts) least
  form_below (Packed start parts) = place_below t.first t.keys (3 ∷ parts) least

  id_below : (ty : Ty) → type_id t ty < t.first + length t.keys
  id_below ty = subst (λ n. n < t.first + length t.keys) (sym (fold_out-Ty ℕ (type_id_layer t) ty)) (form_below (map-Ty Ty ℕ (type_id t) (out-Ty ty)))

-- ---- how many types there are
contents_count : (t : Table) (bs : List TypeBody) (nexts : List ℕ) (k n : ℕ) → length (named_contents t bs nexts k n) ≡ n
contents_count t bs nexts k zero = refl
contents_count t bs nexts k (suc n) = ap suc (contents_count t bs nexts (k + 1) n)

bodies_count : (es : List Entity) → length (bodies es) ≡ named_count es
bodies_count [] = refl
bodies_count (entity_of.Named name body ∷ es) = let rest = bodies_count es in omega (arith, rest)
bodies_count (e ∷ es) = let rest = bodies_count es in omega (arith, rest)

types_count : (t : Table) (es : List Entity) → length (types_of t es) ≡ 2 + (named_count es + length t.keys)
types_count t es =
    let named = contents_count t (bodies es) (nexts_from t.names 0 (bodies es)) 0 (length (bodies es)) in
    let all = bodies_count es in
    omega (arith, named, all, length-append (all_named t (bodies es)) (map type_of_key t.keys), length-map t.keys type_of_key)

-- ---- both
pub there : (t : Table) (es : List Entity) → IsTableOf t es → (ty : Ty) → type_id t ty < length (types_of t es)
there t es is ty =
    let first = is.first in
    let below = id_below t (omega (arith, first)) (λ leaf. let l = is.names leaf in omega (arith, l, first)) ty in
    let count = types_count t es in
    omega (arith, below, count, first)
