-- The types of a module, and their numbers.
use Rattle.std.proofs.Common.{◌≡◌, ◌∙◌, ◌+◌, ◌-◌, ◌<◌, ◌≤◌, inl, inr, ℕ, zero, suc, List, [], ◌∷◌, length, map, slice_get, slice_index, Option, None}
use Rattle.std.proofs.Common.{Some, refl}
use Rattle.std.proofs.Common.{sym, ap, subst, arith, length-append}
use Rattle.std.specs.List.{position_from}
use Rattle.std.specs.Option.{unwrap_or}
use Rattle.std.specs.Str.{bytes_eq}
use Rattle.std.proofs.lemmas.Bool.{cases_lt}
use Rattle.std.proofs.lemmas.List.{length-map}
use Rattle.std.proofs.lemmas.Option.{none-some, same_Some, slice_get_within}
use Rattle.shelf.proofs.Shelf.{get_left, get_right}
use Rattle.ir_names.proofs.First.{found_passes}
use Rattle.ir_types.specs.declared.ir_type.IrType.{IrType}
use Rattle.ir_types.specs.declared.ir_type.IrType.TheVariants as ir
use Rattle.ir_types.specs.IrType.{parts}
use Rattle.ir_types.specs.Standing.{Has}
use Rattle.ir_tree.specs.declared.types.Ty.{Ty}
use Rattle.ir_tree.specs.declared.types.Ty.TheOpen.{Ty-F}
use Rattle.ir_tree.specs.declared.types.Ty.TheOpen.Ty-F.{Void, Int, Ptr, Array, Struct, Packed, Named}
use Rattle.ir_tree.specs.declared.types.Ty.TheViews.{out-Ty}
use Rattle.ir_tree.specs.declared.types.Ty.TheFolds.{map-Ty}
use Rattle.ir_tree.specs.declared.entities.TypeBody.{TypeBody}
use Rattle.ir_tree.specs.declared.entities.TypeBody.TheVariants as body_of
use Rattle.ir_tree.specs.declared.entities.Entity.{Entity}
use Rattle.ir_tree.specs.declared.entities.Entity.TheVariants as entity_of
use Rattle.ir_scopes.specs.declared.slot.Entry.{Entry}
use Rattle.ir_scopes.specs.declared.slot.Entry.TheVariants as entry
use Rattle.ir_scopes.specs.declared.slot.Kind.TheVariants as kind
use Rattle.ir_scopes.specs.declared.slot.Counts.{Counts}
use Rattle.ir_scopes.specs.declared.top.Space.TheVariants as space
use Rattle.ir_scopes.specs.Scopes.{all_counted, counted, definitions, find}
use Rattle.ir_scopes.specs.Slots.{top_slots, slot}
use Rattle.ir_type_uses.specs.Written.{written}
use Rattle.ir_type_names.specs.Reading.{named, number_in}
use Rattle.ir_type_names.specs.Reading as type_names
use Rattle.ir_type_names.specs.Numbers.{Key, Table, placed, place, type_id, bit, bit_key, named_count, with_all, with_type, with_parts, empty_table}
use Rattle.ir_type_names.specs.Contents.{id, content, body_content, type_of_key, nexts_from, bodies, named_content, named_contents, all_named, types_of}
use Rattle.ir_type_names.specs.Laws.{AreNames}
use Rattle.ir_type_names.proofs.Earlier.{earlier}
use Rattle.ir_consts.specs.There.{IsTableOf}
use Rattle.ir_consts.proofs.There.{there}
use Rattle.ir_names.specs.Ids.{name_ids}
use Rattle.ir_resolve.specs.Inputs.{Input, start, names, type_reading, table, types}
use Rattle.resolved_forms.proofs.Names.{IsBetween, found_between}

-- ---- names of types
types_counted : (ids : List ℕ) (c : Counts) (es : List Entity) → (all_counted ids c (top_slots space.Types es)).types ≡ c.types + named_count es
types_counted ids c [] = omega arith
types_counted ids c (entity_of.Named name body ∷ es) =
    let rest = types_counted ids (counted ids c (slot kind.Type (Some name))) es in omega (arith, rest)
types_counted ids c (e ∷ es) = let rest = types_counted ids c es in omega (arith, rest)

name_below : (n : ℕ) (c d : Counts) (o : Option Entry) → 0 < n → d.types ≡ n → ((e : Entry) → o ≡ Some e → IsBetween c d e) → unwrap_or (number_in o) 0 < n
name_below n c d None more is h = more
name_below n c d (Some (entry.Type t)) more is h = let l = (h (entry.Type t) refl).1 in omega (arith, l, is)
name_below n c d (Some _) more is h = more

module _ (x : Input) where
  pub names_below : AreNames (type_reading (names x)) x.entities
  names_below leaf =
      let ids = name_ids x.text x.toks in
      let ss = top_slots space.Types x.entities in
      name_below (2 + named_count x.entities) start (all_counted ids start ss) (find (definitions ids start ss) (slice_index ids leaf)) (omega arith)
      (types_counted ids start x.entities) (λ e is. found_between ids start ss (slice_index ids leaf) e is)

-- ---- the table
all_first : (t : Table) (tys : List Ty) → (with_all t tys).first ≡ t.first
all_first t [] = refl
all_first t (ty ∷ tys) = all_first (with_type t ty) tys

all_names : (t : Table) (tys : List Ty) → (with_all t tys).names ≡ t.names
all_names t [] = refl
all_names t (ty ∷ tys) = all_names (with_type t ty) tys

pub is_table : (x : Input) → IsTableOf (table x) x.entities
is_table x =
    let begin = empty_table (type_reading (names x)) x.entities in
    let tys = with_parts (written x.entities) in
    record {
      first = all_first begin tys;
      names = λ leaf. subst (λ (r : type_names.Reading). named r leaf < 2 + named_count x.entities) (sym (all_names begin tys)) (names_below x leaf);
    }

-- each written type is one of them
pub kinds_below : (x : Input) (ty : Ty) → type_id (table x) ty < length (types x)
kinds_below x ty = there (table x) x.entities (is_table x) ty

-- ---- how many there are
contents_count : (t : Table) (bs : List TypeBody) (nexts : List ℕ) (k n : ℕ) → length (named_contents t bs nexts k n) ≡ n
contents_count t bs nexts k zero = refl
contents_count t bs nexts k (suc n) = ap suc (contents_count t bs nexts (k + 1) n)

bodies_count : (es : List Entity) → length (bodies es) ≡ named_count es
bodies_count [] = refl
bodies_count (entity_of.Named name body ∷ es) = let rest = bodies_count es in omega (arith, rest)
bodies_count (e ∷ es) = let rest = bodies_count es in omega (arith, rest)

pub named_length : (t : Table) (es : List Entity) → length (all_named t (bodies es)) ≡ named_count es
named_length t es = contents_count t (bodies es) (nexts_from t.names 0 (bodies es)) 0 (length (bodies es)) ∙ bodies_count es

types_count : (t : Table) (es : List Entity) → length (types_of t es) ≡ 2 + (named_count es + length t.keys)
types_count t es =
    let named = named_length t es in
    omega (arith, named, length-append (all_named t (bodies es)) (map type_of_key t.keys), length-map t.keys type_of_key)

-- the number of i1 is that of one of them
placed_below : (first many : ℕ) (r : Option ℕ) → 2 ≤ first → ((k : ℕ) → r ≡ Some k → k < many) → placed first r < first + many
placed_below first many None least below = omega (arith, least)
placed_below first many (Some k) least below = omega (arith, below k refl)

place_below : (first : ℕ) (keys : List Key) (key : Key) → 2 ≤ first → place first keys key < first + length keys
place_below first keys key least = placed_below first (length keys) (position_from (bytes_eq key) 0 keys) least
    (λ k found. let at = found_passes (bytes_eq key) keys [] 0 k found in omega (arith, at.1, at.2))

pub bit_below : (x : Input) → bit (table x) < length (types x)
bit_below x =
    let first = (is_table x).first in
    let l = place_below (table x).first (table x).keys bit_key (omega (arith, first)) in
    let count = types_count (table x) x.entities in
    omega (arith, l, count, first)

pub two_below : (x : Input) → 2 ≤ length (types x)
two_below x = let count = types_count (table x) x.entities in omega (arith, count)

-- ---- each of them
module _ (n : ℕ) where
  abbrev IsLow : IrType → Type 0
  IsLow type = (part : ℕ) → Has (parts type) part → part < n

  none_low : (part : ℕ) → Has [] part → part < n
  none_low part has = absurd (none-some part has.1)

  one_low : (m : ℕ) → m < n → (part : ℕ) → Has (m ∷ []) part → part < n
  one_low m l part (zero, at) = subst (λ k. k < n) (same_Some m part at) l
  one_low m l part (suc k, at) = absurd (none-some part at)

  module _ (t : Table) (low : (ty : Ty) → type_id t ty < n) (names : (leaf : ℕ) → named t.names leaf < n) where
    fields_low : (ys : List Ty) (part : ℕ) → Has (map (λ u. u.0) (map id (map (type_id t) ys))) part → part < n
    fields_low [] part has = absurd (none-some part has.1)
    fields_low (y ∷ ys) part (zero, at) = subst (λ k. k < n) (same_Some (type_id t y) part at) (low y)
    fields_low (y ∷ ys) part (suc k, at) = fields_low ys part (k, at)

    layer_low : (y : Ty-F Ty) → IsLow (content t.names (map-Ty Ty ℕ (type_id t) y))
    layer_low (Void at) = none_low
    layer_low (Ptr at) = none_low
    layer_low (Named name) = one_low (named t.names name) (names name)
    layer_low (Int at) = none_low
    layer_low (Array begin count elem) = one_low (type_id t elem) (low elem)
    layer_low (Struct begin ys) = fields_low ys
    layer_low (Packed begin ys) = fields_low ys

    body_low : (o : Option TypeBody) → IsLow (body_content t o)
    body_low None = none_low
    body_low (Some (body_of.Opaque word)) = none_low
    body_low (Some (body_of.Ty ty)) = layer_low (out-Ty ty)

    named_low : (bs : List TypeBody) (nexts : List ℕ) (k m j : ℕ) (type : IrType) → slice_get (named_contents t bs nexts k m) j ≡ Some type → IsLow type
    named_low bs nexts k zero j type at = absurd (none-some type at)
    named_low bs nexts k (suc m) zero type at = subst IsLow (same_Some (named_content t bs nexts k) type at) (body_low _)
    named_low bs nexts k (suc m) (suc j) type at = named_low bs nexts (k + 1) m j type at

keys_at : (keys : List Key) (j : ℕ) (type : IrType) → slice_get (map type_of_key keys) j ≡ Some type
    → (key : Key) × (slice_get keys j ≡ Some key) × (type_of_key key ≡ type)
keys_at [] j type at = absurd (none-some type at)
keys_at (key ∷ keys) zero type at = (key, refl, same_Some (type_of_key key) type at)
keys_at (key ∷ keys) (suc j) type at = keys_at keys j type at

pub types_low : (x : Input) (k : ℕ) (type : IrType) → slice_get (types x) k ≡ Some type → (part : ℕ) → Has (parts type) part → part < length (types x)
types_low x zero type at = subst (IsLow (length (types x))) (same_Some ir.Void type at) (none_low (length (types x)))
types_low x (suc zero) type at = subst (IsLow (length (types x))) (same_Some ir.Ptr type at) (none_low (length (types x)))
types_low x (suc (suc j)) type at =
    let t = table x in
    let es = x.entities in
    let count = types_count t es in
    let all = named_length t es in
    let is = is_table x in
    let first = is.first in
    elim (cases_lt j (length (all_named t (bodies es)))) [
      | inl l ↦
          named_low (length (types x)) t (kinds_below x) (λ leaf. let low = is.names leaf in omega (arith, low, count)) (bodies es)
          (nexts_from t.names 0 (bodies es)) 0 (length (bodies es)) j type (sym (get_left (all_named t (bodies es)) (map type_of_key t.keys) j l) ∙ at)
      | inr l ↦
          λ part has.
          (let i = j - length (all_named t (bodies es)) in
          let key = keys_at t.keys i type (sym (get_right (all_named t (bodies es)) (map type_of_key t.keys) j i (omega (arith, l))) ∙ at) in
          let less = earlier (type_reading (names x)) es (names_below x) i key.0 key.1 part (subst (λ z. Has (parts z) part) (sym key.2) has) in
          let within = slice_get_within t.keys i key.0 key.1 in
          omega (arith, less, within, count, first))
    ]
