-- Types that are taken into a table, parts before wholes, and the numbers that they keep.
use Rattle.std.proofs.Common.{◌≡◌, ℕ, ◌+◌, ◌<◌, ◌≤◌, Bool, true, false, cond, List, [], ◌∷◌, ◌++◌, length, get_or, map, take}
use Rattle.std.proofs.Common.{refl, sym, ap, subst, ◌∙◌, append_assoc, take_all}
use Rattle.std.specs.List.{flat_map, list_any}
use Rattle.std.specs.Str.{bytes_eq}
use Rattle.std.proofs.lemmas.List.{append-nil, take_more, map_push, flat_map_more}
use Rattle.ir_tree.specs.declared.types.Ty.{Ty}
use Rattle.ir_tree.specs.declared.types.Ty.TheOpen.{Ty-F}
use Rattle.ir_tree.specs.declared.types.Ty.TheOpen.Ty-F.{Void, Int, Ptr, Array, Struct, Packed, Named}
use Rattle.ir_tree.specs.declared.types.Ty.TheViews.{roll-Ty, out-roll-Ty}
use Rattle.ir_tree.specs.declared.types.Ty.TheFolds.{fold-roll-Ty, para-roll-Ty, map-Ty}
use Rattle.ir_type_names.specs.Reading.{named, bits_of, elements_of}
use Rattle.ir_type_names.specs.Numbers.Form.{Own, Keyed}
use Rattle.ir_type_names.specs.Numbers.{Key, Table, Form, number_of_form, form, type_id_layer, type_id, type_ids, form_of, parts_layer, parts_first}
use Rattle.ir_type_names.specs.Numbers.{joined_by, with_type, with_all}
use Rattle.ir_type_names.specs.Tables.{followed_by, IsPut, IsTaken, AreTaken}

-- the number of a type, by the numbers of its parts
pub id_roll : (t : Table) (x : Ty-F Ty) → type_id t (roll-Ty x) ≡ number_of_form t.first t.keys (form t.names (map-Ty Ty ℕ (type_id t) x))
id_roll t x = fold-roll-Ty ℕ (type_id_layer t) x

pub form_roll : (t : Table) (x : Ty-F Ty) → form_of t (roll-Ty x) ≡ form t.names (map-Ty Ty ℕ (type_id t) x)
form_roll t x = ap (λ y. form t.names (map-Ty Ty ℕ (type_id t) y)) (out-roll-Ty x)

module _ {X Y : Type 0} (f : X → Y) where
  pairs_back : (xs : List X) → map (λ (p : X × Y). p.0) (map (λ x. (x, f x)) xs) ≡ xs
  pairs_back [] = refl
  pairs_back (x ∷ xs) = ap (λ ys. x ∷ ys) (pairs_back xs)

parts_beside : (ts : List Ty) → flat_map (λ (p : Ty × List Ty). p.1) (map (λ t. (t, parts_first t)) ts) ≡ flat_map parts_first ts
parts_beside [] = refl
parts_beside (t ∷ ts) = ap (λ us. parts_first t ++ us) (parts_beside ts)

parts_roll : (x : Ty-F Ty) → parts_first (roll-Ty x) ≡ parts_layer (map-Ty Ty (Ty × List Ty) (λ t. (t, parts_first t)) x)
parts_roll x = para-roll-Ty (List Ty) parts_layer x

-- a type without parts
pub parts_own : (x : Ty-F Ty) → parts_layer (map-Ty Ty (Ty × List Ty) (λ t. (t, parts_first t)) x) ≡ roll-Ty x ∷ [] → parts_first (roll-Ty x) ≡ roll-Ty x ∷ []
parts_own x alone = parts_roll x ∙ alone

pub parts_array : (start count : ℕ) (elem : Ty) → parts_first (roll-Ty (Array start count elem)) ≡ parts_first elem ++ roll-Ty (Array start count elem) ∷ []
parts_array start count elem = parts_roll (Array start count elem)

pub parts_struct : (start : ℕ) (parts : List Ty) → parts_first (roll-Ty (Struct start parts)) ≡ flat_map parts_first parts ++ roll-Ty (Struct start parts) ∷ []
parts_struct start parts = parts_roll (Struct start parts)
    ∙ ap (λ us. us ++ roll-Ty (Struct start (map (λ (p : Ty × List Ty). p.0) (map (λ t. (t, parts_first t)) parts))) ∷ []) (parts_beside parts)
    ∙ ap (λ us. flat_map parts_first parts ++ roll-Ty (Struct start us) ∷ []) (pairs_back parts_first parts)

pub parts_packed : (start : ℕ) (parts : List Ty) → parts_first (roll-Ty (Packed start parts)) ≡ flat_map parts_first parts ++ roll-Ty (Packed start parts) ∷ []
parts_packed start parts = parts_roll (Packed start parts)
    ∙ ap (λ us. us ++ roll-Ty (Packed start (map (λ (p : Ty × List Ty). p.0) (map (λ t. (t, parts_first t)) parts))) ∷ []) (parts_beside parts)
    ∙ ap (λ us. flat_map parts_first parts ++ roll-Ty (Packed start us) ∷ []) (pairs_back parts_first parts)

-- one list of types behind another
pub with_all-append : (t : Table) (xs ys : List Ty) → with_all t (xs ++ ys) ≡ with_all (with_all t xs) ys
with_all-append t [] ys = refl
with_all-append t (x ∷ xs) ys = with_all-append (with_type t x) xs ys

-- tables only grow
more_by : (b : Bool) (keys : List Key) (key : Key) → (more : List Key) × (cond b keys (keys ++ key ∷ []) ≡ keys ++ more)
more_by true keys key = ([], sym (append-nil keys))
more_by false keys key = (key ∷ [], refl)

pub joined_grows : (keys : List Key) (f : Form) → (more : List Key) × (joined_by keys f ≡ keys ++ more)
joined_grows keys (Own n) = ([], sym (append-nil keys))
joined_grows keys (Keyed key) = more_by (list_any (bytes_eq key) keys) keys key

pub unfollowed : (t : Table) → followed_by t [] ≡ t
unfollowed t = ap (λ ks. record t { keys = ks }) (append-nil t.keys)

pub all_grow : (t : Table) (tys : List Ty) → (more : List Key) × (with_all t tys ≡ followed_by t more)
all_grow t [] = ([], sym (unfollowed t))
all_grow t (ty ∷ tys) =
    let one = joined_grows t.keys (form_of t ty) in
    let rest = all_grow (with_type t ty) tys in (
      one.0 ++ rest.0,
      rest.1 ∙ ap (λ ks. record t { keys = ks ++ rest.0 }) one.1 ∙ ap (λ ks. record t { keys = ks }) (append_assoc t.keys one.0 rest.0),
    )

-- a type with a number of its own
pub own_taken : (t : Table) (x : Ty-F Ty) (n : ℕ) → parts_first (roll-Ty x) ≡ roll-Ty x ∷ []
    → ((f : Ty → ℕ) → form t.names (map-Ty Ty ℕ f x) ≡ Own n) → IsTaken t (roll-Ty x) t n
own_taken t x n alone own = record {
  is = sym (ap (with_all t) alone ∙ ap (λ f. record t { keys = joined_by t.keys f }) (form_roll t x ∙ own (type_id t)));
  stays = λ rest. id_roll (followed_by t rest) x ∙ ap (number_of_form t.first (t.keys ++ rest)) (own (type_id (followed_by t rest)));
}

-- an unnamed type, behind its parts
pub key_taken : (old mid new : Table) (x : Ty-F Ty) (parts : List Ty) (key : Key) (n : ℕ) → parts_first (roll-Ty x) ≡ parts ++ roll-Ty x ∷ []
    → mid ≡ with_all old parts → ((rest : List Key) → form mid.names (map-Ty Ty ℕ (type_id (followed_by mid rest)) x) ≡ Keyed key)
    → IsPut mid key new n → IsTaken old (roll-Ty x) new n
key_taken old mid new x parts key n before taken says put =
    let here : form_of mid (roll-Ty x) ≡ Keyed key =
    form_roll mid x ∙ ap (λ (t : Table). form t.names (map-Ty Ty ℕ (type_id t) x)) (sym (unfollowed mid)) ∙ says [] in
    let grown = joined_grows mid.keys (Keyed key) in
    let behind = λ (rest : List Key). ap (λ (t : Table). followed_by t rest) (put.is ∙ ap (λ ks. record mid { keys = ks }) grown.1)
    ∙ ap (λ ks. record mid { keys = ks }) (append_assoc mid.keys grown.0 rest) in record {
      is = put.is ∙ ap (λ f. record mid { keys = joined_by mid.keys f }) (sym here) ∙ ap (λ t. with_type t (roll-Ty x)) taken
          ∙ sym (with_all-append old parts (roll-Ty x ∷ [])) ∙ ap (with_all old) (sym before);
      stays = λ rest. id_roll (followed_by new rest) x
          ∙ ap (number_of_form new.first (new.keys ++ rest))
          (ap (λ (t : Table). form t.names (map-Ty Ty ℕ (type_id t) x)) (behind rest) ∙ says (grown.0 ++ rest)) ∙ put.stays rest;
    }

-- no parts, and one part more
pub none_taken : (t : Table) (kind : ℕ) → AreTaken t kind [] t (kind ∷ [])
none_taken t kind = record { is = refl; stays = λ rest. refl }

pub more_taken : (old mid new : Table) (kind : ℕ) (parts : List Ty) (i : ℕ) (part : Ty) (key : Key) (n : ℕ) → i < length parts → part ≡ get_or parts i part
    → AreTaken old kind (take i parts) mid key → IsTaken mid part new n → AreTaken old kind (take (i + 1) parts) new (key ++ n ∷ [])
more_taken old mid new kind parts i part key n within here before one =
    let longer : take (i + 1) parts ≡ take i parts ++ part ∷ [] =
    take_more parts i part within ∙ ap (λ p. take i parts ++ p ∷ []) (sym here) in
    let grown = all_grow mid (parts_first part) in
    let behind = λ (rest : List Key). ap (λ (t : Table). followed_by t rest) (one.is ∙ grown.1)
    ∙ ap (λ ks. record mid { keys = ks }) (append_assoc mid.keys grown.0 rest) in record {
      is = one.is ∙ ap (λ t. with_all t (parts_first part)) before.is ∙ sym (with_all-append old (flat_map parts_first (take i parts)) (parts_first part))
          ∙ ap (with_all old) (flat_map_more parts_first [] (take i parts) part ∙ ap (flat_map parts_first) (sym longer));
      stays = λ rest. ap (λ ps. kind ∷ type_ids (followed_by new rest) ps) longer
          ∙ ap (λ ns. kind ∷ ns) (map_push (type_id (followed_by new rest)) (take i parts) part)
          ∙ ap (λ (t : Table). (kind ∷ type_ids t (take i parts)) ++ type_id (followed_by new rest) part ∷ []) (behind rest)
          ∙ ap (λ ks. ks ++ type_id (followed_by new rest) part ∷ []) (before.stays (grown.0 ++ rest))
          ∙ ap (λ m. key ++ m ∷ []) (one.stays rest);
    }

pub all_taken : (old new : Table) (kind : ℕ) (parts : List Ty) (i : ℕ) (key : Key) → length parts ≤ i → AreTaken old kind (take i parts) new key
    → AreTaken old kind parts new key
all_taken old new kind parts i key past before = subst (λ ps. AreTaken old kind ps new key) (take_all i parts past) before

-- an array behind its element, and structs behind their parts
pub array_taken : (old mid new : Table) (start count : ℕ) (elem : Ty) (m n : ℕ) (key : Key) → IsTaken old elem mid m
    → key ≡ 1 ∷ elements_of mid.names count ∷ m ∷ [] → IsPut mid key new n → IsTaken old (roll-Ty (Array start count elem)) new n
array_taken old mid new start count elem m n key taken is put =
    key_taken old mid new (Array start count elem) (parts_first elem) key n (parts_array start count elem) taken.is
    (λ rest. ap (λ k. Keyed (1 ∷ elements_of mid.names count ∷ k ∷ [])) (taken.stays rest) ∙ ap Keyed (sym is)) put

pub struct_taken : (old mid new : Table) (start : ℕ) (parts : List Ty) (key : Key) (n : ℕ) → AreTaken old 2 parts mid key → IsPut mid key new n
    → IsTaken old (roll-Ty (Struct start parts)) new n
struct_taken old mid new start parts key n taken put =
    key_taken old mid new (Struct start parts) (flat_map parts_first parts) key n (parts_struct start parts) taken.is (λ rest. ap Keyed (taken.stays rest)) put

pub packed_taken : (old mid new : Table) (start : ℕ) (parts : List Ty) (key : Key) (n : ℕ) → AreTaken old 3 parts mid key → IsPut mid key new n
    → IsTaken old (roll-Ty (Packed start parts)) new n
packed_taken old mid new start parts key n taken put =
    key_taken old mid new (Packed start parts) (flat_map parts_first parts) key n (parts_packed start parts) taken.is (λ rest. ap Keyed (taken.stays rest)) put

pub void_taken : (t : Table) (at : ℕ) → IsTaken t (roll-Ty (Void at)) t 0
void_taken t at = own_taken t (Void at) 0 (parts_roll (Void at)) (λ f. refl)

pub ptr_taken : (t : Table) (at : ℕ) → IsTaken t (roll-Ty (Ptr at)) t 1
ptr_taken t at = own_taken t (Ptr at) 1 (parts_roll (Ptr at)) (λ f. refl)

pub named_taken : (t : Table) (name n : ℕ) → n ≡ named t.names name → IsTaken t (roll-Ty (Named name)) t n
named_taken t name n is = own_taken t (Named name) n (parts_roll (Named name)) (λ f. ap Own (sym is))

pub int_taken : (old new : Table) (at n : ℕ) (key : Key) → key ≡ 0 ∷ bits_of old.names at ∷ [] → IsPut old key new n → IsTaken old (roll-Ty (Int at)) new n
int_taken old new at n key is put = key_taken old old new (Int at) [] key n (parts_roll (Int at)) refl (λ rest. ap Keyed (sym is)) put
