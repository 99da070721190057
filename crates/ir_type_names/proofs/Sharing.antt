-- Two unnamed types that are in a table have one number exactly where they are known by the same.
use Rattle.std.proofs.Common.{◌≡◌, ℕ, ◌+◌, ◌↔◌, true, List, [], get_or, Some, sym, ap, subst, ◌∙◌, arith}
use Rattle.std.specs.List.{list_any, position_from, position_or_len}
use Rattle.std.specs.Str.{bytes_eq}
use Rattle.std.proofs.lemmas.List.{append-nil}
use Rattle.std.proofs.lemmas.Slice.Eq.{bytes_eq-Decides}
use Rattle.ir_tree.specs.declared.types.Ty.{Ty}
use Rattle.ir_tree.specs.declared.types.Ty.TheFolds.{fold_out-Ty}
use Rattle.ir_names.proofs.First.{found_passes}
use Rattle.ir_type_names.specs.Numbers.Form.{Keyed}
use Rattle.ir_type_names.specs.Numbers.{Key, Table, placed, place, number_of_form, type_id_layer, type_id, form_of}
use Rattle.ir_type_names.specs.Laws.{IsThere}
use Rattle.ir_type_names.proofs.Found.{stays_there}

-- where a key stands
abbrev Stands : List Key → Key → Type 0
Stands keys k = (i : ℕ) × ((position_from (bytes_eq k) 0 keys ≡ Some i) × (k ≡ get_or keys i []))

stands : (keys : List Key) (k : Key) → list_any (bytes_eq k) keys ≡ true → Stands keys k
stands keys k any =
    let i = position_or_len (bytes_eq k) keys in
    let found : position_from (bytes_eq k) 0 keys ≡ Some i =
    sym (ap (position_from (bytes_eq k) 0) (append-nil keys)) ∙ stays_there (bytes_eq k) keys [] 0 any ∙ ap (λ n. Some n) (omega arith) in
    let at = found_passes (bytes_eq k) keys [] 0 i found in
    let same : i ≡ at.0 = omega (arith, at.1) in
    (i, (found, (bytes_eq-Decides k (get_or keys at.0 [])).0 at.3 ∙ ap (λ j. get_or keys j []) (sym same)))

-- the number of a type by its form
number_is : (t : Table) (ty : Ty) (k : Key) → form_of t ty ≡ Keyed k → type_id t ty ≡ place t.first t.keys k
number_is t ty k is = fold_out-Ty ℕ (type_id_layer t) ty ∙ ap (number_of_form t.first t.keys) is

pub one_number : (t : Table) (a b : Ty) (k l : Key) → form_of t a ≡ Keyed k → form_of t b ≡ Keyed l → IsThere t.keys (form_of t a) →
    IsThere t.keys (form_of t b)
    → (type_id t a ≡ type_id t b) ↔ (k ≡ l)
one_number t a b k l is_a is_b there_a there_b =
    let x = stands t.keys k (subst (IsThere t.keys) is_a there_a) in
    let y = stands t.keys l (subst (IsThere t.keys) is_b there_b) in (
      λ same.
          let equal : t.first + x.0 ≡ t.first + y.0 =
          sym (ap (placed t.first) x.1.0) ∙ sym (number_is t a k is_a) ∙ same ∙ number_is t b l is_b ∙ ap (placed t.first) y.1.0 in
          let equally : x.0 ≡ y.0 = omega (arith, equal) in
          x.1.1 ∙ ap (λ i. get_or t.keys i []) equally ∙ sym y.1.1,
      λ same. number_is t a k is_a ∙ ap (place t.first t.keys) same ∙ sym (number_is t b l is_b),
    )
