-- The type of comparisons is i1, in each module.
use Rattle.std.proofs.Common.{◌≡◌, ◌∙◌, ◌+◌, ℕ, suc, List, [], length, map, get_or, slice_get, Option, Some, refl, sym, ap, subst, arith, append-nil}
use Rattle.std.specs.List.{position_from, position_or_len}
use Rattle.std.specs.Str.{bytes_eq}
use Rattle.std.proofs.lemmas.Option.{slice_get-get_or}
use Rattle.std.proofs.lemmas.Slice.Eq.{bytes_eq-Decides}
use Rattle.shelf.proofs.Shelf.{get_right}
use Rattle.ir_names.proofs.First.{found_passes}
use Rattle.ir_types.specs.declared.ir_type.IrType.{IrType}
use Rattle.ir_types.specs.declared.ir_type.IrType.TheVariants as ir
use Rattle.ir_operands.specs.Types.{IsIntegerOf}
use Rattle.ir_tree.specs.declared.entities.Entity.{Entity}
use Rattle.ir_type_names.specs.Numbers.{Key, Table, placed, joined_by, with_all, with_parts, empty_table, bit_key, bit, named_count}
use Rattle.ir_type_names.specs.Numbers.Form.{Keyed}
use Rattle.ir_type_names.specs.Contents.{type_of_key, bodies, all_named, types_of}
use Rattle.ir_type_names.proofs.Found.{key_stays}
use Rattle.ir_type_uses.specs.Written.{written}
use Rattle.ir_resolve.specs.Inputs.{Input, names, type_reading, table, types}
use Rattle.resolved_forms.proofs.Productions.{get_mapped}
use Rattle.resolved_forms.proofs.Types.{is_table, named_length}

-- a key that was taken in is found, at its place
found_at : (keys : List Key) (key : Key) (n : ℕ) → position_from (bytes_eq key) 0 keys ≡ Some n → slice_get keys n ≡ Some key
found_at keys key n is =
    let h = found_passes (bytes_eq key) keys [] 0 n is in
    let place = h.1 in
    let at : n ≡ h.0 = omega (arith, place) in
    ap (slice_get keys) at ∙ slice_get-get_or keys h.0 [] h.2 ∙ ap Some (sym ((bytes_eq-Decides key (get_or keys h.0 [])).0 h.3))

joined_at : (keys : List Key) (key : Key) → position_from (bytes_eq key) 0 (joined_by keys (Keyed key)) ≡ Some (position_or_len (bytes_eq key) keys)
joined_at keys key =
    ap (position_from (bytes_eq key) 0) (sym (append-nil (joined_by keys (Keyed key)))) ∙ key_stays keys [] key

-- what stands at the place of a key
type_at_key : (t : Table) (es : List Entity) (key : Key) (n : ℕ) → t.first ≡ 2 + named_count es → position_from (bytes_eq key) 0 t.keys ≡ Some n
    → slice_get (types_of t es) (placed t.first (position_from (bytes_eq key) 0 t.keys)) ≡ Some (type_of_key key)
type_at_key t es key n first is =
    let named = all_named t (bodies es) in
    let count = named_length t es in
    ap (λ (o : Option ℕ). slice_get (types_of t es) (placed t.first o)) is
    ∙ ap (slice_get (types_of t es)) (number named n first count)
    ∙ get_right named (map type_of_key t.keys) (length named + n) n refl
    ∙ get_mapped type_of_key t.keys n key (found_at t.keys key n is) where
      number : (named : List IrType) (n : ℕ) → t.first ≡ 2 + named_count es → length named ≡ named_count es → t.first + n ≡ suc (suc (length named + n))
      number named n first count = omega (arith, first, count)

bit_at : (x : Input) → slice_get (types x) (bit (table x)) ≡ Some (ir.Int 1)
bit_at x =
    let before = with_all (empty_table (type_reading (names x)) x.entities) (with_parts (written x.entities)) in
    type_at_key (table x) x.entities bit_key (position_or_len (bytes_eq bit_key) before.keys) (is_table x).first (joined_at before.keys bit_key)

pub bit_is_bit : (x : Input) → IsIntegerOf 1 (slice_get (types x) (bit (table x)))
bit_is_bit x = subst (IsIntegerOf 1) (sym (bit_at x)) refl
