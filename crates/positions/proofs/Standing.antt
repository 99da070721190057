-- Each position of a module stands at one place of the list, which is told by what stands before it; and what stands there is one.
use Rattle.std.proofs.Common.{arith, ◌≡◌, ◌+◌, ◌*◌, ◌/◌, ◌<◌, ◌≤◌, inl, inr, if◌then◌else◌, ℕ, suc, Bool, true, false, Option, None}
use Rattle.std.proofs.Common.{Some, List, [], ◌++◌, length, slice_get, refl, sym, subst, ◌∙◌}
use Rattle.std.specs.Option.{option_map_or}
use Rattle.std.proofs.lemmas.Option.{slice_get_within}
use Rattle.ir_module.specs.declared.module.Module.{Module}
use Rattle.ir_module.specs.declared.module.Func.{Func}
use Rattle.ir_module.specs.declared.module.Param.{Param}
use Rattle.ir_module.specs.declared.module.ValueInfo.{ValueInfo}
use Rattle.ir_module.specs.Calls.{has_blocks}
use Rattle.facts.specs.declared.pos.Pos.{Pos}
use Rattle.facts.specs.declared.pos.Pos.TheVariants as pos
use Rattle.facts.specs.Bodies.{is_body, body_count, param_of, param_in, param_count}
use Rattle.facts.specs.Masks.{is_pointer_param}
use Rattle.facts.specs.Facts.{segment, function, value, entry, returned, effect}
use Rattle.positions.specs.Order.{up_to, segment_at, body_at, value_at, entry_at, entries_at, return_at, word_at, row_at, effect_at, row_words, belongs}
use Rattle.positions.specs.Order.{positions_of, from_bodies, from_values, from_entries, from_returns, from_rows, from_effects}
use Rattle.positions.specs.Listed.{IsPosition, ArePositions}
use Rattle.positions.proofs.Parts.{split, only, only_if, put_if, appended, behind, in_part, from_part, ones, equal_rows}

-- ---- where each kind begins

abbrev pub first_body : Module → ℕ
first_body m = length (up_to segment_at (length m.segs))

abbrev pub first_value : Module → ℕ
first_value m = first_body m + length (up_to (body_at m) (length m.funcs))

abbrev pub first_entry : Module → ℕ
first_entry m = first_value m + length (up_to (value_at m) (length m.values))

abbrev pub first_return : Module → ℕ
first_return m = first_entry m + length (up_to (entries_at m) (length m.funcs))

abbrev pub first_row : Module → ℕ
first_row m = first_return m + length (up_to (return_at m) (length m.funcs))

abbrev pub first_effect : Module → ℕ
first_effect m = first_row m + length (up_to (row_at m) (suc (body_count m)))

-- how many positions stand before this one
abbrev pub place : Module → Pos → ℕ
place m (pos.Segment k) = k.0
place m (pos.Function f) = first_body m + length (up_to (body_at m) f.0)
place m (pos.Value v) = first_value m + length (up_to (value_at m) v.0)
place m (pos.Entry f at) = first_entry m + (length (up_to (entries_at m) f.0) + length (up_to (entry_at m f.0) at))
place m (pos.Return f) = first_return m + length (up_to (return_at m) f.0)
place m (pos.Reach row k) = first_row m + (row * row_words m + k)
place m (pos.Effect k) = first_effect m + k.0

-- the kinds, one behind the other
pub positions_are : (m : Module) → positions_of m ≡ up_to segment_at (length m.segs) ++ from_bodies m
unfolding positions_of
positions_are m = refl

-- ---- what is a position is in range

-- a body is a function
pub body_within : (m : Module) (f : ℕ) → is_body m f ≡ true → f < length m.funcs
body_within m f is = by (slice_get m.funcs f) is refl
  where
    by : (o : Option Func) → has_blocks o ≡ true → slice_get m.funcs f ≡ o → f < length m.funcs
    by None is there = absurd (cc)
    by (Some func) is there = slice_get_within m.funcs f func there

-- a value of a body is a value
pub value_within : (m : Module) (v : ℕ) → belongs m (slice_get m.values v) ≡ true → v < length m.values
value_within m v is = by (slice_get m.values v) is refl
  where
    by : (o : Option ValueInfo) → belongs m o ≡ true → slice_get m.values v ≡ o → v < length m.values
    by None is there = absurd (cc)
    by (Some info) is there = slice_get_within m.values v info there

-- a pointer parameter is a parameter
pub param_within : (m : Module) (f at : ℕ) → is_pointer_param m (param_of m f at) ≡ true → at < param_count m f
param_within m f at is = by (slice_get m.funcs f) is refl
  where
    by : (o : Option Func) → is_pointer_param m (param_in at o) ≡ true → slice_get m.funcs f ≡ o → at < param_count m f
    by None is there = absurd (cc)
    by (Some func) is there = subst (λ o. at < option_map_or (λ (g : Func). length g.params) o 0) (sym there) (inside func (slice_get func.params at) is refl)
      where
        inside : (func : Func) (o : Option Param) → is_pointer_param m o ≡ true → slice_get func.params at ≡ o → at < length func.params
        inside func None is there = absurd (cc)
        inside func (Some p) is there = slice_get_within func.params at p there

-- the words of a row are those of 47 bodies each
row_within : (bodies k : ℕ) → k * 47 < bodies → k < (bodies + 46) / 47
row_within bodies k within = omega (arith, within)

row_outside : (bodies k : ℕ) → k < (bodies + 46) / 47 → k * 47 < bodies
row_outside bodies k within = omega (arith, within)

-- ---- what stands at a place

-- it is a position of the module, and this is its place
abbrev pub StandsAt : Module → Pos → ℕ → Type 0
StandsAt m p n = IsPosition m p × (n ≡ place m p)

module _ (m : Module) where
  stands_segment : (n : ℕ) (p : Pos) → slice_get (up_to segment_at (length m.segs)) n ≡ Some p → StandsAt m p n
  stands_segment n p there =
      let w = in_part segment_at (length m.segs) n p there in
      let o = only (segment w.0) p w.1 w.4 in
      let long = ones segment_at (λ k. refl) w.0 in
      let at : n ≡ w.0 = (let e = w.3 in let z = o.0 in omega (arith, long, e, z)) in
      subst (λ q. StandsAt m q n) o.1 (w.2, at)

  stands_body : (n k : ℕ) (p : Pos) → n ≡ first_body m + k → slice_get (up_to (body_at m) (length m.funcs)) k ≡ Some p → StandsAt m p n
  stands_body n k p here there =
      let w = in_part (body_at m) (length m.funcs) k p there in
      let o = only_if (is_body m w.0) (function w.0) p w.1 w.4 in
      let at : n ≡ first_body m + length (up_to (body_at m) w.0) = (let e = w.3 in let z = o.1 in omega (arith, here, e, z)) in
      subst (λ q. StandsAt m q n) o.2 (o.0, at)

  stands_value : (n k : ℕ) (p : Pos) → n ≡ first_value m + k → slice_get (up_to (value_at m) (length m.values)) k ≡ Some p → StandsAt m p n
  stands_value n k p here there =
      let w = in_part (value_at m) (length m.values) k p there in
      let o = only_if (belongs m (slice_get m.values w.0)) (value w.0) p w.1 w.4 in
      let at : n ≡ first_value m + length (up_to (value_at m) w.0) = (let e = w.3 in let z = o.1 in omega (arith, here, e, z)) in
      subst (λ q. StandsAt m q n) o.2 (o.0, at)

  stands_return : (n k : ℕ) (p : Pos) → n ≡ first_return m + k → slice_get (up_to (return_at m) (length m.funcs)) k ≡ Some p → StandsAt m p n
  stands_return n k p here there =
      let w = in_part (return_at m) (length m.funcs) k p there in
      let o = only_if (is_body m w.0) (returned w.0) p w.1 w.4 in
      let at : n ≡ first_return m + length (up_to (return_at m) w.0) = (let e = w.3 in let z = o.1 in omega (arith, here, e, z)) in
      subst (λ q. StandsAt m q n) o.2 (o.0, at)

  -- an entry of a body names the body, and one of its pointer parameters
  entry_in : (b : Bool) (f count j : ℕ) (p : Pos) → slice_get (if b then up_to (entry_at m f) count else []) j ≡ Some p →
      (at : ℕ) × (b ≡ true) × (is_pointer_param m (param_of m f at) ≡ true) × (j ≡ length (up_to (entry_at m f) at)) × (entry f at ≡ p)
  entry_in true f count j p there =
      let w = in_part (entry_at m f) count j p there in
      let o = only_if (is_pointer_param m (param_of m f w.0)) (entry f w.0) p w.1 w.4 in
      (w.0, refl, o.0, (let e = w.3 in let z = o.1 in omega (arith, e, z)), o.2)
  entry_in false f count j p there = absurd (cc)

  stands_entry : (n k : ℕ) (p : Pos) → n ≡ first_entry m + k → slice_get (up_to (entries_at m) (length m.funcs)) k ≡ Some p → StandsAt m p n
  stands_entry n k p here there =
      let w = in_part (entries_at m) (length m.funcs) k p there in
      let o = entry_in (is_body m w.0) w.0 (param_count m w.0) w.1 p w.4 in
      let at : n ≡ first_entry m + (length (up_to (entries_at m) w.0) + length (up_to (entry_at m w.0) o.0)) =
      (let e = w.3 in let z = o.3 in omega (arith, here, e, z)) in
      subst (λ q. StandsAt m q n) o.4 ((o.1, o.2), at)

  -- how many words stand before a row, and before a word of it
  pub rows_before : (row : ℕ) → length (up_to (row_at m) row) ≡ row * row_words m
  rows_before row = equal_rows (row_at m) (row_words m) (λ r. ones (word_at r) (λ k. refl) (row_words m)) row

  stands_row : (n k : ℕ) (p : Pos) → n ≡ first_row m + k → slice_get (up_to (row_at m) (suc (body_count m))) k ≡ Some p → StandsAt m p n
  stands_row n k p here there =
      let w = in_part (row_at m) (suc (body_count m)) k p there in
      let v = in_part (word_at w.0) (row_words m) w.1 p w.4 in
      let o = only (pos.Reach w.0 v.0) p v.1 v.4 in
      let inside = ones (word_at w.0) (λ j. refl) v.0 in
      let at : n ≡ first_row m + (w.0 * row_words m + v.0) =
      (let e = w.3 in let d = v.3 in let z = o.0 in omega (arith, here, rows_before w.0, inside, e, d, z)) in
      let row : w.0 ≤ body_count m = (let b = w.2 in omega (arith, b)) in
      subst (λ q. StandsAt m q n) o.1 ((row, row_outside (body_count m) v.0 v.2), at)

  stands_effect : (n k : ℕ) (p : Pos) → n ≡ first_effect m + k → slice_get (up_to effect_at (length m.segs)) k ≡ Some p → StandsAt m p n
  stands_effect n k p here there =
      let w = in_part effect_at (length m.segs) k p there in
      let o = only (effect w.0) p w.1 w.4 in
      let long = ones effect_at (λ j. refl) w.0 in
      let at : n ≡ first_effect m + w.0 = (let e = w.3 in let z = o.0 in omega (arith, here, long, e, z)) in
      subst (λ q. StandsAt m q n) o.1 (w.2, at)

  -- what stands in the list is a position, at its place
  pub stands : (n : ℕ) (p : Pos) → slice_get (positions_of m) n ≡ Some p → StandsAt m p n
  stands n p there = in_segments (subst (λ xs. slice_get xs n ≡ Some p) (positions_are m) there)
    where
      in_rows : (k : ℕ) → n ≡ first_row m + k → slice_get (from_rows m) k ≡ Some p → StandsAt m p n
      in_rows k here there = elim (split (up_to (row_at m) (suc (body_count m))) (from_effects m) k p there) [
        | inl left ↦ stands_row n k p here left
        | inr right ↦ stands_effect n right.0 p (let e = right.1 in omega (arith, here, e)) right.2
      ]

      in_returns : (k : ℕ) → n ≡ first_return m + k → slice_get (from_returns m) k ≡ Some p → StandsAt m p n
      in_returns k here there = elim (split (up_to (return_at m) (length m.funcs)) (from_rows m) k p there) [
        | inl left ↦ stands_return n k p here left
        | inr right ↦ in_rows right.0 (let e = right.1 in omega (arith, here, e)) right.2
      ]

      in_entries : (k : ℕ) → n ≡ first_entry m + k → slice_get (from_entries m) k ≡ Some p → StandsAt m p n
      in_entries k here there = elim (split (up_to (entries_at m) (length m.funcs)) (from_returns m) k p there) [
        | inl left ↦ stands_entry n k p here left
        | inr right ↦ in_returns right.0 (let e = right.1 in omega (arith, here, e)) right.2
      ]

      in_values : (k : ℕ) → n ≡ first_value m + k → slice_get (from_values m) k ≡ Some p → StandsAt m p n
      in_values k here there = elim (split (up_to (value_at m) (length m.values)) (from_entries m) k p there) [
        | inl left ↦ stands_value n k p here left
        | inr right ↦ in_entries right.0 (let e = right.1 in omega (arith, here, e)) right.2
      ]

      in_bodies : (k : ℕ) → n ≡ first_body m + k → slice_get (from_bodies m) k ≡ Some p → StandsAt m p n
      in_bodies k here there = elim (split (up_to (body_at m) (length m.funcs)) (from_values m) k p there) [
        | inl left ↦ stands_body n k p here left
        | inr right ↦ in_values right.0 (let e = right.1 in omega (arith, here, e)) right.2
      ]

      in_segments : slice_get (up_to segment_at (length m.segs) ++ from_bodies m) n ≡ Some p → StandsAt m p n
      in_segments there = elim (split (up_to segment_at (length m.segs)) (from_bodies m) n p there) [
        | inl left ↦ stands_segment n p left
        | inr right ↦ in_bodies right.0 right.1 right.2
      ]

  -- ---- each position stands at its place

  -- an element of a later kind stands behind the kinds before it
  to_bodies : (n k : ℕ) (p : Pos) → n ≡ first_body m + k → slice_get (from_bodies m) k ≡ Some p → slice_get (positions_of m) n ≡ Some p
  to_bodies n k p is there =
      subst (λ xs. slice_get xs n ≡ Some p) (sym (positions_are m)) (behind (up_to segment_at (length m.segs)) (from_bodies m) n k p is there)

  to_values : (n k : ℕ) (p : Pos) → n ≡ first_value m + k → slice_get (from_values m) k ≡ Some p → slice_get (positions_of m) n ≡ Some p
  to_values n k p is there =
      let before = length (up_to (body_at m) (length m.funcs)) in
      to_bodies n (before + k) p (omega (arith, is)) (behind (up_to (body_at m) (length m.funcs)) (from_values m) (before + k) k p refl there)

  to_entries : (n k : ℕ) (p : Pos) → n ≡ first_entry m + k → slice_get (from_entries m) k ≡ Some p → slice_get (positions_of m) n ≡ Some p
  to_entries n k p is there =
      let before = length (up_to (value_at m) (length m.values)) in
      to_values n (before + k) p (omega (arith, is)) (behind (up_to (value_at m) (length m.values)) (from_entries m) (before + k) k p refl there)

  to_returns : (n k : ℕ) (p : Pos) → n ≡ first_return m + k → slice_get (from_returns m) k ≡ Some p → slice_get (positions_of m) n ≡ Some p
  to_returns n k p is there =
      let before = length (up_to (entries_at m) (length m.funcs)) in
      to_entries n (before + k) p (omega (arith, is)) (behind (up_to (entries_at m) (length m.funcs)) (from_returns m) (before + k) k p refl there)

  to_rows : (n k : ℕ) (p : Pos) → n ≡ first_row m + k → slice_get (from_rows m) k ≡ Some p → slice_get (positions_of m) n ≡ Some p
  to_rows n k p is there =
      let before = length (up_to (return_at m) (length m.funcs)) in
      to_returns n (before + k) p (omega (arith, is)) (behind (up_to (return_at m) (length m.funcs)) (from_rows m) (before + k) k p refl there)

  to_effects : (n k : ℕ) (p : Pos) → n ≡ first_effect m + k → slice_get (from_effects m) k ≡ Some p → slice_get (positions_of m) n ≡ Some p
  to_effects n k p is there =
      let before = length (up_to (row_at m) (suc (body_count m))) in
      to_rows n (before + k) p (omega (arith, is)) (behind (up_to (row_at m) (suc (body_count m))) (from_effects m) (before + k) k p refl there)

  -- the list has each position at its place
  pub listed : (p : Pos) → IsPosition m p → slice_get (positions_of m) (place m p) ≡ Some p
  listed (pos.Segment k) is =
      let there = from_part segment_at (length m.segs) k.0 0 (segment k.0) is refl in
      let at : length (up_to segment_at k.0) + 0 ≡ k.0 = (let long = ones segment_at (λ j. refl) k.0 in omega (arith, long)) in
      subst (λ xs. slice_get xs k.0 ≡ Some (segment k.0)) (sym (positions_are m)) (appended (up_to segment_at (length m.segs)) (from_bodies m) k.0 (segment k.0)
      (subst (λ n. slice_get (up_to segment_at (length m.segs)) n ≡ Some (segment k.0)) at there))
  listed (pos.Function f) is =
      let there = from_part (body_at m) (length m.funcs) f.0 0 (function f.0) (body_within m f.0 is) (put_if (is_body m f.0) (function f.0) is) in
      to_bodies _ (length (up_to (body_at m) f.0) + 0) (function f.0) (omega arith) (appended (up_to (body_at m) (length m.funcs)) (from_values m) _
      (function f.0) there)
  listed (pos.Value v) is =
      let there = from_part (value_at m) (length m.values) v.0 0 (value v.0) (value_within m v.0 is) (put_if (belongs m (slice_get m.values v.0)) (value v.0)
      is) in
      to_values _ (length (up_to (value_at m) v.0) + 0) (value v.0) (omega arith) (appended (up_to (value_at m) (length m.values)) (from_entries m) _
      (value v.0) there)
  listed (pos.Entry f at) is =
      let here = from_part (entry_at m f.0) (param_count m f.0) at 0 (entry f.0 at) (param_within m f.0 at is.1)
      (put_if (is_pointer_param m (param_of m f.0 at)) (entry f.0 at) is.1) in
      let there = from_part (entries_at m) (length m.funcs) f.0 (length (up_to (entry_at m f.0) at) + 0) (entry f.0 at) (body_within m f.0 is.0)
      (in_body (is_body m f.0) (up_to (entry_at m f.0) (param_count m f.0)) _ (entry f.0 at) is.0 here) in
      to_entries _ (length (up_to (entries_at m) f.0) + (length (up_to (entry_at m f.0) at) + 0)) (entry f.0 at) (omega arith)
      (appended (up_to (entries_at m) (length m.funcs)) (from_returns m) _ (entry f.0 at) there)
    where
      in_body : (b : Bool) (xs : List Pos) (k : ℕ) (p : Pos) → b ≡ true → slice_get xs k ≡ Some p → slice_get (if b then xs else []) k ≡ Some p
      in_body true xs k p is there = there
      in_body false xs k p is there = absurd (cc)
  listed (pos.Return f) is =
      let there = from_part (return_at m) (length m.funcs) f.0 0 (returned f.0) (body_within m f.0 is) (put_if (is_body m f.0) (returned f.0) is) in
      to_returns _ (length (up_to (return_at m) f.0) + 0) (returned f.0) (omega arith) (appended (up_to (return_at m) (length m.funcs)) (from_rows m) _
      (returned f.0) there)
  listed (pos.Reach row k) is =
      let here = from_part (word_at row) (row_words m) k 0 (pos.Reach row k) (row_within (body_count m) k is.1) refl in
      let within : row < suc (body_count m) = (let b = is.0 in omega (arith, b)) in
      let there = from_part (row_at m) (suc (body_count m)) row (length (up_to (word_at row) k) + 0) (pos.Reach row k) within here in
      let before = rows_before row in
      let inside = ones (word_at row) (λ j. refl) k in
      to_rows _ (length (up_to (row_at m) row) + (length (up_to (word_at row) k) + 0)) (pos.Reach row k) (omega (arith, before, inside))
      (appended (up_to (row_at m) (suc (body_count m))) (from_effects m) _ (pos.Reach row k) there)
  listed (pos.Effect k) is =
      let there = from_part effect_at (length m.segs) k.0 0 (effect k.0) is refl in
      let long = ones effect_at (λ j. refl) k.0 in
      to_effects _ (length (up_to effect_at k.0) + 0) (effect k.0) (omega (arith, long)) there

  -- so the list has each position once, and no other
  pub are_positions : ArePositions m (positions_of m)
  are_positions = record {
    each = λ n p there. (stands n p there).0;
    all = λ p is. (place m p, listed p is);
    once = λ i j p here there. (let a = stands i p here in let b = stands j p there in a.1 ∙ sym b.1);
  }
