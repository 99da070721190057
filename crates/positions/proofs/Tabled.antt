-- Where each position of the list stands: the tables tell it.
use Rattle.std.proofs.Common.{arith, ◌≡◌, ◌+◌, ◌-◌, ◌*◌, ◌<◌, ◌≤◌, inl, inr, ℕ, zero, suc, Some, length}
use Rattle.std.proofs.Common.{slice_get, refl, sym, ap, subst, ◌∙◌}
use Rattle.std.proofs.lemmas.Option.{slice_get_cases}
use Rattle.ir_module.specs.declared.module.Module.{Module}
use Rattle.attr_ids.specs.declared.ids.FuncId.{FuncId}
use Rattle.facts.specs.declared.pos.Pos.{Pos}
use Rattle.facts.specs.declared.pos.Pos.TheVariants as pos
use Rattle.facts.specs.Bodies.{is_body, param_of}
use Rattle.facts.specs.Masks.{is_pointer_param}
use Rattle.facts.specs.Facts.{function, returned, entry}
use Rattle.positions.specs.declared.tables.Tables.{Tables}
use Rattle.positions.specs.Order.{up_to, body_at, value_at, entry_at, entries_at, return_at, row_words, positions_of}
use Rattle.positions.specs.Listed.{IsPosition}
use Rattle.positions.specs.Numbering.{starts, IsEntryAt, IsEntryBefore, IsAt, AreFound}
use Rattle.positions.proofs.Parts.{only_if, in_part, start_at, at_most}
use Rattle.positions.proofs.Growth.{longer, one_or_none, at_most_one, no_count}
use Rattle.positions.proofs.Standing.{first_body, first_value, first_entry, first_return, first_row, first_effect, place, stands, listed, body_within}
use Rattle.positions.proofs.Standing.{value_within}

-- as many returns as bodies
pub returns_count : (m : Module) (n : ℕ) → length (up_to (return_at m) n) ≡ length (up_to (body_at m) n)
returns_count m zero = sym (no_count (return_at m)) ∙ no_count (body_at m)
returns_count m (suc n) =
    let e : n + 1 ≡ suc n = omega arith in
    subst (λ k. length (up_to (return_at m) k) ≡ length (up_to (body_at m) k)) e
    (let rest = returns_count m n in
    let a = longer (return_at m) n in
    let b = longer (body_at m) n in
    let same = one_or_none (is_body m n) (returned n) ∙ sym (one_or_none (is_body m n) (function n)) in
    omega (arith, rest, a, b, same))

-- what the tables have
pub record AreTables (m : Module) (t : Tables) : Type 0 where
  pub functions_at : t.functions.items ≡ starts (first_body m) (body_at m) (length m.funcs)
  pub values_at : t.values.items ≡ starts (first_value m) (value_at m) (length m.values)
  pub entries_begin : t.entries.items ≡ starts (first_entry m) (entries_at m) (length m.funcs)
  pub returns_behind : first_body m + t.to_returns ≡ first_return m
  pub rows_behind : t.first_row ≡ first_row m
  pub wide : t.row_words ≡ row_words m
  pub effects_behind : t.first_effect ≡ first_effect m

module _ (m : Module) where
  -- of the first parameters at most so many are pointers
  few_entries : (f at : ℕ) → length (up_to (entry_at m f) at) ≤ at
  few_entries f at = at_most (entry_at m f) (λ k. subst (λ n. n ≤ 1) (sym (one_or_none (is_pointer_param m (param_of m f k)) (entry f k)))
      (at_most_one (is_pointer_param m (param_of m f k)))) at

  -- between the first entry of a body and another one stand those of the parameters between
  entries_between : (f : FuncId) (at : ℕ) → IsPosition m (pos.Entry f at) →
      IsEntryAt (positions_of m) f at (first_entry m + length (up_to (entries_at m) f.0)) (place m (pos.Entry f at))
  entries_between f at is = record {
    from = omega arith;
    near = (let few = few_entries f.0 at in omega (arith, few));
    before = λ k from less. before k from less;
  }
    where
      begin : ℕ
      begin = first_entry m + length (up_to (entries_at m) f.0)

      found : (k j : ℕ) → k ≡ first_entry m + length (up_to (entries_at m) f.0) + j → (q : Pos) → slice_get (up_to (entry_at m f.0) at) j ≡ Some q →
          (p : Pos) × (slice_get (positions_of m) k ≡ Some p) × IsEntryBefore f at p
      found k j here q there =
          let w = in_part (entry_at m f.0) at j q there in
          let o = only_if (is_pointer_param m (param_of m f.0 w.0)) (entry f.0 w.0) q w.1 w.4 in
          let place_is : place m (pos.Entry f w.0) ≡ k = (let e = w.3 in let z = o.1 in omega (arith, here, e, z)) in (
            pos.Entry f w.0,
            subst (λ n. slice_get (positions_of m) n ≡ Some (pos.Entry f w.0)) place_is (listed m (pos.Entry f w.0) (is.0, o.0)),
            (w.0, w.2, refl),
          )

      before : (k : ℕ) → first_entry m + length (up_to (entries_at m) f.0) ≤ k → k < place m (pos.Entry f at) →
          (p : Pos) × (slice_get (positions_of m) k ≡ Some p) × IsEntryBefore f at p
      before k from less =
          let j : ℕ = k - (first_entry m + length (up_to (entries_at m) f.0)) in
          let here : k ≡ first_entry m + length (up_to (entries_at m) f.0) + j = omega (arith, from) in
          let within : j < length (up_to (entry_at m f.0) at) = omega (arith, from, less) in
          elim (slice_get_cases (up_to (entry_at m f.0) at) j).1 [
            | inl w ↦ found k j here w.0 w.2
            | inr past ↦ absurd (let p = past.0 in omega (arith, within, p))
          ]

  -- such tables tell the number of each position
  pub all_found : (t : Tables) → AreTables m t → AreFound t (positions_of m)
  all_found t are n p there = (let s = stands m n p there in subst (λ k. IsAt t (positions_of m) p k) (sym s.1) (by p s.0))
    where
      by : (p : Pos) → IsPosition m p → IsAt t (positions_of m) p (place m p)
      by (pos.Segment k) is = refl
      by (pos.Function f) is =
          subst (λ xs. slice_get xs f.0 ≡ Some (first_body m + length (up_to (body_at m) f.0))) (sym are.functions_at)
          (start_at (body_at m) (first_body m) (length m.funcs) f.0 (body_within m f.0 is))
      by (pos.Value v) is =
          subst (λ xs. slice_get xs v.0 ≡ Some (first_value m + length (up_to (value_at m) v.0))) (sym are.values_at)
          (start_at (value_at m) (first_value m) (length m.values) v.0 (value_within m v.0 is))
      by (pos.Entry f at) is = (
        first_entry m + length (up_to (entries_at m) f.0),
        subst (λ xs. slice_get xs f.0 ≡ Some (first_entry m + length (up_to (entries_at m) f.0))) (sym are.entries_begin)
            (start_at (entries_at m) (first_entry m) (length m.funcs) f.0 (body_within m f.0 is.0)),
        entries_between f at is,
      )
      by (pos.Return f) is = (
        first_body m + length (up_to (body_at m) f.0),
        subst (λ xs. slice_get xs f.0 ≡ Some (first_body m + length (up_to (body_at m) f.0))) (sym are.functions_at)
            (start_at (body_at m) (first_body m) (length m.funcs) f.0 (body_within m f.0 is)),
        (let same = returns_count m f.0 in let far = are.returns_behind in omega (arith, same, far)),
      )
      by (pos.Reach row k) is = ap (λ n. n + (row * t.row_words + k)) are.rows_behind ∙ ap (λ w. first_row m + (row * w + k)) are.wide
      by (pos.Effect k) is = ap (λ n. n + k.0) are.effects_behind
