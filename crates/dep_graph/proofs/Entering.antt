-- Entering the inputs of one position, one after another.
use Rattle.std.proofs.Common.{◌≡◌, ℕ, ◌+◌, ◌<◌, Bool, true, false, cond, if◌then◌else◌, ◌==◌, List, [], ◌∷◌, ◌++◌, length, get_or, set, take, refl, subst, ap}
use Rattle.std.proofs.Common.{sym, ◌∙◌, arith, inl, inr, length-append, length-set, get_or-set_same, get_or-set_other}
use Rattle.std.proofs.lemmas.Bool.Decides.{eqb_tells}
use Rattle.std.proofs.lemmas.List.{take_more}
use Rattle.std.proofs.lemmas.List.Sums.{sum_by-set}
use Rattle.attr_ids.specs.declared.ids.PosId.{PosId}
use Rattle.row_lists.specs.EdgeRow.{EdgeRow, with_edge, row_at as edges_at}
use Rattle.dep_graph.specs.Row.{Row, shown}
use Rattle.dep_graph.specs.Graph.{empty_row, row_at, edge_count}
use Rattle.dep_graph.specs.Rows.{added, entered}
use Rattle.dep_graph.proofs.Shown.{length-shown, shown_more}

-- one more input: the row of q has d once more where q is that input
entered_step : Bool → PosId → ℕ → Row → Row
entered_step here d bits row = if here then added row d bits else row

entered-append : (ps : List PosId) (p : PosId) (reads : ℕ → ℕ) (d : PosId) (row : Row) (q : ℕ) →
    entered (ps ++ p ∷ []) reads d row q ≡ entered_step (p.0 == q) d (reads q) (entered ps reads d row q)
unfolding entered entered_step
entered-append [] p reads d row q = refl
entered-append (x ∷ ps) p reads d row q = entered-append ps p reads d (if x.0 == q then added row d (reads q) else row) q

pub entered_none : (inputs : List PosId) (reads : ℕ → ℕ) (d : PosId) (row : Row) (q : ℕ) → entered (take 0 inputs) reads d row q ≡ row
unfolding entered
entered_none inputs reads d row q = refl

entered_more : (inputs : List PosId) (reads : ℕ → ℕ) (d : PosId) (row : Row) (q i : ℕ) (z : PosId) → i < length inputs →
    entered (take (i + 1) inputs) reads d row q ≡ entered_step ((get_or inputs i z).0 == q) d (reads q) (entered (take i inputs) reads d row q)
entered_more inputs reads d row q i z l =
    ap (λ ps. entered ps reads d row q) (take_more inputs i z l) ∙ entered-append (take i inputs) (get_or inputs i z) reads d row q

-- the rows as far as the first i inputs are entered
abbrev pub AreEntered : List PosId → (ℕ → ℕ) → PosId → List Row → List Row → ℕ → Type 0
AreEntered inputs reads d before rows i = (q : ℕ) → q < length rows → row_at rows q ≡ entered (take i inputs) reads d (row_at before q) q

pub entered_next : (inputs : List PosId) (reads : ℕ → ℕ) (d : PosId) (before rows : List Row) (i at : ℕ) (z : PosId) → i < length inputs →
    at ≡ (get_or inputs i z).0 → at < length rows →
    AreEntered inputs reads d before rows i → AreEntered inputs reads d before (set rows at (added (row_at rows at) d (reads at))) (i + 1)
unfolding entered_step
entered_next inputs reads d before rows i at z l is on so_far q inside =
    let within : q < length rows = omega (arith, length-set {A = Row}) in
    let more = entered_more inputs reads d (row_at before q) q i z l in
    elim (eqb_tells at q) [
      | inl (here, e) ↦
          let test : ((get_or inputs i z).0 == q) ≡ true = ap (λ n. n == q) (sym is) ∙ here in
          ap (λ n. row_at (set rows at (added (row_at rows at) d (reads at))) n) (sym e) ∙
          get_or-set_same rows at (added (row_at rows at) d (reads at)) empty_row on ∙
          ap (λ n. added (row_at rows n) d (reads n)) e ∙
          ap (λ row. added row d (reads q)) (so_far q within) ∙
          sym (more ∙ ap (λ b. cond b (added (entered (take i inputs) reads d (row_at before q) q) d (reads q))
          (entered (take i inputs) reads d (row_at before q) q)) test)
      | inr (other, ne) ↦
          let test : ((get_or inputs i z).0 == q) ≡ false = ap (λ n. n == q) (sym is) ∙ other in
          get_or-set_other rows at q (added (row_at rows at) d (reads at)) empty_row (λ e. ne (sym e)) ∙ so_far q within ∙
          sym (more ∙ ap (λ b. cond b (added (entered (take i inputs) reads d (row_at before q) q) d (reads q))
          (entered (take i inputs) reads d (row_at before q) q)) test)
    ]

-- one more entry in one row is one more edge
pub edge_count-set : (rows : List Row) (at bits : ℕ) (d : PosId) → at < length rows →
    edge_count (set rows at (added (row_at rows at) d bits)) ≡ edge_count rows + 1
edge_count-set rows at bits d l =
    let row = row_at rows at in
    let e = sum_by-set (λ (r : Row). length r.dependents) rows at (added row d bits) empty_row l in
    let n : length (row.dependents ++ d ∷ []) ≡ length row.dependents + 1 = length-append row.dependents (d ∷ []) in
    omega (arith, e, n)

-- one more entry in lists of positions and words: as many lists, the rows as far as one input more is entered, one edge more
pub entered_after : (inputs : List PosId) (reads : ℕ → ℕ) (d : PosId) (before rows next : List EdgeRow) (i at : ℕ) (z : PosId) →
    i < length inputs → at ≡ (get_or inputs i z).0 → at < length rows →
    next ≡ set rows at (with_edge (edges_at rows at) d (reads at)) → AreEntered inputs reads d (shown before) (shown rows) i →
    (length next ≡ length rows) × AreEntered inputs reads d (shown before) (shown next) (i + 1) × (edge_count (shown next) ≡ edge_count (shown rows) + 1)
entered_after inputs reads d before rows next i at z l is on goes so_far =
    let place : at < length (shown rows) = omega (arith, on, length-shown rows) in
    let row : Row = added (row_at (shown rows) at) d (reads at) in
    let new : shown next ≡ set (shown rows) at row = ap shown goes ∙ shown_more rows at d (reads at) in
    let more = entered_next inputs reads d (shown before) (shown rows) i at z l is place so_far in (
      ap length goes ∙ length-set rows at (with_edge (edges_at rows at) d (reads at)),
      subst (λ rs. AreEntered inputs reads d (shown before) rs (i + 1)) (sym new) more,
      ap edge_count new ∙ edge_count-set (shown rows) at (reads at) d place,
    )
