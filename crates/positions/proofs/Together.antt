-- The list as it is made, kind by kind, and its tables.
use Rattle.std.proofs.Common.{arith, ◌≡◌, ◌+◌, ◌/◌, ℕ, suc, List, [], ◌++◌, length, refl, sym, ap, subst, ◌∙◌}
use Rattle.std.proofs.lemmas.List.{length-append, append_assoc}
use Rattle.ir_module.specs.declared.module.Module.{Module}
use Rattle.facts.specs.declared.pos.Pos.{Pos}
use Rattle.facts.specs.Bodies.{body_count}
use Rattle.positions.specs.Order.{up_to, segment_at, body_at, value_at, entries_at, return_at, word_at, row_at, effect_at, positions_of, from_bodies}
use Rattle.positions.specs.Order.{from_values, from_entries, from_returns, from_rows}
use Rattle.positions.proofs.Parts.{ones}
use Rattle.positions.proofs.Standing.{positions_are, first_body, first_effect}

-- the first body stands behind all segments
pub segments : (m : Module) → first_body m ≡ length m.segs
segments m = ones segment_at (λ k. refl) (length m.segs)

-- how many there are together
pub total : (m : Module) → length (positions_of m) ≡ first_effect m + length (up_to effect_at (length m.segs))
total m =
    let a = length-append (up_to segment_at (length m.segs)) (from_bodies m) in
    let b = length-append (up_to (body_at m) (length m.funcs)) (from_values m) in
    let c = length-append (up_to (value_at m) (length m.values)) (from_entries m) in
    let d = length-append (up_to (entries_at m) (length m.funcs)) (from_returns m) in
    let e = length-append (up_to (return_at m) (length m.funcs)) (from_rows m) in
    let f = length-append (up_to (row_at m) (suc (body_count m))) (up_to effect_at (length m.segs)) in
    let all = ap length (positions_are m) in
    omega (arith, a, b, c, d, e, f, all)

-- the first list is that of segments
pub first_list : (m : Module) (l0 l1 : List Pos) (n : ℕ) → l0 ≡ [] → n ≡ length m.segs → l1 ≡ l0 ++ up_to segment_at n → l1 ≡ up_to segment_at (length m.segs)
first_list m l0 l1 n none all is = is ∙ (ap (λ xs. xs ++ up_to segment_at n) none ∙ ap (up_to segment_at) all)

-- where a list ends that has the parts of one kind more
pub longer_by : (old new part : List Pos) (at : ℕ) → length old ≡ at → new ≡ old ++ part → length new ≡ at + length part
longer_by old new part at here is = let e = ap length is ∙ length-append old part in omega (arith, e, here)

-- the rows of so many bodies
pub rows_list : (m : Module) (l5 l6 : List Pos) (bodies : ℕ) → bodies ≡ body_count m →
    l6 ≡ l5 ++ up_to (λ row. up_to (word_at row) ((bodies + 46) / 47)) (bodies + 1) → l6 ≡ l5 ++ up_to (row_at m) (suc (body_count m))
rows_list m l5 l6 bodies is rows =
    let all : body_count m + 1 ≡ suc (body_count m) = omega arith in
    subst (λ n. l6 ≡ l5 ++ up_to (row_at m) n) all
    (subst (λ b. l6 ≡ l5 ++ up_to (λ row. up_to (word_at row) ((b + 46) / 47)) (b + 1)) is rows)

-- a list with one kind more, and what stands behind it
step : (old new part rest : List Pos) → new ≡ old ++ part → new ++ rest ≡ old ++ (part ++ rest)
step old new part rest is = ap (λ xs. xs ++ rest) is ∙ append_assoc old part rest

-- all of them, one after the other, are the positions
pub all_listed : (m : Module) (l1 l2 l3 l4 l5 l6 l7 : List Pos) → l1 ≡ up_to segment_at (length m.segs) → l2 ≡ l1 ++ up_to (body_at m) (length m.funcs) →
    l3 ≡ l2 ++ up_to (value_at m) (length m.values) → l4 ≡ l3 ++ up_to (entries_at m) (length m.funcs) → l5 ≡ l4 ++ up_to (return_at m) (length m.funcs) →
    l6 ≡ l5 ++ up_to (row_at m) (suc (body_count m)) → l7 ≡ l6 ++ up_to effect_at (length m.segs) → l7 ≡ positions_of m
all_listed m l1 l2 l3 l4 l5 l6 l7 one two three four five six seven =
    seven ∙ (step l5 l6 (up_to (row_at m) (suc (body_count m))) (up_to effect_at (length m.segs)) six ∙
    (step l4 l5 (up_to (return_at m) (length m.funcs)) (from_rows m) five ∙ (step l3 l4 (up_to (entries_at m) (length m.funcs)) (from_returns m) four ∙
    (step l2 l3 (up_to (value_at m) (length m.values)) (from_entries m) three ∙ (step l1 l2 (up_to (body_at m) (length m.funcs)) (from_values m) two ∙
    (ap (λ xs. xs ++ from_bodies m) one ∙ sym (positions_are m)))))))
