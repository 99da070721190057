-- What a table needs when it is opened.
use Rattle.std.proofs.Common.{◌≡◌, ℕ, zero, suc, ◌+◌, ◌%◌, ◌^◌, ◌<◌, ◌≤◌, List, [], ◌∷◌, ◌++◌, length, map, take, slice_index, Some, bit_or, ap, sym, ◌∙◌}
use Rattle.std.proofs.Common.{subst, arith, add-one}
use mathlib.Core.Option.{some, some-injective, some-ne-none}
use lib.ListN.{get_elem?}
use Rattle.std.proofs.lemmas.List.Sums.{get_or-le-sum_by}
use Rattle.std.proofs.lemmas.List.Elements.{All-get_or}
use Rattle.attr_ids.specs.declared.ids.PosId.{PosId}
use Rattle.lattice_words.specs.declared.word.TheConstants.{DIRTY}
use Rattle.rule_terms.specs.Slots.{input_at}
use Rattle.rule_terms.specs.System.{System, inputs_of, IsSystem}
use Rattle.dep_graph.specs.Row.{Row}
use Rattle.dep_graph.specs.Graph.{empty_row, row_at, edge_count, IsGraphOf}
use Rattle.dep_graph.proofs.Naming.{inputs_within}
use Rattle.fix_core.specs.Machine.{facts_of, dirtied, opening_words}
use Rattle.word_rule.specs.declared.view.Key.{Key}
use Rattle.word_rule.specs.Views.{position}
use Rattle.word_rule.specs.Seats.{most, most_inputs, most_dependents}

-- ---- the system and its graph
pub inputs_inside : (s : System) → IsSystem s → (p i : ℕ) → i < length (inputs_of s p) → (input_at (inputs_of s p) i).0 < length s.masks
inputs_inside s is p i l = All-get_or (λ (q : PosId). q.0 < length s.masks) (inputs_of s p) i (record { 0 = 0 }) l (inputs_within s is p)

pub rows_read : (s : System) (g : List Row) → IsGraphOf s g → (p : ℕ) → p < length s.masks → length (row_at g p).reads ≡ length (row_at g p).dependents
rows_read s g of p l = (of.rows (position p) l).long

pub rows_few : (s : System) (g : List Row) → IsGraphOf s g → (p : ℕ) → p < length s.masks → length (row_at g p).dependents < 2 ^ 32
rows_few s g of p l =
    let one : length (row_at g p).dependents ≤ edge_count g = get_or-le-sum_by (λ (row : Row). length row.dependents) g p empty_row (let long = of.long in
    omega (arith, l, long)) in
    let few = of.few in omega (arith, one, few)

-- ---- the words at the opening
opening_next : (workers k : ℕ) (masks : List ℕ) (p : ℕ) → p < length masks →
    opening_words workers k (take (suc p) masks) ≡ opening_words workers k (take p masks) ++ dirtied (slice_index masks p) ((k + p) % workers) ∷ []
opening_next workers k [] p l = absurd (omega arith)
opening_next workers k (m ∷ ms) zero l = (let e : k ≡ k + 0 = omega arith in ap (λ x. dirtied m (x % workers) ∷ []) e)
opening_next workers k (m ∷ ms) (suc p) l =
    let e : suc k + p ≡ k + suc p = omega arith in
    ap (λ xs. dirtied m (k % workers) ∷ xs) (opening_next workers (suc k) ms p (omega (arith, l))
    ∙ ap (λ x. opening_words workers (suc k) (take p ms) ++ dirtied (slice_index ms p) (x % workers) ∷ []) e)

pub opening_more : (workers : ℕ) (masks : List ℕ) (p word bit : ℕ) → p < length masks → word ≡ slice_index masks p → bit ≡ 2 ^ (DIRTY + p % workers) →
    opening_words workers 0 (take p masks) ++ bit_or word bit ∷ [] ≡ opening_words workers 0 (take (p + 1) masks)
opening_more workers masks p word bit l is one =
    let e : 0 + p ≡ p = omega arith in
    (λ j. opening_words workers 0 (take p masks) ++ bit_or (is j) (one j) ∷ [])
    ∙ ap (λ x. opening_words workers 0 (take p masks) ++ dirtied (slice_index masks p) (x % workers) ∷ []) (sym e)
    ∙ sym (opening_next workers 0 masks p l) ∙ ap (λ n. opening_words workers 0 (take n masks)) (sym (add-one p))

-- ---- the most at so many places
most_least : (f : ℕ → ℕ) (n m : ℕ) → ((p : ℕ) → p < n → f p ≤ m) → most f n ≤ m
unfolding most
most_least f zero m h = omega arith
most_least f (suc n) m h = (let rest = most_least f n m (λ p l. h p (omega (arith, l))) in let here = h n (omega arith) in omega (arith, rest, here))

pub inputs_room : (k : Key) (s : System) (m : ℕ) → k.system.value ≡ s → ((p : ℕ) → p < length s.masks → length (inputs_of s p) ≤ m) → most_inputs (Some k) ≤ m
unfolding most_inputs
inputs_room k s m is h = most_least (λ p. length (inputs_of k.system.value p)) (length k.system.value.masks) m (subst (λ (x : System). (p : ℕ) →
    p < length x.masks → length (inputs_of x p) ≤ m) (sym is) h)

pub dependents_room : (k : Key) (s : System) (g : List Row) (m : ℕ) → k.system.value ≡ s → k.graph.value ≡ g →
    ((p : ℕ) → p < length s.masks → length (row_at g p).dependents ≤ m) → most_dependents (Some k) ≤ m
unfolding most_dependents
dependents_room k s g m is are h =
    most_least (λ p. length (row_at k.graph.value p).dependents) (length k.system.value.masks) m
    (subst (λ (y : System × List Row). (p : ℕ) → p < length y.0.masks → length (row_at y.1 p).dependents ≤ m) (λ j. (sym is j, sym are j)) h)

-- ---- lists
facts_next : (xs : List ℕ) (p word : ℕ) → get_elem? xs p ≡ some word → map facts_of (take (suc p) xs) ≡ map facts_of (take p xs) ++ facts_of word ∷ []
facts_next [] p word e = absurd (some-ne-none word (sym e))
facts_next (x ∷ xs) zero word e = ap (λ n. facts_of n ∷ []) (some-injective x word e)
facts_next (x ∷ xs) (suc p) word e = ap (λ ys. facts_of x ∷ ys) (facts_next xs p word e)

pub facts_more : (xs : List ℕ) (p word : ℕ) → get_elem? xs p ≡ some word → map facts_of (take p xs) ++ facts_of word ∷ [] ≡ map facts_of (take (p + 1) xs)
facts_more xs p word e = sym (facts_next xs p word e) ∙ ap (λ n. map facts_of (take n xs)) (sym (add-one p))
