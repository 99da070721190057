-- What a seat has room for.
use Rattle.std.proofs.Common.{◌≡◌, ℕ, zero, suc, ◌<◌, ◌≤◌, inl, inr, List, length, Option, Some, refl, ap, sym, ◌∙◌, subst, arith}
use Rattle.std.proofs.lemmas.Bool.{cases_eq}
use Rattle.std.proofs.lemmas.Option.{same_Some, slice_get-get_or}
use Rattle.attr_ids.specs.declared.ids.PosId.{PosId}
use Rattle.rule_terms.specs.Slots.{input_at}
use Rattle.rule_terms.specs.System.{System, inputs_of}
use Rattle.rule_terms.proofs.Naming.{inputs-once}
use Rattle.dep_graph.specs.Row.{Row}
use Rattle.dep_graph.specs.Graph.{row_at}
use Rattle.word_rule.specs.declared.view.Key.{Key}
use Rattle.fix_core.specs.declared.state.CoreMode.{CoreMode}
use Rattle.fix_core.specs.declared.state.CoreMode.TheVariants.{Open}
use Rattle.word_rule.specs.Views.{system_of, rows_of, opened, looked_in}
use Rattle.word_rule.specs.Seats.{place_in, position_count, input_count, most, most_inputs, most_dependents}

pub positions_are : (k : Key) → position_count (Some k) ≡ length k.system.value.masks
unfolding position_count
positions_are k = refl

pub inputs_are : (k : Key) (p : PosId) → input_count (Some k) p ≡ length (inputs_of k.system.value p.0)
unfolding input_count
inputs_are k p = refl

most_above : (f : ℕ → ℕ) (n i : ℕ) → i < n → f i ≤ most f n
unfolding most
most_above f zero i l = absurd (omega arith)
most_above f (suc n) i l = elim (cases_eq i n) [
  | inl here ↦ (let e : f i ≡ f n = ap f here in omega (arith, e))
  | inr other ↦ (let h = most_above f n i (omega arith) in omega (arith, h))
]

pub inputs_fit : (k : Key) (p : ℕ) → p < length k.system.value.masks → length (inputs_of k.system.value p) ≤ most_inputs (Some k)
unfolding most_inputs
inputs_fit k p l = most_above (λ q. length (inputs_of k.system.value q)) (length k.system.value.masks) p l

pub dependents_fit : (k : Key) (p : ℕ) → p < length k.system.value.masks → length (row_at k.graph.value p).dependents ≤ most_dependents (Some k)
unfolding most_dependents
dependents_fit k p l = most_above (λ q. length (row_at k.graph.value q).dependents) (length k.system.value.masks) p l

-- what holds of the one position that is open
pub in_place : (k : Key) (o : Option Key) (p q : PosId) → o ≡ Some k → p.0 < length k.system.value.masks → Some p ≡ Some q → q.0 < position_count o
in_place k o p q is l e = subst (λ n. q.0 < n) (sym (ap position_count is ∙
    positions_are k)) (subst (λ (r : PosId). r.0 < length k.system.value.masks) (same_Some p q e) l)

pub in_width : (k : Key) (o : Option Key) (p q : PosId) (n : ℕ) → o ≡ Some k → n ≡ length (inputs_of k.system.value p.0) → Some p ≡ Some q → n ≡ input_count o q
in_width k o p q n is l e = l ∙ ap (λ (r : PosId). length (inputs_of k.system.value r.0)) (same_Some p q e) ∙
    sym (ap (λ (x : Option Key). input_count x q) is ∙ inputs_are k q)

-- ---- what a seat's memory says of its view
pub count_is : (o : Option Key) → position_count o ≡ length (system_of o).masks
unfolding position_count
count_is o = refl

pub width_is : (o : Option Key) (p : PosId) → input_count o p ≡ length (inputs_of (system_of o) p.0)
unfolding input_count
width_is o p = refl

pub place_open : (mode : CoreMode) (place : Option PosId) (p : PosId) → place ≡ Some p → place ≡ place_in mode → mode ≡ Open (opened mode) (looked_in mode) →
    p ≡ opened mode
place_open mode place p some_place kept is = same_Some p (opened mode) (sym some_place ∙ kept ∙ ap place_in is)

-- a position of the table is one of the system
pub inside_of : (k : Key) (o : Option Key) (s : System) (p : ℕ) → o ≡ Some k → k.system.value ≡ s → p < position_count o → p < length s.masks
inside_of k o s p is system l = subst (λ n. p < n) (ap position_count is ∙ positions_are k ∙ ap (λ (x : System). length x.masks) system) l

-- the system of a seat's table
pub system_is : (k : Key) (o : Option Key) (s : System) → o ≡ Some k → k.system.value ≡ s → system_of o ≡ s
system_is k o s is system = ap system_of is ∙ system

pub rows_are : (k : Key) (o : Option Key) (g : List Row) → o ≡ Some k → k.graph.value ≡ g → rows_of o ≡ g
rows_are k o g is graph = ap rows_of is ∙ graph

-- each input of a position is one by its number
pub inputs_apart : (s : System) (p i j : ℕ) → i < length (inputs_of s p) → j < length (inputs_of s p) →
    (input_at (inputs_of s p) j).0 ≡ (input_at (inputs_of s p) i).0 → j ≡ i
inputs_apart s p i j l m e =
    let z : PosId = record { 0 = 0 } in
    inputs-once s p j i (input_at (inputs_of s p) j) (input_at (inputs_of s p) i) (slice_get-get_or (inputs_of s p) j z m)
    (slice_get-get_or (inputs_of s p) i z l) e
