-- What a look at a position leaves: a part of a sweep, and marks wherever something may be lost.
use Rattle.std.proofs.Common.{◌≡◌, ◌≢◌, ◌^◌, ℕ, ◌+◌, ◌<◌, ◌≤◌, Bool, true, false, List, length, set, slice_get, slice_index, Some, ap, sym, subst, ◌∙◌, arith}
use Rattle.attr_ids.specs.declared.ids.PosId.{PosId}
use Rattle.rule_terms.specs.System.{System}
use Rattle.dep_graph.specs.Row.{Row}
use Rattle.dep_graph.specs.Graph.{row_at, IsGraphOf}
use Rattle.why_make.specs.declared.course.Course.{Course}
use Rattle.why_make.specs.Sweeps.{lost_of, visited}
use Rattle.why_make.specs.Going.{Went}
use Rattle.why_make.specs.Marked.{AreFree, AreMarked, AreWoken}
use Rattle.why_make.proofs.Going.{visited_none, visited_some, went_past}
use Rattle.why_make.proofs.Marking.{free_quiet, marked_after, marked_but}

module _ (s : System) where
  -- a position without a mark loses nothing
  pub unmarked_none : (words : List ℕ) (marks : List Bool) (p : ℕ) (was : Bool) → AreMarked s words marks → slice_get marks p ≡ Some was → was ≡ false →
      lost_of s words p ≡ 0
  unmarked_none words marks p was are there off = are.quiet p (there ∙ ap Some off)

  pub went_one : (c : Course) (p : ℕ) → lost_of s c.words p ≡ 0 → Went s c c p (p + 1) false
  went_one c p none = went_past s c p (p + 1) (omega arith) (λ q l m. let here : p ≡ q = omega (arith, l, m) in
      subst (λ (n : ℕ). lost_of s c.words n ≡ 0) here none)

  -- nothing was lost
  pub looked_rest : (old new : Course) (marks taken : List Bool) (p : ℕ) → AreMarked s old.words marks → taken ≡ set marks p false →
      lost_of s old.words p ≡ 0 → new ≡ visited s old p → AreMarked s new.words taken
  looked_rest old new marks taken p are e none is =
      subst (λ (c : Course). AreMarked s c.words taken) (sym (is ∙ visited_none s old p none)) (marked_but s old.words marks taken p are e none)

  -- facts were lost, and the dependents got marks
  pub looked_fell : (g : List Row) → IsGraphOf s g → (old new : Course) (marks taken woken : List Bool) (p : PosId) → p.0 < length s.masks →
      length old.words ≡ length s.masks → slice_index old.words p.0 < 2 ^ 64 → AreMarked s old.words marks → taken ≡ set marks p.0 false →
      lost_of s old.words p.0 ≢ 0 → new ≡ visited s old p.0 →
      AreWoken (row_at g p.0).dependents (length (row_at g p.0).dependents) taken woken → AreMarked s new.words woken
  looked_fell g of old new marks taken woken p l long small are e some is w =
      subst (λ (c : Course). AreMarked s c.words woken) (sym (is ∙ visited_some s old p.0 some))
      (marked_after s g of old.words marks woken p l long small are
      (subst (λ (xs : List Bool). AreWoken (row_at g p.0).dependents (length (row_at g p.0).dependents) xs woken) e w))

  -- a block is passed over
  pub went_over : (c : Course) (marks : List Bool) (from end to : ℕ) → from ≤ to → to ≤ end → to ≤ length s.masks → AreMarked s c.words marks →
      AreFree marks from end →
      Went s c c from to false
  went_over c marks from end to l m n are free =
      went_past s c from to l (λ q b d. free_quiet s c.words marks from end are free q b (omega (arith, d, m)) (omega (arith, d, n)))
