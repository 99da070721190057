-- Marks of blocks, set one after the other.
use Rattle.std.proofs.Common.{◌≡◌, ◌+◌, ◌<◌, ◌≤◌, ◌∙◌, ◌↔◌, not, ℕ, Bool, true, false, List, [], ◌∷◌, ◌++◌, length, set, replicate}
use Rattle.std.proofs.Common.{slice_get, None, Some}
use Rattle.std.proofs.Common.{arith, ap, subst, sym, refl, inl, inr, IsTrue}
use Rattle.std.proofs.lemmas.Bool.{true≢false, cases_lt}
use Rattle.std.proofs.lemmas.List.{length-replicate, length_push}
use Rattle.std.proofs.lemmas.Bool.Decides.{eqb_tells}
use Rattle.std.proofs.lemmas.Option.{none-some, same_Some, slice_get_past}
use Rattle.std.proofs.Math.ListN.{length-set}
use Rattle.attr_ids.specs.declared.ids.BlockId.{BlockId}
use Rattle.ir_module.specs.declared.module.Module.{Module}
use Rattle.shelf.proofs.Shelf.{get_left, get_behind, get_set_same, get_set_other, get_replicate}
use Rattle.ir_module.specs.declared.edge.Way.{Way}
use Rattle.ir_module.specs.declared.edge.Way.TheVariants as way
use Rattle.ir_rules.specs.Blocks.{IsUnwoundTo, Lands, terminator, unwind_of}
use Rattle.ir_rules.specs.Survey.{AreMarks, IsUnwoundBefore}

-- a mark that was read tells P
pub mark_told : {P : ℕ → Type 0} → (count : ℕ) (marks : List Bool) (b : ℕ) (r : Bool) → AreMarks P count marks → b < count → slice_get marks b ≡ Some r
    → IsTrue r ↔ P b
mark_told count marks b r h l at = (
  λ t. (h.marked b l).0 (at ∙ ap Some t),
  λ p. same_Some r true (sym at ∙ (h.marked b l).1 p),
)

-- and one that is not set tells that P does not hold
pub unmarked_told : {P : ℕ → Type 0} → (count : ℕ) (marks : List Bool) (b : ℕ) (r : Bool) → AreMarks P count marks → b < count → slice_get marks b ≡ Some r
    → IsTrue (not r) ↔ (P b → ⊥)
unmarked_told count marks b true h l at = (λ t. absurd (true≢false (sym t)), λ n. absurd (n ((h.marked b l).0 at)))
unmarked_told count marks b false h l at = (λ t. λ p. true≢false (sym (same_Some false true (sym at ∙ (h.marked b l).1 p))), λ n. refl)

-- an edge that is no unwind edge lands where none leads
pub lands_other : (m : Module) (to : ℕ) (w : Way) (b : Bool) → (w ≡ way.Unwind → ⊥) → IsTrue b ↔ (IsUnwoundTo m to → ⊥) → IsTrue b ↔ Lands m to w
lands_other m to way.Unwind b never h = absurd (never refl)
lands_other m to w b never h = h

-- ---- unwind edges

all_unset : (n b : ℕ) → slice_get (replicate n false) b ≡ Some true → ⊥
all_unset n b e = true≢false (sym (get_replicate n false b true e))

pub none_unwound : (m : Module) (count : ℕ) (marks : List Bool) → marks ≡ replicate count false → AreMarks (IsUnwoundBefore m 0) count marks
none_unwound m count marks is = subst (λ (ms : List Bool). AreMarks (IsUnwoundBefore m 0) count ms) (sym is) (record {
  long = length-replicate count false;
  marked = λ b l. (λ e. absurd (all_unset count b e), λ (x, less, e). absurd (omega (arith, less)));
})

abbrev numbered : ℕ → BlockId
numbered k = record { 0 = k }

more_before : (m : Module) (n b : ℕ) → IsUnwoundBefore m n b → IsUnwoundBefore m (n + 1) b
more_before m n b h = (h.0, omega (arith, h.1), h.2)

-- one more block, which does not unwind to b
less_before : (m : Module) (n b : ℕ) → (unwind_of (terminator m n) ≡ Some (record { 0 = b }) → ⊥) → IsUnwoundBefore m (n + 1) b → IsUnwoundBefore m n b
less_before m n b never (x, l, e) = elim (eqb_tells x n) [
  | inl (_, same) ↦ absurd (never (ap (λ (k : ℕ). unwind_of (terminator m k)) (sym same) ∙ e))
  | inr (_, other) ↦ (x, omega (arith, l, other), e)
]

-- a block whose terminator unwinds to no marked place
pub unwound_skip : (m : Module) (count n : ℕ) (marks : List Bool) → ((b : ℕ) → b < count → unwind_of (terminator m n) ≡ Some (record { 0 = b }) → ⊥)
    → AreMarks (IsUnwoundBefore m n) count marks → AreMarks (IsUnwoundBefore m (n + 1)) count marks
unwound_skip m count n marks never h = record {
  long = h.long;
  marked = λ b l. (λ e. more_before m n b ((h.marked b l).0 e), λ u. (h.marked b l).1 (less_before m n b (never b l) u));
}

-- a block whose terminator unwinds
pub unwound_set : (m : Module) (count n : ℕ) (to : BlockId) (marks : List Bool) → unwind_of (terminator m n) ≡ Some to → to.0 < length marks
    → AreMarks (IsUnwoundBefore m n) count marks → AreMarks (IsUnwoundBefore m (n + 1)) count (set marks to.0 true)
unwound_set m count n to marks is inside h = record {
  long = length-set marks to.0 true ∙ h.long;
  marked = λ b l. elim (eqb_tells b to.0) [
    | inl (_, same) ↦
        (let set_there : slice_get (set marks to.0 true) b ≡ Some true =
        ap (slice_get (set marks to.0 true)) same ∙ get_set_same marks to.0 true inside in
        let here : unwind_of (terminator m n) ≡ Some (record { 0 = b }) = is ∙ ap (λ (k : ℕ). Some (numbered k)) (sym same) in
        (λ e. (n, omega arith, here), λ u. set_there))
    | inr (_, other) ↦
        (let kept : slice_get (set marks to.0 true) b ≡ slice_get marks b = get_set_other marks to.0 b true other in
        let elsewhere : unwind_of (terminator m n) ≡ Some (record { 0 = b }) → ⊥ =
        λ e. other (ap (λ (t : BlockId). t.0) (same_Some (numbered b) to (sym e ∙ is))) in
        (λ e. more_before m n b ((h.marked b l).0 (sym kept ∙ e)), λ u. kept ∙ (h.marked b l).1 (less_before m n b elsewhere u)))
  ];
}

-- a block that is not there has no terminator
pub no_terminator : (m : Module) (x : ℕ) → length m.blocks ≤ x → terminator m x ≡ None
no_terminator m x l = rw (slice_get_past m.blocks x l) refl

-- all blocks were looked at
pub all_unwound : (m : Module) (n : ℕ) (marks : List Bool) → length m.blocks ≤ n → AreMarks (IsUnwoundBefore m n) (length m.blocks) marks
    → AreMarks (IsUnwoundTo m) (length m.blocks) marks
all_unwound m n marks l h = record {
  long = h.long;
  marked = λ b inside. (
    λ e. let u = (h.marked b inside).0 e in (u.0, u.2),
    λ (x, e). (h.marked b inside).1 (x, below x b e, e),
  );
}
  where
    below : (x b : ℕ) → unwind_of (terminator m x) ≡ Some (record { 0 = b }) → x < n
    below x b e = elim (cases_lt x n) [
      | inl less ↦ less
      | inr more ↦ (let none : terminator m x ≡ None = no_terminator m x (omega (arith, l, more)) in absurd (none-some _ (sym (ap unwind_of none) ∙ e)))
    ]

-- ---- marks that are put one behind another

pub none_put : (P : ℕ → Type 0) → AreMarks P 0 []
none_put P = record { long = refl; marked = λ b l. absurd (omega (arith, l)) }

pub one_put : (P : ℕ → Type 0) (n : ℕ) (marks : List Bool) (r : Bool) → AreMarks P n marks → IsTrue r ↔ P n → AreMarks P (n + 1) (marks ++ r ∷ [])
one_put P n marks r h told = record {
  long = length_push marks r ∙ ap (λ (k : ℕ). k + 1) h.long;
  marked = λ b l. elim (eqb_tells b n) [
    | inl (_, same) ↦
        (let last : slice_get (marks ++ r ∷ []) b ≡ Some r =
        ap (slice_get (marks ++ r ∷ [])) (same ∙ sym h.long) ∙ get_behind marks r [] in
        (λ e. subst P (sym same) (told.0 (same_Some r true (sym last ∙ e))), λ p. last ∙ ap Some (told.1 (subst P same p))))
    | inr (_, other) ↦
        (let less : b < n = omega (arith, l, other) in
        let kept : slice_get (marks ++ r ∷ []) b ≡ slice_get marks b = get_left marks (r ∷ []) b (omega (arith, less, h.long)) in
        (λ e. (h.marked b less).0 (sym kept ∙ e), λ p. kept ∙ (h.marked b less).1 p))
  ];
}
