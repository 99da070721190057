-- What every state has, and what a state at rest has.
use Rattle.std.proofs.Common.{◌≡◌, ℕ, zero, suc, ◌^◌, ◌<◌, List, [], ◌∷◌, length, map, slice_index, slice_index_or, refl, sym, ◌∙◌, subst, arith, inl, inr}
use Rattle.std.specs.Int.Bits.{mask_lt}
use Rattle.std.proofs.lemmas.List.{length-map}
use Rattle.std.proofs.lemmas.List.Elements.{All-map}
use Rattle.lattice_words.specs.declared.word.TheConstants.{FACT_BITS}
use Rattle.lattice_words.specs.Words.{IsWithin}
use Rattle.rule_terms.specs.System.{System, value}
use Rattle.rule_terms.specs.Greatest.{AreWithin, IsAbove, IsGreatest}
use Rattle.rule_terms.proofs.Greatest.{greatest_from_above}
use Rattle.dep_graph.specs.Row.{Row}
use Rattle.fix_core.specs.declared.state.CoreState.{CoreState}
use Rattle.fix_core.specs.declared.state.CoreMode.{CoreMode}
use Rattle.fix_core.specs.declared.state.CoreMode.TheVariants.{Idle}
use Rattle.fix_core.specs.Machine.{facts_of, facts_at}
use Rattle.fix_core.specs.Invariant.{SomeSeat, OwesIt, IsUpToDate, IsSupported, IsCore, IsQuiet}

-- the facts of a list of words, by their positions
pub facts_list : (words : List ℕ) (p : ℕ) → slice_index (map facts_of words) p ≡ facts_at words p
facts_list [] p = refl
facts_list (x ∷ xs) zero = refl
facts_list (x ∷ xs) (suc p) = facts_list xs p

pub same_facts : (words : List ℕ) → facts_at words ≡ (λ p. slice_index (map facts_of words) p)
same_facts words = λ i p. sym (facts_list words p) i

pub core_within : (s : System) (g : List Row) (workers : ℕ) (c : CoreState) → IsCore s g workers c → AreWithin (map facts_of c.words) s.masks
core_within s g workers c inv = subst (λ (f : ℕ → ℕ). (p : ℕ) → IsWithin (f p) (slice_index s.masks p)) (same_facts c.words) inv.within

pub core_above : (s : System) (g : List Row) (workers : ℕ) (c : CoreState) → IsCore s g workers c → IsAbove s (map facts_of c.words)
core_above s g workers c inv others is = subst (λ (f : ℕ → ℕ). (p : ℕ) → IsWithin (slice_index others p) (f p)) (same_facts c.words) (inv.above others is)

module _ (s : System) (g : List Row) (workers : ℕ) (c : CoreState) (inv : IsCore s g workers c) (quiet : IsQuiet c) where
  -- at rest nobody owes a position, and nobody has one open
  no_seat : (P : CoreMode → Type 0) → ((m : CoreMode) → m ≡ Idle → P m → ⊥) → SomeSeat P c.seats → ⊥
  no_seat P never has = never has.1.mode (quiet.idle has.0 has.1 has.2) has.3

  supported : (p : ℕ) → p < length s.masks → IsSupported s (facts_at c.words) p
  supported p l = elim (inv.covered p l) [
    | inl dirty ↦ absurd (omega (arith, dirty.2, quiet.clean p dirty.0 dirty.1))
    | inr rest ↦ elim rest [
      | inl owed ↦ absurd (no_seat (OwesIt p) (λ m e h. subst (OwesIt p) e h) owed)
      | inr more ↦ elim more [
        | inl is ↦ is
        | inr fresh ↦ absurd (no_seat (IsUpToDate s (facts_at c.words) p) (λ m e h. subst (IsUpToDate s (facts_at c.words) p) e h) fresh)
      ]
    ]
  ]

  -- so the facts support themselves, and are the greatest list
  pub core_greatest : IsGreatest s (map facts_of c.words)
  core_greatest = greatest_from_above s (map facts_of c.words) (record {
    long = length-map c.words facts_of ∙ inv.words;
    fits = All-map (λ (m : ℕ). m < 2 ^ 64) facts_of c.words (λ k d l. omega (arith, mask_lt (slice_index_or c.words k d) FACT_BITS));
    within = core_within s g workers c inv;
    supported = subst (λ (f : ℕ → ℕ). (p : ℕ) → p < length s.masks → IsWithin (f p) (value s p f)) (same_facts c.words) supported;
  }) (core_above s g workers c inv)
