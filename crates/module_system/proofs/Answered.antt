-- The system that the calls fill is the system of the module.
use Rattle.std.proofs.Common.{◌≡◌, ◌<◌, ◌^◌, ◌⊎◌, ℕ, zero, suc, Bool, true, false, List, [], length, get_or, All}
use Rattle.std.proofs.Common.{slice_get, Some, inl, inr, refl, sym, ap, subst, ◌∙◌}
use Rattle.std.specs.Prelude.{replicate, slice_index_or}
use Rattle.std.specs.List.{flat_map}
use Rattle.std.proofs.lemmas.Bool.{and_parts}
use Rattle.std.proofs.lemmas.List.{length-map}
use Rattle.std.proofs.lemmas.List.Elements.{All-from_get_or, All-map}
use Rattle.lattice_words.specs.declared.word.TheConstants.{FACT_BITS}
use Rattle.lattice_words.proofs.WordBits.{word_of-lt}
use Rattle.attr_ids.specs.declared.ids.PosId.{PosId}
use Rattle.ir_module.specs.declared.module.Module.{Module}
use Rattle.facts.specs.declared.pos.Pos.{Pos}
use Rattle.facts.specs.declared.pos.Pos.TheVariants as pos
use Rattle.facts.specs.Facts.{Fact}
use Rattle.facts.specs.Masks.{is_built, has_bit_of, is_bit, mask_of}
use Rattle.facts.specs.Names.{Names, AreNamed}
use Rattle.facts.specs.Justified.{Rule}
use Rattle.rule_terms.specs.declared.term.NewTerm.{NewTerm}
use Rattle.rule_terms.specs.Names.{has_name, names_of, with_names}
use Rattle.rule_terms.specs.System.{System, IsSystem, with_masks}
use Rattle.positions.specs.Numbering.{Numbered}
use Rattle.rule_says.specs.Reading.{IsNumbering}
use Rattle.rule_says.specs.Saying.{IsSpokenOf}
use Rattle.rule_says.specs.Meeting.{Meets, IsInput}
use Rattle.rule_says.proofs.Mets.{meets_then, meets_iff}
use Rattle.aa_control.specs.Control.{is_control, AsksControl, SpeaksControl}
use Rattle.aa_reach.specs.Reached.{is_reach, AsksReach, SpeaksReach}
use Rattle.module_system.specs.Filled.{AsksRule, SpeaksRule, IsSystemOf, AreInputs, inputs_below, input_count}
use Rattle.module_system.proofs.Counted.{counted}

crash : {A : Type 0} → false ≡ true → A
crash e = absurd (cc)

-- each bit that is built is one of control or of reach
all_ruled : (m : Module) (p : Pos) (bit : ℕ) → is_bit m p bit ≡ true → (is_control p bit ≡ true) ⊎ (is_reach p ≡ true)
all_ruled m (pos.Segment k) bit e = inl refl
all_ruled m (pos.Function f) bit e = inl (and_parts (is_built (pos.Function f) bit) (has_bit_of m (pos.Function f) bit) e).0
all_ruled m (pos.Effect k) bit e = inl (and_parts (is_built (pos.Effect k) bit) (has_bit_of m (pos.Effect k) bit) e).0
all_ruled m (pos.Reach row k) bit e = inr refl
all_ruled m (pos.Value v) bit e = crash e
all_ruled m (pos.Entry f at) bit e = crash e
all_ruled m (pos.Return f) bit e = crash e

-- masks have bits of facts alone
pub small_masks : (m : Module) (ps : Numbered) → IsNumbering m ps → All (λ mask. mask < 2 ^ FACT_BITS) ps.masks
small_masks m ps is = subst (All (λ mask. mask < 2 ^ FACT_BITS)) (sym is.masks)
    (All-map (λ mask. mask < 2 ^ FACT_BITS) (mask_of m) ps.list
    (All-from_get_or (λ p. mask_of m p < 2 ^ FACT_BITS) ps.list (pos.Segment (record {
      0 =
          0;
    })) (λ i l. word_of-lt (is_bit m (get_or ps.list i (pos.Segment (record { 0 = 0 })))) FACT_BITS)))

pub long_masks : (m : Module) (ps : Numbered) → IsNumbering m ps → length ps.masks ≡ length ps.list
long_masks m ps is = ap length is.masks ∙ length-map ps.list (mask_of m)

module _ (m : Module) (ps : Numbered) (is : IsNumbering m ps) where
  -- the rules of control and those of reach are all rules that are built
  filled : (masks : List ℕ) (mid s : System) → IsSystem s → masks ≡ ps.masks → Meets m ps (with_masks masks) mid (AsksControl m) (SpeaksControl m) →
      Meets m ps mid s (AsksReach m) (SpeaksReach m) → IsSystemOf m ps s
  filled masks mid s system same control reach =
      let met = meets_then m ps (with_masks masks) mid s (AsksControl m) (AsksReach m) (SpeaksControl m) (SpeaksReach m) control reach in record {
        system = system;
        masks = met.masks ∙ same;
        meets = subst (λ ms. Meets m ps (with_masks ms) s (AsksRule m) (SpeaksRule m)) same
            (meets_iff m ps (with_masks masks) s (λ held p bit. AsksControl m held p bit × AsksReach m held p bit) (AsksRule m)
            (λ p y. SpeaksControl m p y ⊎ SpeaksReach m p y) (SpeaksRule m) met
            (λ held p bit. (
              (λ h has. ruled held p bit h has (all_ruled m p bit has)),
              λ h. ((λ of has. h has), λ of has. h has),
            ))
            (λ p y. ((λ w. down p y w), λ w. up p y w (all_ruled m p w.0 w.1))));
      }
    where
      ruled : (held : Fact → Bool) (p : Pos) (bit : ℕ) → AsksControl m held p bit × AsksReach m held p bit → is_bit m p bit ≡ true →
          (is_control p bit ≡ true) ⊎ (is_reach p ≡ true) → Rule m held p bit
      ruled held p bit h has (inl of) = h.0 of has
      ruled held p bit h has (inr of) = h.1 of has

      down : (p : Pos) (y : Fact) → SpeaksControl m p y ⊎ SpeaksReach m p y → SpeaksRule m p y
      down p y (inl w) = (w.0, w.2, w.3)
      down p y (inr w) = (w.0, w.2, w.3)

      up : (p : Pos) (y : Fact) (w : SpeaksRule m p y) → (is_control p w.0 ≡ true) ⊎ (is_reach p ≡ true) → SpeaksControl m p y ⊎ SpeaksReach m p y
      up p y w (inl of) = inl (w.0, of, w.1, w.2)
      up p y w (inr of) = inr (w.0, of, w.1, w.2)

  -- the same, where the system was made of the masks
  pub answered : (masks : List ℕ) (made mid s : System) → IsSystem s → masks ≡ ps.masks → made ≡ with_masks masks →
      Meets m ps made mid (AsksControl m) (SpeaksControl m) → Meets m ps mid s (AsksReach m) (SpeaksReach m) → IsSystemOf m ps s
  answered masks made mid s system same is_made control reach =
      filled masks mid s system same (subst (λ x. Meets m ps x mid (AsksControl m) (SpeaksControl m)) is_made control) reach

  -- a system of masks has no inputs
  empties : ℕ → List (List NewTerm)
  empties k = replicate k []

  no_terms : (k n : ℕ) → slice_index_or (empties k) n [] ≡ []
  unfolding empties
  no_terms zero n = refl
  no_terms (suc k) zero = refl
  no_terms (suc k) (suc n) = no_terms k n

  module _ (s : System) (of : IsSystemOf m ps s) where
    no_inputs : (n : ℕ) (q : PosId) → IsInput (with_masks ps.masks) n q → ⊥
    unfolding empties
    no_inputs n q h = none (subst (λ ts. has_name (with_names [] (flat_map names_of ts)) q ≡ true) (no_terms (length ps.masks) n) h)
      where
        none : false ≡ true → ⊥
        none e = absurd (cc)

    -- the inputs are what the rules name
    pub inputs_named : AreInputs m ps s
    inputs_named n p at q = ((λ h. down ((of.meets.named n p at q).0 h)), λ w. (of.meets.named n p at q).1 (inr (up w)))
      where
        down : IsInput (with_masks ps.masks) n q ⊎ IsSpokenOf m ps (SpeaksRule m p) q → (r : Pos) × (slice_get ps.list q.0 ≡ Some r) × Names m p r
        down (inl h) = absurd (no_inputs n q h)
        down (inr w) = (w.0, w.2, (w.4.0, (w.4.1, w.1, w.3, w.4.2)))

        up : (r : Pos) × (slice_get ps.list q.0 ≡ Some r) × Names m p r → IsSpokenOf m ps (SpeaksRule m p) q
        up w = (w.0, w.2.1.1, w.1, w.2.1.2, (w.2.0, w.2.1.0, w.2.1.3))

    pub inputs_counted : (pairs : List (Pos × Pos)) → AreNamed m pairs → input_count s ≡ length pairs
    inputs_counted pairs named =
        ap (inputs_below s) (ap length of.masks ∙ long_masks m ps is) ∙ counted m ps is s inputs_named pairs named
