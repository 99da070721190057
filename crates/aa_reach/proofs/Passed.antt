-- What is met in for one call in a word of a row.
use Rattle.std.proofs.Common.{arith, ◌≡◌, ◌<◌, ◌≤◌, ◌⊎◌, ℕ, Bool, true, false, length, Some, refl, sym, ap, subst, ◌∙◌, inl, inr}
use Rattle.std.proofs.lemmas.Bool.{both_ways}
use Rattle.lattice_words.specs.declared.segment.TheConstants.{DEAD}
use Rattle.lattice_words.specs.declared.word.TheConstants.{FACTS}
use Rattle.ir_module.specs.declared.op.Op.{Op}
use Rattle.ir_module.specs.declared.module.Module.{Module}
use Rattle.ir_module.specs.Places.{spot}
use Rattle.ir_module.specs.Calls.{is_call, inner_callee, is_open}
use Rattle.facts.specs.declared.pos.Pos.{Pos}
use Rattle.facts.specs.declared.pos.Pos.TheVariants as pos
use Rattle.facts.specs.Bodies.{rank, body_count}
use Rattle.facts.specs.Facts.{Fact, fact, segment, dead, unreached_by}
use Rattle.facts.specs.Masks.{is_bit}
use Rattle.facts.specs.Reach.{PassesBy, PassingSpeaks}
use Rattle.rule_terms.specs.declared.term.NewTerm.{NewTerm}
use Rattle.rule_terms.specs.System.{System}
use Rattle.positions.specs.Numbering.{Numbered}
use Rattle.rule_says.specs.Reading.{IsNumbering}
use Rattle.rule_says.specs.Saying.{IsSet, Has, Says, IsUnless}
use Rattle.rule_says.specs.Meeting.{Meets, IsMet}
use Rattle.rule_says.proofs.Held.{is_bit_small}
use Rattle.rule_says.proofs.Terms.{says_unless}
use Rattle.rule_says.proofs.Mets.{meets_none, meets_iff, meets_within, meets_term, AskAt, SpeakAt}
use Rattle.aa_reach.specs.Asked.{IsByRow, IsOfWord, AsksRow, AsksCall, SpeaksCall, AsksPass, SpeaksPass, AsksOpen, SpeaksOpen, body_of}
use Rattle.aa_reach.proofs.Below.{low_facts, unreached_is, same_word}
use Rattle.aa_reach.proofs.Calls.{says_row, no_call_outer}

module _ (m : Module) (ps : Numbered) (is : IsNumbering m ps) where
  -- a fact of a word of another row is spoken of at the same bit
  row_fact : (row h k b : ℕ) (r : Pos) → row ≤ body_count m → is_bit m r b ≡ true → IsOfWord h k (fact r b) →
      (is_bit m (pos.Reach row k) b ≡ true) × (fact r b ≡ unreached_by h (body_of k b))
  row_fact row h k b r low has v =
      let here : is_bit m (pos.Reach h k) b ≡ true = subst (λ p. is_bit m p b ≡ true) v.0 has in
      let small = is_bit_small m (pos.Reach h k) b here in
      (same_word m h row k b low here, ap (λ p. fact p b) v.0 ∙ sym (unreached_is h k b small))

  -- and the other way round
  of_word : (h k bit b : ℕ) (r : Pos) → bit < 47 → fact r b ≡ unreached_by h (body_of k bit) → IsOfWord h k (fact r b)
  of_word h k bit b r small e =
      let same = e ∙ unreached_is h k bit small in
      (ap (λ (y : Fact). y.pos) same, subst (λ n. IsSet FACTS n) (sym (ap (λ (y : Fact). y.bit) same)) (low_facts bit small))

  module _ (row k q : ℕ) (o : Op) (low : row ≤ body_count m) where
    -- a call passes by where its segment is dead or its term says so
    pub passed : (old new : System) (term t : NewTerm) → length old.masks ≡ length ps.list → is_call o ≡ true → Says m ps FACTS term (AsksCall m k o)
        (SpeaksCall m k o) →
        IsUnless ps t (segment q) DEAD term → IsMet ps old new (pos.Reach row k) FACTS t → Meets m ps old new (AsksPass m row k q o) (SpeaksPass m row k q o)
    passed old new term t long call says tested met =
        meets_within m ps is old new (AskAt m ps (pos.Reach row k) FACTS (λ held bit. Has held (segment q) DEAD ⊎ AsksCall m k o held bit)) (AsksPass
        m row k q o)
        (SpeakAt m ps (pos.Reach row k) FACTS (λ y. (y ≡ fact (segment q) DEAD) ⊎ SpeaksCall m k o y)) (SpeaksPass m row k q o)
        (meets_term m ps is old new (pos.Reach row k) FACTS t (λ held bit. Has held (segment q) DEAD ⊎ AsksCall m k o held bit) (λ y. (y ≡ fact
        (segment q) DEAD) ⊎ SpeaksCall m k o y) long met
        (says_unless m ps is FACTS t (segment q) DEAD term (AsksCall m k o) (SpeaksCall m k o) (omega arith) tested says))
        (λ held p bit bits. (down held p bit, up held p bit))
        (λ p r bit has. (speak_down p r bit has, speak_up p r bit))
      where
        alive : (held : Fact → Bool) (bit : ℕ) → Has held (segment q) DEAD ⊎ AsksCall m k o held bit → held (dead q) ≡ false → PassesBy m held
            (body_of k bit) o
        alive held bit (inl h) live = absurd (both_ways (held (dead q)) live h)
        alive held bit (inr h) live = h

        down : (held : Fact → Bool) (p : Pos) (bit : ℕ) → AskAt m ps (pos.Reach row k) FACTS (λ held bit. Has held (segment q) DEAD ⊎ AsksCall m k o
            held bit) held p bit → AsksPass m row k q o held p bit
        down held p bit h here has live =
            let at : is_bit m (pos.Reach row k) bit ≡ true = subst (λ r. is_bit m r bit ≡ true) here has in
            alive held bit (h here (low_facts bit (is_bit_small m (pos.Reach row k) bit at)) at) live

        decided : (held : Fact → Bool) (bit : ℕ) (test : Bool) → held (dead q) ≡ test → (held (dead q) ≡ false → PassesBy m held (body_of k bit) o) →
            Has held (segment q) DEAD ⊎ AsksCall m k o held bit
        decided held bit true e h = inl e
        decided held bit false e h = inr (h e)

        up : (held : Fact → Bool) (p : Pos) (bit : ℕ) → AsksPass m row k q o held p bit → AskAt m ps (pos.Reach row k) FACTS (λ held bit. Has held
            (segment q) DEAD ⊎ AsksCall m k o held bit) held p bit
        up held p bit h here set has = decided held bit (held (dead q)) refl (h here (subst (λ r. is_bit m r bit ≡ true) (sym here) has))

        speak_down : (p r : Pos) (b : ℕ) → is_bit m r b ≡ true →
            SpeakAt m ps (pos.Reach row k) FACTS (λ y. (y ≡ fact (segment q) DEAD) ⊎ SpeaksCall m k o y) p (fact r b) → SpeaksPass m row k q o p (fact r b)
        speak_down p r b has w = elim w.2 [
          | inl here ↦ (w.0, w.1.0, subst (λ s. is_bit m s w.1.0 ≡ true) (sym w.0) w.1.2, call, inl here)
          | inr spoken ↦ called spoken
        ]
          where
            called : SpeaksCall m k o (fact r b) → SpeaksPass m row k q o p (fact r b)
            called (inl v) =
                let f = row_fact row (rank m v.0) k b r low has v.2 in
                (w.0, b, subst (λ s. is_bit m s b ≡ true) (sym w.0) f.0, call, inr (inl (v.0, v.1, f.1)))
            called (inr v) =
                let f = row_fact row (body_count m) k b r low has v.1 in
                (w.0, b, subst (λ s. is_bit m s b ≡ true) (sym w.0) f.0, call, inr (inr (v.0, f.1)))

        speak_up : (p r : Pos) (b : ℕ) → SpeaksPass m row k q o p (fact r b) →
            SpeakAt m ps (pos.Reach row k) FACTS (λ y. (y ≡ fact (segment q) DEAD) ⊎ SpeaksCall m k o y) p (fact r b)
        speak_up p r b w =
            let at : is_bit m (pos.Reach row k) w.1 ≡ true = subst (λ s. is_bit m s w.1 ≡ true) w.0 w.2 in
            let small = is_bit_small m (pos.Reach row k) w.1 at in
            (w.0, (w.1, low_facts w.1 small, at), spoken small w.4)
          where
            spoken : w.1 < 47 → PassingSpeaks m (body_of k w.1) (spot q 0) o (fact r b) → (fact r b ≡ fact (segment q) DEAD) ⊎ SpeaksCall m k o (fact r b)
            spoken small (inl here) = inl here
            spoken small (inr (inl v)) = inr (inl (v.0, v.1, of_word (rank m v.0) k w.1 b r small v.2))
            spoken small (inr (inr v)) = inr (inr (v.0, of_word (body_count m) k w.1 b r small v.1))

    -- what is no call asks nothing
    pub no_call_passed : (s : System) → is_call o ≡ false → ((h : ℕ) → inner_callee m o ≡ Some h → ⊥) → Meets m ps s s (AsksPass m row k q o)
        (SpeaksPass m row k q o)
    no_call_passed s none silent =
        meets_iff m ps s s (λ held p bit. Unit {0}) (AsksPass m row k q o) (λ p y. ⊥) (SpeaksPass m row k q o) (meets_none m ps s)
        (λ held p bit. ((λ h here has live. record { inner = λ h e. absurd (silent h e); outer = λ e. absurd (no_call_outer m o none e) }), λ h. tt))
        (λ p y. ((λ w. absurd w), λ w. absurd (both_ways (is_call o) none w.3)))

  -- ---- the outside

  module _ (k f : ℕ) where
    -- an open body
    pub entered : (old new : System) (t : NewTerm) → length old.masks ≡ length ps.list → is_open m f ≡ true → IsByRow ps t (rank m f) k →
        IsMet ps old new (pos.Reach (body_count m) k) FACTS t → Meets m ps old new (AsksOpen m k f) (SpeaksOpen m k f)
    entered old new t long opened by_row met =
        meets_within m ps is old new (AskAt m ps (pos.Reach (body_count m) k) FACTS (AsksRow (rank m f) k)) (AsksOpen m k f)
        (SpeakAt m ps (pos.Reach (body_count m) k) FACTS (IsOfWord (rank m f) k)) (SpeaksOpen m k f)
        (meets_term m ps is old new (pos.Reach (body_count m) k) FACTS t (AsksRow (rank m f) k) (IsOfWord (rank m f) k) long met (says_row m ps is t
        (rank m f) k by_row))
        (λ held p bit bits. (down held p bit, up held p bit))
        (λ p r bit has. (speak_down p r bit has, speak_up p r bit))
      where
        down : (held : Fact → Bool) (p : Pos) (bit : ℕ) → AskAt m ps (pos.Reach (body_count m) k) FACTS (AsksRow (rank m f) k) held p bit → AsksOpen
            m k f held p bit
        down held p bit h here has e =
            let at : is_bit m (pos.Reach (body_count m) k) bit ≡ true = subst (λ r. is_bit m r bit ≡ true) here has in
            h here (low_facts bit (is_bit_small m (pos.Reach (body_count m) k) bit at)) at

        up : (held : Fact → Bool) (p : Pos) (bit : ℕ) → AsksOpen m k f held p bit → AskAt m ps (pos.Reach (body_count m) k) FACTS (AsksRow (rank m f)
            k) held p bit
        up held p bit h here set has = h here (subst (λ r. is_bit m r bit ≡ true) (sym here) has) opened

        speak_down : (p r : Pos) (b : ℕ) → is_bit m r b ≡ true → SpeakAt m ps (pos.Reach (body_count m) k) FACTS (IsOfWord (rank m f) k) p (fact r b)
            → SpeaksOpen m k f p (fact r b)
        speak_down p r b has w =
            let v = row_fact (body_count m) (rank m f) k b r (omega arith) has w.2 in
            (w.0, b, subst (λ s. is_bit m s b ≡ true) (sym w.0) v.0, opened, v.1)

        speak_up : (p r : Pos) (b : ℕ) → SpeaksOpen m k f p (fact r b) → SpeakAt m ps (pos.Reach (body_count m) k) FACTS (IsOfWord (rank m f) k) p (fact r b)
        speak_up p r b w =
            let at : is_bit m (pos.Reach (body_count m) k) w.1 ≡ true = subst (λ s. is_bit m s w.1 ≡ true) w.0 w.2 in
            let small = is_bit_small m (pos.Reach (body_count m) k) w.1 at in
            (w.0, (w.1, low_facts w.1 small, at), of_word (rank m f) k w.1 b r small w.4)

    -- what is not open asks nothing
    pub not_entered : (s : System) → is_open m f ≡ false → Meets m ps s s (AsksOpen m k f) (SpeaksOpen m k f)
    not_entered s closed =
        meets_iff m ps s s (λ held p bit. Unit {0}) (AsksOpen m k f) (λ p y. ⊥) (SpeaksOpen m k f) (meets_none m ps s)
        (λ held p bit. ((λ h here has e. absurd (both_ways (is_open m f) closed e)), λ h. tt))
        (λ p y. ((λ w. absurd w), λ w. absurd (both_ways (is_open m f) closed w.3)))
