-- The parts of the rules of control, one after the other.
use Rattle.std.proofs.Common.{◌≡◌, ◌⊎◌, ℕ, Bool, true, length, slice_get, Some, sym, ap, subst, ◌∙◌}
use Rattle.lattice_words.specs.declared.function.TheConstants.{ALL_CONTROL}
use Rattle.ir_module.specs.declared.op.Instr.{Instr}
use Rattle.ir_module.specs.declared.module.Seg.{Seg}
use Rattle.ir_module.specs.declared.module.Block.{Block}
use Rattle.ir_module.specs.declared.module.Module.{Module}
use Rattle.ir_module.specs.Places.{IsSegIn}
use Rattle.facts.specs.declared.pos.Pos.{Pos}
use Rattle.facts.specs.Kinds.{NoUnwind, NoReturn, NoFree}
use Rattle.facts.specs.Facts.{Fact, fact, function, effect}
use Rattle.facts.specs.Masks.{is_bit}
use Rattle.rule_terms.specs.declared.term.NewTerm.{NewTerm}
use Rattle.rule_terms.specs.System.{System}
use Rattle.positions.specs.Numbering.{Numbered}
use Rattle.rule_says.specs.Reading.{IsNumbering}
use Rattle.rule_says.specs.Saying.{IsSet, Has, IsWord}
use Rattle.rule_says.specs.Meeting.{Meets, HasSome, IsMet}
use Rattle.rule_says.proofs.Terms.{says_word}
use Rattle.rule_says.proofs.Mets.{meets_then, meets_iff, meets_within, meets_term, AskAt, SpeakAt}
use Rattle.aa_control.specs.Control.{AsksControl, SpeaksControl}
use Rattle.aa_control.specs.Asked.{AsksKind, SpeaksKind, AsksInstr, SpeaksInstr, AsksEffects, SpeaksEffects, AsksBody, SpeaksBody, AsksBodies, SpeaksBodies}
use Rattle.aa_control.specs.Coming.{AsksDeads, SpeaksDeads}
use Rattle.aa_control.proofs.Whole.{asks_down, asks_up, speaks_down, speaks_up}

module _ (m : Module) (ps : Numbered) where
  -- the three facts of one instruction
  pub instr_met : (k : ℕ) (i : Instr) (a b c d : System) → Meets m ps a b (AsksKind m NoUnwind k i.op) (SpeaksKind m NoUnwind k i.op) →
      Meets m ps b c (AsksKind m NoReturn k i.op) (SpeaksKind m NoReturn k i.op) → Meets m ps c d (AsksKind m NoFree k i.op) (SpeaksKind m NoFree k i.op) →
      Meets m ps a d (AsksInstr m k i) (SpeaksInstr m k i)
  instr_met k i a b c d unwinds returns frees =
      meets_then m ps a b d (AsksKind m NoUnwind k i.op) (λ held p bit. AsksKind m NoReturn k i.op held p bit × AsksKind m NoFree k i.op held p bit)
      (SpeaksKind m NoUnwind k i.op) (λ p y. SpeaksKind m NoReturn k i.op p y ⊎ SpeaksKind m NoFree k i.op p y) unwinds
      (meets_then m ps b c d (AsksKind m NoReturn k i.op) (AsksKind m NoFree k i.op) (SpeaksKind m NoReturn k i.op) (SpeaksKind m NoFree k i.op) returns frees)

  module _ (is : IsNumbering m ps) where
    -- one segment of a body
    pub body_met : (f k : ℕ) (old new : System) (t : NewTerm) → IsSegIn m f k → ((g : ℕ) → IsSegIn m g k → g ≡ f) → length old.masks ≡ length ps.list →
        IsWord ps ALL_CONTROL t (effect k) → IsMet ps old new (function f) ALL_CONTROL t → Meets m ps old new (AsksBody m k) (SpeaksBody m k)
    body_met f k old new t within only long reads met =
        meets_iff m ps old new (AskAt m ps (function f) ALL_CONTROL (λ held bit. Has held (effect k) bit)) (AsksBody m k)
        (SpeakAt m ps (function f) ALL_CONTROL (λ y. (y.pos ≡ effect k) × IsSet ALL_CONTROL y.bit)) (SpeaksBody m k)
        (meets_term m ps is old new (function f) ALL_CONTROL t (λ held bit. Has held (effect k) bit) (λ y. (y.pos ≡ effect k) ×
        IsSet ALL_CONTROL y.bit) long met
        (says_word m ps is ALL_CONTROL t (effect k) reads))
        (λ held p bit. (down held p bit, up held p bit))
        (λ p y. (speak_down p y, speak_up p y))
      where
        down : (held : Fact → Bool) (p : Pos) (bit : ℕ) → AskAt m ps (function f) ALL_CONTROL (λ held bit. Has held (effect k) bit) held p bit →
            AsksBody m k held p bit
        down held p bit h g here at set has =
            let same : p ≡ function f = at ∙ ap function (only g here) in h same set (subst (λ q. is_bit m q bit ≡ true) same has)

        up : (held : Fact → Bool) (p : Pos) (bit : ℕ) → AsksBody m k held p bit →
            AskAt m ps (function f) ALL_CONTROL (λ held bit. Has held (effect k) bit) held p bit
        up held p bit h at set has = h f within at set (subst (λ q. is_bit m q bit ≡ true) (sym at) has)

        speak_down : (p : Pos) (y : Fact) → SpeakAt m ps (function f) ALL_CONTROL (λ y. (y.pos ≡ effect k) × IsSet ALL_CONTROL y.bit) p y → SpeaksBody m k p y
        speak_down p y w = (f, within, w.0, subst (λ q. HasSome m q ALL_CONTROL) (sym w.0) w.1, w.2.0, w.2.1)

        speak_up : (p : Pos) (y : Fact) → SpeaksBody m k p y → SpeakAt m ps (function f) ALL_CONTROL (λ y. (y.pos ≡ effect k) × IsSet ALL_CONTROL y.bit) p y
        speak_up p y w =
            let same : p ≡ function f = w.2 ∙ ap function (only w.0 w.1) in
            (same, subst (λ q. HasSome m q ALL_CONTROL) same w.3, (w.4, w.5))

    -- effects, bodies, and then segments
    pub all_met : (a b c d : System) → Meets m ps a b (AsksEffects m) (SpeaksEffects m) → Meets m ps b c (AsksBodies m) (SpeaksBodies m) →
        Meets m ps c d (AsksDeads m) (SpeaksDeads m) → Meets m ps a d (AsksControl m) (SpeaksControl m)
    all_met a b c d effects bodies deads =
        meets_within m ps is a d (λ held p bit. AsksEffects m held p bit × (AsksBodies m held p bit × AsksDeads m held p bit)) (AsksControl m)
        (λ p y. SpeaksEffects m p y ⊎ (SpeaksBodies m p y ⊎ SpeaksDeads m p y)) (SpeaksControl m)
        (meets_then m ps a b d (AsksEffects m) (λ held p bit. AsksBodies m held p bit × AsksDeads m held p bit) (SpeaksEffects m)
        (λ p y. SpeaksBodies m p y ⊎ SpeaksDeads m p y) effects
        (meets_then m ps b c d (AsksBodies m) (AsksDeads m) (SpeaksBodies m) (SpeaksDeads m) bodies deads))
        (λ held p bit bits. (asks_down m held p bit, asks_up m held p bit))
        (λ p q bit has. (speaks_down m p q bit has, speaks_up m p (fact q bit)))

-- a segment stands in one body
pub one_body : (m : Module) (k f g : ℕ) → IsSegIn m f k → IsSegIn m g k → g ≡ f
one_body m k f g first second =
    let seg : second.seg ≡ first.seg = (let a = first.at_seg in let b = second.at_seg in cc) in
    let block : second.block ≡ first.block = (let a = first.at_block in let b : slice_get m.blocks first.seg.block.0 ≡ Some second.block =
    subst (λ (s : Seg). slice_get m.blocks s.block.0 ≡ Some second.block) seg second.at_block in cc) in
    sym second.in_func ∙ (ap (λ (b : Block). b.func.0) block ∙ first.in_func)
