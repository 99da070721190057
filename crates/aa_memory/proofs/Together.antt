-- The parts of the rules of memory, one after the other.
use Rattle.std.proofs.lemmas.Bool.{ne_eqb}
use Rattle.std.proofs.Common.{arith, ◌≡◌, not, ◌⊎◌, ℕ, Bool, true, length, slice_get, Some, sym, ap, subst, ◌∙◌, inl, inr}
use Rattle.lattice_words.specs.declared.function.TheConstants.{ALL_MEMORY}
use Rattle.ir_module.specs.declared.op.Op.{Op}
use Rattle.ir_module.specs.declared.op.Instr.{Instr}
use Rattle.ir_module.specs.declared.module.Seg.{Seg}
use Rattle.ir_module.specs.declared.module.Block.{Block}
use Rattle.ir_module.specs.declared.module.Module.{Module}
use Rattle.ir_module.specs.declared.module.Func.{Func}
use Rattle.ir_module.specs.declared.module.Spot.{Spot}
use Rattle.ir_module.specs.Places.{spot, IsSegIn}
use Rattle.ir_module.specs.Operands.{operands}
use Rattle.ir_module.specs.Calls.{has_blocks}
use Rattle.ir_module.specs.Formed.{IsBlockOf, IsValueIn, IsOperandIn}
use Rattle.ir_module.specs.WellFormed.{IsWellFormed, HasHome}
use Rattle.ir_module.proofs.Spots.{at_spot, IsFormedAt, formed_at}
use Rattle.facts.specs.Bodies.{is_body}
use Rattle.positions.specs.Order.{belongs}
use Rattle.facts.specs.declared.pos.Pos.{Pos}
use Rattle.facts.specs.Kinds.{Access, Read, Write, Location, Default, Argmem, Inaccessible, NoAccess}
use Rattle.facts.specs.Facts.{Fact, fact, function, value, effect}
use Rattle.facts.specs.Masks.{is_bit}
use Rattle.rule_terms.specs.declared.term.NewTerm.{NewTerm}
use Rattle.rule_terms.specs.System.{System}
use Rattle.positions.specs.Numbering.{Numbered}
use Rattle.rule_says.specs.Reading.{IsNumbering}
use Rattle.rule_says.specs.Saying.{IsSet, Has, IsWord}
use Rattle.rule_says.specs.Meeting.{Meets, HasSome, IsMet}
use Rattle.rule_says.proofs.Terms.{says_word}
use Rattle.rule_says.proofs.Mets.{meets_then, meets_iff, meets_within, meets_term, AskAt, SpeakAt}
use Rattle.aa_memory.specs.Memory.{AsksMemory, SpeaksMemory}
use Rattle.aa_memory.specs.Asked.{AsksKind, SpeaksKind, AsksAccess, SpeaksAccess, AsksInstr}
use Rattle.aa_memory.specs.Asked.{SpeaksInstr, AsksEffects, SpeaksEffects, AsksBody, SpeaksBody, AreKnown}
use Rattle.aa_memory.specs.Asked.{AsksBodies, SpeaksBodies}
use Rattle.aa_memory.proofs.Whole.{asks_down, asks_up, speaks_down, speaks_up}

-- a function with a block has blocks
pub some_blocks : (func : Func) {i : ℕ} → IsBlockOf func i → has_blocks (Some func) ≡ true
some_blocks func run = ap not (ne_eqb func.block_count 0 (λ none. let low = run.0 in let high = run.1 in omega (arith, none, low, high)))

module _ (m : Module) (ps : Numbered) where
  -- the three locations
  module _ (a : Access) (k : ℕ) (o : Op) where
    abbrev pub AsksOf : Location → (Fact → Bool) → Pos → ℕ → Type 0
    AsksOf location = AsksKind m (NoAccess a location) k o

    abbrev pub SpeaksOf : Location → Pos → Fact → Type 0
    SpeaksOf location = SpeaksKind m (NoAccess a location) k o

    abbrev AsksRest : (Fact → Bool) → Pos → ℕ → Type 0
    AsksRest held p bit = AsksOf Argmem held p bit × AsksOf Inaccessible held p bit

    abbrev SpeaksRest : Pos → Fact → Type 0
    SpeaksRest p y = SpeaksOf Argmem p y ⊎ SpeaksOf Inaccessible p y

    pub access_met : (s t u v : System) → Meets m ps s t (AsksOf Default) (SpeaksOf Default) → Meets m ps t u (AsksOf Argmem) (SpeaksOf Argmem) →
        Meets m ps u v (AsksOf Inaccessible) (SpeaksOf Inaccessible) → Meets m ps s v (AsksAccess m a k o) (SpeaksAccess m a k o)
    access_met s t u v default argmem inaccessible =
        meets_iff m ps s v (λ held p bit. AsksOf Default held p bit × AsksRest held p bit) (AsksAccess m a k o)
        (λ p y. SpeaksOf Default p y ⊎ SpeaksRest p y) (SpeaksAccess m a k o)
        (meets_then m ps s t v (AsksOf Default) AsksRest (SpeaksOf Default) SpeaksRest default
        (meets_then m ps t u v (AsksOf Argmem) (AsksOf Inaccessible) (SpeaksOf Argmem) (SpeaksOf Inaccessible) argmem inaccessible))
        (λ held p bit. ((λ w location. down held p bit w location), λ h. (h Default, (h Argmem, h Inaccessible))))
        (λ p y. (spoken p y, λ w. named p y w.0 w.1))
      where
        down : (held : Fact → Bool) (p : Pos) (bit : ℕ) → AsksOf Default held p bit × AsksRest held p bit → (location : Location) →
            AsksOf location held p bit
        down held p bit w Default = w.0
        down held p bit w Argmem = w.1.0
        down held p bit w Inaccessible = w.1.1

        spoken : (p : Pos) (y : Fact) → SpeaksOf Default p y ⊎ SpeaksRest p y → SpeaksAccess m a k o p y
        spoken p y (inl h) = (Default, h)
        spoken p y (inr (inl h)) = (Argmem, h)
        spoken p y (inr (inr h)) = (Inaccessible, h)

        named : (p : Pos) (y : Fact) (location : Location) → SpeaksOf location p y → SpeaksOf Default p y ⊎ SpeaksRest p y
        named p y Default h = inl h
        named p y Argmem h = inr (inl h)
        named p y Inaccessible h = inr (inr h)

  -- reads and writes
  pub instr_met : (k : ℕ) (i : Instr) (s t u : System) → Meets m ps s t (AsksAccess m Read k i.op) (SpeaksAccess m Read k i.op) →
      Meets m ps t u (AsksAccess m Write k i.op) (SpeaksAccess m Write k i.op) → Meets m ps s u (AsksInstr m k i) (SpeaksInstr m k i)
  instr_met k i s t u reads writes =
      meets_iff m ps s u (λ held p bit. AsksAccess m Read k i.op held p bit × AsksAccess m Write k i.op held p bit) (AsksInstr m k i)
      (λ p y. SpeaksAccess m Read k i.op p y ⊎ SpeaksAccess m Write k i.op p y) (SpeaksInstr m k i)
      (meets_then m ps s t u (AsksAccess m Read k i.op) (AsksAccess m Write k i.op) (SpeaksAccess m Read k i.op) (SpeaksAccess m Write k i.op) reads writes)
      (λ held p bit. ((λ w a. down held p bit w a), λ h. (h Read, h Write)))
      (λ p y. (spoken p y, λ w. named p y w.0 w.1))
    where
      down : (held : Fact → Bool) (p : Pos) (bit : ℕ) → AsksAccess m Read k i.op held p bit × AsksAccess m Write k i.op held p bit →
          (a : Access) → AsksAccess m a k i.op held p bit
      down held p bit w Read = w.0
      down held p bit w Write = w.1

      spoken : (p : Pos) (y : Fact) → SpeaksAccess m Read k i.op p y ⊎ SpeaksAccess m Write k i.op p y → SpeaksInstr m k i p y
      spoken p y (inl h) = (Read, h)
      spoken p y (inr h) = (Write, h)

      named : (p : Pos) (y : Fact) (a : Access) → SpeaksAccess m a k i.op p y → SpeaksAccess m Read k i.op p y ⊎ SpeaksAccess m Write k i.op p y
      named p y Read h = inl h
      named p y Write h = inr h

  module _ (is : IsNumbering m ps) where
    -- one segment of a body
    pub body_met : (f k : ℕ) (old new : System) (t : NewTerm) → IsSegIn m f k → ((g : ℕ) → IsSegIn m g k → g ≡ f) → length old.masks ≡ length ps.list →
        IsWord ps ALL_MEMORY t (effect k) → IsMet ps old new (function f) ALL_MEMORY t → Meets m ps old new (AsksBody m k) (SpeaksBody m k)
    body_met f k old new t within only long reads met =
        meets_iff m ps old new (AskAt m ps (function f) ALL_MEMORY (λ held bit. Has held (effect k) bit)) (AsksBody m k)
        (SpeakAt m ps (function f) ALL_MEMORY (λ y. (y.pos ≡ effect k) × IsSet ALL_MEMORY y.bit)) (SpeaksBody m k)
        (meets_term m ps is old new (function f) ALL_MEMORY t (λ held bit. Has held (effect k) bit) (λ y. (y.pos ≡ effect k) ×
        IsSet ALL_MEMORY y.bit) long met
        (says_word m ps is ALL_MEMORY t (effect k) reads))
        (λ held p bit. (down held p bit, up held p bit))
        (λ p y. (speak_down p y, speak_up p y))
      where
        down : (held : Fact → Bool) (p : Pos) (bit : ℕ) → AskAt m ps (function f) ALL_MEMORY (λ held bit. Has held (effect k) bit) held p bit →
            AsksBody m k held p bit
        down held p bit h g here at set has =
            let same : p ≡ function f = at ∙ ap function (only g here) in h same set (subst (λ q. is_bit m q bit ≡ true) same has)

        up : (held : Fact → Bool) (p : Pos) (bit : ℕ) → AsksBody m k held p bit →
            AskAt m ps (function f) ALL_MEMORY (λ held bit. Has held (effect k) bit) held p bit
        up held p bit h at set has = h f within at set (subst (λ q. is_bit m q bit ≡ true) (sym at) has)

        speak_down : (p : Pos) (y : Fact) → SpeakAt m ps (function f) ALL_MEMORY (λ y. (y.pos ≡ effect k) × IsSet ALL_MEMORY y.bit) p y → SpeaksBody m k p y
        speak_down p y w = (f, within, w.0, subst (λ q. HasSome m q ALL_MEMORY) (sym w.0) w.1, w.2.0, w.2.1)

        speak_up : (p : Pos) (y : Fact) → SpeaksBody m k p y → SpeakAt m ps (function f) ALL_MEMORY (λ y. (y.pos ≡ effect k) × IsSet ALL_MEMORY y.bit) p y
        speak_up p y w =
            let same : p ≡ function f = w.2 ∙ ap function (only w.0 w.1) in
            (same, subst (λ q. HasSome m q ALL_MEMORY) same w.3, (w.4, w.5))

    -- effects, and then bodies
    pub all_met : (a b c : System) → Meets m ps a b (AsksEffects m) (SpeaksEffects m) → Meets m ps b c (AsksBodies m) (SpeaksBodies m) →
        Meets m ps a c (AsksMemory m) (SpeaksMemory m)
    all_met a b c effects bodies =
        meets_within m ps is a c (λ held p bit. AsksEffects m held p bit ×
        AsksBodies m held p bit) (AsksMemory m) (λ p y. SpeaksEffects m p y ⊎ SpeaksBodies m p y) (SpeaksMemory m)
        (meets_then m ps a b c (AsksEffects m) (AsksBodies m) (SpeaksEffects m) (SpeaksBodies m) effects bodies)
        (λ held p bit bits. (asks_down m held p bit, asks_up m held p bit))
        (λ p q bit has. (speaks_down m p q bit has, speaks_up m p (fact q bit)))

-- a segment stands in one body
pub one_body : (m : Module) (k f g : ℕ) → IsSegIn m f k → IsSegIn m g k → g ≡ f
one_body m k f g first second =
    let seg : second.seg ≡ first.seg = (let a = first.at_seg in let b = second.at_seg in cc) in
    let block : second.block ≡ first.block = (let a = first.at_block in let b : slice_get m.blocks first.seg.block.0 ≡ Some second.block =
    subst (λ (s : Seg). slice_get m.blocks s.block.0 ≡ Some second.block) seg second.at_block in cc) in
    sym second.in_func ∙ (ap (λ (b : Block). b.func.0) block ∙ first.in_func)

-- the values and the arguments that an instruction of the module names have positions
pub instr_known : (m : Module) (ps : Numbered) → IsWellFormed m → IsNumbering m ps → (k : ℕ) (seg : Seg) (at : ℕ) (i : Instr) →
    slice_get m.segs k ≡ Some seg → slice_get seg.instrs at ≡ Some i → AreKnown ps (operands i.op)
instr_known m ps formed is k seg at i at_seg at_place j w operand v named =
    is.positions.all (value v.0) belongs_there
  where
    s : Spot
    s = spot k at

    there : IsFormedAt m s i
    there = formed_at m s i formed (at_spot m s seg i at_seg at_place)

    info : IsValueIn m there.block.func.0 v.0
    info = subst (λ o. IsOperandIn m there.block.func.0 o) named (there.in_func.names j w operand).1

    home : HasHome m there.stands.seg.block.0 there.block
    home = (formed.blocks there.stands.seg.block.0 there.block there.at_block).home

    body : is_body m there.block.func.0 ≡ true
    body = ap has_blocks home.1 ∙ some_blocks home.0 home.2

    belongs_there : belongs m (slice_get m.values v.0) ≡ true
    belongs_there = ap (belongs m) info.1 ∙ (ap (is_body m) info.2 ∙ body)
