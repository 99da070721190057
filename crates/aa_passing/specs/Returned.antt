-- What is asked of the returns of bodies, by each `ret`.
use Rattle.std.specs.Prelude.{◌≡◌, ◌⊎◌, ℕ, Bool, true, false, None, Some}
use Rattle.lattice_words.specs.Ladders.{is_byte_bit}
use Rattle.ir_module.specs.declared.op.Written.{Written}
use Rattle.ir_module.specs.declared.op.Op.{Op}
use Rattle.ir_module.specs.declared.op.Op.TheVariants as op
use Rattle.ir_module.specs.declared.module.Seg.{Seg}
use Rattle.ir_module.specs.declared.module.Module.{Module}
use Rattle.ir_module.specs.Places.{IsSegIn}
use Rattle.facts.specs.declared.pos.Pos.{Pos}
use Rattle.facts.specs.Kinds.{OwnAlloca, Unknown, class_bit}
use Rattle.facts.specs.Facts.{Fact, returned, dead}
use Rattle.facts.specs.Masks.{is_bit}
use Rattle.facts.specs.Known.{written_has, OperandSpeaks}
use Rattle.rule_says.specs.Saying.{IsSet}
use Rattle.rule_says.specs.Listing.{AskAll, SpeakAny}

-- ---- an operand that segment k returns

-- bits that are no rungs of bytes
abbrev pub AsksPlain : Module → ℕ → ℕ → Written → (Fact → Bool) → Pos → ℕ → Type 0
AsksPlain m k f w held p bit = p ≡ returned f → is_bit m p bit ≡ true → is_byte_bit bit ≡ false → held (dead k) ≡ false → written_has m held w bit ≡ true

abbrev pub SpeaksPlain : Module → ℕ → ℕ → Written → Pos → Fact → Type 0
SpeaksPlain m k f w p y = (bit : ℕ) × (p ≡ returned f) × (is_bit m p bit ≡ true) × (is_byte_bit bit ≡ false) × ((y ≡ dead k) ⊎ OperandSpeaks w bit y)

-- the operand has the rung of bytes, and they are in no alloca
abbrev pub AsksLasting : Module → Written → (Fact → Bool) → ℕ → Type 0
AsksLasting m w held bit =
    (written_has m held w bit ≡ true) × ((written_has m held w (class_bit OwnAlloca) ≡ true) × (written_has m held w (class_bit Unknown) ≡ true))

abbrev pub SpeaksLasting : Written → ℕ → Fact → Type 0
SpeaksLasting w bit y = OperandSpeaks w bit y ⊎ (OperandSpeaks w (class_bit OwnAlloca) y ⊎ OperandSpeaks w (class_bit Unknown) y)

-- one of these rungs
abbrev pub SpeaksRungs : Written → ℕ → Fact → Type 0
SpeaksRungs w bits y = ((bit : ℕ) × IsSet bits bit × OperandSpeaks w bit y) ⊎ (OperandSpeaks w (class_bit OwnAlloca) y ⊎ OperandSpeaks w (class_bit Unknown) y)

-- rungs of bytes
abbrev pub AsksBytes : Module → ℕ → ℕ → Written → (Fact → Bool) → Pos → ℕ → Type 0
AsksBytes m k f w held p bit = p ≡ returned f → is_bit m p bit ≡ true → is_byte_bit bit ≡ true → held (dead k) ≡ false → AsksLasting m w held bit

abbrev pub SpeaksBytes : Module → ℕ → ℕ → Written → Pos → Fact → Type 0
SpeaksBytes m k f w p y = (bit : ℕ) × (p ≡ returned f) × (is_bit m p bit ≡ true) × (is_byte_bit bit ≡ true) × ((y ≡ dead k) ⊎ SpeaksLasting w bit y)

-- both
abbrev pub AsksBack : Module → ℕ → ℕ → Written → (Fact → Bool) → Pos → ℕ → Type 0
AsksBack m k f w held p bit = AsksPlain m k f w held p bit × AsksBytes m k f w held p bit

abbrev pub SpeaksBack : Module → ℕ → ℕ → Written → Pos → Fact → Type 0
SpeaksBack m k f w p y = SpeaksPlain m k f w p y ⊎ SpeaksBytes m k f w p y

-- ---- no operand: nothing is returned that has a bit
abbrev pub AsksNothing : Module → ℕ → ℕ → (Fact → Bool) → Pos → ℕ → Type 0
AsksNothing m k f held p bit = p ≡ returned f → is_bit m p bit ≡ true → held (dead k) ≡ true

abbrev pub SpeaksNothing : Module → ℕ → ℕ → Pos → Fact → Type 0
SpeaksNothing m k f p y = (bit : ℕ) × (p ≡ returned f) × (is_bit m p bit ≡ true) × (y ≡ dead k)

-- ---- an instruction of segment k

abbrev pub AsksRetOf : Module → ℕ → ℕ → Op → (Fact → Bool) → Pos → ℕ → Type 0
AsksRetOf m k f (op.Ret (Some w)) = AsksBack m k f w
AsksRetOf m k f (op.Ret None) = AsksNothing m k f
AsksRetOf m k f _ = λ held p bit. Unit {0}

abbrev pub SpeaksRetOf : Module → ℕ → ℕ → Op → Pos → Fact → Type 0
SpeaksRetOf m k f (op.Ret (Some w)) = SpeaksBack m k f w
SpeaksRetOf m k f (op.Ret None) = SpeaksNothing m k f
SpeaksRetOf m k f _ = λ p y. ⊥

-- in the body in which the segment stands
abbrev pub AsksRet : Module → ℕ → Op → (Fact → Bool) → Pos → ℕ → Type 0
AsksRet m k o held p bit = (f : ℕ) → IsSegIn m f k → AsksRetOf m k f o held p bit

abbrev pub SpeaksRet : Module → ℕ → Op → Pos → Fact → Type 0
SpeaksRet m k o p y = (f : ℕ) × IsSegIn m f k × SpeaksRetOf m k f o p y

-- ---- all of them

abbrev pub AsksRets : Module → ℕ → Seg → (Fact → Bool) → Pos → ℕ → Type 0
AsksRets m k seg = AskAll seg.instrs (λ at i. AsksRet m k i.op)

abbrev pub SpeaksRets : Module → ℕ → Seg → Pos → Fact → Type 0
SpeaksRets m k seg = SpeakAny seg.instrs (λ at i. SpeaksRet m k i.op)

abbrev pub AsksReturned : Module → (Fact → Bool) → Pos → ℕ → Type 0
AsksReturned m = AskAll m.segs (λ k seg. AsksRets m k seg)

abbrev pub SpeaksReturned : Module → Pos → Fact → Type 0
SpeaksReturned m = SpeakAny m.segs (λ k seg. SpeaksRets m k seg)
