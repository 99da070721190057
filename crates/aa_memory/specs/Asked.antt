-- What is asked, and what is spoken of, for one pointer, one call, one instruction, one segment, and all of them.
use Rattle.std.specs.Prelude.{◌≡◌, ◌⊎◌, ℕ, Bool, true, false, if◌then◌else◌, List, Option, None, Some, is_some, slice_get}
use Rattle.attr_ids.specs.declared.ids.FuncId.{FuncId}
use Rattle.attr_ids.specs.declared.ids.ValueId.{ValueId}
use Rattle.lattice_words.specs.declared.function.TheConstants.{ALL_MEMORY}
use Rattle.lattice_words.specs.declared.value.TheConstants.{NOT_UNKNOWN}
use Rattle.ir_module.specs.declared.op.Symbol.{Symbol}
use Rattle.ir_module.specs.declared.op.Symbol.TheVariants as symbol
use Rattle.ir_module.specs.declared.op.Operand.TheVariants as operand
use Rattle.ir_module.specs.declared.op.Written.{Written}
use Rattle.ir_module.specs.declared.op.Op.{Op}
use Rattle.ir_module.specs.declared.op.Instr.{Instr}
use Rattle.ir_module.specs.declared.module.Seg.{Seg}
use Rattle.ir_module.specs.declared.module.Module.{Module}
use Rattle.ir_module.specs.Places.{IsSegIn}
use Rattle.facts.specs.declared.pos.Pos.{Pos}
use Rattle.facts.specs.Kinds as kinds
use Rattle.facts.specs.Kinds.{Location, FunctionFact, NoAccess, function_bit, class_bit}
use Rattle.facts.specs.Facts.{Fact, function, value, effect, dead}
use Rattle.facts.specs.Bodies.{is_pointer}
use Rattle.facts.specs.Masks.{is_bit}
use Rattle.facts.specs.Promises.{call_has, CallSpeaks}
use Rattle.facts.specs.Memory.{address, IsNotTo, ToSpeaks}
use Rattle.facts.specs.Functions.{Keeps, Concerns, KeepsSpeaks}
use Rattle.rule_terms.specs.declared.term.NewTerm.{NewTerm}
use Rattle.rule_terms.specs.declared.term.NewTerm.TheOpen.{NewTerm-F as new}
use Rattle.rule_terms.specs.declared.term.NewTerm.TheViews.{roll-NewTerm}
use Rattle.positions.specs.Numbering.{Numbered, IsListed}
use Rattle.rule_says.specs.Saying.{IsSet, Has, IsUnless}
use Rattle.rule_says.specs.Meeting.{HasSome}
use Rattle.rule_says.specs.Listing.{AskAll, SpeakAny}
use Rattle.aa_memory.specs.declared.accesses.Access.{Access}
use Rattle.aa_memory.specs.declared.accesses.Class.{Class}
use Rattle.aa_memory.specs.declared.accesses.Class.TheVariants as class
use Rattle.aa_memory.specs.declared.accesses.Callee.{Callee}
use Rattle.aa_memory.specs.Accesses.{access_of, class_of, off, callee_has, CalleeSpeaks}

-- ---- what has a position

-- the value that an operand names has a position
abbrev pub IsKnown : Numbered → Written → Type 0
IsKnown ps w = (v : ValueId) → w.val ≡ operand.Value v → IsListed ps (value v.0)

-- each value that the instruction names has one
abbrev pub AreKnown : Numbered → List Written → Type 0
AreKnown ps ws = (j : ℕ) (w : Written) → slice_get ws j ≡ Some w → IsKnown ps w

-- so has the body that a call runs
abbrev pub IsFound : Numbered → Callee → Type 0
IsFound ps callee = (f : FuncId) → callee.body ≡ Some f → IsListed ps (function f.0)

-- it is no access of this kind
abbrev pub IsNoAccess : Access → Op → Type 0
IsNoAccess a o = address (access_of a) o ≡ None

-- ---- constants

-- there is what the name stands for
abbrev pub is_there : Module → Symbol → Bool
is_there m (symbol.Global g) = is_some (slice_get m.globals g.0)
is_there m (symbol.Func f) = is_some (slice_get m.funcs f.0)

-- the blocks that arguments point to: a name is to none of them
abbrev pub is_argument : Class → Bool
is_argument class.Argument = true
is_argument class.Global = false

-- ---- terms

-- the bits `to`, if it is so
abbrev pub bits_if : Bool → ℕ → ℕ
bits_if test to = if test then to else 0

-- all bits where the position has this one, else none
abbrev pub IsTest : Numbered → NewTerm → Pos → ℕ → Type 0
IsTest ps t p bit = IsUnless ps t p bit (roll-NewTerm (new.Const 0))

-- all bits where the value is to no block of the class
pub record IsValueOff (ps : Numbered) (t : NewTerm) (v : ℕ) (class : Class) : Type 0 where
  pub first : NewTerm
  pub second : NewTerm
  pub of_class : IsTest ps first (value v) (class_bit (class_of class))
  pub of_unknown : IsTest ps second (value v) NOT_UNKNOWN
  pub term : t ≡ roll-NewTerm (new.And first second)

-- the bits `to` where the callee's word has the bit, or it is promised
abbrev pub IsOfCallee : Numbered → NewTerm → ℕ → ℕ → Bool → Option FuncId → Type 0
IsOfCallee ps t bit to promised (Some f) = IsTest ps t (function f.0) bit
IsOfCallee ps t bit to promised None = t ≡ roll-NewTerm (new.Const (bits_if promised to))

-- ---- one instruction

-- something is asked of the effect of segment k for the fact, if the segment is not dead
abbrev pub AsksLive : Module → FunctionFact → ℕ → ((Fact → Bool) → Type 0) → (Fact → Bool) → Pos → ℕ → Type 0
AsksLive m kind k asks held p bit = p ≡ effect k → bit ≡ function_bit kind → is_bit m p bit ≡ true → held (dead k) ≡ false → asks held

-- what is spoken of for it
abbrev pub SpeaksLive : Module → FunctionFact → ℕ → (Fact → Type 0) → Pos → Fact → Type 0
SpeaksLive m kind k speaks p y = (p ≡ effect k) × (is_bit m p (function_bit kind) ≡ true) × ((y ≡ dead k) ⊎ speaks y)

-- an address is to no block of the class
abbrev pub AsksAddress : Module → Access → Class → ℕ → Written → (Fact → Bool) → Pos → ℕ → Type 0
AsksAddress m a class k w = AsksLive m (off a class) k (λ held. IsNotTo m held (class_of class) w)

abbrev pub SpeaksAddress : Module → Access → Class → ℕ → Written → Pos → Fact → Type 0
SpeaksAddress m a class k w = SpeaksLive m (off a class) k (ToSpeaks (class_of class) w)

-- a call makes no such access at the default location
abbrev pub AsksDefault : Module → Access → Class → ℕ → Op → (Fact → Bool) → Pos → ℕ → Type 0
AsksDefault m a class k o = AsksLive m (off a class) k (λ held. call_has m held (NoAccess (access_of a) kinds.Default) o ≡ true)

-- it speaks of both facts of its callee
abbrev pub SpeaksDefault : Module → Access → Class → ℕ → Op → Pos → Fact → Type 0
SpeaksDefault m a class k o = SpeaksLive m (off a class) k
    (λ y. CallSpeaks m (NoAccess (access_of a) kinds.Default) o y ⊎ CallSpeaks m (NoAccess (access_of a) kinds.Argmem) o y)

-- if argument w is a pointer, it is to no block of the class, or the callee makes no such access through its arguments
abbrev pub AsksArg : Module → Access → Class → ℕ → Callee → Written → (Fact → Bool) → Pos → ℕ → Type 0
AsksArg m a class k callee w held p bit = is_pointer m w.ty ≡ true → AsksLive m (off a class) k
    (λ held. (callee_has held (NoAccess (access_of a) kinds.Argmem) callee ≡ true) ⊎ IsNotTo m held (class_of class) w) held p bit

abbrev pub SpeaksArg : Module → Access → Class → ℕ → Callee → Written → Pos → Fact → Type 0
SpeaksArg m a class k callee w p y = (is_pointer m w.ty ≡ true) × SpeaksLive m (off a class) k
    (λ y. CalleeSpeaks (NoAccess (access_of a) kinds.Argmem) callee y ⊎ ToSpeaks (class_of class) w y) p y

-- each argument
abbrev pub AsksArgs : Module → Access → Class → ℕ → Callee → List Written → (Fact → Bool) → Pos → ℕ → Type 0
AsksArgs m a class k callee args = AskAll args (λ at w. AsksArg m a class k callee w)

abbrev pub SpeaksArgs : Module → Access → Class → ℕ → Callee → List Written → Pos → Fact → Type 0
SpeaksArgs m a class k callee args = SpeakAny args (λ at w. SpeaksArg m a class k callee w)

-- the instruction of segment k keeps the fact, if the segment is not dead
abbrev pub AsksKind : Module → FunctionFact → ℕ → Op → (Fact → Bool) → Pos → ℕ → Type 0
AsksKind m kind k o = AsksLive m kind k (λ held. Keeps m held kind o)

abbrev pub SpeaksKind : Module → FunctionFact → ℕ → Op → Pos → Fact → Type 0
SpeaksKind m kind k o p y = Concerns kind o × SpeaksLive m kind k (KeepsSpeaks m kind o) p y

-- the same at each location
abbrev pub AsksAccess : Module → kinds.Access → ℕ → Op → (Fact → Bool) → Pos → ℕ → Type 0
AsksAccess m a k o held p bit = (location : Location) → AsksKind m (NoAccess a location) k o held p bit

abbrev pub SpeaksAccess : Module → kinds.Access → ℕ → Op → Pos → Fact → Type 0
SpeaksAccess m a k o p y = (location : Location) × SpeaksKind m (NoAccess a location) k o p y

-- and for each kind of access
abbrev pub AsksInstr : Module → ℕ → Instr → (Fact → Bool) → Pos → ℕ → Type 0
AsksInstr m k i held p bit = (a : kinds.Access) → AsksAccess m a k i.op held p bit

abbrev pub SpeaksInstr : Module → ℕ → Instr → Pos → Fact → Type 0
SpeaksInstr m k i p y = (a : kinds.Access) × SpeaksAccess m a k i.op p y

-- ---- effects and bodies

-- each instruction of segment k
abbrev pub AsksSeg : Module → ℕ → Seg → (Fact → Bool) → Pos → ℕ → Type 0
AsksSeg m k seg = AskAll seg.instrs (λ at i. AsksInstr m k i)

abbrev pub SpeaksSeg : Module → ℕ → Seg → Pos → Fact → Type 0
SpeaksSeg m k seg = SpeakAny seg.instrs (λ at i. SpeaksInstr m k i)

-- each segment
abbrev pub AsksEffects : Module → (Fact → Bool) → Pos → ℕ → Type 0
AsksEffects m = AskAll m.segs (λ k seg. AsksSeg m k seg)

abbrev pub SpeaksEffects : Module → Pos → Fact → Type 0
SpeaksEffects m = SpeakAny m.segs (λ k seg. SpeaksSeg m k seg)

-- the effect of segment k has the bits of memory that its body has
abbrev pub AsksBody : Module → ℕ → (Fact → Bool) → Pos → ℕ → Type 0
AsksBody m k held p bit = (f : ℕ) → IsSegIn m f k → p ≡ function f → IsSet ALL_MEMORY bit → is_bit m p bit ≡ true → Has held (effect k) bit

abbrev pub SpeaksBody : Module → ℕ → Pos → Fact → Type 0
SpeaksBody m k p y = (f : ℕ) × IsSegIn m f k × (p ≡ function f) × HasSome m p ALL_MEMORY × (y.pos ≡ effect k) × IsSet ALL_MEMORY y.bit

-- each segment of each body
abbrev pub AsksBodies : Module → (Fact → Bool) → Pos → ℕ → Type 0
AsksBodies m = AskAll m.segs (λ k seg. AsksBody m k)

abbrev pub SpeaksBodies : Module → Pos → Fact → Type 0
SpeaksBodies m = SpeakAny m.segs (λ k seg. SpeaksBody m k)
