-- What is true of every state of a run: numbers fall, blocks do not overlap, and each value anywhere is to a block that exists.
use Rattle.std.specs.Prelude.{◌≡◌, ◌≢◌, ℕ, ◌+◌, ◌^◌, ◌<◌, ◌≤◌, true, List, [], ◌∷◌, Option, None, Some}
use Rattle.std.specs.List.{AllByRecursion}
use Rattle.ir_module.specs.declared.op.Symbol.{Symbol}
use Rattle.ir_machine.specs.declared.choice.Datum.{Datum}
use Rattle.ir_machine.specs.declared.choice.Datum.TheVariants as datum
use Rattle.ir_machine.specs.declared.choice.Mark.{Mark}
use Rattle.ir_machine.specs.declared.choice.Value.{Value}
use Rattle.ir_machine.specs.declared.choice.Byte.{Byte}
use Rattle.ir_machine.specs.declared.choice.Byte.TheVariants as byte
use Rattle.ir_machine.specs.Memory.{OfSymbol, OfAlloca, Dead, Memory, are_apart}
use Rattle.ir_machine.specs.Frames.{Begun, Frame, Body, Outside, State, call_of}

-- how many blocks there are, the number of the next call, and how many blocks there were when each call began
pub record Scope : Type 0 where
  pub count : ℕ
  pub next_call : ℕ
  pub born : ℕ → ℕ

-- the scope of a state
abbrev pub scope_of : State → Scope
scope_of t = record { count = t.memory.count; next_call = t.next_call; born = t.born }

-- if it is a pointer, it is to one of the first so many blocks
abbrev pub IsAmongFirst : ℕ → Datum → Type 0
IsAmongFirst count (datum.Ptr block offset) = block < count
IsAmongFirst count datum.Null = Unit {0}
IsAmongFirst count datum.Undef = Unit {0}
IsAmongFirst count datum.Poison = Unit {0}
IsAmongFirst count (datum.Int bits) = Unit {0}
IsAmongFirst count datum.Pair = Unit {0}

-- a mark names a call that has begun, and a pointer that has it is to a block older than that call
abbrev pub IsMarkKnown : Scope → Datum → Mark → Type 0
IsMarkKnown s d k = (k.call < s.next_call) × IsAmongFirst (s.born k.call) d

-- a pointer is to a block that exists, and each of its marks is known
abbrev pub Known : Scope → Value → Type 0
Known s x = IsAmongFirst s.count x.datum × AllByRecursion (IsMarkKnown s x.datum) x.origins

-- ---- each value anywhere

-- the value, where there is one, is P
abbrev pub IsSomeOf : (Value → Type 0) → Option Value → Type 0
IsSomeOf P None = Unit {0}
IsSomeOf P (Some x) = P x

-- the pointer of a fragment is P
abbrev pub IsByteOf : (Value → Type 0) → Byte → Type 0
IsByteOf P (byte.Number n) = Unit {0}
IsByteOf P byte.Undef = Unit {0}
IsByteOf P byte.Poison = Unit {0}
IsByteOf P (byte.Fragment k x) = P x

-- the arguments of a call are P, as passed and as it has them
abbrev pub HasArgsOf : (Value → Type 0) → Begun → Type 0
HasArgsOf P call = AllByRecursion P call.passed × AllByRecursion P call.args

-- each value of a frame is P
abbrev pub HasAll : (Value → Type 0) → Frame → Type 0
HasAll P (Body frame) = HasArgsOf P frame.call × ((v : ℕ) → IsSomeOf P (frame.values v))
HasAll P (Outside frame) = HasArgsOf P frame.call × AllByRecursion P frame.hand

-- each value anywhere in a state is P: in frames, kept by the outside, and in memory
pub record AllAre (P : Value → Type 0) (t : State) : Type 0 where
  pub frames : AllByRecursion (HasAll P) t.stack
  pub kept : AllByRecursion P t.kept
  pub bytes : (b at : ℕ) → IsByteOf P (t.memory.bytes b at)

-- ---- order

-- From the top down the numbers of calls fall, and none began with more blocks than the one above it. A frame's call knows
-- what the state does of how many blocks there were.
abbrev pub AreOrdered : (ℕ → ℕ) → ℕ → ℕ → List Frame → Type 0
AreOrdered born next most [] = Unit {0}
AreOrdered born next most (frame ∷ below) =
    let call = call_of frame in
    (call.number < next) × (call.born ≤ most) × (born call.number ≡ call.born) × AreOrdered born call.number call.born below

-- the blocks of a memory: each lies in the address space, above 0; no two that are not dead overlap; a symbol's block is made for
-- it; an alloca names a call that has begun and is no older than that call
pub record AreBlocks (mem : Memory) (s : Scope) : Type 0 where
  pub placed : (b : ℕ) → b < mem.count → (0 < (mem.shape b).base) × ((mem.shape b).base + (mem.shape b).size < 2 ^ 64)
  pub apart : (a b : ℕ) → a < mem.count → b < a → mem.life a ≢ Dead → mem.life b ≢ Dead →
      are_apart (mem.shape a).base (mem.shape a).size (mem.shape b).base (mem.shape b).size ≡ true
  pub homes : (symbol : Symbol) (b : ℕ) → mem.home symbol ≡ Some b → (b < mem.count) × ((mem.shape b).kind ≡ OfSymbol symbol)
  pub allocas : (b call value : ℕ) → b < mem.count → (mem.shape b).kind ≡ OfAlloca call value → (call < s.next_call) × (s.born call ≤ b)

-- what is true of every state of a run
pub record IsValid (t : State) : Type 0 where
  pub order : AreOrdered t.born t.next_call t.memory.count t.stack
  pub begun : (n : ℕ) → n < t.next_call → t.born n ≤ t.memory.count
  pub blocks : AreBlocks t.memory (scope_of t)
  pub known : AllAre (Known (scope_of t)) t

-- ---- what a step leaves as it is

-- a later memory: the blocks keep their number, base, size and kind, symbols their blocks, and the dead stay dead
pub record IsLater (mem later : Memory) : Type 0 where
  pub count : mem.count ≤ later.count
  pub home : (symbol : Symbol) → later.home symbol ≡ mem.home symbol
  pub shape : (b : ℕ) → b < mem.count → later.shape b ≡ mem.shape b
  pub dead : (b : ℕ) → b < mem.count → mem.life b ≡ Dead → later.life b ≡ Dead
