-- Runs of a module: an opening state, and choices up to the first that ends the run.
use Rattle.std.specs.Prelude.{◌≡◌, ◌≢◌, ℕ, ◌+◌, ◌%◌, ◌^◌, ◌<◌, ◌≤◌, Bool, true, false, List, [], ◌∷◌, map, slice_get, Option, None, Some, is_some}
use Rattle.std.specs.List.{flat_map}
use Rattle.std.specs.Option.{option_map}
use Rattle.ir_module.specs.declared.op.Symbol.{Symbol}
use Rattle.ir_module.specs.declared.op.Symbol.TheVariants as symbol
use Rattle.ir_module.specs.declared.module.Linkage.{Linkage}
use Rattle.ir_module.specs.declared.module.Linkage.TheVariants as linkage
use Rattle.ir_module.specs.declared.module.GlobalVar.{GlobalVar}
use Rattle.ir_module.specs.declared.module.Func.{Func}
use Rattle.ir_module.specs.declared.module.Module.{Module}
use Rattle.ir_machine.specs.declared.choice.Datum.{Datum}
use Rattle.ir_machine.specs.declared.choice.Datum.TheVariants as datum
use Rattle.ir_machine.specs.declared.choice.Byte.{Byte}
use Rattle.ir_machine.specs.declared.choice.Byte.TheVariants as byte
use Rattle.ir_machine.specs.declared.choice.Choice.{Choice}
use Rattle.ir_machine.specs.Memory.{OfSymbol, Shape, Memory, Live, are_apart}
use Rattle.ir_machine.specs.Frames.{Lowest, Begun, Outside, State, What, Event}
use Rattle.ir_machine.specs.Moves.{Move, after, said, Outcome, Gives, Undefined, Over, Plan}
use Rattle.ir_machine.specs.Reading.{size_of, align_or}
use Rattle.ir_machine.specs.Steps.{plan}

-- ---- opening states

-- the linkage of a global or function, none where the module lacks it
abbrev pub linkage_of : Module → Symbol → Option Linkage
linkage_of m (symbol.Global g) = option_map (λ global. global.linkage) (slice_get m.globals g.0)
linkage_of m (symbol.Func f) = option_map (λ func. func.linkage) (slice_get m.funcs f.0)

-- a global or function has the block that is made for it; one that is `extern_weak` may be null instead
abbrev pub HasHome : Memory → Symbol → Linkage → Option ℕ → Type 0
HasHome mem s link (Some block) = (block < mem.count) × ((mem.shape block).kind ≡ OfSymbol s)
HasHome mem s link None = link ≡ linkage.ExternWeak

-- the number, 1 where there is none
abbrev pub or_one : Outcome ℕ → ℕ
or_one (Gives align) = align
or_one Undefined = 1
or_one Over = 1

-- the alignment of a global: the one that is written, else its type's, 1 where that has none
abbrev pub global_align : Module → GlobalVar → ℕ
global_align m global = or_one (align_or m global.ty.0 global.align)

-- a size that a global may have: its type's where it has an initial value, else at least its type's, 0 where that has none
abbrev pub IsGlobalSize : Outcome ℕ → Bool → ℕ → Type 0
IsGlobalSize (Gives bytes) true size = size ≡ bytes
IsGlobalSize (Gives bytes) false size = bytes ≤ size
IsGlobalSize _ has_init size = Unit {0}

-- the size and the base of a global's block
abbrev pub IsGlobalShape : Module → Shape → Option GlobalVar → Type 0
IsGlobalShape m shape None = ⊥
IsGlobalShape m shape (Some global) = IsGlobalSize (size_of m global.ty.0) (is_some global.init) shape.size × (shape.base % global_align m global ≡ 0)

-- the size of a function's block
abbrev pub IsFuncShape : Shape → Option Func → Type 0
IsFuncShape shape None = ⊥
IsFuncShape shape (Some func) = shape.size ≡ 0

-- the size and the base of the block of a global or function of the module; a function's has size 0
abbrev pub IsShapeOf : Module → Shape → Symbol → Type 0
IsShapeOf m shape (symbol.Global g) = IsGlobalShape m shape (slice_get m.globals g.0)
IsShapeOf m shape (symbol.Func f) = IsFuncShape shape (slice_get m.funcs f.0)

-- block number n of an opening state: a global's or a function's, live, in the address space and above 0
pub record IsOpenBlock (m : Module) (mem : Memory) (n : ℕ) : Type 0 where
  pub symbol : Symbol
  pub kind : (mem.shape n).kind ≡ OfSymbol symbol
  pub home : mem.home symbol ≡ Some n
  pub shape : IsShapeOf m (mem.shape n) symbol
  pub live : mem.life n ≡ Live
  pub low : 0 < (mem.shape n).base
  pub high : (mem.shape n).base + (mem.shape n).size < 2 ^ 64

-- a pointer to a block of the opening state
abbrev pub IsOpenDatum : ℕ → Datum → Type 0
IsOpenDatum count (datum.Ptr block offset) = (block < count) × (offset < 2 ^ 64)
IsOpenDatum count _ = ⊥

-- any contents: fragments are of pointers without origins, to blocks of the opening state
abbrev pub IsOpenByte : ℕ → Byte → Type 0
IsOpenByte count (byte.Number n) = n < 256
IsOpenByte count byte.Undef = Unit {0}
IsOpenByte count byte.Poison = Unit {0}
IsOpenByte count (byte.Fragment k x) = (k < 8) × (x.origins ≡ []) × IsOpenDatum count x.datum

-- the blocks of the globals and functions alone, with any contents, sizes and bases that these may have
pub record IsOpenMemory (m : Module) (mem : Memory) : Type 0 where
  pub homes : (s : Symbol) (link : Linkage) → linkage_of m s ≡ Some link → HasHome mem s link (mem.home s)
  pub strangers : (s : Symbol) → linkage_of m s ≡ None → mem.home s ≡ None
  pub blocks : (n : ℕ) → n < mem.count → IsOpenBlock m mem n
  pub apart : (k n : ℕ) → k < mem.count → n < mem.count → k ≢ n →
      are_apart (mem.shape k).base (mem.shape k).size (mem.shape n).base (mem.shape n).size ≡ true
  pub bytes : (n at : ℕ) → IsOpenByte mem.count (mem.bytes n at)

-- the call of the lowest frame
abbrev pub lowest_call : ℕ → ℕ → Begun
lowest_call number count = record { number = number; made = Lowest; born = count; passed = []; args = [] }

-- the lowest frame alone, an outside frame with nothing in hand, over an opening memory
pub record IsOpening (m : Module) (t : State) : Type 0 where
  pub number : ℕ
  pub memory : IsOpenMemory m t.memory
  pub kept : t.kept ≡ []
  pub next_call : t.next_call ≡ number + 1
  pub born : (n : ℕ) → n < t.next_call → t.born n ≡ t.memory.count
  pub stack : t.stack ≡ Outside (record { call = lowest_call number t.memory.count; hand = [] }) ∷ []

-- ---- runs

-- a step that was done: the state before it and after it, and its events
pub record Done : Type 0 where
  pub before : State
  pub next : State
  pub events : List Event

-- the step that does these moves from this state
abbrev pub done : State → List Move → Done
done t moves = record { before = t; next = after t moves; events = said t moves }

-- a step without moves is none: the run is over
abbrev pub done_by : State → Plan → (State → List Done) → List Done
done_by t (Gives moves) rest = done t moves ∷ rest (after t moves)
done_by t Undefined rest = []
done_by t Over rest = []

-- the steps that are done from a state on
unfoldable pub run : Module → State → List Choice → List Done
run m t [] = []
run m t (choice ∷ choices) = done_by t (plan m t choice) (λ next. run m next choices)

-- the events of these steps, in order
abbrev pub events_of : List Done → List Event
events_of steps = flat_map (λ done. done.events) steps

-- what happened in these steps, in order
abbrev pub happened : List Done → List What
happened steps = map (λ e. e.what) (events_of steps)
