-- Modules, states, choices and values in a short form, and when a run is as a sample says.
use Rattle.std.specs.Prelude.{◌≡◌, ℕ, ◌+◌, ◌==◌, ◌&&◌, ◌||◌, Bool, true, false, List, [], ◌∷◌, map, length, slice_get, Option, None, Some}
use Rattle.std.specs.List.{list_any, list_all}
use Rattle.attr_ids.specs.declared.ids.TypeId.{TypeId}
use Rattle.attr_ids.specs.declared.ids.ValueId.{ValueId}
use Rattle.attr_ids.specs.declared.ids.FuncId.{FuncId}
use Rattle.attr_ids.specs.declared.ids.GlobalId.{GlobalId}
use Rattle.attr_ids.specs.declared.ids.BlockId.{BlockId}
use Rattle.ir_types.specs.declared.ir_type.IrType.{IrType}
use Rattle.ir_module.specs.declared.op.Operand.{Operand}
use Rattle.ir_module.specs.declared.op.Written.{Written}
use Rattle.ir_module.specs.declared.op.Arm.{Arm}
use Rattle.ir_module.specs.declared.op.Case.{Case}
use Rattle.ir_module.specs.declared.op.Call.{Call}
use Rattle.ir_module.specs.declared.op.Op.{Op}
use Rattle.ir_module.specs.declared.op.Instr.{Instr}
use Rattle.ir_module.specs.declared.op.Symbol.{Symbol}
use Rattle.ir_module.specs.declared.op.Symbol.TheVariants as symbol
use Rattle.ir_module.specs.declared.attrs.FuncAttrs.{FuncAttrs}
use Rattle.ir_module.specs.declared.attrs.ParamAttrs.{ParamAttrs}
use Rattle.ir_module.specs.declared.module.Linkage.{Linkage}
use Rattle.ir_module.specs.declared.module.GlobalVar.{GlobalVar}
use Rattle.ir_module.specs.declared.module.Param.{Param}
use Rattle.ir_module.specs.declared.module.Func.{Func}
use Rattle.ir_module.specs.declared.module.Block.{Block}
use Rattle.ir_module.specs.declared.module.Seg.{Seg}
use Rattle.ir_module.specs.declared.module.Def.{Def}
use Rattle.ir_module.specs.declared.module.ValueInfo.{ValueInfo}
use Rattle.ir_module.specs.declared.module.Module.{Module}
use Rattle.ir_machine.specs.declared.choice.Datum.{Datum}
use Rattle.ir_machine.specs.declared.choice.Mark.{Mark}
use Rattle.ir_machine.specs.declared.choice.Value.{Value}
use Rattle.ir_machine.specs.declared.choice.Byte.{Byte}
use Rattle.ir_machine.specs.declared.choice.Byte.TheVariants as byte
use Rattle.ir_machine.specs.declared.choice.Act.{Act}
use Rattle.ir_machine.specs.declared.choice.Choice.{Choice}
use Rattle.ir_machine.specs.Values.{is_same_value, are_same_marks}
use Rattle.ir_machine.specs.Memory.{Kind, OfSymbol, OfAlloca, Heap, Shape, Life, Live, Closed, Dead}
use Rattle.ir_machine.specs.Frames.{Body, Outside, Frame, State, What, Enter, Read, Write, HiddenRead, HiddenWrite, Free, Capture, Return, Unwind, Event}
use Rattle.ir_machine.specs.Frames.{Active}
use Rattle.ir_machine.specs.Moves.{after, said, Gives, Undefined, Over, Plan}
use Rattle.ir_machine.specs.Steps.{plan}
use Rattle.ir_machine.specs.Runs.{lowest_call}

-- type number n
abbrev pub ty : ℕ → TypeId
ty n = record { 0 = n }

-- value number n
abbrev pub value : ℕ → ValueId
value n = record { 0 = n }

-- function number n
abbrev pub function : ℕ → FuncId
function n = record { 0 = n }

-- global number n
abbrev pub global : ℕ → GlobalId
global n = record { 0 = n }

-- block number n
abbrev pub block : ℕ → BlockId
block n = record { 0 = n }

-- an operand with the number of its type
abbrev pub typed : Operand → ℕ → Written
typed with_marks t = record { val = with_marks; ty = ty t; at = 0 }

-- a phi's value, and the block that it comes from
abbrev pub arm : Written → BlockId → Arm
arm v b = record { val = v; «from» = b }

-- a case of a `switch`
abbrev pub case : Written → BlockId → Case
case v b = record { val = v; to = b }

-- `nonnull`, `align` and `dereferenceable`, 0 where none is written
abbrev pub attributes : Bool → ℕ → ℕ → ParamAttrs
attributes n a d = record {
  nonnull = n;
  nocapture = false;
  captures = false;
  readnone = false;
  readonly = false;
  writeonly = false;
  returned = false;
  sret
      = false;
  writable = false;
  align = a;
  dereferenceable = d;
  bad = false;
}

-- no attribute of a function
abbrev pub no_attributes : FuncAttrs
no_attributes = record { nounwind = false; noreturn = false; nofree = false; norecurse = false; nocallback = false; memory = None }

-- a call: the type of its result and its parameters, its callee, arguments, and the attributes of its return and its arguments
abbrev pub a_call : ℕ → List TypeId → Bool → Written → List Written → ParamAttrs → List ParamAttrs → Call
a_call rt tys var callee args ra aas = record {
  func_ty = record { ret = ty rt; params = tys; variadic = var };
  callee = callee;
  args = args;
  attrs = record { func = no_attributes; ret = ra; args = aas };
  places = record { ret = 0; after = 0; args = [] };
}

-- an instruction with its result and the number of its type
abbrev pub instr : Option ValueId → ℕ → Op → Instr
instr r t o = record { result = r; named = false; ty = ty t; op = o; span = record { «from» = 0; to = 0 } }

-- a segment of a block
abbrev pub segment : ℕ → List Instr → Seg
segment b is = record { block = block b; instrs = is }

-- a block of a function: its first segment, and how many
abbrev pub a_block : ℕ → ℕ → ℕ → Block
a_block f first count = record { func = function f; name = []; first_seg = first; seg_count = count }

-- a value of a function, with the number of its type
abbrev pub value_of : ℕ → ℕ → Def → ValueInfo
value_of f t d = record { func = function f; ty = ty t; def = d }

-- a parameter: its value, its type and its attributes
abbrev pub parameter : ℕ → ℕ → ParamAttrs → Param
parameter v t a = record { value = value v; ty = ty t; attrs = a; place = 0 }

-- a function: its name, linkage, return, parameters, the constants of its header, its first block and how many
abbrev pub a_function : List ℕ → Linkage → ℕ → ParamAttrs → List Param → Bool → List Written → ℕ → ℕ → Func
a_function name link rt ra ps var extra body nb = record {
  name = name;
  linkage = link;
  ret = ty rt;
  ret_attrs = ra;
  params = ps;
  variadic = var;
  attrs = no_attributes;
  places = record { ret = 0; after = 0 };
  personality = false;
  extra = extra;
  token = record { «from» = 0; to = 0 };
  at = 0;
  first_block = body;
  block_count = nb;
}

-- a global: its linkage, type, initial value and alignment
abbrev pub a_global : Linkage → ℕ → Option Written → Option ℕ → GlobalVar
a_global l t i a = record { name = []; linkage = l; ty = ty t; init = i; align = a; at = 0 }

-- a module: types, globals, functions, blocks, segments, values, and parts of constants
abbrev pub a_module : List IrType → List GlobalVar → List Func → List Block → List Seg → List ValueInfo → List Written → Module
a_module ts gs fs bs ss vs ps = record { types = ts; globals = gs; funcs = fs; blocks = bs; segs = ss; values = vs; parts = ps; type_at = [] }

-- a block of memory: size, base and kind
abbrev pub shape_of : ℕ → ℕ → Kind → Shape
shape_of s b k = record { size = s; base = b; kind = k }

-- the mark of a call and an argument
abbrev pub mark : ℕ → ℕ → Mark
mark c p = record { call = c; param = p }

-- a value with its marks
abbrev pub with_marks : Datum → List Mark → Value
with_marks d o = record { datum = d; origins = o }

-- picks and an act
abbrev pub choice : List ℕ → Option Act → Choice
choice p a = record { picks = p; act = a }

-- globals and then functions have the blocks from 0 on
abbrev pub home_at : ℕ → Symbol → Option ℕ
home_at ng (symbol.Global g) = Some g.0
home_at ng (symbol.Func f) = Some (ng + f.0)

-- a block that is there
abbrev pub shape_at : Option Shape → Shape
shape_at None = shape_of 0 1 Heap
shape_at (Some s) = s

-- the opening state with these blocks of so many globals and then of functions; all bytes are 0
abbrev pub opened : ℕ → List Shape → State
opened ng shapes = record {
  memory = record { count = length shapes; home = home_at ng; shape = λ n. shape_at (slice_get shapes n); life = λ n. Live; bytes = λ n at. byte.Number 0 };
  kept = [];
  born = λ n. length shapes;
  next_call = 1;
  stack = Outside (record { call = lowest_call 0 (length shapes); hand = [] }) ∷ [];
}

-- ---- comparison

-- an event as a sample tells it: what happened, by the frame of which call
pub record Seen : Type 0 where
  pub call : ℕ
  pub what : What

-- what happened, by the frame of this call
abbrev pub by_call : ℕ → What → Seen
by_call c x = record { call = c; what = x }

-- the call under the one on top
abbrev pub second : List Active → ℕ
second (a ∷ b ∷ cs) = b.call.number
second _ = 999

-- the call on top
abbrev pub first : List Active → ℕ
first (a ∷ cs) = a.call.number
first _ = 999

-- the call whose frame made an event; that of an entry is the one that calls or enters
abbrev pub maker : What → List Active → ℕ
maker (Enter f) cs = second cs
maker _ cs = first cs

-- an event as a sample tells it
abbrev pub seen : Event → Seen
seen e = by_call (maker e.what e.calls) e.what

-- two values or none are equal
abbrev pub same_some : Option Value → Option Value → Bool
same_some None None = true
same_some (Some x) (Some y) = is_same_value x y
same_some _ _ = false

-- the same happened
abbrev pub same_what : What → What → Bool
same_what (Enter f) (Enter g) = f == g
same_what (Read b o) (Read c p) = (b == c) && are_same_marks o p
same_what (Write b o) (Write c p) = (b == c) && are_same_marks o p
same_what HiddenRead HiddenRead = true
same_what HiddenWrite HiddenWrite = true
same_what (Free b) (Free c) = b == c
same_what (Capture o) (Capture p) = are_same_marks o p
same_what (Return x) (Return y) = same_some x y
same_what Unwind Unwind = true
same_what _ _ = false

-- the same happened by the same call
abbrev pub same_seen : Seen → Seen → Bool
same_seen a b = (a.call == b.call) && same_what a.what b.what

-- a capture without origins says nothing, and no sample tells it
abbrev pub is_silent : What → Bool
is_silent (Capture []) = true
is_silent _ = false

-- the same events, in any order
abbrev pub same_events : List Seen → List Seen → Bool
same_events xs ys = list_all (λ x. is_silent x.what || list_any (same_seen x) ys) xs && list_all (λ y. list_any (same_seen y) xs) ys

-- what a sample says of a step
pub record Expected : Type 0 where
  pub code : ℕ
  pub events : List Seen

-- a step that is done (0), undefined (1) or over (2), with its events
abbrev pub expected : ℕ → List Seen → Expected
expected c e = record { code = c; events = e }

-- what a sample says of a block
pub record BlockIs : Type 0 where
  pub n : ℕ
  pub shape : Shape
  pub life : Life

-- a block and its life
abbrev pub block_is : ℕ → Shape → Life → BlockIs
block_is n s l = record { n = n; shape = s; life = l }

-- what a sample says of a byte
pub record ByteIs : Type 0 where
  pub n : ℕ
  pub at : ℕ
  pub byte : Byte

-- a byte of a block
abbrev pub byte_is : ℕ → ℕ → Byte → ByteIs
byte_is n a b = record { n = n; at = a; byte = b }

-- what a sample says of a value of a frame
pub record ValueIs : Type 0 where
  pub v : ℕ
  pub x : Value

-- a value that a frame has
abbrev pub value_is : ℕ → Value → ValueIs
value_is v x = record { v = v; x = x }

-- what a sample says of a frame: its call and what it has in hand, or where it stands and its values
pub data FrameIs : Type 0 where
  outside : (c : ℕ) (hand : List Value) → FrameIs
  body : (c f sg at : ℕ) (vs : List ValueIs) → FrameIs

-- what a sample says of its last state
pub record Final : Type 0 where
  pub blocks : List BlockIs
  pub bytes : List ByteIs
  pub kept : List Value
  pub frames : List FrameIs

-- blocks of one kind; of an alloca a sample tells the call alone
abbrev pub same_kind : Kind → Kind → Bool
same_kind (OfSymbol (symbol.Global a)) (OfSymbol (symbol.Global b)) = a.0 == b.0
same_kind (OfSymbol (symbol.Func a)) (OfSymbol (symbol.Func b)) = a.0 == b.0
same_kind (OfAlloca a v) (OfAlloca b u) = a == b
same_kind Heap Heap = true
same_kind _ _ = false

-- the same life
abbrev pub same_life : Life → Life → Bool
same_life Live Live = true
same_life Closed Closed = true
same_life Dead Dead = true
same_life _ _ = false

-- the same byte
abbrev pub same_byte : Byte → Byte → Bool
same_byte (byte.Number a) (byte.Number b) = a == b
same_byte byte.Undef byte.Undef = true
same_byte byte.Poison byte.Poison = true
same_byte (byte.Fragment k x) (byte.Fragment j y) = (k == j) && is_same_value x y
same_byte _ _ = false

-- each of these values is among those
abbrev pub subset : List Value → List Value → Bool
subset xs ys = list_all (λ x. list_any (is_same_value x) ys) xs

-- the same values, in any order
abbrev pub same_set : List Value → List Value → Bool
same_set xs ys = subset xs ys && subset ys xs

-- the block is as the sample says
abbrev pub block_ok : State → BlockIs → Bool
block_ok t b = (((t.memory.shape b.n).size == b.shape.size) && ((t.memory.shape b.n).base == b.shape.base)) && (same_kind
    (t.memory.shape b.n).kind b.shape.kind && same_life (t.memory.life b.n) b.life)

-- there are these blocks alone
abbrev pub blocks_ok : State → List BlockIs → Bool
blocks_ok t bs = (t.memory.count == length bs) && list_all (block_ok t) bs

-- the frame is as the sample says
abbrev pub frame_ok : Frame → FrameIs → Bool
frame_ok (Outside f) (outside c hand) = (f.call.number == c) && same_set f.hand hand
frame_ok (Body f) (body c g sg at vs) = (((f.call.number == c) && (f.func == g)) && ((f.spot.seg.0 == sg) && (f.spot.at == at))) && list_all
    (λ q. same_some (f.values q.v) (Some q.x)) vs
frame_ok _ _ = false

-- there are these frames alone, the one on top first
abbrev pub frames_ok : List Frame → List FrameIs → Bool
frames_ok [] [] = true
frames_ok (a ∷ as') (b ∷ bs) = frame_ok a b && frames_ok as' bs
frames_ok _ _ = false

-- the state is as the sample says
abbrev pub final_ok : State → Final → List Bool
final_ok t f = blocks_ok t f.blocks ∷ list_all (λ b. same_byte
    (t.memory.bytes b.n b.at) b.byte) f.bytes ∷ same_set t.kept f.kept ∷ frames_ok t.stack f.frames ∷ []

-- the step is as the sample says, and so is what follows
abbrev pub on_plan : State → Expected → Plan → (State → List Bool) → (State → List Bool) → List Bool
on_plan t e (Gives moves) rest final = ((e.code == 0) && same_events (map seen (said t moves)) e.events) ∷ rest (after t moves)
on_plan t e Undefined rest final = (e.code == 1) ∷ final t
on_plan t e Over rest final = (e.code == 2) ∷ final t

-- each step is as the sample says, and the last state too
unfoldable pub follow : Module → State → List Choice → List Expected → (State → List Bool) → List Bool
follow m t [] es final = final t
follow m t (c ∷ cs) [] final = false ∷ []
follow m t (c ∷ cs) (e ∷ es) final = on_plan t e (plan m t c) (λ next. follow m next cs es final) final

-- a module, an opening state and choices, and what the steps and the last state have to be
pub record Sample : Type 0 where
  pub program : Module
  pub opening : State
  pub choices : List Choice
  pub steps : List Expected
  pub final : Final

-- what of the sample agrees
abbrev pub agreements : Sample → List Bool
agreements sample = follow sample.program sample.opening sample.choices sample.steps (λ t. final_ok t sample.final)

-- the run of the sample is as it says: each step with its events, and the last state
abbrev pub IsShown : Sample → Type 0
IsShown sample = list_all (λ b. b) (agreements sample) ≡ true
