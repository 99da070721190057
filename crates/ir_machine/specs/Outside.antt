-- What the outside may do: any of these acts, in any order, with the values that it has.
use Rattle.std.specs.Prelude.{ℕ, ◌^◌, ◌==◌, ◌&&◌, ◌||◌, ◌++◌, not, nat_lt, length, Bool, true, false, if◌then◌else◌, List, [], ◌∷◌, Option, None, Some}
use Rattle.std.specs.List.{list_any, list_all}
use Rattle.std.specs.Option.{option_and_then, option_map}
use Rattle.attr_ids.specs.declared.ids.TypeId.{TypeId}
use Rattle.ir_types.specs.declared.ir_type.IrType.{IrType}
use Rattle.ir_types.specs.declared.ir_type.IrType.TheVariants as type
use Rattle.ir_module.specs.declared.module.Param.{Param}
use Rattle.ir_module.specs.declared.module.Module.{Module}
use Rattle.ir_module.specs.Places.{instr_at}
use Rattle.ir_module.specs.Calls.{is_open, call_of}
use Rattle.ir_machine.specs.declared.choice.Datum.{Datum}
use Rattle.ir_machine.specs.declared.choice.Datum.TheVariants as datum
use Rattle.ir_machine.specs.declared.choice.Value.{Value}
use Rattle.ir_machine.specs.declared.choice.Byte.{Byte}
use Rattle.ir_machine.specs.declared.choice.Byte.TheVariants as byte
use Rattle.ir_machine.specs.declared.choice.Act.{Act}
use Rattle.ir_machine.specs.declared.choice.Act.TheVariants as act
use Rattle.ir_machine.specs.Values.{is_same_datum, are_same_marks, is_same_value, bytes_from, overlaid}
use Rattle.ir_machine.specs.Memory.{Kind, OfSymbol, OfAlloca, Heap, Memory, Dead, is_live, has_bytes}
use Rattle.ir_machine.specs.Frames.{Made, Lowest, Entered, At, OutsideFrame, Frame, Outside, State, What, Read, Write, HiddenRead, HiddenWrite, Free, Capture}
use Rattle.ir_machine.specs.Moves.{Move, Says, Grows, Turns, Fills, Keeps, Takes, Plan, fits, does, says}
use Rattle.ir_machine.specs.Reading.{type_of}
use Rattle.ir_machine.specs.Access.{base_by, can_lie}
use Rattle.ir_machine.specs.Calls.{params_of, enters, returns, unwinds}

-- ---- values that it can use

-- an integer and an offset are below 2 ^ 64, and the block of a pointer exists
abbrev pub is_possible : Memory → Datum → Bool
is_possible mem (datum.Int bits) = nat_lt bits (2 ^ 64)
is_possible mem (datum.Ptr block offset) = nat_lt block mem.count && nat_lt offset (2 ^ 64)
is_possible mem datum.Null = true
is_possible mem datum.Undef = true
is_possible mem datum.Poison = true
is_possible mem datum.Pair = true

-- the same, or a pointer to the same block at any offset
abbrev pub is_moved : Datum → Datum → Bool
is_moved (datum.Ptr a at) (datum.Ptr b there) = a == b
is_moved d e = is_same_datum d e

-- x is the value y, at any offset
abbrev pub is_from : Value → Value → Bool
is_from x y = is_moved y.datum x.datum && are_same_marks y.origins x.origins

-- it has the value in hand, at any offset, or the value has no origins
abbrev pub can_use : State → OutsideFrame → Value → Bool
can_use t frame x = is_possible t.memory x.datum && (are_same_marks x.origins [] || list_any (is_from x) (frame.hand ++ t.kept))

-- the datum is one of the type; an integer is below 2 to its width
abbrev pub is_datum_of : Option IrType → Datum → Bool
is_datum_of (Some (type.Int width)) (datum.Int bits) = nat_lt bits (2 ^ width)
is_datum_of (Some (type.Int width)) datum.Undef = true
is_datum_of (Some (type.Int width)) datum.Poison = true
is_datum_of (Some type.Ptr) (datum.Ptr block offset) = true
is_datum_of (Some type.Ptr) datum.Null = true
is_datum_of (Some type.Ptr) datum.Undef = true
is_datum_of (Some type.Ptr) datum.Poison = true
is_datum_of (Some (type.Struct fields packed)) datum.Pair = true
is_datum_of _ _ = false

-- a value that is no pointer has no origins
abbrev pub may_have_origins : Option IrType → Value → Bool
may_have_origins (Some type.Ptr) x = true
may_have_origins _ x = are_same_marks x.origins []

-- a value of the type; one that is no pointer has no origins
abbrev pub is_value_of : Module → TypeId → Value → Bool
is_value_of m ty x = is_datum_of (type_of m ty) x.datum && may_have_origins (type_of m ty) x

-- ---- reads and writes

-- bytes of a live block
abbrev pub can_touch : Memory → ℕ → Datum → Bool
can_touch mem size (datum.Ptr block offset) = not (size == 0) && has_bytes mem size block offset
can_touch mem size _ = false

-- the block to which a pointer points
abbrev pub block_in : Datum → ℕ
block_in (datum.Ptr block offset) = block
block_in _ = 0

-- the offset of a pointer
abbrev pub offset_in : Datum → ℕ
offset_in (datum.Ptr block offset) = offset
offset_in _ = 0

-- the pointers of which at least one fragment stands there, each once, but for those already seen
abbrev pub pointers_in : List Value → List Byte → List Value
pointers_in seen [] = []
pointers_in seen (byte.Fragment k x ∷ bytes) = if list_any (is_same_value x) seen then pointers_in seen bytes else x ∷ pointers_in (x ∷ seen) bytes
pointers_in seen (b ∷ bytes) = pointers_in seen bytes

-- they come into its hand
abbrev pub taking : List Value → List Move
taking [] = []
taking (x ∷ xs) = Takes x ∷ taking xs

-- the bytes to which a pointer points
abbrev pub reads_at : Memory → Value → ℕ → List Byte
reads_at mem p size = bytes_from (mem.bytes (block_in p.datum)) (offset_in p.datum) size

-- it reads bytes of a live block, and has the pointers in hand of which it read a fragment
abbrev pub reads : State → OutsideFrame → Value → ℕ → Plan
reads t frame p size =
    fits (can_use t frame p && can_touch t.memory size p.datum)
    (does (Says (Read (block_in p.datum) p.origins) ∷ taking (pointers_in [] (reads_at t.memory p size))))

-- the datum is a pointer to a block
abbrev pub is_ptr : Datum → Bool
is_ptr (datum.Ptr block offset) = true
is_ptr _ = false

-- a byte that it can write: a fragment is one of a pointer that it can use
abbrev pub can_write : State → OutsideFrame → Byte → Bool
can_write t frame (byte.Number n) = nat_lt n 256
can_write t frame byte.Undef = true
can_write t frame byte.Poison = true
can_write t frame (byte.Fragment k x) = nat_lt k 8 && is_ptr x.datum && can_use t frame x

-- each pointer of which it writes a fragment is captured
abbrev pub captures_in : List Byte → List What
captures_in [] = []
captures_in (byte.Fragment k x ∷ bytes) = Capture x.origins ∷ captures_in bytes
captures_in (b ∷ bytes) = captures_in bytes

-- the bytes of a block after these were written to where the pointer points
abbrev pub written_at : Memory → Value → List Byte → ℕ → Byte
written_at mem p bytes = overlaid (offset_in p.datum) bytes (mem.bytes (block_in p.datum))

-- it writes bytes of a live block
abbrev pub writes : State → OutsideFrame → Value → List Byte → Plan
writes t frame p bytes =
    fits (can_use t frame p && can_touch t.memory (length bytes) p.datum && list_all (can_write t frame) bytes)
    (does (says (Write (block_in p.datum) p.origins ∷ captures_in bytes) (Fills (block_in p.datum) (written_at t.memory p bytes) ∷ [])))

-- ---- the heap

-- a live block of any size and of undef bytes
abbrev pub makes : State → ℕ → ℕ → Plan
makes t size base =
    let at = base_by t.memory 1 base in
    fits (can_lie t.memory 1 at size) (does (Grows (record { size = size; base = at; kind = Heap }) ∷ []))

-- the block is of the heap
abbrev pub is_heap : Kind → Bool
is_heap (OfSymbol symbol) = false
is_heap (OfAlloca call value) = false
is_heap Heap = true

-- a live block of the heap
abbrev pub can_free : Memory → ℕ → Bool
can_free mem block = nat_lt block mem.count && is_heap (mem.shape block).kind && is_live (mem.life block)

-- it frees a block of the heap
abbrev pub frees : State → ℕ → Plan
frees t block = fits (can_free t.memory block) (does (Says (Free block) ∷ Turns block Dead ∷ []))

-- ---- calls

-- it keeps a value, which captures a pointer
abbrev pub keeps : State → OutsideFrame → Value → Plan
keeps t frame x = fits (can_use t frame x) (does (Says (Capture x.origins) ∷ Keeps x ∷ []))

-- as many values as parameters, each of its type and one that it can use
abbrev pub can_pass : Module → State → OutsideFrame → List Param → List Value → Bool
can_pass m t frame [] [] = true
can_pass m t frame (p ∷ params) (x ∷ xs) = can_use t frame x && is_value_of m p.ty x && can_pass m t frame params xs
can_pass m t frame _ _ = false

-- the types of parameters
abbrev pub types_of : List Param → List TypeId
types_of [] = []
types_of (p ∷ params) = p.ty ∷ types_of params

-- it enters an open body
abbrev pub goes_in : Module → State → OutsideFrame → ℕ → List Value → Plan
goes_in m t frame f xs =
    fits (is_open m f && can_pass m t frame (params_of m f) xs)
    (enters m t (record { made = Entered; tys = types_of (params_of m f); values = xs }) f)

-- the type that the call of a frame returns, by the function type that its instruction writes
abbrev pub return_type : Module → Made → Option TypeId
return_type m Lowest = None
return_type m Entered = None
return_type m (At spot) = option_and_then (λ instr. option_map (λ call. call.func_ty.ret) (call_of instr.op)) (instr_at m spot)

-- the type is `void`
abbrev pub is_void : Option IrType → Bool
is_void (Some type.Void) = true
is_void _ = false

-- what it returns is of the type: nothing where it is void
abbrev pub can_return : Module → State → OutsideFrame → Option TypeId → Option Value → Bool
can_return m t frame None x = false
can_return m t frame (Some ty) None = is_void (type_of m ty)
can_return m t frame (Some ty) (Some x) = can_use t frame x && is_value_of m ty x

-- it returns a value of the type that its call returns
abbrev pub comes_out : Module → State → OutsideFrame → List Frame → Option Value → List ℕ → Plan
comes_out m t frame below x picks = fits (can_return m t frame (return_type m frame.call.made) x) (returns m t (Outside frame) below x picks)

-- ---- the act

-- what an act does
abbrev pub acts : Module → State → OutsideFrame → List Frame → List ℕ → Act → Plan
acts m t frame below picks (act.Read ptr size) = reads t frame ptr size
acts m t frame below picks (act.Write ptr bytes) = writes t frame ptr bytes
acts m t frame below picks act.HiddenRead = does (Says HiddenRead ∷ [])
acts m t frame below picks act.HiddenWrite = does (Says HiddenWrite ∷ [])
acts m t frame below picks (act.New size base) = makes t size base
acts m t frame below picks (act.Free block) = frees t block
acts m t frame below picks (act.Keep value) = keeps t frame value
acts m t frame below picks (act.Enter func args) = goes_in m t frame func.0 args
acts m t frame below picks (act.Return value) = comes_out m t frame below value picks
acts m t frame below picks act.Unwind = unwinds m t below picks
