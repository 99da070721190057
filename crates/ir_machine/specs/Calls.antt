-- Calls: how they begin, return and unwind (LangRef, "'call' Instruction", "'invoke' Instruction", "'ret' Instruction",
-- "'resume' Instruction", "Memory Use Markers").
use Rattle.std.specs.Prelude.{ℕ, ◌+◌, ◌==◌, ◌&&◌, ◌||◌, not, Bool, true, false, if◌then◌else◌, List, [], ◌∷◌, map, drop, slice_get, Option, None, Some, is_none}
use Rattle.std.specs.List.{list_any, list_all}
use Rattle.std.specs.Option.{option_map_or}
use Rattle.std.specs.Str.{bytes_eq}
use Rattle.attr_ids.specs.declared.ids.TypeId.{TypeId}
use Rattle.attr_ids.specs.declared.ids.FuncId.{FuncId}
use Rattle.attr_ids.specs.declared.ids.ValueId.{ValueId}
use Rattle.ir_module.specs.declared.attrs.ParamAttrs.{ParamAttrs}
use Rattle.ir_module.specs.declared.lifetime.TheConstants.{LIFETIME_NAMES}
use Rattle.ir_module.specs.declared.op.Call.{Call}
use Rattle.ir_module.specs.declared.op.Op.{Op}
use Rattle.ir_module.specs.declared.op.Op.TheVariants as op
use Rattle.ir_module.specs.declared.op.Operand.{Operand}
use Rattle.ir_module.specs.declared.op.Operand.TheVariants as operand
use Rattle.ir_module.specs.declared.op.Symbol.TheVariants as symbol
use Rattle.ir_module.specs.declared.op.Written.{Written}
use Rattle.ir_module.specs.declared.op.Instr.{Instr}
use Rattle.ir_module.specs.declared.module.Def.{Def}
use Rattle.ir_module.specs.declared.module.Def.TheVariants as def
use Rattle.ir_module.specs.declared.module.Param.{Param}
use Rattle.ir_module.specs.declared.module.Func.{Func}
use Rattle.ir_module.specs.declared.module.Module.{Module}
use Rattle.ir_module.specs.Places.{instr_at, entry_of, behind_call}
use Rattle.ir_module.specs.Edges.{catches_all}
use Rattle.ir_module.specs.Calls.{direct_callee, inner_callee, callee_of, is_lifetime, promising}
use Rattle.ir_machine.specs.declared.choice.Datum.{Datum}
use Rattle.ir_machine.specs.declared.choice.Datum.TheVariants as datum
use Rattle.ir_machine.specs.declared.choice.Value.{Value}
use Rattle.ir_machine.specs.declared.choice.Byte.TheVariants as byte
use Rattle.ir_machine.specs.Values.{carried, marked, is_null, is_undef}
use Rattle.ir_machine.specs.Memory.{Memory, Live, Closed, is_dead, is_aligned, has_bytes, put, without_allocas}
use Rattle.ir_machine.specs.Frames.{Made, At, Begun, BodyFrame, Frame, Body, Outside, call_of, State, Enter, Capture, Return, Unwind}
use Rattle.ir_machine.specs.Moves.{Move, Says, Turns, Fills, Sets, Goes, Takes, Begins, Ends, Outcome, Gives, Over, Plan, with, found, needs, does}
use Rattle.ir_machine.specs.Reading.{is_pointer, pick, Values, Here, reading, read_all}
use Rattle.ir_machine.specs.Edges.{crosses, crossing}

-- ---- marks

-- argument number j, with its mark where its type is a pointer
abbrev pub marked_at : Module → ℕ → ℕ → TypeId → Value → Value
marked_at m call j ty x = if is_pointer m ty then marked (record { call = call; param = j }) x else x

-- each argument that is a pointer gets the mark of the call and of its place among all arguments, which begin with number j
abbrev pub marked_args : Module → ℕ → ℕ → List TypeId → List Value → List Value
marked_args m call j (ty ∷ tys) (x ∷ xs) = marked_at m call j ty x ∷ marked_args m call (j + 1) tys xs
marked_args m call j _ _ = []

-- ---- `nonnull`, `align` and `dereferenceable` where they act: on parameters at entry, on what an outer call returns

-- an alignment is written, and the value is undef or a pointer whose address is no multiple of it
abbrev pub is_misaligned : Memory → ℕ → Datum → Bool
is_misaligned mem align (datum.Ptr block offset) = not (align == 0) && not (is_aligned mem align block offset)
is_misaligned mem align datum.Undef = not (align == 0)
is_misaligned mem align _ = false

-- `nonnull` makes null and undef poison, `align` undef and what is not aligned
abbrev pub becomes_poison : Memory → List ParamAttrs → Datum → Bool
becomes_poison mem attrs d = (list_any (λ a. a.nonnull) attrs && (is_null d || is_undef d)) || list_any (λ a. is_misaligned mem a.align d) attrs

-- no `dereferenceable` is written, or so many bytes of a live block lie from the pointer on
abbrev pub is_dereferenceable : Memory → ℕ → Datum → Bool
is_dereferenceable mem bytes (datum.Ptr block offset) = (bytes == 0) || has_bytes mem bytes block offset
is_dereferenceable mem bytes _ = bytes == 0

-- the value, or poison with its origins
abbrev pub poisoned : Memory → List ParamAttrs → Value → Value
poisoned mem attrs x = if becomes_poison mem attrs x.datum then carried x datum.Poison else x

-- What the attributes, which act as those of one place, make of a value: it may become poison, which keeps its origins;
-- then the behaviour is undefined where a `dereferenceable` is not met.
abbrev pub acted_on : Memory → List ParamAttrs → Value → Outcome Value
acted_on mem attrs x = let y = poisoned mem attrs x in needs (list_all (λ a. is_dereferenceable mem a.dereferenceable y.datum) attrs) (Gives y)

-- ---- a call begins

-- the parameters of a body from the arguments, after the entry rule; arguments past the parameters are lost
abbrev pub entered : Memory → List Param → List Value → Outcome (List Value)
entered mem [] xs = Gives []
entered mem (p ∷ params) [] = Over
entered mem (p ∷ params) (x ∷ xs) = with (acted_on mem (p.attrs ∷ []) x) (λ y. with (entered mem params xs) (λ ys. Gives (y ∷ ys)))

-- the values of a body's frame when it begins
abbrev pub bound : List Param → List Value → Values
bound (p ∷ params) (x ∷ xs) = put p.value.0 (Some x) (bound params xs)
bound _ _ = λ v. None

-- the parameters of a function
abbrev pub params_in : Option Func → List Param
params_in None = []
params_in (Some f) = f.params

-- the parameters of function f
abbrev pub params_of : Module → ℕ → List Param
params_of m f = params_in (slice_get m.funcs f)

-- how a call begins, and the types and values of its arguments
pub record Passing : Type 0 where
  pub made : Made
  pub tys : List TypeId
  pub values : List Value

-- the arguments as they are passed, with their marks
abbrev pub passed_to : Module → State → Passing → List Value
passed_to m t passing = marked_args m t.next_call 0 passing.tys passing.values

-- the call that begins so, with these arguments as it has them
abbrev pub begun_by : Module → State → Passing → List Value → Begun
begun_by m t passing args =
    record { number = t.next_call; made = passing.made; born = t.memory.count; passed = passed_to m t passing; args = args }

-- the frame of a body f whose parameters have these values
abbrev pub body_frame : Module → State → Passing → ℕ → List Value → BodyFrame
body_frame m t passing f args =
    record { call = begun_by m t passing args; func = f; spot = entry_of m f; values = bound (params_of m f) args }

-- a call of body f
abbrev pub enters : Module → State → Passing → ℕ → Plan
enters m t passing f =
    with (entered t.memory (params_of m f) (passed_to m t passing)) (λ args.
    does (Begins (Body (body_frame m t passing f args)) ∷ Says (Enter f) ∷ []))

-- a call of the outside, through this callee
abbrev pub calls_outside : Module → State → Passing → Value → Plan
calls_outside m t passing callee =
    let args = passed_to m t passing in
    does (Says (Capture callee.origins) ∷ Begins (Outside (record { call = begun_by m t passing args; hand = args })) ∷ [])

-- an inner call runs this body, every other call the outside
abbrev pub runs : Module → State → Passing → Value → Option ℕ → Plan
runs m t passing callee (Some f) = enters m t passing f
runs m t passing callee None = calls_outside m t passing callee

-- the function of a direct call has no block in this run
abbrev pub is_call_of_null : Memory → Option FuncId → Bool
is_call_of_null mem None = false
is_call_of_null mem (Some f) = is_none (mem.home (symbol.Func f))

-- ---- a call ends

-- a body sets the result of its call and goes on
abbrev pub set_result : Option ValueId → Option Value → List Move → Outcome (List Move)
set_result None x moves = Gives moves
set_result (Some v) (Some x) moves = Gives (Sets v.0 x ∷ moves)
set_result (Some v) None moves = Over

-- the values of a frame with the result of its call
abbrev pub with_result : Option ValueId → Option Value → Values → Values
with_result (Some v) (Some x) values = put v.0 (Some x) values
with_result _ _ values = values

-- where a body goes on after a return: behind a `call`, at the normal block of an `invoke`, whose phis may name the result
abbrev pub onward : Module → Memory → BodyFrame → Values → Op → List ℕ → Outcome (List Move)
onward m mem frame values (op.Call call) picks = Gives (Goes (behind_call frame.spot) ∷ [])
onward m mem frame values (op.Invoke call normal unwind) picks = crosses m (crossing m mem frame values normal.0) picks
onward m mem frame values _ picks = Over

-- a body goes on at its call with this result
abbrev pub goes_on : Module → Memory → BodyFrame → Instr → Option Value → List ℕ → Outcome (List Move)
goes_on m mem frame instr x picks =
    with (onward m mem frame (with_result instr.result x frame.values) instr.op picks) (λ moves. set_result instr.result x moves)

-- what comes back to a call instruction: from an outer call, what the promised attributes of its return make of the value
abbrev pub came_back : Module → Memory → Option ℕ → Op → Option Value → Outcome (Option Value)
came_back m mem None o (Some x) = with (acted_on mem (map (λ attrs. attrs.ret) (promising m o)) x) (λ y. Gives (Some y))
came_back m mem _ o x = Gives x

-- what is returned to an outside frame comes into its hand
abbrev pub takes : Option Value → List Move
takes None = []
takes (Some x) = Takes x ∷ []

-- the body that a frame runs, none for one of the outside
abbrev pub body_of : Frame → Option ℕ
body_of (Body frame) = Some frame.func
body_of (Outside frame) = None

-- what the frame under it does when the frame on top is gone and returned x; the lowest frame has none under it
abbrev pub comes_back : Module → Memory → Option ℕ → List Frame → Option Value → List ℕ → Outcome (List Move)
comes_back m mem body [] x picks = Over
comes_back m mem body (Outside under ∷ below) x picks = Gives (takes x)
comes_back m mem body (Body under ∷ below) x picks =
    with (found (instr_at m under.spot)) (λ instr. with (came_back m mem body instr.op x) (λ y. goes_on m mem under instr y picks))

-- the frame on top returns
abbrev pub returns : Module → State → Frame → List Frame → Option Value → List ℕ → Plan
returns m t top below x picks =
    with (comes_back m (without_allocas (call_of top).number t.memory) (body_of top) below x picks) (λ moves. does (Says (Return x) ∷ Ends ∷ moves))

-- what an unwinding does at a module frame: it lands at a block, or goes through with the picks that are left
pub data Landing : Type 0 where
  Lands : (block : ℕ) (picks : List ℕ) → Landing
  Passes : (picks : List ℕ) → Landing

-- the block catches all, or may: then pick 0 lands there, and every other goes through
abbrev pub lands_or : Bool → List ℕ → ℕ → Landing
lands_or true picks block = Lands block picks
lands_or false picks block = if pick picks == 0 then Lands block (drop 1 picks) else Passes (drop 1 picks)

-- an `invoke` has a block for an unwinding, a `call` lets it through
abbrev pub landing_by : Module → List ℕ → Op → Landing
landing_by m picks (op.Invoke call normal unwind) = lands_or (catches_all m unwind.0) picks unwind.0
landing_by m picks _ = Passes picks

-- what an unwinding does at a frame that stands at this instruction
abbrev pub landing_in : Module → List ℕ → Option Instr → Landing
landing_in m picks None = Passes picks
landing_in m picks (Some instr) = landing_by m picks instr.op

-- goes on as the unwinding lands or passes
abbrev pub at_landing : Landing → (ℕ → List ℕ → Outcome (List Move)) → (List ℕ → Outcome (List Move)) → Outcome (List Move)
at_landing (Lands block picks) lands passes = lands block picks
at_landing (Passes picks) lands passes = passes picks

-- What is done when a frame that unwinds is gone: the frame under it lands at an unwind block, or unwinds too; an outside
-- frame goes on with what it does. The lowest frame does not unwind.
abbrev pub goes_through : Module → Memory → List Frame → List ℕ → Outcome (List Move)
goes_through m mem [] picks = Over
goes_through m mem (Outside under ∷ below) picks = Gives []
goes_through m mem (Body under ∷ below) picks =
    at_landing (landing_in m picks (instr_at m under.spot))
    (λ block picks. crosses m (crossing m mem under under.values block) picks)
    (λ picks. with (goes_through m mem below picks) (λ moves. Gives (Says Unwind ∷ Ends ∷ moves)))

-- the frame on top unwinds
abbrev pub unwinds : Module → State → List Frame → List ℕ → Plan
unwinds m t below picks = with (goes_through m t.memory below picks) (λ moves. does (Says Unwind ∷ Ends ∷ moves))

-- ---- lifetime markers

-- the name of the marker of the end
abbrev pub is_end_name : List ℕ → Bool
is_end_name name = option_map_or (λ marker. bytes_eq marker.now name) (slice_get LIFETIME_NAMES 1) false

-- the operation is an alloca
abbrev pub is_alloca_op : Op → Bool
is_alloca_op (op.Alloca ty count align) = true
is_alloca_op _ = false

-- the instruction is an alloca
abbrev pub is_alloca : Option Instr → Bool
is_alloca None = false
is_alloca (Some instr) = is_alloca_op instr.op

-- the value is made by an alloca
abbrev pub is_alloca_def : Module → Def → Bool
is_alloca_def m (def.Param i) = false
is_alloca_def m (def.Instr s) = is_alloca (instr_at m s)

-- the operand is written as the result of an alloca
abbrev pub is_alloca_result : Module → Operand → Bool
is_alloca_result m (operand.Value v) = option_map_or (λ info. is_alloca_def m info.def) (slice_get m.values v.0) false
is_alloca_result m _ = false

-- `end` closes the block, `start` opens it and makes its bytes undef; a dead block stays dead
abbrev pub turns : Memory → Bool → Datum → List Move → List Move
turns mem is_end (datum.Ptr block offset) moves =
    if is_dead (mem.life block) then moves
    else (if is_end then Turns block Closed ∷ moves
    else Turns block Live ∷ Fills block (λ at. byte.Undef) ∷ moves)
turns mem is_end _ moves = moves

-- what a marker does by its last argument: it speaks of the block of an alloca, and does nothing elsewhere
abbrev pub marks_last : Module → Memory → Bool → List Written → List Value → List Move → List Move
marks_last m mem is_end (w ∷ []) (x ∷ []) moves = if is_alloca_result m w.val then turns mem is_end x.datum moves else moves
marks_last m mem is_end (w ∷ v ∷ ws) (x ∷ xs) moves = marks_last m mem is_end (v ∷ ws) xs moves
marks_last m mem is_end _ _ moves = moves

-- a direct call of a lifetime marker: no frame and no event, and its frame goes on as after a return
abbrev pub marks : Module → Here → List ℕ → Func → Call → Plan
marks m here picks f call =
    with (read_all m here call.args picks) (λ all. with (goes_on m here.state.memory here.frame here.instr None all.picks) (λ moves.
    does (marks_last m here.state.memory (is_end_name f.name) call.args all.values moves)))

-- ---- the instruction

-- the callee and then the arguments are read; a direct call of a function that is null in this run is undefined
abbrev pub calls : Module → Here → List ℕ → Op → Call → Plan
calls m here picks o call =
    needs (not (is_call_of_null here.state.memory (direct_callee m o)))
    (reading m here call.callee picks (λ callee picks. with (read_all m here call.args picks) (λ all.
    runs m here.state (record { made = At here.frame.spot; tys = map (λ w. w.ty) call.args; values = all.values }) callee (inner_callee m o))))

-- a direct call of a lifetime marker begins no call, every other does
abbrev pub calls_or_marks : Module → Here → List ℕ → Op → Call → Option Func → Plan
calls_or_marks m here picks o call None = calls m here picks o call
calls_or_marks m here picks o call (Some f) = if is_lifetime f then marks m here picks f call else calls m here picks o call

-- a `call` or an `invoke`
abbrev pub does_call : Module → Here → List ℕ → Op → Call → Plan
does_call m here picks o call = calls_or_marks m here picks o call (callee_of m o)

-- a `ret`
abbrev pub does_ret : Module → Here → List ℕ → Option Written → Plan
does_ret m here picks None = returns m here.state (Body here.frame) here.below None picks
does_ret m here picks (Some w) = reading m here w picks (λ x picks. returns m here.state (Body here.frame) here.below (Some x) picks)
