-- A small module, the runs of it that the laws of this crate speak of, and the words that its outer call may promise.
use Rattle.std.specs.Prelude.{ℕ, true, false, List, [], ◌∷◌, ◌++◌, map, slice_get, Option, None, Some}
use Rattle.ir_types.specs.declared.ir_type.IrType.TheVariants as type
use Rattle.ir_module.specs.declared.attrs.FuncAttrs.{FuncAttrs}
use Rattle.ir_module.specs.declared.attrs.ParamAttrs.{ParamAttrs}
use Rattle.ir_module.specs.declared.attrs.MemoryAttr.{MemoryAttr}
use Rattle.ir_module.specs.declared.op.Call.{Call}
use Rattle.ir_module.specs.declared.op.Op.TheVariants as op
use Rattle.ir_module.specs.declared.op.Operand.TheVariants as operand
use Rattle.ir_module.specs.declared.op.Symbol.{Symbol}
use Rattle.ir_module.specs.declared.op.Symbol.TheVariants as symbol
use Rattle.ir_module.specs.declared.module.Linkage.TheVariants as linkage
use Rattle.ir_module.specs.declared.module.Def.TheVariants as def
use Rattle.ir_module.specs.declared.module.Func.{Func}
use Rattle.ir_module.specs.declared.module.GlobalVar.{GlobalVar}
use Rattle.ir_module.specs.declared.module.Spot.{Spot}
use Rattle.ir_module.specs.declared.module.Module.{Module}
use Rattle.ir_module.specs.Places.{spot}
use Rattle.ir_module.specs.Calls.{no_attrs}
use Rattle.ir_machine.specs.declared.choice.Datum.TheVariants as datum
use Rattle.ir_machine.specs.declared.choice.Byte.TheVariants as byte
use Rattle.ir_machine.specs.declared.choice.Value.{Value}
use Rattle.ir_machine.specs.declared.choice.Act.{Act}
use Rattle.ir_machine.specs.declared.choice.Act.TheVariants as act
use Rattle.ir_machine.specs.declared.choice.Choice.{Choice}
use Rattle.ir_machine.specs.Memory.{OfSymbol, Shape, Live}
use Rattle.ir_machine.specs.Frames.{Outside, State}
use Rattle.ir_machine.specs.Runs.{Done, lowest_call, run}
use Rattle.ir_machine.specs.Honest.{IsHonest}
use Rattle.machine_samples.specs.Build.{ty, value, function, typed, no_attributes, a_call, instr, segment, a_block, value_of, parameter, a_function, a_global}
use Rattle.machine_samples.specs.Build.{a_module, shape_of, shape_at, mark, with_marks, choice}

-- ---- the module

-- the number of `ptr`
abbrev pub pointer : ℕ
pointer = 1

-- the number of `i64`
abbrev pub eight_bytes : ℕ
eight_bytes = 2

-- `@a = global i64 0`
abbrev pub a_number : GlobalVar
a_number = a_global linkage.Plain eight_bytes (Some (typed (operand.Int 0 true) eight_bytes)) None

-- a direct call of a function with one argument, a value, and with these attributes
abbrev pub calls : ℕ → ℕ → FuncAttrs → Call
calls f v attrs = record (a_call pointer (ty pointer ∷ []) false (typed (operand.Func (function f)) pointer)
    (typed (operand.Value (value v)) pointer ∷ []) no_attrs (no_attrs ∷ [])) { attrs = record { func = attrs; ret = no_attrs; args = no_attrs ∷ [] } }

-- a function of a pointer to a pointer, whose parameter is this value
abbrev pub of_pointer : ℕ → ParamAttrs → ℕ → ℕ → Func
of_pointer v attrs first_block blocks = a_function [] linkage.Plain pointer no_attrs (parameter v pointer attrs ∷ []) false [] first_block blocks

-- The module, whose function `g` is declared with these attributes and these of its parameter, and called with those:
--
-- @a = global i64 0
-- @b = global i64 0
-- define ptr @f(ptr %p) {
--   %r = call ptr @g(ptr %p)
--   ret ptr %r
-- }
-- declare ptr @g(ptr)
-- define ptr @h(ptr %p) {
--   %r = call ptr @f(ptr %p)
--   ret ptr %r
-- }
abbrev pub sample : FuncAttrs → ParamAttrs → FuncAttrs → Module
sample declared param called = a_module
    (type.Void ∷ type.Ptr ∷ type.Int 64 ∷ [])
    (a_number ∷ a_number ∷ [])
    (of_pointer 0 no_attrs 0 1 ∷ record (of_pointer 2 param 0 0) { attrs = declared } ∷ of_pointer 3 no_attrs 1 1 ∷ [])
    (a_block 0 0 2 ∷ a_block 2 2 2 ∷ [])
    (
    segment 0 (instr (Some (value 1)) pointer (op.Call (calls 1 0 called)) ∷ [])
    ∷ segment 0 (instr None 0 (op.Ret (Some (typed (operand.Value (value 1)) pointer))) ∷ [])
    ∷ segment 1 (instr (Some (value 4)) pointer (op.Call (calls 0 3 no_attributes)) ∷ [])
    ∷ segment 1 (instr None 0 (op.Ret (Some (typed (operand.Value (value 4)) pointer))) ∷ [])
    ∷ [])
    (
    value_of 0 pointer (def.Param 0)
    ∷ value_of 0 pointer (def.Instr (spot 0 0))
    ∷ value_of 1 pointer (def.Param 0)
    ∷ value_of 2 pointer (def.Param 0)
    ∷ value_of 2 pointer (def.Instr (spot 2 0))
    ∷ [])
    []

-- the body that calls the outside, by its number
abbrev pub func_f : ℕ
func_f = 0

-- the body that calls it
abbrev pub func_h : ℕ
func_h = 2

-- the inner call of `f`
abbrev pub call_of_f : Spot
call_of_f = spot 2 0

-- the outer call of `g`
abbrev pub call_of_g : Spot
call_of_g = spot 0 0

-- ---- what the outer call promises

-- nothing is promised
abbrev pub silent : Module
silent = sample no_attributes no_attrs no_attributes

-- the declaration promises something of the call
abbrev pub declared : FuncAttrs → Module
declared attrs = sample attrs no_attrs no_attributes

-- the declaration promises something of its parameter
abbrev pub declared_of_parameter : ParamAttrs → Module
declared_of_parameter attrs = sample no_attributes attrs no_attributes

-- the call instruction promises something
abbrev pub called_with : FuncAttrs → Module
called_with attrs = sample no_attributes no_attrs attrs

-- `nounwind` alone
abbrev pub with_nounwind : FuncAttrs
with_nounwind = record no_attributes { nounwind = true }

-- `noreturn` alone
abbrev pub with_noreturn : FuncAttrs
with_noreturn = record no_attributes { noreturn = true }

-- `nofree` alone
abbrev pub with_nofree : FuncAttrs
with_nofree = record no_attributes { nofree = true }

-- `nocallback` alone
abbrev pub with_nocallback : FuncAttrs
with_nocallback = record no_attributes { nocallback = true }

-- this `memory(..)` alone
abbrev pub with_memory : MemoryAttr → FuncAttrs
with_memory access = record no_attributes { memory = Some access }

-- `nocapture` alone
abbrev pub with_nocapture : ParamAttrs
with_nocapture = record no_attrs { nocapture = true }

-- `readnone` alone
abbrev pub with_readnone : ParamAttrs
with_readnone = record no_attrs { readnone = true }

-- `readonly` alone
abbrev pub with_readonly : ParamAttrs
with_readonly = record no_attrs { readonly = true }

-- `writeonly` alone
abbrev pub with_writeonly : ParamAttrs
with_writeonly = record no_attrs { writeonly = true }

-- `returned` alone
abbrev pub with_returned : ParamAttrs
with_returned = record no_attrs { returned = true }

-- `memory(none)`
abbrev pub no_memory : MemoryAttr
no_memory = record { other = 0; argmem = 0; inaccessible = 0 }

-- `memory(read)`
abbrev pub read_memory : MemoryAttr
read_memory = record { other = 1; argmem = 1; inaccessible = 1 }

-- `memory(argmem: readwrite)`
abbrev pub argument_memory : MemoryAttr
argument_memory = record { other = 0; argmem = 3; inaccessible = 0 }

-- `memory(readwrite, inaccessiblemem: none)`
abbrev pub accessible_memory : MemoryAttr
accessible_memory = record { other = 3; argmem = 3; inaccessible = 0 }

-- many promises that one run keeps
abbrev pub many : Module
many = sample
    (record no_attributes { nounwind = true; nofree = true; nocallback = true; memory = Some (record { other = 0; argmem = 1; inaccessible = 0 }) })
    (record no_attrs { nocapture = true; readonly = true; returned = true })
    with_nounwind

-- ---- the opening state

-- globals and then functions have the blocks from 0 on
abbrev pub home : Symbol → Option ℕ
home (symbol.Global g) = slice_get (0 ∷ 1 ∷ []) g.0
home (symbol.Func f) = slice_get (2 ∷ 3 ∷ 4 ∷ []) f.0

-- the block of a global of eight bytes
abbrev pub global_shape : ℕ → ℕ → Shape
global_shape n base = shape_of 8 base (OfSymbol (symbol.Global (record { 0 = n })))

-- the block of a function
abbrev pub func_shape : ℕ → ℕ → Shape
func_shape n base = shape_of 0 base (OfSymbol (symbol.Func (function n)))

-- the blocks of the module
abbrev pub shapes : List Shape
shapes = global_shape 0 65536 ∷ global_shape 1 65552 ∷ func_shape 0 65568 ∷ func_shape 1 65584 ∷ func_shape 2 65600 ∷ []

-- an opening state: all bytes are 0
abbrev pub opened : State
opened = record {
  memory = record { count = 5; home = home; shape = λ n. shape_at (slice_get shapes n); life = λ n. Live; bytes = λ n at. byte.Number 0 };
  kept = [];
  born = λ n. 5;
  next_call = 1;
  stack = Outside (record { call = lowest_call 0 5; hand = [] }) ∷ [];
}

-- ---- values

-- an address in `@a`
abbrev pub in_a : ℕ → Value
in_a offset = with_marks (datum.Ptr 0 offset) []

-- an address in `@b`
abbrev pub in_b : ℕ → Value
in_b offset = with_marks (datum.Ptr 1 offset) []

-- `@a` as it comes into `g`, through `h` and `f`
abbrev pub passed_on : Value
passed_on = with_marks (datum.Ptr 0 0) (mark 1 0 ∷ mark 2 0 ∷ mark 3 0 ∷ [])

-- null, without origins
abbrev pub null : Value
null = with_marks datum.Null []

-- undef, without origins
abbrev pub undef : Value
undef = with_marks datum.Undef []

-- poison, without origins
abbrev pub poison : Value
poison = with_marks datum.Poison []

-- the block that is made next, when there are those of the module alone
abbrev pub new_block : ℕ
new_block = 5

-- an address in that block
abbrev pub in_new : Value
in_new = with_marks (datum.Ptr new_block 0) []

-- ---- choices

-- a module frame goes on
abbrev pub goes_on : Choice
goes_on = choice [] None

-- an outside frame acts
abbrev pub acts : Act → Choice
acts a = choice [] (Some a)

-- an outside frame enters an open body with one argument
abbrev pub enters : ℕ → Value → Choice
enters f x = acts (act.Enter (function f) (x ∷ []))

-- an outside frame returns a value
abbrev pub returns : Value → Choice
returns x = acts (act.Return (Some x))

-- ---- runs

-- what the outside does before it enters `h` with a value; `h` calls `f` and `f` calls `g`; what follows
abbrev pub with_call_of_g : List Act → Value → List Choice → List Choice
with_call_of_g before x rest = map acts before ++ enters func_h x ∷ goes_on ∷ goes_on ∷ rest

-- `g` acts and returns a value, which goes through `f` and `h` to the outside
abbrev pub where_g_returns : List Act → List Act → Value → Value → List Choice
where_g_returns before during x y = with_call_of_g before x (map acts during ++ returns y ∷ goes_on ∷ goes_on ∷ [])

-- `g` gets `@a`, acts and returns `@a`, not through its argument
abbrev pub where_g_acts : List Act → List Choice
where_g_acts during = where_g_returns [] during (in_a 0) (in_a 0)

-- `g` throws
abbrev pub where_g_unwinds : List Choice
where_g_unwinds = with_call_of_g [] (in_a 0) (acts act.Unwind ∷ [])

-- `g` returns, and so do all
abbrev pub where_all_return : List Choice
where_all_return = where_g_acts []

-- `g` enters `f` again, which calls `g` again
abbrev pub where_g_calls_back : List Choice
where_g_calls_back = with_call_of_g [] (in_a 0) (enters func_f (in_a 0) ∷ goes_on ∷ [])

-- `g` enters `h`
abbrev pub where_g_enters_another : List Choice
where_g_enters_another = with_call_of_g [] (in_a 0) (enters func_h (in_a 0) ∷ [])

-- `g` frees a block that is older than the calls
abbrev pub where_g_frees : List Choice
where_g_frees = where_g_returns (act.New 8 0 ∷ []) (act.Free new_block ∷ []) (in_a 0) (in_a 0)

-- `g` makes a block, writes it, reads it and frees it
abbrev pub where_g_has_its_own : List Choice
where_g_has_its_own = where_g_acts (
    act.New 8 0
    ∷ act.Write in_new (byte.Number 1 ∷ [])
    ∷ act.Read in_new 8
    ∷ act.Free new_block
    ∷ [])

-- `g` reads through its argument
abbrev pub where_g_reads : List Choice
where_g_reads = where_g_acts (act.Read passed_on 8 ∷ [])

-- `g` writes through its argument
abbrev pub where_g_writes : List Choice
where_g_writes = where_g_acts (act.Write passed_on (byte.Number 1 ∷ []) ∷ [])

-- `g` reads and writes what its argument points to, not through it
abbrev pub where_g_knows_it : List Choice
where_g_knows_it = where_g_acts (act.Read (in_a 0) 8 ∷ act.Write (in_a 0) (byte.Number 1 ∷ []) ∷ [])

-- `g` reads what its argument does not point to
abbrev pub where_g_reads_elsewhere : List Choice
where_g_reads_elsewhere = where_g_acts (act.Read (in_b 0) 8 ∷ [])

-- `g` writes what its argument does not point to
abbrev pub where_g_writes_elsewhere : List Choice
where_g_writes_elsewhere = where_g_acts (act.Write (in_b 0) (byte.Number 1 ∷ []) ∷ [])

-- `g` reads memory that the module can't name
abbrev pub where_g_reads_hidden : List Choice
where_g_reads_hidden = where_g_acts (act.HiddenRead ∷ [])

-- `g` writes memory that the module can't name
abbrev pub where_g_writes_hidden : List Choice
where_g_writes_hidden = where_g_acts (act.HiddenWrite ∷ [])

-- `g` keeps its argument
abbrev pub where_g_keeps_it : List Choice
where_g_keeps_it = where_g_acts (act.Keep passed_on ∷ [])

-- `g` keeps a pointer to the same block that did not come as its argument
abbrev pub where_g_keeps_another : List Choice
where_g_keeps_another = where_g_acts (act.Keep (in_a 0) ∷ [])

-- `g` returns its argument as it came
abbrev pub where_g_gives_it_back : List Choice
where_g_gives_it_back = where_g_returns [] [] (in_a 0) passed_on

-- `g` frees a block and returns a pointer to it
abbrev pub where_g_gives_what_it_freed : List Choice
where_g_gives_what_it_freed = where_g_returns (act.New 8 0 ∷ []) (act.Free new_block ∷ []) (in_a 0) in_new

-- all get this value
abbrev pub where_all_get : Value → List Choice
where_all_get x = where_g_returns [] [] x (in_a 0)

-- all return this value
abbrev pub where_all_give : Value → List Choice
where_all_give y = where_g_returns [] [] (in_a 0) y

-- the steps of a run of the module
abbrev pub steps : Module → List Choice → List Done
steps m choices = run m opened choices

-- in the run by these choices each outer call keeps what it promises
abbrev pub IsHonestRun : Module → List Choice → Type 0
IsHonestRun m choices = IsHonest m (steps m choices)
