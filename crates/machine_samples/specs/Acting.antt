-- Sample runs: the acts of the outside. Each has its program as text above it.
use Rattle.std.specs.Prelude.{true, false, [], ◌∷◌, None, Some}
use Rattle.ir_types.specs.declared.ir_type.IrType.TheVariants as type
use Rattle.ir_module.specs.declared.op.Operand.TheVariants as operand
use Rattle.ir_module.specs.declared.op.Symbol.TheVariants as symbol
use Rattle.ir_module.specs.declared.op.Op.TheVariants as op
use Rattle.ir_module.specs.declared.module.Linkage.TheVariants as linkage
use Rattle.ir_module.specs.declared.module.Def.TheVariants as def
use Rattle.ir_module.specs.Places.{spot}
use Rattle.ir_machine.specs.declared.choice.Datum.TheVariants as datum
use Rattle.ir_machine.specs.declared.choice.Byte.TheVariants as byte
use Rattle.ir_machine.specs.declared.choice.Act.TheVariants as act
use Rattle.ir_machine.specs.Memory.{OfSymbol, OfAlloca, Heap, Live, Closed, Dead}
use Rattle.ir_machine.specs.Frames.{Enter, Read, Write, HiddenRead, HiddenWrite, Free, Capture, Return}
use Rattle.machine_samples.specs.Build.{ty, value, function, global, typed, attributes, a_call, instr, segment, a_block, value_of, parameter, a_function}
use Rattle.machine_samples.specs.Build.{a_global, a_module, shape_of, mark, with_marks, choice, opened, by_call, expected, block_is, byte_is, value_is, outside}
use Rattle.machine_samples.specs.Build.{body, Sample}

-- @a = global i64 0
abbrev pub outside_reads_through_any_pointer_without_origins : Sample
outside_reads_through_any_pointer_without_origins = record {
  program = a_module
      ((type.Void) ∷ (type.Ptr) ∷ (type.Int 64) ∷ [])
      (a_global linkage.Plain 2 (Some (typed (operand.Int 0 true) 2)) (None) ∷ [])
      ([])
      ([])
      ([])
      ([])
      ([]);
  opening = opened 1 (shape_of 8 65536 (OfSymbol (symbol.Global (global 0))) ∷ []);
  choices = (choice ([]) (Some (act.Read (with_marks (datum.Ptr 0 3) ([])) 5)) ∷ []);
  steps = (expected 0 (by_call 0 (Read 0 []) ∷ []) ∷ []);
  final = record {
    blocks = (block_is 0 (shape_of 8 65536 (OfSymbol (symbol.Global (global 0)))) Live ∷ []);
    bytes = ([]);
    kept = ([]);
    frames = (outside 0 ([]) ∷ []);
  };
}

-- @a = global ptr null
-- define void @f(ptr %p) {
--   store ptr %p, ptr @a
--   ret void
-- }
abbrev pub outside_read_of_one_fragment_puts_the_pointer_in_hand : Sample
outside_read_of_one_fragment_puts_the_pointer_in_hand = record {
  program = a_module
      ((type.Void) ∷ (type.Ptr) ∷ [])
      (a_global linkage.Plain 1 (Some (typed (operand.Null) 1)) (None) ∷ [])
      (a_function [] linkage.Plain 0 (attributes false 0 0) (parameter 0 1 (attributes false 0 0) ∷ []) false ([]) 0 1 ∷ [])
      (a_block 0 0 1 ∷ [])
      (segment 0 (instr None 0 (op.Store (typed (operand.Value (value 0)) 1) (typed (operand.Global (global 0)) 1) None false) ∷ instr None 0
      (op.Ret None) ∷ []) ∷ [])
      (value_of 0 1 (def.Param 0) ∷ [])
      ([]);
  opening = opened 1 (shape_of 8 65536 (OfSymbol (symbol.Global (global 0))) ∷ shape_of 0 65552 (OfSymbol (symbol.Func (function 0))) ∷ []);
  choices = (
      choice ([]) (Some (act.Enter (function 0) ((with_marks (datum.Ptr 0 0) ([])) ∷ [])))
      ∷ choice ([]) None
      ∷ choice ([]) None
      ∷ choice ([]) (Some (act.Read (with_marks (datum.Ptr 0 5) ([])) 1))
      ∷ choice ([]) (Some (act.Write (with_marks (datum.Ptr 0 8) (mark 1 0 ∷ [])) (byte.Number 1 ∷ [])))
      ∷ []);
  steps = (
      expected 0 (by_call 0 (Enter 0) ∷ [])
      ∷ expected 0 (by_call 1 (Write 0 []) ∷ by_call 1 (Capture (mark 1 0 ∷ [])) ∷ [])
      ∷ expected 0 (by_call 1 (Return None) ∷ [])
      ∷ expected 0 (by_call 0 (Read 0 []) ∷ [])
      ∷ expected 2 ([])
      ∷ []);
  final = record {
    blocks = (block_is 0 (shape_of 8 65536 (OfSymbol (symbol.Global (global 0)))) Live ∷ block_is 1 (shape_of 0 65552 (OfSymbol (symbol.Func
        (function 0)))) Live ∷ []);
    bytes = (
        byte_is 0 0 (byte.Fragment 0 (with_marks (datum.Ptr 0 0) (mark 1 0 ∷ [])))
        ∷ byte_is 0 1 (byte.Fragment 1 (with_marks (datum.Ptr 0 0) (mark 1 0 ∷ [])))
        ∷ byte_is 0 2 (byte.Fragment 2 (with_marks (datum.Ptr 0 0) (mark 1 0 ∷ [])))
        ∷ byte_is 0 3 (byte.Fragment 3 (with_marks (datum.Ptr 0 0) (mark 1 0 ∷ [])))
        ∷ byte_is 0 4 (byte.Fragment 4 (with_marks (datum.Ptr 0 0) (mark 1 0 ∷ [])))
        ∷ byte_is 0 5 (byte.Fragment 5 (with_marks (datum.Ptr 0 0) (mark 1 0 ∷ [])))
        ∷ byte_is 0 6 (byte.Fragment 6 (with_marks (datum.Ptr 0 0) (mark 1 0 ∷ [])))
        ∷ byte_is 0 7 (byte.Fragment 7 (with_marks (datum.Ptr 0 0) (mark 1 0 ∷ [])))
        ∷ []);
    kept = ([]);
    frames = (outside 0 ((with_marks (datum.Ptr 0 0) (mark 1 0 ∷ [])) ∷ []) ∷ []);
  };
}

-- define void @f() {
--   %p = alloca i32
--   call void @llvm.lifetime.end.p0(ptr %p)
--   call void @x(ptr %p)
--   ret void
-- }
-- declare void @llvm.lifetime.start.p0(i64, ptr)
-- declare void @llvm.lifetime.end.p0(ptr)
-- declare void @x(ptr)
-- declare i32 @pers(...)
abbrev pub outside_read_of_a_closed_block_ends : Sample
outside_read_of_a_closed_block_ends = record {
  program = a_module
      ((type.Void) ∷ (type.Ptr) ∷ (type.Int 32) ∷ (type.Int 64) ∷ [])
      ([])
      (
      a_function [] linkage.Plain 0 (attributes false 0 0) ([]) false ([]) 0 1
      ∷ a_function (
      108
      ∷ 108
      ∷ 118
      ∷ 109
      ∷ 46
      ∷ 108
      ∷ 105
      ∷ 102
      ∷ 101
      ∷ 116
      ∷ 105
      ∷ 109
      ∷ 101
      ∷ 46
      ∷ 115
      ∷ 116
      ∷ 97
      ∷ 114
      ∷ 116
      ∷ 46
      ∷ 112
      ∷ 48
      ∷ []) linkage.Plain 0 (attributes false 0 0) (
      parameter 1 3 (attributes false 0 0)
      ∷ parameter 2 1 (attributes false 0 0)
      ∷ []) false ([]) 1 0
      ∷ a_function (
      108
      ∷ 108
      ∷ 118
      ∷ 109
      ∷ 46
      ∷ 108
      ∷ 105
      ∷ 102
      ∷ 101
      ∷ 116
      ∷ 105
      ∷ 109
      ∷ 101
      ∷ 46
      ∷ 101
      ∷ 110
      ∷ 100
      ∷ 46
      ∷ 112
      ∷ 48
      ∷ []) linkage.Plain 0 (attributes false 0 0) (
      parameter 3 1 (attributes false 0 0)
      ∷ []) false ([]) 1 0
      ∷ a_function [] linkage.Plain 0 (attributes false 0 0) (parameter 4 1 (attributes false 0 0) ∷ []) false ([]) 1 0
      ∷ a_function [] linkage.Plain 2 (attributes false 0 0) ([]) true ([]) 1 0
      ∷ [])
      (a_block 0 0 3 ∷ [])
      (
      segment 0 (
      instr (Some (value 0)) 1 (op.Alloca (ty 2) None None)
      ∷ instr None 0 (op.Call (a_call 0 (
      ty 1
      ∷ []) false (typed (operand.Func (function 2)) 1) (
      (typed (operand.Value (value 0)) 1)
      ∷ []) (attributes false 0 0) (
      (attributes false 0 0)
      ∷ [])))
      ∷ [])
      ∷ segment 0 (
      instr None 0 (op.Call (a_call 0 (
      ty 1
      ∷ []) false (typed (operand.Func (function 3)) 1) (
      (typed (operand.Value (value 0)) 1)
      ∷ []) (attributes false 0 0) (
      (attributes false 0 0)
      ∷ [])))
      ∷ [])
      ∷ segment 0 (instr None 0 (op.Ret None) ∷ [])
      ∷ [])
      (value_of 0 1 (def.Instr (spot 0 0)) ∷ value_of 1 3 (def.Param 0) ∷ value_of 1 1 (def.Param 1) ∷ value_of 2 1 (def.Param 0) ∷ value_of 3 1
      (def.Param 0) ∷ [])
      ([]);
  opening = opened 0 (
      shape_of 0 65536 (OfSymbol (symbol.Func (function 0)))
      ∷ shape_of 0 65552 (OfSymbol (symbol.Func (function 1)))
      ∷ shape_of 0 65568 (OfSymbol (symbol.Func (function 2)))
      ∷ shape_of 0 65584 (OfSymbol (symbol.Func (function 3)))
      ∷ shape_of 0 65600 (OfSymbol (symbol.Func (function 4)))
      ∷ []);
  choices = (
      choice ([]) (Some (act.Enter (function 0) ([])))
      ∷ choice ([]) None
      ∷ choice ([]) None
      ∷ choice ([]) None
      ∷ choice ([]) (Some (act.Read (with_marks (datum.Ptr 5 0) (mark 2 0 ∷ [])) 1))
      ∷ []);
  steps = (expected 0 (by_call 0 (Enter 0) ∷ []) ∷ expected 0 ([]) ∷ expected 0 ([]) ∷ expected 0 ([]) ∷ expected 2 ([]) ∷ []);
  final = record {
    blocks = (
        block_is 0 (shape_of 0 65536 (OfSymbol (symbol.Func (function 0)))) Live
        ∷ block_is 1 (shape_of 0 65552 (OfSymbol (symbol.Func (function 1)))) Live
        ∷ block_is 2 (shape_of 0 65568 (OfSymbol (symbol.Func (function 2)))) Live
        ∷ block_is 3 (shape_of 0 65584 (OfSymbol (symbol.Func (function 3)))) Live
        ∷ block_is 4 (shape_of 0 65600 (OfSymbol (symbol.Func (function 4)))) Live
        ∷ block_is 5 (shape_of 4 65616 (OfAlloca 1 0)) Closed
        ∷ []);
    bytes = ([]);
    kept = ([]);
    frames = (outside 2 ((with_marks (datum.Ptr 5 0) (mark 2 0 ∷ [])) ∷ []) ∷ body 1 0 1 0 (value_is 0 (with_marks (datum.Ptr 5 0) ([])) ∷ []) ∷ outside 0
        ([]) ∷ []);
  };
}

-- @a = global [16 x i8] zeroinitializer
abbrev pub outside_writes_any_bytes : Sample
outside_writes_any_bytes = record {
  program = a_module
      ((type.Void) ∷ (type.Ptr) ∷ (type.Int 8) ∷ (type.Array 16 (ty 2)) ∷ [])
      (a_global linkage.Plain 3 (Some (typed (operand.Zero) 3)) (None) ∷ [])
      ([])
      ([])
      ([])
      ([])
      ([]);
  opening = opened 1 (shape_of 16 65536 (OfSymbol (symbol.Global (global 0))) ∷ []);
  choices = (
      choice ([]) (Some (act.Write (with_marks (datum.Ptr 0 0) ([])) (
      byte.Number 1
      ∷ byte.Number 255
      ∷ byte.Undef
      ∷ byte.Poison
      ∷ byte.Fragment 0 (with_marks (datum.Ptr 0 4) ([]))
      ∷ byte.Fragment 7 (with_marks (datum.Ptr 0 4) ([]))
      ∷ byte.Number 0
      ∷ [])))
      ∷ choice ([]) (Some (act.Write (with_marks (datum.Ptr 0 2) ([])) (byte.Number 0 ∷ byte.Number 0 ∷ [])))
      ∷ []);
  steps = (expected 0 (by_call 0 (Write 0 []) ∷ []) ∷ expected 0 (by_call 0 (Write 0 []) ∷ []) ∷ []);
  final = record {
    blocks = (block_is 0 (shape_of 16 65536 (OfSymbol (symbol.Global (global 0)))) Live ∷ []);
    bytes = (
        byte_is 0 0 (byte.Number 1)
        ∷ byte_is 0 1 (byte.Number 255)
        ∷ byte_is 0 4 (byte.Fragment 0 (with_marks (datum.Ptr 0 4) ([])))
        ∷ byte_is 0 5 (byte.Fragment 7 (with_marks (datum.Ptr 0 4) ([])))
        ∷ []);
    kept = ([]);
    frames = (outside 0 ([]) ∷ []);
  };
}

-- @a = global i64 0
-- define void @f(ptr %p) {
--   call void @x(ptr %p)
--   ret void
-- }
-- declare void @x(ptr)
abbrev pub outside_writes_a_pointer_in_hand_and_captures_it : Sample
outside_writes_a_pointer_in_hand_and_captures_it = record {
  program = a_module
      ((type.Void) ∷ (type.Ptr) ∷ (type.Int 64) ∷ [])
      (a_global linkage.Plain 2 (Some (typed (operand.Int 0 true) 2)) (None) ∷ [])
      (
      a_function [] linkage.Plain 0 (attributes false 0 0) (parameter 0 1 (attributes false 0 0) ∷ []) false ([]) 0 1
      ∷ a_function [] linkage.Plain 0 (attributes false 0 0) (parameter 1 1 (attributes false 0 0) ∷ []) false ([]) 1 0
      ∷ [])
      (a_block 0 0 2 ∷ [])
      (
      segment 0 (
      instr None 0 (op.Call (a_call 0 (
      ty 1
      ∷ []) false (typed (operand.Func (function 1)) 1) (
      (typed (operand.Value (value 0)) 1)
      ∷ []) (attributes false 0 0) (
      (attributes false 0 0)
      ∷ [])))
      ∷ [])
      ∷ segment 0 (instr None 0 (op.Ret None) ∷ [])
      ∷ [])
      (value_of 0 1 (def.Param 0) ∷ value_of 1 1 (def.Param 0) ∷ [])
      ([]);
  opening = opened 1 (
      shape_of 8 65536 (OfSymbol (symbol.Global (global 0)))
      ∷ shape_of 0 65552 (OfSymbol (symbol.Func (function 0)))
      ∷ shape_of 0 65568 (OfSymbol (symbol.Func (function 1)))
      ∷ []);
  choices = (
      choice ([]) (Some (act.Enter (function 0) ((with_marks (datum.Ptr 0 0) ([])) ∷ [])))
      ∷ choice ([]) None
      ∷ choice ([]) (Some (act.Write (with_marks (datum.Ptr 0 0) (mark 1 0 ∷ mark 2 0 ∷ [])) (
      byte.Fragment 0 (with_marks (datum.Ptr 0 5) (mark 1 0 ∷ mark 2 0 ∷ []))
      ∷ byte.Fragment 1 (with_marks (datum.Ptr 0 5) (mark 1 0 ∷ mark 2 0 ∷ []))
      ∷ byte.Number 3
      ∷ [])))
      ∷ []);
  steps = (
      expected 0 (by_call 0 (Enter 0) ∷ [])
      ∷ expected 0 ([])
      ∷ expected 0 (by_call 2 (Write 0 (mark 1 0 ∷ mark 2 0 ∷ [])) ∷ by_call 2 (Capture (mark 1 0 ∷ mark 2 0 ∷ [])) ∷ [])
      ∷ []);
  final = record {
    blocks = (
        block_is 0 (shape_of 8 65536 (OfSymbol (symbol.Global (global 0)))) Live
        ∷ block_is 1 (shape_of 0 65552 (OfSymbol (symbol.Func (function 0)))) Live
        ∷ block_is 2 (shape_of 0 65568 (OfSymbol (symbol.Func (function 1)))) Live
        ∷ []);
    bytes = (
        byte_is 0 0 (byte.Fragment 0 (with_marks (datum.Ptr 0 5) (mark 1 0 ∷ mark 2 0 ∷ [])))
        ∷ byte_is 0 1 (byte.Fragment 1 (with_marks (datum.Ptr 0 5) (mark 1 0 ∷ mark 2 0 ∷ [])))
        ∷ byte_is 0 2 (byte.Number 3)
        ∷ []);
    kept = ([]);
    frames = (outside 2 ((with_marks (datum.Ptr 0 0) (mark 1 0 ∷ mark 2 0 ∷ [])) ∷ []) ∷ body 1 0 0 0 (value_is 0 (with_marks (datum.Ptr 0 0)
        (mark 1 0 ∷ [])) ∷ []) ∷ outside 0 ([]) ∷ []);
  };
}

-- @a = global i64 0
abbrev pub outside_write_of_a_fragment_with_foreign_origins_ends : Sample
outside_write_of_a_fragment_with_foreign_origins_ends = record {
  program = a_module
      ((type.Void) ∷ (type.Ptr) ∷ (type.Int 64) ∷ [])
      (a_global linkage.Plain 2 (Some (typed (operand.Int 0 true) 2)) (None) ∷ [])
      ([])
      ([])
      ([])
      ([])
      ([]);
  opening = opened 1 (shape_of 8 65536 (OfSymbol (symbol.Global (global 0))) ∷ []);
  choices = (choice ([]) (Some (act.Write (with_marks (datum.Ptr 0 0) ([])) (byte.Fragment 0 (with_marks (datum.Ptr 0 0) (mark 1 0 ∷ [])) ∷ []))) ∷ []);
  steps = (expected 2 ([]) ∷ []);
  final = record {
    blocks = (block_is 0 (shape_of 8 65536 (OfSymbol (symbol.Global (global 0)))) Live ∷ []);
    bytes = ([]);
    kept = ([]);
    frames = (outside 0 ([]) ∷ []);
  };
}

-- @a = global i8 0
abbrev pub hidden_read_and_hidden_write : Sample
hidden_read_and_hidden_write = record {
  program = a_module
      ((type.Void) ∷ (type.Ptr) ∷ (type.Int 8) ∷ [])
      (a_global linkage.Plain 2 (Some (typed (operand.Int 0 true) 2)) (None) ∷ [])
      ([])
      ([])
      ([])
      ([])
      ([]);
  opening = opened 1 (shape_of 1 65536 (OfSymbol (symbol.Global (global 0))) ∷ []);
  choices = (choice ([]) (Some (act.HiddenRead)) ∷ choice ([]) (Some (act.HiddenWrite)) ∷ []);
  steps = (expected 0 (by_call 0 (HiddenRead) ∷ []) ∷ expected 0 (by_call 0 (HiddenWrite) ∷ []) ∷ []);
  final = record {
    blocks = (block_is 0 (shape_of 1 65536 (OfSymbol (symbol.Global (global 0)))) Live ∷ []);
    bytes = ([]);
    kept = ([]);
    frames = (outside 0 ([]) ∷ []);
  };
}

-- @a = global i8 0
-- define void @f(ptr %p) {
--   %v = load i32, ptr %p
--   ret void
-- }
abbrev pub new_gives_a_live_block_of_undef_bytes : Sample
new_gives_a_live_block_of_undef_bytes = record {
  program = a_module
      ((type.Void) ∷ (type.Ptr) ∷ (type.Int 8) ∷ (type.Int 32) ∷ [])
      (a_global linkage.Plain 2 (Some (typed (operand.Int 0 true) 2)) (None) ∷ [])
      (a_function [] linkage.Plain 0 (attributes false 0 0) (parameter 0 1 (attributes false 0 0) ∷ []) false ([]) 0 1 ∷ [])
      (a_block 0 0 1 ∷ [])
      (segment 0 (instr (Some (value 1)) 3 (op.Load (typed (operand.Value (value 0)) 1) None false) ∷ instr None 0 (op.Ret None) ∷ []) ∷ [])
      (value_of 0 1 (def.Param 0) ∷ value_of 0 3 (def.Instr (spot 0 0)) ∷ [])
      ([]);
  opening = opened 1 (shape_of 1 65536 (OfSymbol (symbol.Global (global 0))) ∷ shape_of 0 65552 (OfSymbol (symbol.Func (function 0))) ∷ []);
  choices = (
      choice ([]) (Some (act.New 4 0))
      ∷ choice ([]) (Some (act.Enter (function 0) ((with_marks (datum.Ptr 1 0) ([])) ∷ [])))
      ∷ choice ([]) (Some (act.Enter (function 0) ((with_marks (datum.Ptr 1 0) ([])) ∷ [])))
      ∷ []);
  steps = (expected 0 ([]) ∷ expected 0 (by_call 0 (Enter 0) ∷ []) ∷ expected 2 ([]) ∷ []);
  final = record {
    blocks = (
        block_is 0 (shape_of 1 65536 (OfSymbol (symbol.Global (global 0)))) Live
        ∷ block_is 1 (shape_of 0 65552 (OfSymbol (symbol.Func (function 0)))) Live
        ∷ block_is 2 (shape_of 4 65568 (Heap)) Live
        ∷ []);
    bytes = ([]);
    kept = ([]);
    frames = (body 1 0 0 0 (value_is 0 (with_marks (datum.Ptr 1 0) (mark 1 0 ∷ [])) ∷ []) ∷ outside 0 ([]) ∷ []);
  };
}

abbrev pub new_beside_a_live_block : Sample
new_beside_a_live_block = record {
  program = a_module
      ((type.Void) ∷ (type.Ptr) ∷ [])
      ([])
      ([])
      ([])
      ([])
      ([])
      ([]);
  opening = opened 0 ([]);
  choices = (choice ([]) (Some (act.New 16 70000)) ∷ choice ([]) (Some (act.New 16 70016)) ∷ choice ([]) (Some (act.New 16 69984)) ∷ []);
  steps = (expected 0 ([]) ∷ expected 0 ([]) ∷ expected 0 ([]) ∷ []);
  final = record {
    blocks = (block_is 0 (shape_of 16 70000 (Heap)) Live ∷ block_is 1 (shape_of 16 70016 (Heap)) Live ∷ block_is 2 (shape_of 16 69984 (Heap)) Live ∷ []);
    bytes = ([]);
    kept = ([]);
    frames = (outside 0 ([]) ∷ []);
  };
}

abbrev pub free_makes_a_heap_block_dead : Sample
free_makes_a_heap_block_dead = record {
  program = a_module
      ((type.Void) ∷ (type.Ptr) ∷ [])
      ([])
      ([])
      ([])
      ([])
      ([])
      ([]);
  opening = opened 0 ([]);
  choices = (
      choice ([]) (Some (act.New 4 0))
      ∷ choice ([]) (Some (act.Write (with_marks (datum.Ptr 0 0) ([])) (byte.Number 1 ∷ [])))
      ∷ choice ([]) (Some (act.Free 0))
      ∷ []);
  steps = (expected 0 ([]) ∷ expected 0 (by_call 0 (Write 0 []) ∷ []) ∷ expected 0 (by_call 0 (Free 0) ∷ []) ∷ []);
  final = record {
    blocks = (block_is 0 (shape_of 4 65536 (Heap)) Dead ∷ []);
    bytes = ([]);
    kept = ([]);
    frames = (outside 0 ([]) ∷ []);
  };
}

-- @a = global i8 0
abbrev pub free_of_a_global_ends : Sample
free_of_a_global_ends = record {
  program = a_module
      ((type.Void) ∷ (type.Ptr) ∷ (type.Int 8) ∷ [])
      (a_global linkage.Plain 2 (Some (typed (operand.Int 0 true) 2)) (None) ∷ [])
      ([])
      ([])
      ([])
      ([])
      ([]);
  opening = opened 1 (shape_of 1 65536 (OfSymbol (symbol.Global (global 0))) ∷ []);
  choices = (choice ([]) (Some (act.Free 0)) ∷ []);
  steps = (expected 2 ([]) ∷ []);
  final = record {
    blocks = (block_is 0 (shape_of 1 65536 (OfSymbol (symbol.Global (global 0)))) Live ∷ []);
    bytes = ([]);
    kept = ([]);
    frames = (outside 0 ([]) ∷ []);
  };
}

-- @a = global i8 0
abbrev pub keep_of_foreign_origins_ends : Sample
keep_of_foreign_origins_ends = record {
  program = a_module
      ((type.Void) ∷ (type.Ptr) ∷ (type.Int 8) ∷ [])
      (a_global linkage.Plain 2 (Some (typed (operand.Int 0 true) 2)) (None) ∷ [])
      ([])
      ([])
      ([])
      ([])
      ([]);
  opening = opened 1 (shape_of 1 65536 (OfSymbol (symbol.Global (global 0))) ∷ []);
  choices = (choice ([]) (Some (act.Keep (with_marks (datum.Ptr 0 0) (mark 1 0 ∷ [])))) ∷ []);
  steps = (expected 2 ([]) ∷ []);
  final = record {
    blocks = (block_is 0 (shape_of 1 65536 (OfSymbol (symbol.Global (global 0)))) Live ∷ []);
    bytes = ([]);
    kept = ([]);
    frames = (outside 0 ([]) ∷ []);
  };
}

-- @a = global i64 0
-- define void @f(ptr %p) {
--   call void @x(ptr %p)
--   ret void
-- }
-- declare void @x(ptr)
abbrev pub kept_values_are_in_every_hand : Sample
kept_values_are_in_every_hand = record {
  program = a_module
      ((type.Void) ∷ (type.Ptr) ∷ (type.Int 64) ∷ [])
      (a_global linkage.Plain 2 (Some (typed (operand.Int 0 true) 2)) (None) ∷ [])
      (
      a_function [] linkage.Plain 0 (attributes false 0 0) (parameter 0 1 (attributes false 0 0) ∷ []) false ([]) 0 1
      ∷ a_function [] linkage.Plain 0 (attributes false 0 0) (parameter 1 1 (attributes false 0 0) ∷ []) false ([]) 1 0
      ∷ [])
      (a_block 0 0 2 ∷ [])
      (
      segment 0 (
      instr None 0 (op.Call (a_call 0 (
      ty 1
      ∷ []) false (typed (operand.Func (function 1)) 1) (
      (typed (operand.Value (value 0)) 1)
      ∷ []) (attributes false 0 0) (
      (attributes false 0 0)
      ∷ [])))
      ∷ [])
      ∷ segment 0 (instr None 0 (op.Ret None) ∷ [])
      ∷ [])
      (value_of 0 1 (def.Param 0) ∷ value_of 1 1 (def.Param 0) ∷ [])
      ([]);
  opening = opened 1 (
      shape_of 8 65536 (OfSymbol (symbol.Global (global 0)))
      ∷ shape_of 0 65552 (OfSymbol (symbol.Func (function 0)))
      ∷ shape_of 0 65568 (OfSymbol (symbol.Func (function 1)))
      ∷ []);
  choices = (
      choice ([]) (Some (act.Enter (function 0) ((with_marks (datum.Ptr 0 0) ([])) ∷ [])))
      ∷ choice ([]) None
      ∷ choice ([]) (Some (act.Keep (with_marks (datum.Ptr 0 0) (mark 1 0 ∷ mark 2 0 ∷ []))))
      ∷ choice ([]) (Some (act.Return None))
      ∷ choice ([]) None
      ∷ choice ([]) (Some (act.Read (with_marks (datum.Ptr 0 1) (mark 1 0 ∷ mark 2 0 ∷ [])) 1))
      ∷ []);
  steps = (
      expected 0 (by_call 0 (Enter 0) ∷ [])
      ∷ expected 0 ([])
      ∷ expected 0 (by_call 2 (Capture (mark 1 0 ∷ mark 2 0 ∷ [])) ∷ [])
      ∷ expected 0 (by_call 2 (Return None) ∷ [])
      ∷ expected 0 (by_call 1 (Return None) ∷ [])
      ∷ expected 0 (by_call 0 (Read 0 (mark 1 0 ∷ mark 2 0 ∷ [])) ∷ [])
      ∷ []);
  final = record {
    blocks = (
        block_is 0 (shape_of 8 65536 (OfSymbol (symbol.Global (global 0)))) Live
        ∷ block_is 1 (shape_of 0 65552 (OfSymbol (symbol.Func (function 0)))) Live
        ∷ block_is 2 (shape_of 0 65568 (OfSymbol (symbol.Func (function 1)))) Live
        ∷ []);
    bytes = ([]);
    kept = ((with_marks (datum.Ptr 0 0) (mark 1 0 ∷ mark 2 0 ∷ [])) ∷ []);
    frames = (outside 0 ([]) ∷ []);
  };
}

-- define internal void @f() {
--   ret void
-- }
abbrev pub enter_of_an_internal_body_ends : Sample
enter_of_an_internal_body_ends = record {
  program = a_module
      ((type.Void) ∷ (type.Ptr) ∷ [])
      ([])
      (a_function [] linkage.Internal 0 (attributes false 0 0) ([]) false ([]) 0 1 ∷ [])
      (a_block 0 0 1 ∷ [])
      (segment 0 (instr None 0 (op.Ret None) ∷ []) ∷ [])
      ([])
      ([]);
  opening = opened 0 (shape_of 0 65536 (OfSymbol (symbol.Func (function 0))) ∷ []);
  choices = (choice ([]) (Some (act.Enter (function 0) ([]))) ∷ []);
  steps = (expected 2 ([]) ∷ []);
  final = record {
    blocks = (block_is 0 (shape_of 0 65536 (OfSymbol (symbol.Func (function 0)))) Live ∷ []);
    bytes = ([]);
    kept = ([]);
    frames = (outside 0 ([]) ∷ []);
  };
}

-- define void @f(i8 %n, ptr %p) {
--   ret void
-- }
abbrev pub enter_with_a_pointer_for_an_integer_ends : Sample
enter_with_a_pointer_for_an_integer_ends = record {
  program = a_module
      ((type.Void) ∷ (type.Ptr) ∷ (type.Int 8) ∷ [])
      ([])
      (a_function [] linkage.Plain 0 (attributes false 0 0) (parameter 0 2 (attributes false 0 0) ∷ parameter 1 1 (attributes false 0 0) ∷ []) false
      ([]) 0 1 ∷ [])
      (a_block 0 0 1 ∷ [])
      (segment 0 (instr None 0 (op.Ret None) ∷ []) ∷ [])
      (value_of 0 2 (def.Param 0) ∷ value_of 0 1 (def.Param 1) ∷ [])
      ([]);
  opening = opened 0 (shape_of 0 65536 (OfSymbol (symbol.Func (function 0))) ∷ []);
  choices = (choice ([]) (Some (act.Enter (function 0) ((with_marks (datum.Ptr 0 0) ([])) ∷ (with_marks (datum.Ptr 0 0) ([])) ∷ []))) ∷ []);
  steps = (expected 2 ([]) ∷ []);
  final = record {
    blocks = (block_is 0 (shape_of 0 65536 (OfSymbol (symbol.Func (function 0)))) Live ∷ []);
    bytes = ([]);
    kept = ([]);
    frames = (outside 0 ([]) ∷ []);
  };
}

abbrev pub the_lowest_frame_does_not_return : Sample
the_lowest_frame_does_not_return = record {
  program = a_module
      ((type.Void) ∷ (type.Ptr) ∷ [])
      ([])
      ([])
      ([])
      ([])
      ([])
      ([]);
  opening = opened 0 ([]);
  choices = (choice ([]) (Some (act.Return None)) ∷ []);
  steps = (expected 2 ([]) ∷ []);
  final = record {
    blocks = ([]);
    bytes = ([]);
    kept = ([]);
    frames = (outside 0 ([]) ∷ []);
  };
}

abbrev pub the_lowest_frame_does_not_unwind : Sample
the_lowest_frame_does_not_unwind = record {
  program = a_module
      ((type.Void) ∷ (type.Ptr) ∷ [])
      ([])
      ([])
      ([])
      ([])
      ([])
      ([]);
  opening = opened 0 ([]);
  choices = (choice ([]) (Some (act.Unwind)) ∷ []);
  steps = (expected 2 ([]) ∷ []);
  final = record {
    blocks = ([]);
    bytes = ([]);
    kept = ([]);
    frames = (outside 0 ([]) ∷ []);
  };
}

-- define void @f() {
--   call i8 @x()
--   ret void
-- }
-- declare i8 @x()
abbrev pub return_of_an_integer_that_does_not_fit_ends : Sample
return_of_an_integer_that_does_not_fit_ends = record {
  program = a_module
      ((type.Void) ∷ (type.Ptr) ∷ (type.Int 8) ∷ [])
      ([])
      (a_function [] linkage.Plain 0 (attributes false 0 0) ([]) false ([]) 0 1 ∷ a_function [] linkage.Plain 2 (attributes false 0 0) ([]) false ([]) 1 0 ∷ [])
      (a_block 0 0 2 ∷ [])
      (
      segment 0 (instr (Some (value 0)) 2 (op.Call (a_call 2 ([]) false (typed (operand.Func (function 1)) 1) ([]) (attributes false 0 0) ([]))) ∷ [])
      ∷ segment 0 (instr None 0 (op.Ret None) ∷ [])
      ∷ [])
      (value_of 0 2 (def.Instr (spot 0 0)) ∷ [])
      ([]);
  opening = opened 0 (shape_of 0 65536 (OfSymbol (symbol.Func (function 0))) ∷ shape_of 0 65552 (OfSymbol (symbol.Func (function 1))) ∷ []);
  choices = (choice ([]) (Some (act.Enter (function 0) ([]))) ∷ choice ([]) None ∷ choice ([]) (Some (act.Return (Some (with_marks (datum.Int 256)
      ([]))))) ∷ []);
  steps = (expected 0 (by_call 0 (Enter 0) ∷ []) ∷ expected 0 ([]) ∷ expected 2 ([]) ∷ []);
  final = record {
    blocks = (block_is 0 (shape_of 0 65536 (OfSymbol (symbol.Func (function 0)))) Live ∷ block_is 1 (shape_of 0 65552 (OfSymbol (symbol.Func
        (function 1)))) Live ∷ []);
    bytes = ([]);
    kept = ([]);
    frames = (outside 2 ([]) ∷ body 1 0 0 0 ([]) ∷ outside 0 ([]) ∷ []);
  };
}

-- define void @f() {
--   ret void
-- }
abbrev pub no_act_in_an_outside_frame_ends : Sample
no_act_in_an_outside_frame_ends = record {
  program = a_module
      ((type.Void) ∷ (type.Ptr) ∷ [])
      ([])
      (a_function [] linkage.Plain 0 (attributes false 0 0) ([]) false ([]) 0 1 ∷ [])
      (a_block 0 0 1 ∷ [])
      (segment 0 (instr None 0 (op.Ret None) ∷ []) ∷ [])
      ([])
      ([]);
  opening = opened 0 (shape_of 0 65536 (OfSymbol (symbol.Func (function 0))) ∷ []);
  choices = (choice ([]) None ∷ []);
  steps = (expected 2 ([]) ∷ []);
  final = record {
    blocks = (block_is 0 (shape_of 0 65536 (OfSymbol (symbol.Func (function 0)))) Live ∷ []);
    bytes = ([]);
    kept = ([]);
    frames = (outside 0 ([]) ∷ []);
  };
}

-- define void @f() {
--   ret void
-- }
abbrev pub act_in_a_module_frame_ends : Sample
act_in_a_module_frame_ends = record {
  program = a_module
      ((type.Void) ∷ (type.Ptr) ∷ [])
      ([])
      (a_function [] linkage.Plain 0 (attributes false 0 0) ([]) false ([]) 0 1 ∷ [])
      (a_block 0 0 1 ∷ [])
      (segment 0 (instr None 0 (op.Ret None) ∷ []) ∷ [])
      ([])
      ([]);
  opening = opened 0 (shape_of 0 65536 (OfSymbol (symbol.Func (function 0))) ∷ []);
  choices = (choice ([]) (Some (act.Enter (function 0) ([]))) ∷ choice ([]) (Some (act.HiddenRead)) ∷ []);
  steps = (expected 0 (by_call 0 (Enter 0) ∷ []) ∷ expected 2 ([]) ∷ []);
  final = record {
    blocks = (block_is 0 (shape_of 0 65536 (OfSymbol (symbol.Func (function 0)))) Live ∷ []);
    bytes = ([]);
    kept = ([]);
    frames = (body 1 0 0 0 ([]) ∷ outside 0 ([]) ∷ []);
  };
}
