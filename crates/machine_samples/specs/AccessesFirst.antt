-- Sample runs: memory access. Each has its program as text above it.
use Rattle.std.specs.Prelude.{true, false, [], ◌∷◌, None, Some}
use Rattle.ir_types.specs.declared.ir_type.IrType.TheVariants as type
use Rattle.ir_module.specs.declared.op.Operand.TheVariants as operand
use Rattle.ir_module.specs.declared.op.Symbol.TheVariants as symbol
use Rattle.ir_module.specs.declared.op.Op.TheVariants as op
use Rattle.ir_module.specs.declared.module.Linkage.TheVariants as linkage
use Rattle.ir_module.specs.declared.module.Def.TheVariants as def
use Rattle.ir_module.specs.Places.{spot}
use Rattle.ir_machine.specs.declared.choice.Datum.TheVariants as datum
use Rattle.ir_machine.specs.declared.choice.Byte.TheVariants as byte
use Rattle.ir_machine.specs.declared.choice.Act.TheVariants as act
use Rattle.ir_machine.specs.Memory.{OfSymbol, OfAlloca, Heap, Live}
use Rattle.ir_machine.specs.Frames.{Enter, Read, Write, Capture, Return}
use Rattle.machine_samples.specs.Build.{ty, value, function, global, block, typed, attributes, instr, segment, a_block, value_of, parameter, a_function}
use Rattle.machine_samples.specs.Build.{a_global, a_module, shape_of, mark, with_marks, choice, opened, by_call, expected, block_is, byte_is, value_is, outside}
use Rattle.machine_samples.specs.Build.{body, Sample}

-- define void @f(i8 %n) {
--   %a = alloca i32
--   %b = alloca i8, i8 %n
--   %c = alloca { i8, i64 }
--   %d = alloca i8, align 128
--   %e = alloca i33, i16 2
--   %g = alloca i64, i1 true
--   %h = alloca i32, i8 0
--   %i = alloca <{ i8, i64 }>
--   ret void
-- }
abbrev pub alloca_sizes_and_bases : Sample
alloca_sizes_and_bases = record {
  program = a_module
      (
      (type.Void)
      ∷ (type.Ptr)
      ∷ (type.Int 8)
      ∷ (type.Int 32)
      ∷ (type.Int 64)
      ∷ (type.Struct (ty 2 ∷ ty 4 ∷ []) false)
      ∷ (type.Int 33)
      ∷ (type.Int 16)
      ∷ (type.Int 1)
      ∷ (type.Struct (ty 2 ∷ ty 4 ∷ []) true)
      ∷ [])
      ([])
      (a_function [] linkage.Plain 0 (attributes false 0 0) (parameter 0 2 (attributes false 0 0) ∷ []) false ([]) 0 1 ∷ [])
      (a_block 0 0 1 ∷ [])
      (
      segment 0 (
      instr (Some (value 1)) 1 (op.Alloca (ty 3) None None)
      ∷ instr (Some (value 2)) 1 (op.Alloca (ty 2) (Some (typed (operand.Value (value 0)) 2)) None)
      ∷ instr (Some (value 3)) 1 (op.Alloca (ty 5) None None)
      ∷ instr (Some (value 4)) 1 (op.Alloca (ty 2) None (Some 128))
      ∷ instr (Some (value 5)) 1 (op.Alloca (ty 6) (Some (typed (operand.Int 2 true) 7)) None)
      ∷ instr (Some (value 6)) 1 (op.Alloca (ty 4) (Some (typed (operand.Truth true) 8)) None)
      ∷ instr (Some (value 7)) 1 (op.Alloca (ty 3) (Some (typed (operand.Int 0 true) 2)) None)
      ∷ instr (Some (value 8)) 1 (op.Alloca (ty 9) None None)
      ∷ instr None 0 (op.Ret None)
      ∷ [])
      ∷ [])
      (
      value_of 0 2 (def.Param 0)
      ∷ value_of 0 1 (def.Instr (spot 0 0))
      ∷ value_of 0 1 (def.Instr (spot 0 1))
      ∷ value_of 0 1 (def.Instr (spot 0 2))
      ∷ value_of 0 1 (def.Instr (spot 0 3))
      ∷ value_of 0 1 (def.Instr (spot 0 4))
      ∷ value_of 0 1 (def.Instr (spot 0 5))
      ∷ value_of 0 1 (def.Instr (spot 0 6))
      ∷ value_of 0 1 (def.Instr (spot 0 7))
      ∷ [])
      ([]);
  opening = opened 0 (shape_of 0 65536 (OfSymbol (symbol.Func (function 0))) ∷ []);
  choices = (
      choice ([]) (Some (act.Enter (function 0) ((with_marks (datum.Int 255) ([])) ∷ [])))
      ∷ choice ([]) None
      ∷ choice ([]) None
      ∷ choice ([]) None
      ∷ choice ([]) None
      ∷ choice ([]) None
      ∷ choice ([]) None
      ∷ choice ([]) None
      ∷ choice ([]) None
      ∷ []);
  steps = (
      expected 0 (by_call 0 (Enter 0) ∷ [])
      ∷ expected 0 ([])
      ∷ expected 0 ([])
      ∷ expected 0 ([])
      ∷ expected 0 ([])
      ∷ expected 0 ([])
      ∷ expected 0 ([])
      ∷ expected 0 ([])
      ∷ expected 0 ([])
      ∷ []);
  final = record {
    blocks = (
        block_is 0 (shape_of 0 65536 (OfSymbol (symbol.Func (function 0)))) Live
        ∷ block_is 1 (shape_of 4 65552 (OfAlloca 1 0)) Live
        ∷ block_is 2 (shape_of 255 65568 (OfAlloca 1 0)) Live
        ∷ block_is 3 (shape_of 16 65824 (OfAlloca 1 0)) Live
        ∷ block_is 4 (shape_of 1 65920 (OfAlloca 1 0)) Live
        ∷ block_is 5 (shape_of 16 65936 (OfAlloca 1 0)) Live
        ∷ block_is 6 (shape_of 8 65968 (OfAlloca 1 0)) Live
        ∷ block_is 7 (shape_of 0 65984 (OfAlloca 1 0)) Live
        ∷ block_is 8 (shape_of 9 66000 (OfAlloca 1 0)) Live
        ∷ []);
    bytes = ([]);
    kept = ([]);
    frames = (
        body 1 0 0 8 (
        value_is 0 (with_marks (datum.Int 255) ([]))
        ∷ value_is 1 (with_marks (datum.Ptr 1 0) ([]))
        ∷ value_is 2 (with_marks (datum.Ptr 2 0) ([]))
        ∷ value_is 3 (with_marks (datum.Ptr 3 0) ([]))
        ∷ value_is 4 (with_marks (datum.Ptr 4 0) ([]))
        ∷ value_is 5 (with_marks (datum.Ptr 5 0) ([]))
        ∷ value_is 6 (with_marks (datum.Ptr 6 0) ([]))
        ∷ value_is 7 (with_marks (datum.Ptr 7 0) ([]))
        ∷ value_is 8 (with_marks (datum.Ptr 8 0) ([]))
        ∷ [])
        ∷ outside 0 ([])
        ∷ []);
  };
}

-- define void @f() {
--   %a = alloca i64
--   ret void
-- }
abbrev pub alloca_over_a_live_block_ends : Sample
alloca_over_a_live_block_ends = record {
  program = a_module
      ((type.Void) ∷ (type.Ptr) ∷ (type.Int 64) ∷ [])
      ([])
      (a_function [] linkage.Plain 0 (attributes false 0 0) ([]) false ([]) 0 1 ∷ [])
      (a_block 0 0 1 ∷ [])
      (segment 0 (instr (Some (value 0)) 1 (op.Alloca (ty 2) None None) ∷ instr None 0 (op.Ret None) ∷ []) ∷ [])
      (value_of 0 1 (def.Instr (spot 0 0)) ∷ [])
      ([]);
  opening = opened 0 (shape_of 0 65536 (OfSymbol (symbol.Func (function 0))) ∷ []);
  choices = (choice ([]) (Some (act.New 16 69999)) ∷ choice ([]) (Some (act.Enter (function 0) ([]))) ∷ choice (69992 ∷ []) None ∷ []);
  steps = (expected 0 ([]) ∷ expected 0 (by_call 0 (Enter 0) ∷ []) ∷ expected 2 ([]) ∷ []);
  final = record {
    blocks = (block_is 0 (shape_of 0 65536 (OfSymbol (symbol.Func (function 0)))) Live ∷ block_is 1 (shape_of 16 69999 (Heap)) Live ∷ []);
    bytes = ([]);
    kept = ([]);
    frames = (body 1 0 0 0 ([]) ∷ outside 0 ([]) ∷ []);
  };
}

-- define void @f() {
--   %a = alloca i8, i8 undef
--   ret void
-- }
abbrev pub alloca_of_count_undef_is_undefined : Sample
alloca_of_count_undef_is_undefined = record {
  program = a_module
      ((type.Void) ∷ (type.Ptr) ∷ (type.Int 8) ∷ [])
      ([])
      (a_function [] linkage.Plain 0 (attributes false 0 0) ([]) false ([]) 0 1 ∷ [])
      (a_block 0 0 1 ∷ [])
      (segment 0 (instr (Some (value 0)) 1 (op.Alloca (ty 2) (Some (typed (operand.Undef) 2)) None) ∷ instr None 0 (op.Ret None) ∷ []) ∷ [])
      (value_of 0 1 (def.Instr (spot 0 0)) ∷ [])
      ([]);
  opening = opened 0 (shape_of 0 65536 (OfSymbol (symbol.Func (function 0))) ∷ []);
  choices = (choice ([]) (Some (act.Enter (function 0) ([]))) ∷ choice ([]) None ∷ []);
  steps = (expected 0 (by_call 0 (Enter 0) ∷ []) ∷ expected 1 ([]) ∷ []);
  final = record {
    blocks = (block_is 0 (shape_of 0 65536 (OfSymbol (symbol.Func (function 0)))) Live ∷ []);
    bytes = ([]);
    kept = ([]);
    frames = (body 1 0 0 0 ([]) ∷ outside 0 ([]) ∷ []);
  };
}

-- define void @f() {
--   br label %l
-- l:
--   %p = alloca i8
--   br label %l
-- }
abbrev pub loops_make_a_new_block_each_time : Sample
loops_make_a_new_block_each_time = record {
  program = a_module
      ((type.Void) ∷ (type.Ptr) ∷ (type.Int 8) ∷ [])
      ([])
      (a_function [] linkage.Plain 0 (attributes false 0 0) ([]) false ([]) 0 2 ∷ [])
      (a_block 0 0 1 ∷ a_block 0 1 1 ∷ [])
      (segment 0 (instr None 0 (op.Jump (block 1)) ∷ []) ∷ segment 1 (instr (Some (value 0)) 1 (op.Alloca (ty 2) None None) ∷ instr None 0 (op.Jump
      (block 1)) ∷ []) ∷ [])
      (value_of 0 1 (def.Instr (spot 1 0)) ∷ [])
      ([]);
  opening = opened 0 (shape_of 0 65536 (OfSymbol (symbol.Func (function 0))) ∷ []);
  choices = (choice ([]) (Some (act.Enter (function 0) ([]))) ∷ choice ([]) None ∷ choice ([]) None ∷ choice ([]) None ∷ choice ([]) None ∷ []);
  steps = (expected 0 (by_call 0 (Enter 0) ∷ []) ∷ expected 0 ([]) ∷ expected 0 ([]) ∷ expected 0 ([]) ∷ expected 0 ([]) ∷ []);
  final = record {
    blocks = (block_is 0 (shape_of 0 65536 (OfSymbol (symbol.Func (function 0)))) Live ∷ block_is 1 (shape_of 1 65552 (OfAlloca 1 0)) Live ∷ block_is 2
        (shape_of 1 65568 (OfAlloca 1 0)) Live ∷ []);
    bytes = ([]);
    kept = ([]);
    frames = (body 1 0 1 1 (value_is 0 (with_marks (datum.Ptr 2 0) ([])) ∷ []) ∷ outside 0 ([]) ∷ []);
  };
}

-- @g = global [16 x i8] zeroinitializer, align 16
-- define void @f(i64 %a, i9 %b, i33 %c, i7 %d, i1 %e) {
--   store i64 %a, ptr @g
--   store i9 %b, ptr @g
--   store i33 %c, ptr @g
--   store i7 %d, ptr @g
--   store i1 %e, ptr @g
--   ret void
-- }
abbrev pub integers_are_stored_little_endian : Sample
integers_are_stored_little_endian = record {
  program = a_module
      (
      (type.Void)
      ∷ (type.Ptr)
      ∷ (type.Int 8)
      ∷ (type.Array 16 (ty 2))
      ∷ (type.Int 64)
      ∷ (type.Int 9)
      ∷ (type.Int 33)
      ∷ (type.Int 7)
      ∷ (type.Int 1)
      ∷ [])
      (a_global linkage.Plain 3 (Some (typed (operand.Zero) 3)) (Some 16) ∷ [])
      (
      a_function [] linkage.Plain 0 (attributes false 0 0) (
      parameter 0 4 (attributes false 0 0)
      ∷ parameter 1 5 (attributes false 0 0)
      ∷ parameter 2 6 (attributes false 0 0)
      ∷ parameter 3 7 (attributes false 0 0)
      ∷ parameter 4 8 (attributes false 0 0)
      ∷ []) false ([]) 0 1
      ∷ [])
      (a_block 0 0 1 ∷ [])
      (
      segment 0 (
      instr None 0 (op.Store (typed (operand.Value (value 0)) 4) (typed (operand.Global (global 0)) 1) None false)
      ∷ instr None 0 (op.Store (typed (operand.Value (value 1)) 5) (typed (operand.Global (global 0)) 1) None false)
      ∷ instr None 0 (op.Store (typed (operand.Value (value 2)) 6) (typed (operand.Global (global 0)) 1) None false)
      ∷ instr None 0 (op.Store (typed (operand.Value (value 3)) 7) (typed (operand.Global (global 0)) 1) None false)
      ∷ instr None 0 (op.Store (typed (operand.Value (value 4)) 8) (typed (operand.Global (global 0)) 1) None false)
      ∷ instr None 0 (op.Ret None)
      ∷ [])
      ∷ [])
      (value_of 0 4 (def.Param 0) ∷ value_of 0 5 (def.Param 1) ∷ value_of 0 6 (def.Param 2) ∷ value_of 0 7 (def.Param 3) ∷ value_of 0 8 (def.Param 4) ∷ [])
      ([]);
  opening = opened 1 (shape_of 16 65536 (OfSymbol (symbol.Global (global 0))) ∷ shape_of 0 65568 (OfSymbol (symbol.Func (function 0))) ∷ []);
  choices = (
      choice ([]) (Some (act.Enter (function 0) (
      (with_marks (datum.Int 72623859790382856) ([]))
      ∷ (with_marks (datum.Int 511) ([]))
      ∷ (with_marks (datum.Int 8589934591) ([]))
      ∷ (with_marks (datum.Int 127) ([]))
      ∷ (with_marks (datum.Int 1) ([]))
      ∷ [])))
      ∷ choice ([]) None
      ∷ choice ([]) None
      ∷ choice ([]) None
      ∷ choice ([]) None
      ∷ choice ([]) None
      ∷ []);
  steps = (
      expected 0 (by_call 0 (Enter 0) ∷ [])
      ∷ expected 0 (by_call 1 (Write 0 []) ∷ [])
      ∷ expected 0 (by_call 1 (Write 0 []) ∷ [])
      ∷ expected 0 (by_call 1 (Write 0 []) ∷ [])
      ∷ expected 0 (by_call 1 (Write 0 []) ∷ [])
      ∷ expected 0 (by_call 1 (Write 0 []) ∷ [])
      ∷ []);
  final = record {
    blocks = (block_is 0 (shape_of 16 65536 (OfSymbol (symbol.Global (global 0)))) Live ∷ block_is 1 (shape_of 0 65568 (OfSymbol (symbol.Func
        (function 0)))) Live ∷ []);
    bytes = (byte_is 0 0 (byte.Number 1) ∷ byte_is 0 1 (byte.Number 255) ∷ byte_is 0 2 (byte.Number 255) ∷ byte_is 0 3 (byte.Number 255) ∷ byte_is 0 4
        (byte.Number 1) ∷ []);
    kept = ([]);
    frames = (
        body 1 0 0 5 (
        value_is 0 (with_marks (datum.Int 72623859790382856) ([]))
        ∷ value_is 1 (with_marks (datum.Int 511) ([]))
        ∷ value_is 2 (with_marks (datum.Int 8589934591) ([]))
        ∷ value_is 3 (with_marks (datum.Int 127) ([]))
        ∷ value_is 4 (with_marks (datum.Int 1) ([]))
        ∷ [])
        ∷ outside 0 ([])
        ∷ []);
  };
}

-- @g = global [16 x i8] zeroinitializer, align 16
-- define void @f() {
--   %a = load i64, ptr @g
--   %b = load i33, ptr @g
--   %c = load i9, ptr @g
--   %d = load i7, ptr @g
--   %e = load i1, ptr @g
--   %h = load i16, ptr @g
--   %i = load i8, ptr @g
--   ret void
-- }
abbrev pub loads_drop_the_upper_bits : Sample
loads_drop_the_upper_bits = record {
  program = a_module
      (
      (type.Void)
      ∷ (type.Ptr)
      ∷ (type.Int 8)
      ∷ (type.Array 16 (ty 2))
      ∷ (type.Int 64)
      ∷ (type.Int 33)
      ∷ (type.Int 9)
      ∷ (type.Int 7)
      ∷ (type.Int 1)
      ∷ (type.Int 16)
      ∷ [])
      (a_global linkage.Plain 3 (Some (typed (operand.Zero) 3)) (Some 16) ∷ [])
      (a_function [] linkage.Plain 0 (attributes false 0 0) ([]) false ([]) 0 1 ∷ [])
      (a_block 0 0 1 ∷ [])
      (
      segment 0 (
      instr (Some (value 0)) 4 (op.Load (typed (operand.Global (global 0)) 1) None false)
      ∷ instr (Some (value 1)) 5 (op.Load (typed (operand.Global (global 0)) 1) None false)
      ∷ instr (Some (value 2)) 6 (op.Load (typed (operand.Global (global 0)) 1) None false)
      ∷ instr (Some (value 3)) 7 (op.Load (typed (operand.Global (global 0)) 1) None false)
      ∷ instr (Some (value 4)) 8 (op.Load (typed (operand.Global (global 0)) 1) None false)
      ∷ instr (Some (value 5)) 9 (op.Load (typed (operand.Global (global 0)) 1) None false)
      ∷ instr (Some (value 6)) 2 (op.Load (typed (operand.Global (global 0)) 1) None false)
      ∷ instr None 0 (op.Ret None)
      ∷ [])
      ∷ [])
      (
      value_of 0 4 (def.Instr (spot 0 0))
      ∷ value_of 0 5 (def.Instr (spot 0 1))
      ∷ value_of 0 6 (def.Instr (spot 0 2))
      ∷ value_of 0 7 (def.Instr (spot 0 3))
      ∷ value_of 0 8 (def.Instr (spot 0 4))
      ∷ value_of 0 9 (def.Instr (spot 0 5))
      ∷ value_of 0 2 (def.Instr (spot 0 6))
      ∷ [])
      ([]);
  opening = opened 1 (shape_of 16 65536 (OfSymbol (symbol.Global (global 0))) ∷ shape_of 0 65568 (OfSymbol (symbol.Func (function 0))) ∷ []);
  choices = (
      choice ([]) (Some (act.Write (with_marks (datum.Ptr 0 0) ([])) (
      byte.Number 254
      ∷ byte.Number 255
      ∷ byte.Number 255
      ∷ byte.Number 255
      ∷ byte.Number 255
      ∷ byte.Number 255
      ∷ byte.Number 255
      ∷ byte.Number 255
      ∷ [])))
      ∷ choice ([]) (Some (act.Enter (function 0) ([])))
      ∷ choice ([]) None
      ∷ choice ([]) None
      ∷ choice ([]) None
      ∷ choice ([]) None
      ∷ choice ([]) None
      ∷ choice ([]) None
      ∷ choice ([]) None
      ∷ []);
  steps = (
      expected 0 (by_call 0 (Write 0 []) ∷ [])
      ∷ expected 0 (by_call 0 (Enter 0) ∷ [])
      ∷ expected 0 (by_call 1 (Read 0 []) ∷ [])
      ∷ expected 0 (by_call 1 (Read 0 []) ∷ [])
      ∷ expected 0 (by_call 1 (Read 0 []) ∷ [])
      ∷ expected 0 (by_call 1 (Read 0 []) ∷ [])
      ∷ expected 0 (by_call 1 (Read 0 []) ∷ [])
      ∷ expected 0 (by_call 1 (Read 0 []) ∷ [])
      ∷ expected 0 (by_call 1 (Read 0 []) ∷ [])
      ∷ []);
  final = record {
    blocks = (block_is 0 (shape_of 16 65536 (OfSymbol (symbol.Global (global 0)))) Live ∷ block_is 1 (shape_of 0 65568 (OfSymbol (symbol.Func
        (function 0)))) Live ∷ []);
    bytes = (
        byte_is 0 0 (byte.Number 254)
        ∷ byte_is 0 1 (byte.Number 255)
        ∷ byte_is 0 2 (byte.Number 255)
        ∷ byte_is 0 3 (byte.Number 255)
        ∷ byte_is 0 4 (byte.Number 255)
        ∷ byte_is 0 5 (byte.Number 255)
        ∷ byte_is 0 6 (byte.Number 255)
        ∷ byte_is 0 7 (byte.Number 255)
        ∷ []);
    kept = ([]);
    frames = (
        body 1 0 0 7 (
        value_is 0 (with_marks (datum.Int 18446744073709551614) ([]))
        ∷ value_is 1 (with_marks (datum.Int 8589934590) ([]))
        ∷ value_is 2 (with_marks (datum.Int 510) ([]))
        ∷ value_is 3 (with_marks (datum.Int 126) ([]))
        ∷ value_is 4 (with_marks (datum.Int 0) ([]))
        ∷ value_is 5 (with_marks (datum.Int 65534) ([]))
        ∷ value_is 6 (with_marks (datum.Int 254) ([]))
        ∷ [])
        ∷ outside 0 ([])
        ∷ []);
  };
}

-- @g = global [16 x i8] zeroinitializer, align 16
-- define void @f() {
--   %a = load i8, ptr @g
--   %b = getelementptr i8, ptr @g, i64 1
--   %c = load i8, ptr %b
--   %d = load i16, ptr @g
--   %e = load i32, ptr @g
--   %h = load ptr, ptr @g
--   ret void
-- }
abbrev pub undef_and_poison_bytes : Sample
undef_and_poison_bytes = record {
  program = a_module
      ((type.Void) ∷ (type.Ptr) ∷ (type.Int 8) ∷ (type.Array 16 (ty 2)) ∷ (type.Int 64) ∷ (type.Int 16) ∷ (type.Int 32) ∷ [])
      (a_global linkage.Plain 3 (Some (typed (operand.Zero) 3)) (Some 16) ∷ [])
      (a_function [] linkage.Plain 0 (attributes false 0 0) ([]) false ([]) 0 1 ∷ [])
      (a_block 0 0 1 ∷ [])
      (
      segment 0 (
      instr (Some (value 0)) 2 (op.Load (typed (operand.Global (global 0)) 1) None false)
      ∷ instr (Some (value 1)) 1 (op.Gep (ty 2) (typed (operand.Global (global 0)) 1) ((typed (operand.Int 1 true) 4) ∷ []) false false)
      ∷ instr (Some (value 2)) 2 (op.Load (typed (operand.Value (value 1)) 1) None false)
      ∷ instr (Some (value 3)) 5 (op.Load (typed (operand.Global (global 0)) 1) None false)
      ∷ instr (Some (value 4)) 6 (op.Load (typed (operand.Global (global 0)) 1) None false)
      ∷ instr (Some (value 5)) 1 (op.Load (typed (operand.Global (global 0)) 1) None false)
      ∷ instr None 0 (op.Ret None)
      ∷ [])
      ∷ [])
      (
      value_of 0 2 (def.Instr (spot 0 0))
      ∷ value_of 0 1 (def.Instr (spot 0 1))
      ∷ value_of 0 2 (def.Instr (spot 0 2))
      ∷ value_of 0 5 (def.Instr (spot 0 3))
      ∷ value_of 0 6 (def.Instr (spot 0 4))
      ∷ value_of 0 1 (def.Instr (spot 0 5))
      ∷ [])
      ([]);
  opening = opened 1 (shape_of 16 65536 (OfSymbol (symbol.Global (global 0))) ∷ shape_of 0 65568 (OfSymbol (symbol.Func (function 0))) ∷ []);
  choices = (
      choice ([]) (Some (act.Write (with_marks (datum.Ptr 0 0) ([])) (byte.Undef ∷ byte.Poison ∷ byte.Number 1 ∷ byte.Number 2 ∷ [])))
      ∷ choice ([]) (Some (act.Enter (function 0) ([])))
      ∷ choice ([]) None
      ∷ choice ([]) None
      ∷ choice ([]) None
      ∷ choice ([]) None
      ∷ choice ([]) None
      ∷ choice ([]) None
      ∷ []);
  steps = (
      expected 0 (by_call 0 (Write 0 []) ∷ [])
      ∷ expected 0 (by_call 0 (Enter 0) ∷ [])
      ∷ expected 0 (by_call 1 (Read 0 []) ∷ [])
      ∷ expected 0 ([])
      ∷ expected 0 (by_call 1 (Read 0 []) ∷ [])
      ∷ expected 0 (by_call 1 (Read 0 []) ∷ [])
      ∷ expected 0 (by_call 1 (Read 0 []) ∷ [])
      ∷ expected 0 (by_call 1 (Read 0 []) ∷ [])
      ∷ []);
  final = record {
    blocks = (block_is 0 (shape_of 16 65536 (OfSymbol (symbol.Global (global 0)))) Live ∷ block_is 1 (shape_of 0 65568 (OfSymbol (symbol.Func
        (function 0)))) Live ∷ []);
    bytes = (byte_is 0 0 (byte.Undef) ∷ byte_is 0 1 (byte.Poison) ∷ byte_is 0 2 (byte.Number 1) ∷ byte_is 0 3 (byte.Number 2) ∷ []);
    kept = ([]);
    frames = (
        body 1 0 0 6 (
        value_is 0 (with_marks (datum.Undef) ([]))
        ∷ value_is 1 (with_marks (datum.Ptr 0 1) ([]))
        ∷ value_is 2 (with_marks (datum.Poison) ([]))
        ∷ value_is 3 (with_marks (datum.Poison) ([]))
        ∷ value_is 4 (with_marks (datum.Poison) ([]))
        ∷ value_is 5 (with_marks (datum.Poison) ([]))
        ∷ [])
        ∷ outside 0 ([])
        ∷ []);
  };
}

-- @g = global [16 x i8] zeroinitializer, align 16
-- define void @f(ptr %p, ptr %q) {
--   store ptr %p, ptr @g
--   %a = load i32, ptr @g
--   %r = load ptr, ptr @g
--   ret void
-- }
abbrev pub four_fragments_load_as_undef_and_eight_as_the_pointer : Sample
four_fragments_load_as_undef_and_eight_as_the_pointer = record {
  program = a_module
      ((type.Void) ∷ (type.Ptr) ∷ (type.Int 8) ∷ (type.Array 16 (ty 2)) ∷ (type.Int 32) ∷ [])
      (a_global linkage.Plain 3 (Some (typed (operand.Zero) 3)) (Some 16) ∷ [])
      (a_function [] linkage.Plain 0 (attributes false 0 0) (parameter 0 1 (attributes false 0 0) ∷ parameter 1 1 (attributes false 0 0) ∷ []) false
      ([]) 0 1 ∷ [])
      (a_block 0 0 1 ∷ [])
      (
      segment 0 (
      instr None 0 (op.Store (typed (operand.Value (value 0)) 1) (typed (operand.Global (global 0)) 1) None false)
      ∷ instr (Some (value 2)) 4 (op.Load (typed (operand.Global (global 0)) 1) None false)
      ∷ instr (Some (value 3)) 1 (op.Load (typed (operand.Global (global 0)) 1) None false)
      ∷ instr None 0 (op.Ret None)
      ∷ [])
      ∷ [])
      (value_of 0 1 (def.Param 0) ∷ value_of 0 1 (def.Param 1) ∷ value_of 0 4 (def.Instr (spot 0 1)) ∷ value_of 0 1 (def.Instr (spot 0 2)) ∷ [])
      ([]);
  opening = opened 1 (shape_of 16 65536 (OfSymbol (symbol.Global (global 0))) ∷ shape_of 0 65568 (OfSymbol (symbol.Func (function 0))) ∷ []);
  choices = (
      choice ([]) (Some (act.Enter (function 0) ((with_marks (datum.Ptr 0 0) ([])) ∷ (with_marks (datum.Ptr 0 0) ([])) ∷ [])))
      ∷ choice ([]) None
      ∷ choice ([]) None
      ∷ choice ([]) None
      ∷ []);
  steps = (
      expected 0 (by_call 0 (Enter 0) ∷ [])
      ∷ expected 0 (by_call 1 (Write 0 []) ∷ by_call 1 (Capture (mark 1 0 ∷ [])) ∷ [])
      ∷ expected 0 (by_call 1 (Read 0 []) ∷ [])
      ∷ expected 0 (by_call 1 (Read 0 []) ∷ [])
      ∷ []);
  final = record {
    blocks = (block_is 0 (shape_of 16 65536 (OfSymbol (symbol.Global (global 0)))) Live ∷ block_is 1 (shape_of 0 65568 (OfSymbol (symbol.Func
        (function 0)))) Live ∷ []);
    bytes = (
        byte_is 0 0 (byte.Fragment 0 (with_marks (datum.Ptr 0 0) (mark 1 0 ∷ [])))
        ∷ byte_is 0 1 (byte.Fragment 1 (with_marks (datum.Ptr 0 0) (mark 1 0 ∷ [])))
        ∷ byte_is 0 2 (byte.Fragment 2 (with_marks (datum.Ptr 0 0) (mark 1 0 ∷ [])))
        ∷ byte_is 0 3 (byte.Fragment 3 (with_marks (datum.Ptr 0 0) (mark 1 0 ∷ [])))
        ∷ byte_is 0 4 (byte.Fragment 4 (with_marks (datum.Ptr 0 0) (mark 1 0 ∷ [])))
        ∷ byte_is 0 5 (byte.Fragment 5 (with_marks (datum.Ptr 0 0) (mark 1 0 ∷ [])))
        ∷ byte_is 0 6 (byte.Fragment 6 (with_marks (datum.Ptr 0 0) (mark 1 0 ∷ [])))
        ∷ byte_is 0 7 (byte.Fragment 7 (with_marks (datum.Ptr 0 0) (mark 1 0 ∷ [])))
        ∷ []);
    kept = ([]);
    frames = (
        body 1 0 0 3 (
        value_is 0 (with_marks (datum.Ptr 0 0) (mark 1 0 ∷ []))
        ∷ value_is 1 (with_marks (datum.Ptr 0 0) (mark 1 1 ∷ []))
        ∷ value_is 2 (with_marks (datum.Undef) ([]))
        ∷ value_is 3 (with_marks (datum.Ptr 0 0) (mark 1 0 ∷ []))
        ∷ [])
        ∷ outside 0 ([])
        ∷ []);
  };
}

-- @g = global [16 x i8] zeroinitializer, align 16
-- define void @s(ptr %p) {
--   store ptr %p, ptr @g
--   ret void
-- }
-- define void @f(ptr %p) {
--   %r = load ptr, ptr @g
--   ret void
-- }
abbrev pub fragments_with_other_origins_give_poison : Sample
fragments_with_other_origins_give_poison = record {
  program = a_module
      ((type.Void) ∷ (type.Ptr) ∷ (type.Int 8) ∷ (type.Array 16 (ty 2)) ∷ [])
      (a_global linkage.Plain 3 (Some (typed (operand.Zero) 3)) (Some 16) ∷ [])
      (
      a_function [] linkage.Plain 0 (attributes false 0 0) (parameter 0 1 (attributes false 0 0) ∷ []) false ([]) 0 1
      ∷ a_function [] linkage.Plain 0 (attributes false 0 0) (parameter 1 1 (attributes false 0 0) ∷ []) false ([]) 1 1
      ∷ [])
      (a_block 0 0 1 ∷ a_block 1 1 1 ∷ [])
      (
      segment 0 (instr None 0 (op.Store (typed (operand.Value (value 0)) 1) (typed (operand.Global (global 0)) 1) None false) ∷ instr None 0 (op.Ret None) ∷ [])
      ∷ segment 1 (instr (Some (value 2)) 1 (op.Load (typed (operand.Global (global 0)) 1) None false) ∷ instr None 0 (op.Ret None) ∷ [])
      ∷ [])
      (value_of 0 1 (def.Param 0) ∷ value_of 1 1 (def.Param 0) ∷ value_of 1 1 (def.Instr (spot 1 0)) ∷ [])
      ([]);
  opening = opened 1 (
      shape_of 16 65536 (OfSymbol (symbol.Global (global 0)))
      ∷ shape_of 0 65568 (OfSymbol (symbol.Func (function 0)))
      ∷ shape_of 0 65584 (OfSymbol (symbol.Func (function 1)))
      ∷ []);
  choices = (
      choice ([]) (Some (act.Enter (function 0) ((with_marks (datum.Ptr 0 0) ([])) ∷ [])))
      ∷ choice ([]) None
      ∷ choice ([]) None
      ∷ choice ([]) (Some (act.Read (with_marks (datum.Ptr 0 0) ([])) 8))
      ∷ choice ([]) (Some (act.Write (with_marks (datum.Ptr 0 0) ([])) (byte.Fragment 0 (with_marks (datum.Ptr 0 0) ([])) ∷ [])))
      ∷ choice ([]) (Some (act.Enter (function 1) ((with_marks (datum.Null) ([])) ∷ [])))
      ∷ choice ([]) None
      ∷ []);
  steps = (
      expected 0 (by_call 0 (Enter 0) ∷ [])
      ∷ expected 0 (by_call 1 (Write 0 []) ∷ by_call 1 (Capture (mark 1 0 ∷ [])) ∷ [])
      ∷ expected 0 (by_call 1 (Return None) ∷ [])
      ∷ expected 0 (by_call 0 (Read 0 []) ∷ [])
      ∷ expected 0 (by_call 0 (Write 0 []) ∷ [])
      ∷ expected 0 (by_call 0 (Enter 1) ∷ [])
      ∷ expected 0 (by_call 2 (Read 0 []) ∷ [])
      ∷ []);
  final = record {
    blocks = (
        block_is 0 (shape_of 16 65536 (OfSymbol (symbol.Global (global 0)))) Live
        ∷ block_is 1 (shape_of 0 65568 (OfSymbol (symbol.Func (function 0)))) Live
        ∷ block_is 2 (shape_of 0 65584 (OfSymbol (symbol.Func (function 1)))) Live
        ∷ []);
    bytes = (
        byte_is 0 0 (byte.Fragment 0 (with_marks (datum.Ptr 0 0) ([])))
        ∷ byte_is 0 1 (byte.Fragment 1 (with_marks (datum.Ptr 0 0) (mark 1 0 ∷ [])))
        ∷ byte_is 0 2 (byte.Fragment 2 (with_marks (datum.Ptr 0 0) (mark 1 0 ∷ [])))
        ∷ byte_is 0 3 (byte.Fragment 3 (with_marks (datum.Ptr 0 0) (mark 1 0 ∷ [])))
        ∷ byte_is 0 4 (byte.Fragment 4 (with_marks (datum.Ptr 0 0) (mark 1 0 ∷ [])))
        ∷ byte_is 0 5 (byte.Fragment 5 (with_marks (datum.Ptr 0 0) (mark 1 0 ∷ [])))
        ∷ byte_is 0 6 (byte.Fragment 6 (with_marks (datum.Ptr 0 0) (mark 1 0 ∷ [])))
        ∷ byte_is 0 7 (byte.Fragment 7 (with_marks (datum.Ptr 0 0) (mark 1 0 ∷ [])))
        ∷ []);
    kept = ([]);
    frames = (
        body 2 1 1 1 (value_is 1 (with_marks (datum.Null) (mark 2 0 ∷ [])) ∷ value_is 2 (with_marks (datum.Poison) ([])) ∷ [])
        ∷ outside 0 ((with_marks (datum.Ptr 0 0) (mark 1 0 ∷ [])) ∷ [])
        ∷ []);
  };
}

-- @g = global [16 x i8] zeroinitializer, align 16
-- define void @f() {
--   store ptr undef, ptr @g
--   %a = load i8, ptr @g
--   store ptr poison, ptr @g
--   %b = load i8, ptr @g
--   store ptr null, ptr @g
--   %c = load i64, ptr @g
--   %d = load ptr, ptr @g
--   store i8 undef, ptr @g
--   store i16 poison, ptr @g
--   ret void
-- }
abbrev pub stored_undef_poison_and_null : Sample
stored_undef_poison_and_null = record {
  program = a_module
      ((type.Void) ∷ (type.Ptr) ∷ (type.Int 8) ∷ (type.Array 16 (ty 2)) ∷ (type.Int 64) ∷ (type.Int 16) ∷ [])
      (a_global linkage.Plain 3 (Some (typed (operand.Zero) 3)) (Some 16) ∷ [])
      (a_function [] linkage.Plain 0 (attributes false 0 0) ([]) false ([]) 0 1 ∷ [])
      (a_block 0 0 1 ∷ [])
      (
      segment 0 (
      instr None 0 (op.Store (typed (operand.Undef) 1) (typed (operand.Global (global 0)) 1) None false)
      ∷ instr (Some (value 0)) 2 (op.Load (typed (operand.Global (global 0)) 1) None false)
      ∷ instr None 0 (op.Store (typed (operand.Poison) 1) (typed (operand.Global (global 0)) 1) None false)
      ∷ instr (Some (value 1)) 2 (op.Load (typed (operand.Global (global 0)) 1) None false)
      ∷ instr None 0 (op.Store (typed (operand.Null) 1) (typed (operand.Global (global 0)) 1) None false)
      ∷ instr (Some (value 2)) 4 (op.Load (typed (operand.Global (global 0)) 1) None false)
      ∷ instr (Some (value 3)) 1 (op.Load (typed (operand.Global (global 0)) 1) None false)
      ∷ instr None 0 (op.Store (typed (operand.Undef) 2) (typed (operand.Global (global 0)) 1) None false)
      ∷ instr None 0 (op.Store (typed (operand.Poison) 5) (typed (operand.Global (global 0)) 1) None false)
      ∷ instr None 0 (op.Ret None)
      ∷ [])
      ∷ [])
      (value_of 0 2 (def.Instr (spot 0 1)) ∷ value_of 0 2 (def.Instr (spot 0 3)) ∷ value_of 0 4 (def.Instr (spot 0 5)) ∷ value_of 0 1 (def.Instr
      (spot 0 6)) ∷ [])
      ([]);
  opening = opened 1 (shape_of 16 65536 (OfSymbol (symbol.Global (global 0))) ∷ shape_of 0 65568 (OfSymbol (symbol.Func (function 0))) ∷ []);
  choices = (
      choice ([]) (Some (act.Enter (function 0) ([])))
      ∷ choice ([]) None
      ∷ choice ([]) None
      ∷ choice ([]) None
      ∷ choice ([]) None
      ∷ choice ([]) None
      ∷ choice ([]) None
      ∷ choice ([]) None
      ∷ choice ([]) None
      ∷ choice ([]) None
      ∷ []);
  steps = (
      expected 0 (by_call 0 (Enter 0) ∷ [])
      ∷ expected 0 (by_call 1 (Write 0 []) ∷ [])
      ∷ expected 0 (by_call 1 (Read 0 []) ∷ [])
      ∷ expected 0 (by_call 1 (Write 0 []) ∷ [])
      ∷ expected 0 (by_call 1 (Read 0 []) ∷ [])
      ∷ expected 0 (by_call 1 (Write 0 []) ∷ [])
      ∷ expected 0 (by_call 1 (Read 0 []) ∷ [])
      ∷ expected 0 (by_call 1 (Read 0 []) ∷ [])
      ∷ expected 0 (by_call 1 (Write 0 []) ∷ [])
      ∷ expected 0 (by_call 1 (Write 0 []) ∷ [])
      ∷ []);
  final = record {
    blocks = (block_is 0 (shape_of 16 65536 (OfSymbol (symbol.Global (global 0)))) Live ∷ block_is 1 (shape_of 0 65568 (OfSymbol (symbol.Func
        (function 0)))) Live ∷ []);
    bytes = (byte_is 0 0 (byte.Poison) ∷ byte_is 0 1 (byte.Poison) ∷ []);
    kept = ([]);
    frames = (
        body 1 0 0 9 (
        value_is 0 (with_marks (datum.Undef) ([]))
        ∷ value_is 1 (with_marks (datum.Poison) ([]))
        ∷ value_is 2 (with_marks (datum.Int 0) ([]))
        ∷ value_is 3 (with_marks (datum.Null) ([]))
        ∷ [])
        ∷ outside 0 ([])
        ∷ []);
  };
}

-- @g = global [16 x i8] zeroinitializer, align 16
-- define void @f(ptr %p) {
--   %v = load i32, ptr %p, align 1
--   ret void
-- }
abbrev pub load_through_null_is_undefined : Sample
load_through_null_is_undefined = record {
  program = a_module
      ((type.Void) ∷ (type.Ptr) ∷ (type.Int 8) ∷ (type.Array 16 (ty 2)) ∷ (type.Int 32) ∷ [])
      (a_global linkage.Plain 3 (Some (typed (operand.Zero) 3)) (Some 16) ∷ [])
      (a_function [] linkage.Plain 0 (attributes false 0 0) (parameter 0 1 (attributes false 0 0) ∷ []) false ([]) 0 1 ∷ [])
      (a_block 0 0 1 ∷ [])
      (segment 0 (instr (Some (value 1)) 4 (op.Load (typed (operand.Value (value 0)) 1) (Some 1) false) ∷ instr None 0 (op.Ret None) ∷ []) ∷ [])
      (value_of 0 1 (def.Param 0) ∷ value_of 0 4 (def.Instr (spot 0 0)) ∷ [])
      ([]);
  opening = opened 1 (shape_of 16 65536 (OfSymbol (symbol.Global (global 0))) ∷ shape_of 0 65568 (OfSymbol (symbol.Func (function 0))) ∷ []);
  choices = (choice ([]) (Some (act.Enter (function 0) ((with_marks (datum.Null) ([])) ∷ []))) ∷ choice ([]) None ∷ []);
  steps = (expected 0 (by_call 0 (Enter 0) ∷ []) ∷ expected 1 ([]) ∷ []);
  final = record {
    blocks = (block_is 0 (shape_of 16 65536 (OfSymbol (symbol.Global (global 0)))) Live ∷ block_is 1 (shape_of 0 65568 (OfSymbol (symbol.Func
        (function 0)))) Live ∷ []);
    bytes = ([]);
    kept = ([]);
    frames = (body 1 0 0 0 (value_is 0 (with_marks (datum.Null) (mark 1 0 ∷ [])) ∷ []) ∷ outside 0 ([]) ∷ []);
  };
}

-- @g = global [16 x i8] zeroinitializer, align 16
-- define void @f(ptr %p) {
--   %v = load i32, ptr %p
--   ret void
-- }
abbrev pub load_at_an_address_that_is_no_multiple_is_undefined : Sample
load_at_an_address_that_is_no_multiple_is_undefined = record {
  program = a_module
      ((type.Void) ∷ (type.Ptr) ∷ (type.Int 8) ∷ (type.Array 16 (ty 2)) ∷ (type.Int 32) ∷ [])
      (a_global linkage.Plain 3 (Some (typed (operand.Zero) 3)) (Some 16) ∷ [])
      (a_function [] linkage.Plain 0 (attributes false 0 0) (parameter 0 1 (attributes false 0 0) ∷ []) false ([]) 0 1 ∷ [])
      (a_block 0 0 1 ∷ [])
      (segment 0 (instr (Some (value 1)) 4 (op.Load (typed (operand.Value (value 0)) 1) None false) ∷ instr None 0 (op.Ret None) ∷ []) ∷ [])
      (value_of 0 1 (def.Param 0) ∷ value_of 0 4 (def.Instr (spot 0 0)) ∷ [])
      ([]);
  opening = opened 1 (shape_of 16 65536 (OfSymbol (symbol.Global (global 0))) ∷ shape_of 0 65568 (OfSymbol (symbol.Func (function 0))) ∷ []);
  choices = (choice ([]) (Some (act.Enter (function 0) ((with_marks (datum.Ptr 0 2) ([])) ∷ []))) ∷ choice ([]) None ∷ []);
  steps = (expected 0 (by_call 0 (Enter 0) ∷ []) ∷ expected 1 ([]) ∷ []);
  final = record {
    blocks = (block_is 0 (shape_of 16 65536 (OfSymbol (symbol.Global (global 0)))) Live ∷ block_is 1 (shape_of 0 65568 (OfSymbol (symbol.Func
        (function 0)))) Live ∷ []);
    bytes = ([]);
    kept = ([]);
    frames = (body 1 0 0 0 (value_is 0 (with_marks (datum.Ptr 0 2) (mark 1 0 ∷ [])) ∷ []) ∷ outside 0 ([]) ∷ []);
  };
}
