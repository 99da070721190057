-- Sample runs: calls. Each has its program as text above it.
use Rattle.std.specs.Prelude.{true, false, [], ◌∷◌, None, Some}
use Rattle.ir_types.specs.declared.ir_type.IrType.TheVariants as type
use Rattle.ir_module.specs.declared.op.Operand.TheVariants as operand
use Rattle.ir_module.specs.declared.op.Symbol.TheVariants as symbol
use Rattle.ir_module.specs.declared.op.Op.TheVariants as op
use Rattle.ir_module.specs.declared.module.Linkage.TheVariants as linkage
use Rattle.ir_module.specs.declared.module.Def.TheVariants as def
use Rattle.ir_module.specs.Places.{spot}
use Rattle.ir_machine.specs.declared.choice.Datum.TheVariants as datum
use Rattle.ir_machine.specs.declared.choice.Act.TheVariants as act
use Rattle.ir_machine.specs.Memory.{OfSymbol, OfAlloca, Heap, Live, Dead}
use Rattle.ir_machine.specs.Frames.{Enter, Read, Write, Return, Unwind}
use Rattle.machine_samples.specs.Build.{ty, value, function, global, block, typed, attributes, a_call, instr, segment, a_block, value_of, parameter, a_function}
use Rattle.machine_samples.specs.Build.{a_global, a_module, shape_of, mark, with_marks, choice, opened, by_call, expected, block_is, value_is, outside, body}
use Rattle.machine_samples.specs.Build.{Sample}

-- define i32 @f() personality ptr @pers {
--   %r = invoke i32 @x() to label %n unwind label %u
-- n:
--   ret i32 %r
-- u:
--   %l = landingpad { ptr, i32 } cleanup
--   resume { ptr, i32 } %l
-- }
-- declare i32 @x()
-- declare i32 @pers(...)
-- @ti = external global ptr
abbrev pub an_unwind_goes_on_at_the_unwind_block : Sample
an_unwind_goes_on_at_the_unwind_block = record {
  program = a_module
      ((type.Void) ∷ (type.Ptr) ∷ (type.Int 32) ∷ (type.Struct (ty 1 ∷ ty 2 ∷ []) false) ∷ [])
      (a_global linkage.External 1 (None) (None) ∷ [])
      (
      a_function [] linkage.Plain 2 (attributes false 0 0) ([]) false (typed (operand.Func (function 2)) 1 ∷ []) 0 3
      ∷ a_function [] linkage.Plain 2 (attributes false 0 0) ([]) false ([]) 3 0
      ∷ a_function [] linkage.Plain 2 (attributes false 0 0) ([]) true ([]) 3 0
      ∷ [])
      (a_block 0 0 1 ∷ a_block 0 1 1 ∷ a_block 0 2 1 ∷ [])
      (
      segment 0 (instr (Some (value 0)) 2 (op.Invoke (a_call 2 ([]) false (typed (operand.Func (function 1)) 1) ([]) (attributes false 0 0) ([]))
      (block 1) (block 2)) ∷ [])
      ∷ segment 1 (instr None 0 (op.Ret (Some (typed (operand.Value (value 0)) 2))) ∷ [])
      ∷ segment 2 (instr (Some (value 1)) 3 (op.LandingPad true []) ∷ instr None 0 (op.Resume (typed (operand.Value (value 1)) 3)) ∷ [])
      ∷ [])
      (value_of 0 2 (def.Instr (spot 0 0)) ∷ value_of 0 3 (def.Instr (spot 2 0)) ∷ [])
      ([]);
  opening = opened 1 (
      shape_of 8 65536 (OfSymbol (symbol.Global (global 0)))
      ∷ shape_of 0 65552 (OfSymbol (symbol.Func (function 0)))
      ∷ shape_of 0 65568 (OfSymbol (symbol.Func (function 1)))
      ∷ shape_of 0 65584 (OfSymbol (symbol.Func (function 2)))
      ∷ []);
  choices = (choice ([]) (Some (act.Enter (function 0) ([]))) ∷ choice ([]) None ∷ choice ([]) (Some (act.Unwind)) ∷ choice ([]) None ∷ choice ([]) None ∷ []);
  steps = (expected 0 (by_call 0 (Enter 0) ∷ []) ∷ expected 0 ([]) ∷ expected 0 (by_call 2 (Unwind) ∷ []) ∷ expected 0 ([]) ∷ expected 0 (by_call 1
      (Unwind) ∷ []) ∷ []);
  final = record {
    blocks = (
        block_is 0 (shape_of 8 65536 (OfSymbol (symbol.Global (global 0)))) Live
        ∷ block_is 1 (shape_of 0 65552 (OfSymbol (symbol.Func (function 0)))) Live
        ∷ block_is 2 (shape_of 0 65568 (OfSymbol (symbol.Func (function 1)))) Live
        ∷ block_is 3 (shape_of 0 65584 (OfSymbol (symbol.Func (function 2)))) Live
        ∷ []);
    bytes = ([]);
    kept = ([]);
    frames = (outside 0 ([]) ∷ []);
  };
}

-- define i32 @f() personality ptr @pers {
--   %r = invoke i32 @x() to label %n unwind label %u
-- n:
--   ret i32 %r
-- u:
--   %l = landingpad { ptr, i32 } catch ptr @ti
--   resume { ptr, i32 } %l
-- }
-- declare i32 @x()
-- declare i32 @pers(...)
-- @ti = external global ptr
abbrev pub unwind_through_an_invoke_with_catch_of_a_type_by_pick : Sample
unwind_through_an_invoke_with_catch_of_a_type_by_pick = record {
  program = a_module
      ((type.Void) ∷ (type.Ptr) ∷ (type.Int 32) ∷ (type.Struct (ty 1 ∷ ty 2 ∷ []) false) ∷ [])
      (a_global linkage.External 1 (None) (None) ∷ [])
      (
      a_function [] linkage.Plain 2 (attributes false 0 0) ([]) false (typed (operand.Func (function 2)) 1 ∷ []) 0 3
      ∷ a_function [] linkage.Plain 2 (attributes false 0 0) ([]) false ([]) 3 0
      ∷ a_function [] linkage.Plain 2 (attributes false 0 0) ([]) true ([]) 3 0
      ∷ [])
      (a_block 0 0 1 ∷ a_block 0 1 1 ∷ a_block 0 2 1 ∷ [])
      (
      segment 0 (instr (Some (value 0)) 2 (op.Invoke (a_call 2 ([]) false (typed (operand.Func (function 1)) 1) ([]) (attributes false 0 0) ([]))
      (block 1) (block 2)) ∷ [])
      ∷ segment 1 (instr None 0 (op.Ret (Some (typed (operand.Value (value 0)) 2))) ∷ [])
      ∷ segment 2 (instr (Some (value 1)) 3 (op.LandingPad false []) ∷ instr None 0 (op.Resume (typed (operand.Value (value 1)) 3)) ∷ [])
      ∷ [])
      (value_of 0 2 (def.Instr (spot 0 0)) ∷ value_of 0 3 (def.Instr (spot 2 0)) ∷ [])
      ([]);
  opening = opened 1 (
      shape_of 8 65536 (OfSymbol (symbol.Global (global 0)))
      ∷ shape_of 0 65552 (OfSymbol (symbol.Func (function 0)))
      ∷ shape_of 0 65568 (OfSymbol (symbol.Func (function 1)))
      ∷ shape_of 0 65584 (OfSymbol (symbol.Func (function 2)))
      ∷ []);
  choices = (choice ([]) (Some (act.Enter (function 0) ([]))) ∷ choice ([]) None ∷ choice (3 ∷ []) (Some (act.Unwind)) ∷ []);
  steps = (expected 0 (by_call 0 (Enter 0) ∷ []) ∷ expected 0 ([]) ∷ expected 0 (by_call 2 (Unwind) ∷ by_call 1 (Unwind) ∷ []) ∷ []);
  final = record {
    blocks = (
        block_is 0 (shape_of 8 65536 (OfSymbol (symbol.Global (global 0)))) Live
        ∷ block_is 1 (shape_of 0 65552 (OfSymbol (symbol.Func (function 0)))) Live
        ∷ block_is 2 (shape_of 0 65568 (OfSymbol (symbol.Func (function 1)))) Live
        ∷ block_is 3 (shape_of 0 65584 (OfSymbol (symbol.Func (function 2)))) Live
        ∷ []);
    bytes = ([]);
    kept = ([]);
    frames = (outside 0 ([]) ∷ []);
  };
}

-- define void @f() personality ptr @pers {
--   invoke void @g() to label %n unwind label %u
-- n:
--   ret void
-- u:
--   %l = landingpad { ptr, i32 } catch ptr @ti
--   ret void
-- }
-- define void @g() personality ptr @pers {
--   invoke void @h() to label %n unwind label %u
-- n:
--   ret void
-- u:
--   %l = landingpad { ptr, i32 } catch ptr @ti
--   ret void
-- }
-- define void @h() {
--   call void @x()
--   ret void
-- }
-- declare void @x()
-- declare i32 @pers(...)
-- @ti = external global ptr
abbrev pub unwinds_take_picks_from_the_top_frame_down : Sample
unwinds_take_picks_from_the_top_frame_down = record {
  program = a_module
      ((type.Void) ∷ (type.Ptr) ∷ (type.Int 32) ∷ (type.Struct (ty 1 ∷ ty 2 ∷ []) false) ∷ [])
      (a_global linkage.External 1 (None) (None) ∷ [])
      (
      a_function [] linkage.Plain 0 (attributes false 0 0) ([]) false (typed (operand.Func (function 4)) 1 ∷ []) 0 3
      ∷ a_function [] linkage.Plain 0 (attributes false 0 0) ([]) false (typed (operand.Func (function 4)) 1 ∷ []) 3 3
      ∷ a_function [] linkage.Plain 0 (attributes false 0 0) ([]) false ([]) 6 1
      ∷ a_function [] linkage.Plain 0 (attributes false 0 0) ([]) false ([]) 7 0
      ∷ a_function [] linkage.Plain 2 (attributes false 0 0) ([]) true ([]) 7 0
      ∷ [])
      (a_block 0 0 1 ∷ a_block 0 1 1 ∷ a_block 0 2 1 ∷ a_block 1 3 1 ∷ a_block 1 4 1 ∷ a_block 1 5 1 ∷ a_block 2 6 2 ∷ [])
      (
      segment 0 (instr None 0 (op.Invoke (a_call 0 ([]) false (typed (operand.Func (function 1)) 1) ([]) (attributes false 0 0) ([])) (block 1) (block 2)) ∷ [])
      ∷ segment 1 (instr None 0 (op.Ret None) ∷ [])
      ∷ segment 2 (instr (Some (value 0)) 3 (op.LandingPad false []) ∷ instr None 0 (op.Ret None) ∷ [])
      ∷ segment 3 (instr None 0 (op.Invoke (a_call 0 ([]) false (typed (operand.Func (function 2)) 1) ([]) (attributes false 0 0) ([])) (block 4)
      (block 5)) ∷ [])
      ∷ segment 4 (instr None 0 (op.Ret None) ∷ [])
      ∷ segment 5 (instr (Some (value 1)) 3 (op.LandingPad false []) ∷ instr None 0 (op.Ret None) ∷ [])
      ∷ segment 6 (instr None 0 (op.Call (a_call 0 ([]) false (typed (operand.Func (function 3)) 1) ([]) (attributes false 0 0) ([]))) ∷ [])
      ∷ segment 6 (instr None 0 (op.Ret None) ∷ [])
      ∷ [])
      (value_of 0 3 (def.Instr (spot 2 0)) ∷ value_of 1 3 (def.Instr (spot 5 0)) ∷ [])
      ([]);
  opening = opened 1 (
      shape_of 8 65536 (OfSymbol (symbol.Global (global 0)))
      ∷ shape_of 0 65552 (OfSymbol (symbol.Func (function 0)))
      ∷ shape_of 0 65568 (OfSymbol (symbol.Func (function 1)))
      ∷ shape_of 0 65584 (OfSymbol (symbol.Func (function 2)))
      ∷ shape_of 0 65600 (OfSymbol (symbol.Func (function 3)))
      ∷ shape_of 0 65616 (OfSymbol (symbol.Func (function 4)))
      ∷ []);
  choices = (
      choice ([]) (Some (act.Enter (function 0) ([])))
      ∷ choice ([]) None
      ∷ choice ([]) None
      ∷ choice ([]) None
      ∷ choice (1 ∷ 0 ∷ []) (Some (act.Unwind))
      ∷ choice ([]) None
      ∷ []);
  steps = (
      expected 0 (by_call 0 (Enter 0) ∷ [])
      ∷ expected 0 (by_call 1 (Enter 1) ∷ [])
      ∷ expected 0 (by_call 2 (Enter 2) ∷ [])
      ∷ expected 0 ([])
      ∷ expected 0 (by_call 4 (Unwind) ∷ by_call 3 (Unwind) ∷ by_call 2 (Unwind) ∷ [])
      ∷ expected 0 ([])
      ∷ []);
  final = record {
    blocks = (
        block_is 0 (shape_of 8 65536 (OfSymbol (symbol.Global (global 0)))) Live
        ∷ block_is 1 (shape_of 0 65552 (OfSymbol (symbol.Func (function 0)))) Live
        ∷ block_is 2 (shape_of 0 65568 (OfSymbol (symbol.Func (function 1)))) Live
        ∷ block_is 3 (shape_of 0 65584 (OfSymbol (symbol.Func (function 2)))) Live
        ∷ block_is 4 (shape_of 0 65600 (OfSymbol (symbol.Func (function 3)))) Live
        ∷ block_is 5 (shape_of 0 65616 (OfSymbol (symbol.Func (function 4)))) Live
        ∷ []);
    bytes = ([]);
    kept = ([]);
    frames = (body 1 0 2 1 (value_is 0 (with_marks (datum.Pair) ([])) ∷ []) ∷ outside 0 ([]) ∷ []);
  };
}

-- define void @f() {
--   call void @x()
--   ret void
-- }
-- declare void @x()
abbrev pub an_unwind_stops_at_an_outside_frame : Sample
an_unwind_stops_at_an_outside_frame = record {
  program = a_module
      ((type.Void) ∷ (type.Ptr) ∷ [])
      ([])
      (a_function [] linkage.Plain 0 (attributes false 0 0) ([]) false ([]) 0 1 ∷ a_function [] linkage.Plain 0 (attributes false 0 0) ([]) false ([]) 1 0 ∷ [])
      (a_block 0 0 2 ∷ [])
      (
      segment 0 (instr None 0 (op.Call (a_call 0 ([]) false (typed (operand.Func (function 1)) 1) ([]) (attributes false 0 0) ([]))) ∷ [])
      ∷ segment 0 (instr None 0 (op.Ret None) ∷ [])
      ∷ [])
      ([])
      ([]);
  opening = opened 0 (shape_of 0 65536 (OfSymbol (symbol.Func (function 0))) ∷ shape_of 0 65552 (OfSymbol (symbol.Func (function 1))) ∷ []);
  choices = (
      choice ([]) (Some (act.Enter (function 0) ([])))
      ∷ choice ([]) None
      ∷ choice ([]) (Some (act.Enter (function 0) ([])))
      ∷ choice ([]) None
      ∷ choice ([]) (Some (act.Unwind))
      ∷ choice ([]) (Some (act.Return None))
      ∷ choice ([]) None
      ∷ []);
  steps = (
      expected 0 (by_call 0 (Enter 0) ∷ [])
      ∷ expected 0 ([])
      ∷ expected 0 (by_call 2 (Enter 0) ∷ [])
      ∷ expected 0 ([])
      ∷ expected 0 (by_call 4 (Unwind) ∷ by_call 3 (Unwind) ∷ [])
      ∷ expected 0 (by_call 2 (Return None) ∷ [])
      ∷ expected 0 (by_call 1 (Return None) ∷ [])
      ∷ []);
  final = record {
    blocks = (block_is 0 (shape_of 0 65536 (OfSymbol (symbol.Func (function 0)))) Live ∷ block_is 1 (shape_of 0 65552 (OfSymbol (symbol.Func
        (function 1)))) Live ∷ []);
    bytes = ([]);
    kept = ([]);
    frames = (outside 0 ([]) ∷ []);
  };
}

-- define void @f() {
--   %p = alloca i32
--   store i32 7, ptr %p
--   call void @llvm.lifetime.end.p0(ptr %p)
--   call void @x(ptr %p)
--   ret void
-- }
-- declare void @llvm.lifetime.start.p0(i64, ptr)
-- declare void @llvm.lifetime.end.p0(ptr)
-- declare void @x(ptr)
-- declare i32 @pers(...)
abbrev pub lifetime_end_closes_the_block : Sample
lifetime_end_closes_the_block = record {
  program = a_module
      ((type.Void) ∷ (type.Ptr) ∷ (type.Int 32) ∷ (type.Int 64) ∷ [])
      ([])
      (
      a_function [] linkage.Plain 0 (attributes false 0 0) ([]) false ([]) 0 1
      ∷ a_function (
      108
      ∷ 108
      ∷ 118
      ∷ 109
      ∷ 46
      ∷ 108
      ∷ 105
      ∷ 102
      ∷ 101
      ∷ 116
      ∷ 105
      ∷ 109
      ∷ 101
      ∷ 46
      ∷ 115
      ∷ 116
      ∷ 97
      ∷ 114
      ∷ 116
      ∷ 46
      ∷ 112
      ∷ 48
      ∷ []) linkage.Plain 0 (attributes false 0 0) (
      parameter 1 3 (attributes false 0 0)
      ∷ parameter 2 1 (attributes false 0 0)
      ∷ []) false ([]) 1 0
      ∷ a_function (
      108
      ∷ 108
      ∷ 118
      ∷ 109
      ∷ 46
      ∷ 108
      ∷ 105
      ∷ 102
      ∷ 101
      ∷ 116
      ∷ 105
      ∷ 109
      ∷ 101
      ∷ 46
      ∷ 101
      ∷ 110
      ∷ 100
      ∷ 46
      ∷ 112
      ∷ 48
      ∷ []) linkage.Plain 0 (attributes false 0 0) (
      parameter 3 1 (attributes false 0 0)
      ∷ []) false ([]) 1 0
      ∷ a_function [] linkage.Plain 0 (attributes false 0 0) (parameter 4 1 (attributes false 0 0) ∷ []) false ([]) 1 0
      ∷ a_function [] linkage.Plain 2 (attributes false 0 0) ([]) true ([]) 1 0
      ∷ [])
      (a_block 0 0 3 ∷ [])
      (
      segment 0 (
      instr (Some (value 0)) 1 (op.Alloca (ty 2) None None)
      ∷ instr None 0 (op.Store (typed (operand.Int 7 true) 2) (typed (operand.Value (value 0)) 1) None false)
      ∷ instr None 0 (op.Call (a_call 0 (
      ty 1
      ∷ []) false (typed (operand.Func (function 2)) 1) (
      (typed (operand.Value (value 0)) 1)
      ∷ []) (attributes false 0 0) (
      (attributes false 0 0)
      ∷ [])))
      ∷ [])
      ∷ segment 0 (
      instr None 0 (op.Call (a_call 0 (
      ty 1
      ∷ []) false (typed (operand.Func (function 3)) 1) (
      (typed (operand.Value (value 0)) 1)
      ∷ []) (attributes false 0 0) (
      (attributes false 0 0)
      ∷ [])))
      ∷ [])
      ∷ segment 0 (instr None 0 (op.Ret None) ∷ [])
      ∷ [])
      (value_of 0 1 (def.Instr (spot 0 0)) ∷ value_of 1 3 (def.Param 0) ∷ value_of 1 1 (def.Param 1) ∷ value_of 2 1 (def.Param 0) ∷ value_of 3 1
      (def.Param 0) ∷ [])
      ([]);
  opening = opened 0 (
      shape_of 0 65536 (OfSymbol (symbol.Func (function 0)))
      ∷ shape_of 0 65552 (OfSymbol (symbol.Func (function 1)))
      ∷ shape_of 0 65568 (OfSymbol (symbol.Func (function 2)))
      ∷ shape_of 0 65584 (OfSymbol (symbol.Func (function 3)))
      ∷ shape_of 0 65600 (OfSymbol (symbol.Func (function 4)))
      ∷ []);
  choices = (
      choice ([]) (Some (act.Enter (function 0) ([])))
      ∷ choice ([]) None
      ∷ choice ([]) None
      ∷ choice ([]) None
      ∷ choice ([]) None
      ∷ choice ([]) (Some (act.Return None))
      ∷ choice ([]) None
      ∷ []);
  steps = (
      expected 0 (by_call 0 (Enter 0) ∷ [])
      ∷ expected 0 ([])
      ∷ expected 0 (by_call 1 (Write 5 []) ∷ [])
      ∷ expected 0 ([])
      ∷ expected 0 ([])
      ∷ expected 0 (by_call 2 (Return None) ∷ [])
      ∷ expected 0 (by_call 1 (Return None) ∷ [])
      ∷ []);
  final = record {
    blocks = (
        block_is 0 (shape_of 0 65536 (OfSymbol (symbol.Func (function 0)))) Live
        ∷ block_is 1 (shape_of 0 65552 (OfSymbol (symbol.Func (function 1)))) Live
        ∷ block_is 2 (shape_of 0 65568 (OfSymbol (symbol.Func (function 2)))) Live
        ∷ block_is 3 (shape_of 0 65584 (OfSymbol (symbol.Func (function 3)))) Live
        ∷ block_is 4 (shape_of 0 65600 (OfSymbol (symbol.Func (function 4)))) Live
        ∷ block_is 5 (shape_of 4 65616 (OfAlloca 1 0)) Dead
        ∷ []);
    bytes = ([]);
    kept = ([]);
    frames = (outside 0 ([]) ∷ []);
  };
}

-- define void @f() {
--   %p = alloca i16
--   store i16 7, ptr %p
--   call void @llvm.lifetime.end.p0(ptr %p)
--   call void @llvm.lifetime.start.p0(i64 2, ptr %p)
--   %v = load i16, ptr %p
--   ret void
-- }
-- declare void @llvm.lifetime.start.p0(i64, ptr)
-- declare void @llvm.lifetime.end.p0(ptr)
-- declare void @x(ptr)
-- declare i32 @pers(...)
abbrev pub lifetime_start_opens_the_block_and_makes_its_bytes_undef : Sample
lifetime_start_opens_the_block_and_makes_its_bytes_undef = record {
  program = a_module
      ((type.Void) ∷ (type.Ptr) ∷ (type.Int 16) ∷ (type.Int 64) ∷ (type.Int 32) ∷ [])
      ([])
      (
      a_function [] linkage.Plain 0 (attributes false 0 0) ([]) false ([]) 0 1
      ∷ a_function (
      108
      ∷ 108
      ∷ 118
      ∷ 109
      ∷ 46
      ∷ 108
      ∷ 105
      ∷ 102
      ∷ 101
      ∷ 116
      ∷ 105
      ∷ 109
      ∷ 101
      ∷ 46
      ∷ 115
      ∷ 116
      ∷ 97
      ∷ 114
      ∷ 116
      ∷ 46
      ∷ 112
      ∷ 48
      ∷ []) linkage.Plain 0 (attributes false 0 0) (
      parameter 2 3 (attributes false 0 0)
      ∷ parameter 3 1 (attributes false 0 0)
      ∷ []) false ([]) 1 0
      ∷ a_function (
      108
      ∷ 108
      ∷ 118
      ∷ 109
      ∷ 46
      ∷ 108
      ∷ 105
      ∷ 102
      ∷ 101
      ∷ 116
      ∷ 105
      ∷ 109
      ∷ 101
      ∷ 46
      ∷ 101
      ∷ 110
      ∷ 100
      ∷ 46
      ∷ 112
      ∷ 48
      ∷ []) linkage.Plain 0 (attributes false 0 0) (
      parameter 4 1 (attributes false 0 0)
      ∷ []) false ([]) 1 0
      ∷ a_function [] linkage.Plain 0 (attributes false 0 0) (parameter 5 1 (attributes false 0 0) ∷ []) false ([]) 1 0
      ∷ a_function [] linkage.Plain 4 (attributes false 0 0) ([]) true ([]) 1 0
      ∷ [])
      (a_block 0 0 3 ∷ [])
      (
      segment 0 (
      instr (Some (value 0)) 1 (op.Alloca (ty 2) None None)
      ∷ instr None 0 (op.Store (typed (operand.Int 7 true) 2) (typed (operand.Value (value 0)) 1) None false)
      ∷ instr None 0 (op.Call (a_call 0 (
      ty 1
      ∷ []) false (typed (operand.Func (function 2)) 1) (
      (typed (operand.Value (value 0)) 1)
      ∷ []) (attributes false 0 0) (
      (attributes false 0 0)
      ∷ [])))
      ∷ [])
      ∷ segment 0 (
      instr None 0 (op.Call (a_call 0 (
      ty 3
      ∷ ty 1
      ∷ []) false (typed (operand.Func (function 1)) 1) (
      (typed (operand.Int 2 true) 3)
      ∷ (typed (operand.Value (value 0)) 1)
      ∷ []) (attributes false 0 0) (
      (attributes false 0 0)
      ∷ (attributes false 0 0)
      ∷ [])))
      ∷ [])
      ∷ segment 0 (instr (Some (value 1)) 2 (op.Load (typed (operand.Value (value 0)) 1) None false) ∷ instr None 0 (op.Ret None) ∷ [])
      ∷ [])
      (
      value_of 0 1 (def.Instr (spot 0 0))
      ∷ value_of 0 2 (def.Instr (spot 2 0))
      ∷ value_of 1 3 (def.Param 0)
      ∷ value_of 1 1 (def.Param 1)
      ∷ value_of 2 1 (def.Param 0)
      ∷ value_of 3 1 (def.Param 0)
      ∷ [])
      ([]);
  opening = opened 0 (
      shape_of 0 65536 (OfSymbol (symbol.Func (function 0)))
      ∷ shape_of 0 65552 (OfSymbol (symbol.Func (function 1)))
      ∷ shape_of 0 65568 (OfSymbol (symbol.Func (function 2)))
      ∷ shape_of 0 65584 (OfSymbol (symbol.Func (function 3)))
      ∷ shape_of 0 65600 (OfSymbol (symbol.Func (function 4)))
      ∷ []);
  choices = (choice ([]) (Some (act.Enter (function 0) ([]))) ∷ choice ([]) None ∷ choice ([]) None ∷ choice ([]) None ∷ choice ([]) None ∷ choice
      ([]) None ∷ []);
  steps = (
      expected 0 (by_call 0 (Enter 0) ∷ [])
      ∷ expected 0 ([])
      ∷ expected 0 (by_call 1 (Write 5 []) ∷ [])
      ∷ expected 0 ([])
      ∷ expected 0 ([])
      ∷ expected 0 (by_call 1 (Read 5 []) ∷ [])
      ∷ []);
  final = record {
    blocks = (
        block_is 0 (shape_of 0 65536 (OfSymbol (symbol.Func (function 0)))) Live
        ∷ block_is 1 (shape_of 0 65552 (OfSymbol (symbol.Func (function 1)))) Live
        ∷ block_is 2 (shape_of 0 65568 (OfSymbol (symbol.Func (function 2)))) Live
        ∷ block_is 3 (shape_of 0 65584 (OfSymbol (symbol.Func (function 3)))) Live
        ∷ block_is 4 (shape_of 0 65600 (OfSymbol (symbol.Func (function 4)))) Live
        ∷ block_is 5 (shape_of 2 65616 (OfAlloca 1 0)) Live
        ∷ []);
    bytes = ([]);
    kept = ([]);
    frames = (body 1 0 2 1 (value_is 0 (with_marks (datum.Ptr 5 0) ([])) ∷ value_is 1 (with_marks (datum.Undef) ([])) ∷ []) ∷ outside 0 ([]) ∷ []);
  };
}

-- define void @f(ptr %a) {
--   %p = alloca i16
--   %q = getelementptr i8, ptr %p, i64 0
--   call void @llvm.lifetime.end.p0(ptr %q)
--   call void @llvm.lifetime.end.p0(ptr %a)
--   call void @llvm.lifetime.end.p0(ptr null)
--   call void @llvm.lifetime.start.p0(i64 1, ptr @f)
--   ret void
-- }
-- declare void @llvm.lifetime.start.p0(i64, ptr)
-- declare void @llvm.lifetime.end.p0(ptr)
-- declare void @x(ptr)
-- declare i32 @pers(...)
abbrev pub lifetime_calls_of_other_pointers_do_nothing : Sample
lifetime_calls_of_other_pointers_do_nothing = record {
  program = a_module
      ((type.Void) ∷ (type.Ptr) ∷ (type.Int 16) ∷ (type.Int 8) ∷ (type.Int 64) ∷ (type.Int 32) ∷ [])
      ([])
      (
      a_function [] linkage.Plain 0 (attributes false 0 0) (parameter 0 1 (attributes false 0 0) ∷ []) false ([]) 0 1
      ∷ a_function (
      108
      ∷ 108
      ∷ 118
      ∷ 109
      ∷ 46
      ∷ 108
      ∷ 105
      ∷ 102
      ∷ 101
      ∷ 116
      ∷ 105
      ∷ 109
      ∷ 101
      ∷ 46
      ∷ 115
      ∷ 116
      ∷ 97
      ∷ 114
      ∷ 116
      ∷ 46
      ∷ 112
      ∷ 48
      ∷ []) linkage.Plain 0 (attributes false 0 0) (
      parameter 3 4 (attributes false 0 0)
      ∷ parameter 4 1 (attributes false 0 0)
      ∷ []) false ([]) 1 0
      ∷ a_function (
      108
      ∷ 108
      ∷ 118
      ∷ 109
      ∷ 46
      ∷ 108
      ∷ 105
      ∷ 102
      ∷ 101
      ∷ 116
      ∷ 105
      ∷ 109
      ∷ 101
      ∷ 46
      ∷ 101
      ∷ 110
      ∷ 100
      ∷ 46
      ∷ 112
      ∷ 48
      ∷ []) linkage.Plain 0 (attributes false 0 0) (
      parameter 5 1 (attributes false 0 0)
      ∷ []) false ([]) 1 0
      ∷ a_function [] linkage.Plain 0 (attributes false 0 0) (parameter 6 1 (attributes false 0 0) ∷ []) false ([]) 1 0
      ∷ a_function [] linkage.Plain 5 (attributes false 0 0) ([]) true ([]) 1 0
      ∷ [])
      (a_block 0 0 5 ∷ [])
      (
      segment 0 (
      instr (Some (value 1)) 1 (op.Alloca (ty 2) None None)
      ∷ instr (Some (value 2)) 1 (op.Gep (ty 3) (typed (operand.Value (value 1)) 1) ((typed (operand.Int 0 true) 4) ∷ []) false false)
      ∷ instr None 0 (op.Call (a_call 0 (
      ty 1
      ∷ []) false (typed (operand.Func (function 2)) 1) (
      (typed (operand.Value (value 2)) 1)
      ∷ []) (attributes false 0 0) (
      (attributes false 0 0)
      ∷ [])))
      ∷ [])
      ∷ segment 0 (
      instr None 0 (op.Call (a_call 0 (
      ty 1
      ∷ []) false (typed (operand.Func (function 2)) 1) (
      (typed (operand.Value (value 0)) 1)
      ∷ []) (attributes false 0 0) (
      (attributes false 0 0)
      ∷ [])))
      ∷ [])
      ∷ segment 0 (
      instr None 0 (op.Call (a_call 0 (
      ty 1
      ∷ []) false (typed (operand.Func (function 2)) 1) (
      (typed (operand.Null) 1)
      ∷ []) (attributes false 0 0) (
      (attributes false 0 0)
      ∷ [])))
      ∷ [])
      ∷ segment 0 (
      instr None 0 (op.Call (a_call 0 (
      ty 4
      ∷ ty 1
      ∷ []) false (typed (operand.Func (function 1)) 1) (
      (typed (operand.Int 1 true) 4)
      ∷ (typed (operand.Func (function 0)) 1)
      ∷ []) (attributes false 0 0) (
      (attributes false 0 0)
      ∷ (attributes false 0 0)
      ∷ [])))
      ∷ [])
      ∷ segment 0 (instr None 0 (op.Ret None) ∷ [])
      ∷ [])
      (
      value_of 0 1 (def.Param 0)
      ∷ value_of 0 1 (def.Instr (spot 0 0))
      ∷ value_of 0 1 (def.Instr (spot 0 1))
      ∷ value_of 1 4 (def.Param 0)
      ∷ value_of 1 1 (def.Param 1)
      ∷ value_of 2 1 (def.Param 0)
      ∷ value_of 3 1 (def.Param 0)
      ∷ [])
      ([]);
  opening = opened 0 (
      shape_of 0 65536 (OfSymbol (symbol.Func (function 0)))
      ∷ shape_of 0 65552 (OfSymbol (symbol.Func (function 1)))
      ∷ shape_of 0 65568 (OfSymbol (symbol.Func (function 2)))
      ∷ shape_of 0 65584 (OfSymbol (symbol.Func (function 3)))
      ∷ shape_of 0 65600 (OfSymbol (symbol.Func (function 4)))
      ∷ []);
  choices = (
      choice ([]) (Some (act.New 2 0))
      ∷ choice ([]) (Some (act.Enter (function 0) ((with_marks (datum.Ptr 5 0) ([])) ∷ [])))
      ∷ choice ([]) None
      ∷ choice ([]) None
      ∷ choice ([]) None
      ∷ choice ([]) None
      ∷ choice ([]) None
      ∷ choice ([]) None
      ∷ []);
  steps = (
      expected 0 ([])
      ∷ expected 0 (by_call 0 (Enter 0) ∷ [])
      ∷ expected 0 ([])
      ∷ expected 0 ([])
      ∷ expected 0 ([])
      ∷ expected 0 ([])
      ∷ expected 0 ([])
      ∷ expected 0 ([])
      ∷ []);
  final = record {
    blocks = (
        block_is 0 (shape_of 0 65536 (OfSymbol (symbol.Func (function 0)))) Live
        ∷ block_is 1 (shape_of 0 65552 (OfSymbol (symbol.Func (function 1)))) Live
        ∷ block_is 2 (shape_of 0 65568 (OfSymbol (symbol.Func (function 2)))) Live
        ∷ block_is 3 (shape_of 0 65584 (OfSymbol (symbol.Func (function 3)))) Live
        ∷ block_is 4 (shape_of 0 65600 (OfSymbol (symbol.Func (function 4)))) Live
        ∷ block_is 5 (shape_of 2 65616 (Heap)) Live
        ∷ block_is 6 (shape_of 2 65632 (OfAlloca 1 0)) Live
        ∷ []);
    bytes = ([]);
    kept = ([]);
    frames = (
        body 1 0 4 0 (value_is 0 (with_marks (datum.Ptr 5 0) (mark 1 0 ∷ [])) ∷ value_is 1 (with_marks (datum.Ptr 6 0) ([])) ∷ value_is 2 (with_marks
        (datum.Ptr 6 0) ([])) ∷ [])
        ∷ outside 0 ([])
        ∷ []);
  };
}
