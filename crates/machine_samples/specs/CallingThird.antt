-- Sample runs: calls. Each has its program as text above it.
use Rattle.std.specs.Prelude.{true, false, [], ◌∷◌, None, Some}
use Rattle.ir_types.specs.declared.ir_type.IrType.TheVariants as type
use Rattle.ir_module.specs.declared.op.Operand.TheVariants as operand
use Rattle.ir_module.specs.declared.op.Symbol.TheVariants as symbol
use Rattle.ir_module.specs.declared.op.Op.TheVariants as op
use Rattle.ir_module.specs.declared.module.Linkage.TheVariants as linkage
use Rattle.ir_module.specs.declared.module.Def.TheVariants as def
use Rattle.ir_module.specs.Places.{spot}
use Rattle.ir_machine.specs.declared.choice.Datum.TheVariants as datum
use Rattle.ir_machine.specs.declared.choice.Act.TheVariants as act
use Rattle.ir_machine.specs.Memory.{OfSymbol, OfAlloca, Live, Closed}
use Rattle.ir_machine.specs.Frames.{Enter}
use Rattle.machine_samples.specs.Build.{ty, value, function, block, typed, arm, attributes, a_call, instr, segment, a_block, value_of, parameter, a_function}
use Rattle.machine_samples.specs.Build.{a_module, shape_of, with_marks, choice, opened, by_call, expected, block_is, value_is, outside, body, Sample}

-- define void @f() {
--   %p = alloca i32
--   call void @llvm.lifetime.end.p0(ptr %p)
--   store i8 1, ptr %p
--   ret void
-- }
-- declare void @llvm.lifetime.start.p0(i64, ptr)
-- declare void @llvm.lifetime.end.p0(ptr)
-- declare void @x(ptr)
-- declare i32 @pers(...)
abbrev pub store_through_a_closed_block_is_undefined : Sample
store_through_a_closed_block_is_undefined = record {
  program = a_module
      ((type.Void) ∷ (type.Ptr) ∷ (type.Int 32) ∷ (type.Int 8) ∷ (type.Int 64) ∷ [])
      ([])
      (
      a_function [] linkage.Plain 0 (attributes false 0 0) ([]) false ([]) 0 1
      ∷ a_function (
      108
      ∷ 108
      ∷ 118
      ∷ 109
      ∷ 46
      ∷ 108
      ∷ 105
      ∷ 102
      ∷ 101
      ∷ 116
      ∷ 105
      ∷ 109
      ∷ 101
      ∷ 46
      ∷ 115
      ∷ 116
      ∷ 97
      ∷ 114
      ∷ 116
      ∷ 46
      ∷ 112
      ∷ 48
      ∷ []) linkage.Plain 0 (attributes false 0 0) (
      parameter 1 4 (attributes false 0 0)
      ∷ parameter 2 1 (attributes false 0 0)
      ∷ []) false ([]) 1 0
      ∷ a_function (
      108
      ∷ 108
      ∷ 118
      ∷ 109
      ∷ 46
      ∷ 108
      ∷ 105
      ∷ 102
      ∷ 101
      ∷ 116
      ∷ 105
      ∷ 109
      ∷ 101
      ∷ 46
      ∷ 101
      ∷ 110
      ∷ 100
      ∷ 46
      ∷ 112
      ∷ 48
      ∷ []) linkage.Plain 0 (attributes false 0 0) (
      parameter 3 1 (attributes false 0 0)
      ∷ []) false ([]) 1 0
      ∷ a_function [] linkage.Plain 0 (attributes false 0 0) (parameter 4 1 (attributes false 0 0) ∷ []) false ([]) 1 0
      ∷ a_function [] linkage.Plain 2 (attributes false 0 0) ([]) true ([]) 1 0
      ∷ [])
      (a_block 0 0 2 ∷ [])
      (
      segment 0 (
      instr (Some (value 0)) 1 (op.Alloca (ty 2) None None)
      ∷ instr None 0 (op.Call (a_call 0 (
      ty 1
      ∷ []) false (typed (operand.Func (function 2)) 1) (
      (typed (operand.Value (value 0)) 1)
      ∷ []) (attributes false 0 0) (
      (attributes false 0 0)
      ∷ [])))
      ∷ [])
      ∷ segment 0 (instr None 0 (op.Store (typed (operand.Int 1 true) 3) (typed (operand.Value (value 0)) 1) None false) ∷ instr None 0 (op.Ret None) ∷ [])
      ∷ [])
      (value_of 0 1 (def.Instr (spot 0 0)) ∷ value_of 1 4 (def.Param 0) ∷ value_of 1 1 (def.Param 1) ∷ value_of 2 1 (def.Param 0) ∷ value_of 3 1
      (def.Param 0) ∷ [])
      ([]);
  opening = opened 0 (
      shape_of 0 65536 (OfSymbol (symbol.Func (function 0)))
      ∷ shape_of 0 65552 (OfSymbol (symbol.Func (function 1)))
      ∷ shape_of 0 65568 (OfSymbol (symbol.Func (function 2)))
      ∷ shape_of 0 65584 (OfSymbol (symbol.Func (function 3)))
      ∷ shape_of 0 65600 (OfSymbol (symbol.Func (function 4)))
      ∷ []);
  choices = (choice ([]) (Some (act.Enter (function 0) ([]))) ∷ choice ([]) None ∷ choice ([]) None ∷ choice ([]) None ∷ []);
  steps = (expected 0 (by_call 0 (Enter 0) ∷ []) ∷ expected 0 ([]) ∷ expected 0 ([]) ∷ expected 1 ([]) ∷ []);
  final = record {
    blocks = (
        block_is 0 (shape_of 0 65536 (OfSymbol (symbol.Func (function 0)))) Live
        ∷ block_is 1 (shape_of 0 65552 (OfSymbol (symbol.Func (function 1)))) Live
        ∷ block_is 2 (shape_of 0 65568 (OfSymbol (symbol.Func (function 2)))) Live
        ∷ block_is 3 (shape_of 0 65584 (OfSymbol (symbol.Func (function 3)))) Live
        ∷ block_is 4 (shape_of 0 65600 (OfSymbol (symbol.Func (function 4)))) Live
        ∷ block_is 5 (shape_of 4 65616 (OfAlloca 1 0)) Closed
        ∷ []);
    bytes = ([]);
    kept = ([]);
    frames = (body 1 0 1 0 (value_is 0 (with_marks (datum.Ptr 5 0) ([])) ∷ []) ∷ outside 0 ([]) ∷ []);
  };
}

-- define void @f() personality ptr @pers {
--   %p = alloca i16
--   invoke void @llvm.lifetime.end.p0(ptr %p) to label %n unwind label %u
-- n:
--   %v = phi i8 [ 4, %0 ]
--   ret void
-- u:
--   %l = landingpad { ptr, i32 } cleanup
--   ret void
-- }
-- declare void @llvm.lifetime.start.p0(i64, ptr)
-- declare void @llvm.lifetime.end.p0(ptr)
-- declare void @x(ptr)
-- declare i32 @pers(...)
abbrev pub an_invoke_of_a_lifetime_name_goes_on_at_the_normal_block : Sample
an_invoke_of_a_lifetime_name_goes_on_at_the_normal_block = record {
  program = a_module
      ((type.Void) ∷ (type.Ptr) ∷ (type.Int 16) ∷ (type.Int 8) ∷ (type.Int 32) ∷ (type.Struct (ty 1 ∷ ty 4 ∷ []) false) ∷ (type.Int 64) ∷ [])
      ([])
      (
      a_function [] linkage.Plain 0 (attributes false 0 0) ([]) false (typed (operand.Func (function 4)) 1 ∷ []) 0 3
      ∷ a_function (
      108
      ∷ 108
      ∷ 118
      ∷ 109
      ∷ 46
      ∷ 108
      ∷ 105
      ∷ 102
      ∷ 101
      ∷ 116
      ∷ 105
      ∷ 109
      ∷ 101
      ∷ 46
      ∷ 115
      ∷ 116
      ∷ 97
      ∷ 114
      ∷ 116
      ∷ 46
      ∷ 112
      ∷ 48
      ∷ []) linkage.Plain 0 (attributes false 0 0) (
      parameter 3 6 (attributes false 0 0)
      ∷ parameter 4 1 (attributes false 0 0)
      ∷ []) false ([]) 3 0
      ∷ a_function (
      108
      ∷ 108
      ∷ 118
      ∷ 109
      ∷ 46
      ∷ 108
      ∷ 105
      ∷ 102
      ∷ 101
      ∷ 116
      ∷ 105
      ∷ 109
      ∷ 101
      ∷ 46
      ∷ 101
      ∷ 110
      ∷ 100
      ∷ 46
      ∷ 112
      ∷ 48
      ∷ []) linkage.Plain 0 (attributes false 0 0) (
      parameter 5 1 (attributes false 0 0)
      ∷ []) false ([]) 3 0
      ∷ a_function [] linkage.Plain 0 (attributes false 0 0) (parameter 6 1 (attributes false 0 0) ∷ []) false ([]) 3 0
      ∷ a_function [] linkage.Plain 4 (attributes false 0 0) ([]) true ([]) 3 0
      ∷ [])
      (a_block 0 0 1 ∷ a_block 0 1 1 ∷ a_block 0 2 1 ∷ [])
      (
      segment 0 (
      instr (Some (value 0)) 1 (op.Alloca (ty 2) None None)
      ∷ instr None 0 (op.Invoke (a_call 0 (
      ty 1
      ∷ []) false (typed (operand.Func (function 2)) 1) (
      (typed (operand.Value (value 0)) 1)
      ∷ []) (attributes false 0 0) (
      (attributes false 0 0)
      ∷ [])) (block 1) (block 2))
      ∷ [])
      ∷ segment 1 (instr (Some (value 1)) 3 (op.Phi (arm (typed (operand.Int 4 true) 3) (block 0) ∷ [])) ∷ instr None 0 (op.Ret None) ∷ [])
      ∷ segment 2 (instr (Some (value 2)) 5 (op.LandingPad true []) ∷ instr None 0 (op.Ret None) ∷ [])
      ∷ [])
      (
      value_of 0 1 (def.Instr (spot 0 0))
      ∷ value_of 0 3 (def.Instr (spot 1 0))
      ∷ value_of 0 5 (def.Instr (spot 2 0))
      ∷ value_of 1 6 (def.Param 0)
      ∷ value_of 1 1 (def.Param 1)
      ∷ value_of 2 1 (def.Param 0)
      ∷ value_of 3 1 (def.Param 0)
      ∷ [])
      ([]);
  opening = opened 0 (
      shape_of 0 65536 (OfSymbol (symbol.Func (function 0)))
      ∷ shape_of 0 65552 (OfSymbol (symbol.Func (function 1)))
      ∷ shape_of 0 65568 (OfSymbol (symbol.Func (function 2)))
      ∷ shape_of 0 65584 (OfSymbol (symbol.Func (function 3)))
      ∷ shape_of 0 65600 (OfSymbol (symbol.Func (function 4)))
      ∷ []);
  choices = (choice ([]) (Some (act.Enter (function 0) ([]))) ∷ choice ([]) None ∷ choice ([]) None ∷ []);
  steps = (expected 0 (by_call 0 (Enter 0) ∷ []) ∷ expected 0 ([]) ∷ expected 0 ([]) ∷ []);
  final = record {
    blocks = (
        block_is 0 (shape_of 0 65536 (OfSymbol (symbol.Func (function 0)))) Live
        ∷ block_is 1 (shape_of 0 65552 (OfSymbol (symbol.Func (function 1)))) Live
        ∷ block_is 2 (shape_of 0 65568 (OfSymbol (symbol.Func (function 2)))) Live
        ∷ block_is 3 (shape_of 0 65584 (OfSymbol (symbol.Func (function 3)))) Live
        ∷ block_is 4 (shape_of 0 65600 (OfSymbol (symbol.Func (function 4)))) Live
        ∷ block_is 5 (shape_of 2 65616 (OfAlloca 1 0)) Closed
        ∷ []);
    bytes = ([]);
    kept = ([]);
    frames = (body 1 0 1 1 (value_is 0 (with_marks (datum.Ptr 5 0) ([])) ∷ value_is 1 (with_marks (datum.Int 4) ([])) ∷ []) ∷ outside 0 ([]) ∷ []);
  };
}
