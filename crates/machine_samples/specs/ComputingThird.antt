-- Sample runs: instructions that compute. Each has its program as text above it.
use Rattle.std.specs.Prelude.{pos, negsuc, true, false, [], ◌∷◌, None, Some}
use Rattle.ir_types.specs.declared.ir_type.IrType.TheVariants as type
use Rattle.ir_module.specs.declared.op.Operand.TheVariants as operand
use Rattle.ir_module.specs.declared.op.Symbol.TheVariants as symbol
use Rattle.ir_module.specs.declared.op.Op.TheVariants as op
use Rattle.ir_module.specs.declared.module.Linkage.TheVariants as linkage
use Rattle.ir_module.specs.declared.module.Def.TheVariants as def
use Rattle.ir_module.specs.Places.{spot}
use Rattle.ir_machine.specs.declared.choice.Datum.TheVariants as datum
use Rattle.ir_machine.specs.declared.choice.Act.TheVariants as act
use Rattle.ir_machine.specs.Memory.{OfSymbol, Live}
use Rattle.ir_machine.specs.Frames.{Enter}
use Rattle.machine_samples.specs.Build.{ty, value, function, global, typed, attributes, instr, segment, a_block, value_of, parameter, a_function, a_global}
use Rattle.machine_samples.specs.Build.{a_module, shape_of, mark, with_marks, choice, opened, by_call, expected, block_is, value_is, outside, body, Sample}

-- @g = global [10 x i32] zeroinitializer
-- define void @f(ptr %g, i64 %i) {
--   %a = getelementptr inbounds i32, ptr %g, i64 10
--   %b = getelementptr inbounds i8, ptr %g, i64 41
--   %c = getelementptr inbounds i32, ptr %g, i64 -1
--   %d = getelementptr i32, ptr %g, i64 -1
--   %e = getelementptr inbounds i8, ptr %d, i64 4
--   %h = getelementptr inbounds i8, ptr %g, i64 %i
--   %j = getelementptr inbounds i8, ptr @g, i64 %i
--   ret void
-- }
abbrev pub inbounds_outside_is_poison : Sample
inbounds_outside_is_poison = record {
  program = a_module
      ((type.Void) ∷ (type.Ptr) ∷ (type.Int 32) ∷ (type.Array 10 (ty 2)) ∷ (type.Int 64) ∷ (type.Int 8) ∷ [])
      (a_global linkage.Plain 3 (Some (typed (operand.Zero) 3)) (None) ∷ [])
      (a_function [] linkage.Plain 0 (attributes false 0 0) (parameter 0 1 (attributes false 0 0) ∷ parameter 1 4 (attributes false 0 0) ∷ []) false
      ([]) 0 1 ∷ [])
      (a_block 0 0 1 ∷ [])
      (
      segment 0 (
      instr (Some (value 2)) 1 (op.Gep (ty 2) (typed (operand.Value (value 0)) 1) ((typed (operand.Int 10 true) 4) ∷ []) true false)
      ∷ instr (Some (value 3)) 1 (op.Gep (ty 5) (typed (operand.Value (value 0)) 1) ((typed (operand.Int 41 true) 4) ∷ []) true false)
      ∷ instr (Some (value 4)) 1 (op.Gep (ty 2) (typed (operand.Value (value 0)) 1) ((typed (operand.Int 18446744073709551615 true) 4) ∷ []) true false)
      ∷ instr (Some (value 5)) 1 (op.Gep (ty 2) (typed (operand.Value (value 0)) 1) ((typed (operand.Int 18446744073709551615 true) 4) ∷ []) false false)
      ∷ instr (Some (value 6)) 1 (op.Gep (ty 5) (typed (operand.Value (value 5)) 1) ((typed (operand.Int 4 true) 4) ∷ []) true false)
      ∷ instr (Some (value 7)) 1 (op.Gep (ty 5) (typed (operand.Value (value 0)) 1) ((typed (operand.Value (value 1)) 4) ∷ []) true false)
      ∷ instr (Some (value 8)) 1 (op.Gep (ty 5) (typed (operand.Global (global 0)) 1) ((typed (operand.Value (value 1)) 4) ∷ []) true false)
      ∷ instr None 0 (op.Ret None)
      ∷ [])
      ∷ [])
      (
      value_of 0 1 (def.Param 0)
      ∷ value_of 0 4 (def.Param 1)
      ∷ value_of 0 1 (def.Instr (spot 0 0))
      ∷ value_of 0 1 (def.Instr (spot 0 1))
      ∷ value_of 0 1 (def.Instr (spot 0 2))
      ∷ value_of 0 1 (def.Instr (spot 0 3))
      ∷ value_of 0 1 (def.Instr (spot 0 4))
      ∷ value_of 0 1 (def.Instr (spot 0 5))
      ∷ value_of 0 1 (def.Instr (spot 0 6))
      ∷ [])
      ([]);
  opening = opened 1 (shape_of 40 65536 (OfSymbol (symbol.Global (global 0))) ∷ shape_of 0 65584 (OfSymbol (symbol.Func (function 0))) ∷ []);
  choices = (
      choice ([]) (Some (act.Enter (function 0) ((with_marks (datum.Ptr 0 0) ([])) ∷ (with_marks (datum.Int 41) ([])) ∷ [])))
      ∷ choice ([]) None
      ∷ choice ([]) None
      ∷ choice ([]) None
      ∷ choice ([]) None
      ∷ choice ([]) None
      ∷ choice ([]) None
      ∷ choice ([]) None
      ∷ []);
  steps = (
      expected 0 (by_call 0 (Enter 0) ∷ [])
      ∷ expected 0 ([])
      ∷ expected 0 ([])
      ∷ expected 0 ([])
      ∷ expected 0 ([])
      ∷ expected 0 ([])
      ∷ expected 0 ([])
      ∷ expected 0 ([])
      ∷ []);
  final = record {
    blocks = (block_is 0 (shape_of 40 65536 (OfSymbol (symbol.Global (global 0)))) Live ∷ block_is 1 (shape_of 0 65584 (OfSymbol (symbol.Func
        (function 0)))) Live ∷ []);
    bytes = ([]);
    kept = ([]);
    frames = (
        body 1 0 0 7 (
        value_is 0 (with_marks (datum.Ptr 0 0) (mark 1 0 ∷ []))
        ∷ value_is 1 (with_marks (datum.Int 41) ([]))
        ∷ value_is 2 (with_marks (datum.Ptr 0 40) (mark 1 0 ∷ []))
        ∷ value_is 3 (with_marks (datum.Poison) (mark 1 0 ∷ []))
        ∷ value_is 4 (with_marks (datum.Poison) (mark 1 0 ∷ []))
        ∷ value_is 5 (with_marks (datum.Ptr 0 18446744073709551612) (mark 1 0 ∷ []))
        ∷ value_is 6 (with_marks (datum.Ptr 0 0) (mark 1 0 ∷ []))
        ∷ value_is 7 (with_marks (datum.Poison) (mark 1 0 ∷ []))
        ∷ value_is 8 (with_marks (datum.Poison) ([]))
        ∷ [])
        ∷ outside 0 ([])
        ∷ []);
  };
}

-- @g = global [10 x i32] zeroinitializer
-- define void @f(ptr %g, i64 %i) {
--   %a = getelementptr nuw i32, ptr %g, i64 %i
--   %b = getelementptr nuw i32, ptr %g, i64 %i
--   %c = getelementptr nusw i32, ptr %g, i64 -1
--   %d = getelementptr nusw i32, ptr %g, i64 -1
--   %e = getelementptr nuw i8, ptr %g, i64 41
--   %h = getelementptr nuw i8, ptr %g, i64 41
--   %j = getelementptr nusw i8, ptr %g, i1 true
--   %k = getelementptr nusw i8, ptr %g, i1 true
--   ret void
-- }
abbrev pub nusw_and_nuw_go_by_pick_elsewhere : Sample
nusw_and_nuw_go_by_pick_elsewhere = record {
  program = a_module
      ((type.Void) ∷ (type.Ptr) ∷ (type.Int 32) ∷ (type.Array 10 (ty 2)) ∷ (type.Int 64) ∷ (type.Int 8) ∷ (type.Int 1) ∷ [])
      (a_global linkage.Plain 3 (Some (typed (operand.Zero) 3)) (None) ∷ [])
      (a_function [] linkage.Plain 0 (attributes false 0 0) (parameter 0 1 (attributes false 0 0) ∷ parameter 1 4 (attributes false 0 0) ∷ []) false
      ([]) 0 1 ∷ [])
      (a_block 0 0 1 ∷ [])
      (
      segment 0 (
      instr (Some (value 2)) 1 (op.Gep (ty 2) (typed (operand.Value (value 0)) 1) ((typed (operand.Value (value 1)) 4) ∷ []) false true)
      ∷ instr (Some (value 3)) 1 (op.Gep (ty 2) (typed (operand.Value (value 0)) 1) ((typed (operand.Value (value 1)) 4) ∷ []) false true)
      ∷ instr (Some (value 4)) 1 (op.Gep (ty 2) (typed (operand.Value (value 0)) 1) ((typed (operand.Int 18446744073709551615 true) 4) ∷ []) false true)
      ∷ instr (Some (value 5)) 1 (op.Gep (ty 2) (typed (operand.Value (value 0)) 1) ((typed (operand.Int 18446744073709551615 true) 4) ∷ []) false true)
      ∷ instr (Some (value 6)) 1 (op.Gep (ty 5) (typed (operand.Value (value 0)) 1) ((typed (operand.Int 41 true) 4) ∷ []) false true)
      ∷ instr (Some (value 7)) 1 (op.Gep (ty 5) (typed (operand.Value (value 0)) 1) ((typed (operand.Int 41 true) 4) ∷ []) false true)
      ∷ instr (Some (value 8)) 1 (op.Gep (ty 5) (typed (operand.Value (value 0)) 1) ((typed (operand.Truth true) 6) ∷ []) false true)
      ∷ instr (Some (value 9)) 1 (op.Gep (ty 5) (typed (operand.Value (value 0)) 1) ((typed (operand.Truth true) 6) ∷ []) false true)
      ∷ instr None 0 (op.Ret None)
      ∷ [])
      ∷ [])
      (
      value_of 0 1 (def.Param 0)
      ∷ value_of 0 4 (def.Param 1)
      ∷ value_of 0 1 (def.Instr (spot 0 0))
      ∷ value_of 0 1 (def.Instr (spot 0 1))
      ∷ value_of 0 1 (def.Instr (spot 0 2))
      ∷ value_of 0 1 (def.Instr (spot 0 3))
      ∷ value_of 0 1 (def.Instr (spot 0 4))
      ∷ value_of 0 1 (def.Instr (spot 0 5))
      ∷ value_of 0 1 (def.Instr (spot 0 6))
      ∷ value_of 0 1 (def.Instr (spot 0 7))
      ∷ [])
      ([]);
  opening = opened 1 (shape_of 40 65536 (OfSymbol (symbol.Global (global 0))) ∷ shape_of 0 65584 (OfSymbol (symbol.Func (function 0))) ∷ []);
  choices = (
      choice ([]) (Some (act.Enter (function 0) ((with_marks (datum.Ptr 0 4) ([])) ∷ (with_marks (datum.Int 1) ([])) ∷ [])))
      ∷ choice ([]) None
      ∷ choice (1 ∷ []) None
      ∷ choice ([]) None
      ∷ choice (2 ∷ []) None
      ∷ choice ([]) None
      ∷ choice (1 ∷ []) None
      ∷ choice ([]) None
      ∷ choice (1 ∷ []) None
      ∷ []);
  steps = (
      expected 0 (by_call 0 (Enter 0) ∷ [])
      ∷ expected 0 ([])
      ∷ expected 0 ([])
      ∷ expected 0 ([])
      ∷ expected 0 ([])
      ∷ expected 0 ([])
      ∷ expected 0 ([])
      ∷ expected 0 ([])
      ∷ expected 0 ([])
      ∷ []);
  final = record {
    blocks = (block_is 0 (shape_of 40 65536 (OfSymbol (symbol.Global (global 0)))) Live ∷ block_is 1 (shape_of 0 65584 (OfSymbol (symbol.Func
        (function 0)))) Live ∷ []);
    bytes = ([]);
    kept = ([]);
    frames = (
        body 1 0 0 8 (
        value_is 0 (with_marks (datum.Ptr 0 4) (mark 1 0 ∷ []))
        ∷ value_is 1 (with_marks (datum.Int 1) ([]))
        ∷ value_is 2 (with_marks (datum.Ptr 0 8) (mark 1 0 ∷ []))
        ∷ value_is 3 (with_marks (datum.Poison) (mark 1 0 ∷ []))
        ∷ value_is 4 (with_marks (datum.Ptr 0 0) (mark 1 0 ∷ []))
        ∷ value_is 5 (with_marks (datum.Poison) (mark 1 0 ∷ []))
        ∷ value_is 6 (with_marks (datum.Ptr 0 45) (mark 1 0 ∷ []))
        ∷ value_is 7 (with_marks (datum.Poison) (mark 1 0 ∷ []))
        ∷ value_is 8 (with_marks (datum.Ptr 0 3) (mark 1 0 ∷ []))
        ∷ value_is 9 (with_marks (datum.Poison) (mark 1 0 ∷ []))
        ∷ [])
        ∷ outside 0 ([])
        ∷ []);
  };
}

-- @g = global [10 x i32] zeroinitializer
-- define void @f() {
--   %a = getelementptr i8, ptr getelementptr (i32, ptr @g, i64 3), i64 1
--   %b = getelementptr i8, ptr getelementptr inbounds (i8, ptr @g, i64 41), i64 0
--   %c = getelementptr i8, ptr getelementptr inbounds (i8, ptr getelementptr (i8, ptr @g, i64 99), i64 -1), i64 0
--   %d = getelementptr i8, ptr getelementptr inbounds (i8, ptr getelementptr inbounds (i8, ptr @g, i64 99), i64 -99), i64 0
--   %e = getelementptr i8, ptr getelementptr nuw (i8, ptr @g, i64 41), i64 0
--   %h = getelementptr i8, ptr getelementptr nuw (i8, ptr @g, i64 41), i64 0
--   %i = getelementptr i8, ptr getelementptr nuw (i8, ptr getelementptr (i8, ptr @g, i64 41), i64 -1), i64 0
--   %j = getelementptr i8, ptr getelementptr (i8, ptr @f, i64 -2), i64 0
--   ret void
-- }
abbrev pub constant_geps : Sample
constant_geps = record {
  program = a_module
      ((type.Void) ∷ (type.Ptr) ∷ (type.Int 32) ∷ (type.Array 10 (ty 2)) ∷ (type.Int 8) ∷ (type.Int 64) ∷ [])
      (a_global linkage.Plain 3 (Some (typed (operand.Zero) 3)) (None) ∷ [])
      (a_function [] linkage.Plain 0 (attributes false 0 0) ([]) false ([]) 0 1 ∷ [])
      (a_block 0 0 1 ∷ [])
      (
      segment 0 (
      instr (Some (value 0)) 1 (op.Gep (ty 4) (typed (operand.Offset (symbol.Global (global 0)) (pos 12) false false) 1) (
      (typed (operand.Int 1 true) 5)
      ∷ []) false false)
      ∷ instr (Some (value 1)) 1 (op.Gep (ty 4) (typed (operand.Offset (symbol.Global (global 0)) (pos 41) true false) 1) (
      (typed (operand.Int 0 true) 5)
      ∷ []) false false)
      ∷ instr (Some (value 2)) 1 (op.Gep (ty 4) (typed (operand.Offset (symbol.Global (global 0)) (pos 98) false false) 1) (
      (typed (operand.Int 0 true) 5)
      ∷ []) false false)
      ∷ instr (Some (value 3)) 1 (op.Gep (ty 4) (typed (operand.Offset (symbol.Global (global 0)) (pos 0) true false) 1) (
      (typed (operand.Int 0 true) 5)
      ∷ []) false false)
      ∷ instr (Some (value 4)) 1 (op.Gep (ty 4) (typed (operand.Offset (symbol.Global (global 0)) (pos 41) false true) 1) (
      (typed (operand.Int 0 true) 5)
      ∷ []) false false)
      ∷ instr (Some (value 5)) 1 (op.Gep (ty 4) (typed (operand.Offset (symbol.Global (global 0)) (pos 41) false true) 1) (
      (typed (operand.Int 0 true) 5)
      ∷ []) false false)
      ∷ instr (Some (value 6)) 1 (op.Gep (ty 4) (typed (operand.Offset (symbol.Global (global 0)) (pos 40) false true) 1) (
      (typed (operand.Int 0 true) 5)
      ∷ []) false false)
      ∷ instr (Some (value 7)) 1 (op.Gep (ty 4) (typed (operand.Offset (symbol.Func (function 0)) (negsuc 1) false false) 1) (
      (typed (operand.Int 0 true) 5)
      ∷ []) false false)
      ∷ instr None 0 (op.Ret None)
      ∷ [])
      ∷ [])
      (
      value_of 0 1 (def.Instr (spot 0 0))
      ∷ value_of 0 1 (def.Instr (spot 0 1))
      ∷ value_of 0 1 (def.Instr (spot 0 2))
      ∷ value_of 0 1 (def.Instr (spot 0 3))
      ∷ value_of 0 1 (def.Instr (spot 0 4))
      ∷ value_of 0 1 (def.Instr (spot 0 5))
      ∷ value_of 0 1 (def.Instr (spot 0 6))
      ∷ value_of 0 1 (def.Instr (spot 0 7))
      ∷ [])
      ([]);
  opening = opened 1 (shape_of 40 65536 (OfSymbol (symbol.Global (global 0))) ∷ shape_of 0 65584 (OfSymbol (symbol.Func (function 0))) ∷ []);
  choices = (
      choice ([]) (Some (act.Enter (function 0) ([])))
      ∷ choice ([]) None
      ∷ choice ([]) None
      ∷ choice ([]) None
      ∷ choice ([]) None
      ∷ choice ([]) None
      ∷ choice (1 ∷ []) None
      ∷ choice ([]) None
      ∷ choice ([]) None
      ∷ []);
  steps = (
      expected 0 (by_call 0 (Enter 0) ∷ [])
      ∷ expected 0 ([])
      ∷ expected 0 ([])
      ∷ expected 0 ([])
      ∷ expected 0 ([])
      ∷ expected 0 ([])
      ∷ expected 0 ([])
      ∷ expected 0 ([])
      ∷ expected 0 ([])
      ∷ []);
  final = record {
    blocks = (block_is 0 (shape_of 40 65536 (OfSymbol (symbol.Global (global 0)))) Live ∷ block_is 1 (shape_of 0 65584 (OfSymbol (symbol.Func
        (function 0)))) Live ∷ []);
    bytes = ([]);
    kept = ([]);
    frames = (
        body 1 0 0 8 (
        value_is 0 (with_marks (datum.Ptr 0 13) ([]))
        ∷ value_is 1 (with_marks (datum.Poison) ([]))
        ∷ value_is 2 (with_marks (datum.Ptr 0 98) ([]))
        ∷ value_is 3 (with_marks (datum.Ptr 0 0) ([]))
        ∷ value_is 4 (with_marks (datum.Ptr 0 41) ([]))
        ∷ value_is 5 (with_marks (datum.Poison) ([]))
        ∷ value_is 6 (with_marks (datum.Ptr 0 40) ([]))
        ∷ value_is 7 (with_marks (datum.Ptr 1 18446744073709551614) ([]))
        ∷ [])
        ∷ outside 0 ([])
        ∷ []);
  };
}
