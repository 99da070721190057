-- Sample runs: instructions that compute. Each has its program as text above it.
use Rattle.std.specs.Prelude.{true, false, [], ◌∷◌, None, Some}
use Rattle.ir_types.specs.declared.ir_type.IrType.TheVariants as type
use Rattle.ir_ops.specs.declared.conversion.CastOp.TheVariants as cast
use Rattle.ir_module.specs.declared.op.Operand.TheVariants as operand
use Rattle.ir_module.specs.declared.op.Symbol.TheVariants as symbol
use Rattle.ir_module.specs.declared.op.Op.TheVariants as op
use Rattle.ir_module.specs.declared.module.Linkage.TheVariants as linkage
use Rattle.ir_module.specs.declared.module.Def.TheVariants as def
use Rattle.ir_module.specs.Places.{spot}
use Rattle.ir_machine.specs.declared.choice.Datum.TheVariants as datum
use Rattle.ir_machine.specs.declared.choice.Act.TheVariants as act
use Rattle.ir_machine.specs.Memory.{OfSymbol, Live}
use Rattle.ir_machine.specs.Frames.{Enter, Capture}
use Rattle.machine_samples.specs.Build.{ty, value, function, global, typed, attributes, instr, segment, a_block, value_of, parameter, a_function, a_global}
use Rattle.machine_samples.specs.Build.{a_module, shape_of, mark, with_marks, choice, opened, by_call, expected, block_is, value_is, outside, body, Sample}

-- define void @f(ptr %p) {
--   %a = ptrtoint ptr %p to i64
--   %b = ptrtoint ptr %p to i8
--   %c = ptrtoint ptr undef to i64
--   %d = ptrtoint ptr poison to i1
--   %e = ptrtoint ptr null to i64
--   ret void
-- }
abbrev pub ptrtoint_goes_by_pick_and_captures : Sample
ptrtoint_goes_by_pick_and_captures = record {
  program = a_module
      ((type.Void) ∷ (type.Ptr) ∷ (type.Int 64) ∷ (type.Int 8) ∷ (type.Int 1) ∷ [])
      ([])
      (a_function [] linkage.Plain 0 (attributes false 0 0) (parameter 0 1 (attributes false 0 0) ∷ []) false ([]) 0 1 ∷ [])
      (a_block 0 0 1 ∷ [])
      (
      segment 0 (
      instr (Some (value 1)) 2 (op.Cast cast.PtrToInt false (typed (operand.Value (value 0)) 1))
      ∷ instr (Some (value 2)) 3 (op.Cast cast.PtrToInt false (typed (operand.Value (value 0)) 1))
      ∷ instr (Some (value 3)) 2 (op.Cast cast.PtrToInt false (typed (operand.Undef) 1))
      ∷ instr (Some (value 4)) 4 (op.Cast cast.PtrToInt false (typed (operand.Poison) 1))
      ∷ instr (Some (value 5)) 2 (op.Cast cast.PtrToInt false (typed (operand.Null) 1))
      ∷ instr None 0 (op.Ret None)
      ∷ [])
      ∷ [])
      (
      value_of 0 1 (def.Param 0)
      ∷ value_of 0 2 (def.Instr (spot 0 0))
      ∷ value_of 0 3 (def.Instr (spot 0 1))
      ∷ value_of 0 2 (def.Instr (spot 0 2))
      ∷ value_of 0 4 (def.Instr (spot 0 3))
      ∷ value_of 0 2 (def.Instr (spot 0 4))
      ∷ [])
      ([]);
  opening = opened 0 (shape_of 0 65536 (OfSymbol (symbol.Func (function 0))) ∷ []);
  choices = (
      choice ([]) (Some (act.Enter (function 0) ((with_marks (datum.Ptr 0 0) ([])) ∷ [])))
      ∷ choice ([]) None
      ∷ choice (258 ∷ []) None
      ∷ choice (18446744073709551615 ∷ []) None
      ∷ choice (3 ∷ []) None
      ∷ choice (7 ∷ []) None
      ∷ []);
  steps = (
      expected 0 (by_call 0 (Enter 0) ∷ [])
      ∷ expected 0 (by_call 1 (Capture (mark 1 0 ∷ [])) ∷ [])
      ∷ expected 0 (by_call 1 (Capture (mark 1 0 ∷ [])) ∷ [])
      ∷ expected 0 ([])
      ∷ expected 0 ([])
      ∷ expected 0 ([])
      ∷ []);
  final = record {
    blocks = (block_is 0 (shape_of 0 65536 (OfSymbol (symbol.Func (function 0)))) Live ∷ []);
    bytes = ([]);
    kept = ([]);
    frames = (
        body 1 0 0 5 (
        value_is 0 (with_marks (datum.Ptr 0 0) (mark 1 0 ∷ []))
        ∷ value_is 1 (with_marks (datum.Int 0) ([]))
        ∷ value_is 2 (with_marks (datum.Int 2) ([]))
        ∷ value_is 3 (with_marks (datum.Int 18446744073709551615) ([]))
        ∷ value_is 4 (with_marks (datum.Int 1) ([]))
        ∷ value_is 5 (with_marks (datum.Int 7) ([]))
        ∷ [])
        ∷ outside 0 ([])
        ∷ []);
  };
}

-- define void @f(i1 %c, ptr %p, ptr %q) {
--   %a = select i1 %c, ptr %p, ptr %q
--   %b = select i1 false, ptr %p, ptr %q
--   %d = select i1 poison, ptr null, ptr null
--   %e = select i1 undef, ptr %p, ptr %q
--   %g = select i1 undef, ptr %p, ptr %q
--   %h = select i1 true, i8 poison, i8 1
--   ret void
-- }
abbrev pub select : Sample
select = record {
  program = a_module
      ((type.Void) ∷ (type.Ptr) ∷ (type.Int 1) ∷ (type.Int 8) ∷ [])
      ([])
      (
      a_function [] linkage.Plain 0 (attributes false 0 0) (parameter 0 2 (attributes false 0 0) ∷ parameter 1 1 (attributes false 0 0) ∷ parameter 2 1
      (attributes false 0 0) ∷ []) false ([]) 0 1
      ∷ [])
      (a_block 0 0 1 ∷ [])
      (
      segment 0 (
      instr (Some (value 3)) 1 (op.Select (typed (operand.Value (value 0)) 2) (typed (operand.Value (value 1)) 1) (typed (operand.Value (value 2)) 1))
      ∷ instr (Some (value 4)) 1 (op.Select (typed (operand.Truth false) 2) (typed (operand.Value (value 1)) 1) (typed (operand.Value (value 2)) 1))
      ∷ instr (Some (value 5)) 1 (op.Select (typed (operand.Poison) 2) (typed (operand.Null) 1) (typed (operand.Null) 1))
      ∷ instr (Some (value 6)) 1 (op.Select (typed (operand.Undef) 2) (typed (operand.Value (value 1)) 1) (typed (operand.Value (value 2)) 1))
      ∷ instr (Some (value 7)) 1 (op.Select (typed (operand.Undef) 2) (typed (operand.Value (value 1)) 1) (typed (operand.Value (value 2)) 1))
      ∷ instr (Some (value 8)) 3 (op.Select (typed (operand.Truth true) 2) (typed (operand.Poison) 3) (typed (operand.Int 1 true) 3))
      ∷ instr None 0 (op.Ret None)
      ∷ [])
      ∷ [])
      (
      value_of 0 2 (def.Param 0)
      ∷ value_of 0 1 (def.Param 1)
      ∷ value_of 0 1 (def.Param 2)
      ∷ value_of 0 1 (def.Instr (spot 0 0))
      ∷ value_of 0 1 (def.Instr (spot 0 1))
      ∷ value_of 0 1 (def.Instr (spot 0 2))
      ∷ value_of 0 1 (def.Instr (spot 0 3))
      ∷ value_of 0 1 (def.Instr (spot 0 4))
      ∷ value_of 0 3 (def.Instr (spot 0 5))
      ∷ [])
      ([]);
  opening = opened 0 (shape_of 0 65536 (OfSymbol (symbol.Func (function 0))) ∷ []);
  choices = (
      choice ([]) (Some (act.Enter (function 0) ((with_marks (datum.Int 1) ([])) ∷ (with_marks (datum.Ptr 0 0) ([])) ∷ (with_marks (datum.Ptr 0 8) ([])) ∷ [])))
      ∷ choice ([]) None
      ∷ choice ([]) None
      ∷ choice ([]) None
      ∷ choice ([]) None
      ∷ choice (3 ∷ []) None
      ∷ choice ([]) None
      ∷ []);
  steps = (expected 0 (by_call 0 (Enter 0) ∷ []) ∷ expected 0 ([]) ∷ expected 0 ([]) ∷ expected 0 ([]) ∷ expected 0 ([]) ∷ expected 0 ([]) ∷ expected 0
      ([]) ∷ []);
  final = record {
    blocks = (block_is 0 (shape_of 0 65536 (OfSymbol (symbol.Func (function 0)))) Live ∷ []);
    bytes = ([]);
    kept = ([]);
    frames = (
        body 1 0 0 6 (
        value_is 0 (with_marks (datum.Int 1) ([]))
        ∷ value_is 1 (with_marks (datum.Ptr 0 0) (mark 1 1 ∷ []))
        ∷ value_is 2 (with_marks (datum.Ptr 0 8) (mark 1 2 ∷ []))
        ∷ value_is 3 (with_marks (datum.Ptr 0 0) (mark 1 1 ∷ []))
        ∷ value_is 4 (with_marks (datum.Ptr 0 8) (mark 1 2 ∷ []))
        ∷ value_is 5 (with_marks (datum.Poison) ([]))
        ∷ value_is 6 (with_marks (datum.Ptr 0 0) (mark 1 1 ∷ []))
        ∷ value_is 7 (with_marks (datum.Ptr 0 8) (mark 1 2 ∷ []))
        ∷ value_is 8 (with_marks (datum.Poison) ([]))
        ∷ [])
        ∷ outside 0 ([])
        ∷ []);
  };
}

-- define void @f(i1 %c) {
--   %a = select i1 %c, i8 1, i8 2
--   ret void
-- }
abbrev pub select_on_a_poison_condition_is_poison : Sample
select_on_a_poison_condition_is_poison = record {
  program = a_module
      ((type.Void) ∷ (type.Ptr) ∷ (type.Int 1) ∷ (type.Int 8) ∷ [])
      ([])
      (a_function [] linkage.Plain 0 (attributes false 0 0) (parameter 0 2 (attributes false 0 0) ∷ []) false ([]) 0 1 ∷ [])
      (a_block 0 0 1 ∷ [])
      (
      segment 0 (
      instr (Some (value 1)) 3 (op.Select (typed (operand.Value (value 0)) 2) (typed (operand.Int 1 true) 3) (typed (operand.Int 2 true) 3))
      ∷ instr None 0 (op.Ret None)
      ∷ [])
      ∷ [])
      (value_of 0 2 (def.Param 0) ∷ value_of 0 3 (def.Instr (spot 0 0)) ∷ [])
      ([]);
  opening = opened 0 (shape_of 0 65536 (OfSymbol (symbol.Func (function 0))) ∷ []);
  choices = (choice ([]) (Some (act.Enter (function 0) ((with_marks (datum.Poison) ([])) ∷ []))) ∷ choice ([]) None ∷ []);
  steps = (expected 0 (by_call 0 (Enter 0) ∷ []) ∷ expected 0 ([]) ∷ []);
  final = record {
    blocks = (block_is 0 (shape_of 0 65536 (OfSymbol (symbol.Func (function 0)))) Live ∷ []);
    bytes = ([]);
    kept = ([]);
    frames = (body 1 0 0 1 (value_is 0 (with_marks (datum.Poison) ([])) ∷ value_is 1 (with_marks (datum.Poison) ([])) ∷ []) ∷ outside 0 ([]) ∷ []);
  };
}

-- define void @f(i8 %n, i8 %u, i8 %p) {
--   %a = freeze i8 %n
--   %b = freeze i8 %u
--   %c = freeze i8 %p
--   %d = freeze i8 %u
--   %e = freeze i1 undef
--   ret void
-- }
abbrev pub freeze_of_integers : Sample
freeze_of_integers = record {
  program = a_module
      ((type.Void) ∷ (type.Ptr) ∷ (type.Int 8) ∷ (type.Int 1) ∷ [])
      ([])
      (
      a_function [] linkage.Plain 0 (attributes false 0 0) (parameter 0 2 (attributes false 0 0) ∷ parameter 1 2 (attributes false 0 0) ∷ parameter 2 2
      (attributes false 0 0) ∷ []) false ([]) 0 1
      ∷ [])
      (a_block 0 0 1 ∷ [])
      (
      segment 0 (
      instr (Some (value 3)) 2 (op.Freeze (typed (operand.Value (value 0)) 2))
      ∷ instr (Some (value 4)) 2 (op.Freeze (typed (operand.Value (value 1)) 2))
      ∷ instr (Some (value 5)) 2 (op.Freeze (typed (operand.Value (value 2)) 2))
      ∷ instr (Some (value 6)) 2 (op.Freeze (typed (operand.Value (value 1)) 2))
      ∷ instr (Some (value 7)) 3 (op.Freeze (typed (operand.Undef) 3))
      ∷ instr None 0 (op.Ret None)
      ∷ [])
      ∷ [])
      (
      value_of 0 2 (def.Param 0)
      ∷ value_of 0 2 (def.Param 1)
      ∷ value_of 0 2 (def.Param 2)
      ∷ value_of 0 2 (def.Instr (spot 0 0))
      ∷ value_of 0 2 (def.Instr (spot 0 1))
      ∷ value_of 0 2 (def.Instr (spot 0 2))
      ∷ value_of 0 2 (def.Instr (spot 0 3))
      ∷ value_of 0 3 (def.Instr (spot 0 4))
      ∷ [])
      ([]);
  opening = opened 0 (shape_of 0 65536 (OfSymbol (symbol.Func (function 0))) ∷ []);
  choices = (
      choice ([]) (Some (act.Enter (function 0) ((with_marks (datum.Int 9) ([])) ∷ (with_marks (datum.Undef) ([])) ∷ (with_marks (datum.Poison) ([])) ∷ [])))
      ∷ choice ([]) None
      ∷ choice ([]) None
      ∷ choice (255 ∷ []) None
      ∷ choice (258 ∷ []) None
      ∷ choice (5 ∷ []) None
      ∷ []);
  steps = (expected 0 (by_call 0 (Enter 0) ∷ []) ∷ expected 0 ([]) ∷ expected 0 ([]) ∷ expected 0 ([]) ∷ expected 0 ([]) ∷ expected 0 ([]) ∷ []);
  final = record {
    blocks = (block_is 0 (shape_of 0 65536 (OfSymbol (symbol.Func (function 0)))) Live ∷ []);
    bytes = ([]);
    kept = ([]);
    frames = (
        body 1 0 0 5 (
        value_is 0 (with_marks (datum.Int 9) ([]))
        ∷ value_is 1 (with_marks (datum.Undef) ([]))
        ∷ value_is 2 (with_marks (datum.Poison) ([]))
        ∷ value_is 3 (with_marks (datum.Int 9) ([]))
        ∷ value_is 4 (with_marks (datum.Int 0) ([]))
        ∷ value_is 5 (with_marks (datum.Int 255) ([]))
        ∷ value_is 6 (with_marks (datum.Int 2) ([]))
        ∷ value_is 7 (with_marks (datum.Int 1) ([]))
        ∷ [])
        ∷ outside 0 ([])
        ∷ []);
  };
}

-- @a = global i8 0
-- define void @f(ptr %p, ptr %u, ptr %q) {
--   %a = freeze ptr %p
--   %b = freeze ptr %u
--   %c = freeze ptr %q
--   %d = freeze ptr %u
--   %e = freeze ptr null
--   %g = freeze ptr %q
--   ret void
-- }
abbrev pub freeze_of_pointers : Sample
freeze_of_pointers = record {
  program = a_module
      ((type.Void) ∷ (type.Ptr) ∷ (type.Int 8) ∷ [])
      (a_global linkage.Plain 2 (Some (typed (operand.Int 0 true) 2)) (None) ∷ [])
      (
      a_function [] linkage.Plain 0 (attributes false 0 0) (parameter 0 1 (attributes false 0 0) ∷ parameter 1 1 (attributes false 0 0) ∷ parameter 2 1
      (attributes false 0 0) ∷ []) false ([]) 0 1
      ∷ [])
      (a_block 0 0 1 ∷ [])
      (
      segment 0 (
      instr (Some (value 3)) 1 (op.Freeze (typed (operand.Value (value 0)) 1))
      ∷ instr (Some (value 4)) 1 (op.Freeze (typed (operand.Value (value 1)) 1))
      ∷ instr (Some (value 5)) 1 (op.Freeze (typed (operand.Value (value 2)) 1))
      ∷ instr (Some (value 6)) 1 (op.Freeze (typed (operand.Value (value 1)) 1))
      ∷ instr (Some (value 7)) 1 (op.Freeze (typed (operand.Null) 1))
      ∷ instr (Some (value 8)) 1 (op.Freeze (typed (operand.Value (value 2)) 1))
      ∷ instr None 0 (op.Ret None)
      ∷ [])
      ∷ [])
      (
      value_of 0 1 (def.Param 0)
      ∷ value_of 0 1 (def.Param 1)
      ∷ value_of 0 1 (def.Param 2)
      ∷ value_of 0 1 (def.Instr (spot 0 0))
      ∷ value_of 0 1 (def.Instr (spot 0 1))
      ∷ value_of 0 1 (def.Instr (spot 0 2))
      ∷ value_of 0 1 (def.Instr (spot 0 3))
      ∷ value_of 0 1 (def.Instr (spot 0 4))
      ∷ value_of 0 1 (def.Instr (spot 0 5))
      ∷ [])
      ([]);
  opening = opened 1 (shape_of 1 65536 (OfSymbol (symbol.Global (global 0))) ∷ shape_of 0 65552 (OfSymbol (symbol.Func (function 0))) ∷ []);
  choices = (
      choice ([]) (Some (act.Enter (function 0) ((with_marks (datum.Ptr 0 4) ([])) ∷ (with_marks (datum.Undef) ([])) ∷ (with_marks (datum.Poison) ([])) ∷ [])))
      ∷ choice ([]) None
      ∷ choice ([]) None
      ∷ choice (1 ∷ 9 ∷ []) None
      ∷ choice (2 ∷ 18446744073709551615 ∷ []) None
      ∷ choice ([]) None
      ∷ choice (1 ∷ []) None
      ∷ []);
  steps = (expected 0 (by_call 0 (Enter 0) ∷ []) ∷ expected 0 ([]) ∷ expected 0 ([]) ∷ expected 0 ([]) ∷ expected 0 ([]) ∷ expected 0 ([]) ∷ expected 0
      ([]) ∷ []);
  final = record {
    blocks = (block_is 0 (shape_of 1 65536 (OfSymbol (symbol.Global (global 0)))) Live ∷ block_is 1 (shape_of 0 65552 (OfSymbol (symbol.Func
        (function 0)))) Live ∷ []);
    bytes = ([]);
    kept = ([]);
    frames = (
        body 1 0 0 6 (
        value_is 0 (with_marks (datum.Ptr 0 4) (mark 1 0 ∷ []))
        ∷ value_is 1 (with_marks (datum.Undef) (mark 1 1 ∷ []))
        ∷ value_is 2 (with_marks (datum.Poison) (mark 1 2 ∷ []))
        ∷ value_is 3 (with_marks (datum.Ptr 0 4) (mark 1 0 ∷ []))
        ∷ value_is 4 (with_marks (datum.Null) ([]))
        ∷ value_is 5 (with_marks (datum.Ptr 0 9) ([]))
        ∷ value_is 6 (with_marks (datum.Ptr 1 18446744073709551615) ([]))
        ∷ value_is 7 (with_marks (datum.Null) ([]))
        ∷ value_is 8 (with_marks (datum.Ptr 0 0) ([]))
        ∷ [])
        ∷ outside 0 ([])
        ∷ []);
  };
}

-- define void @f(ptr %u) {
--   %a = freeze ptr %u
--   ret void
-- }
abbrev pub freeze_to_no_block_ends : Sample
freeze_to_no_block_ends = record {
  program = a_module
      ((type.Void) ∷ (type.Ptr) ∷ [])
      ([])
      (a_function [] linkage.Plain 0 (attributes false 0 0) (parameter 0 1 (attributes false 0 0) ∷ []) false ([]) 0 1 ∷ [])
      (a_block 0 0 1 ∷ [])
      (segment 0 (instr (Some (value 1)) 1 (op.Freeze (typed (operand.Value (value 0)) 1)) ∷ instr None 0 (op.Ret None) ∷ []) ∷ [])
      (value_of 0 1 (def.Param 0) ∷ value_of 0 1 (def.Instr (spot 0 0)) ∷ [])
      ([]);
  opening = opened 0 (shape_of 0 65536 (OfSymbol (symbol.Func (function 0))) ∷ []);
  choices = (choice ([]) (Some (act.Enter (function 0) ((with_marks (datum.Undef) ([])) ∷ []))) ∷ choice (2 ∷ 0 ∷ []) None ∷ []);
  steps = (expected 0 (by_call 0 (Enter 0) ∷ []) ∷ expected 2 ([]) ∷ []);
  final = record {
    blocks = (block_is 0 (shape_of 0 65536 (OfSymbol (symbol.Func (function 0)))) Live ∷ []);
    bytes = ([]);
    kept = ([]);
    frames = (body 1 0 0 0 (value_is 0 (with_marks (datum.Undef) (mark 1 0 ∷ [])) ∷ []) ∷ outside 0 ([]) ∷ []);
  };
}

-- @g = global [10 x i32] zeroinitializer
-- define void @f(ptr %p, i64 %i, i8 %k) {
--   %a = getelementptr i32, ptr %p, i64 2
--   %b = getelementptr i32, ptr %p, i64 %i
--   %c = getelementptr i16, ptr %p, i8 %k
--   %d = getelementptr [3 x i32], ptr %p, i64 1, i64 2
--   %e = getelementptr { i8, i64, [4 x i16] }, ptr %p, i64 0, i32 2, i64 3
--   %h = getelementptr <{ i8, i64, i8 }>, ptr %p, i64 1, i32 2
--   %i0 = getelementptr i8, ptr %p, i8 255
--   %j = getelementptr { i8, { i8, i32 } }, ptr %p, i32 -1, i1 true, i32 1
--   ret void
-- }
abbrev pub gep_offsets : Sample
gep_offsets = record {
  program = a_module
      (
      (type.Void)
      ∷ (type.Ptr)
      ∷ (type.Int 32)
      ∷ (type.Array 10 (ty 2))
      ∷ (type.Int 64)
      ∷ (type.Int 8)
      ∷ (type.Int 16)
      ∷ (type.Array 3 (ty 2))
      ∷ (type.Array 4 (ty 6))
      ∷ (type.Struct (ty 5 ∷ ty 4 ∷ ty 8 ∷ []) false)
      ∷ (type.Struct (ty 5 ∷ ty 4 ∷ ty 5 ∷ []) true)
      ∷ (type.Struct (ty 5 ∷ ty 2 ∷ []) false)
      ∷ (type.Struct (ty 5 ∷ ty 11 ∷ []) false)
      ∷ (type.Int 1)
      ∷ [])
      (a_global linkage.Plain 3 (Some (typed (operand.Zero) 3)) (None) ∷ [])
      (
      a_function [] linkage.Plain 0 (attributes false 0 0) (parameter 0 1 (attributes false 0 0) ∷ parameter 1 4 (attributes false 0 0) ∷ parameter 2 5
      (attributes false 0 0) ∷ []) false ([]) 0 1
      ∷ [])
      (a_block 0 0 1 ∷ [])
      (
      segment 0 (
      instr (Some (value 3)) 1 (op.Gep (ty 2) (typed (operand.Value (value 0)) 1) ((typed (operand.Int 2 true) 4) ∷ []) false false)
      ∷ instr (Some (value 4)) 1 (op.Gep (ty 2) (typed (operand.Value (value 0)) 1) ((typed (operand.Value (value 1)) 4) ∷ []) false false)
      ∷ instr (Some (value 5)) 1 (op.Gep (ty 6) (typed (operand.Value (value 0)) 1) ((typed (operand.Value (value 2)) 5) ∷ []) false false)
      ∷ instr (Some (value 6)) 1 (op.Gep (ty 7) (typed (operand.Value (value 0)) 1) (
      (typed (operand.Int 1 true) 4)
      ∷ (typed (operand.Int 2 true) 4)
      ∷ []) false false)
      ∷ instr (Some (value 7)) 1 (op.Gep (ty 9) (typed (operand.Value (value 0)) 1) (
      (typed (operand.Int 0 true) 4)
      ∷ (typed (operand.Int 2 true) 2)
      ∷ (typed (operand.Int 3 true) 4)
      ∷ []) false false)
      ∷ instr (Some (value 8)) 1 (op.Gep (ty 10) (typed (operand.Value (value 0)) 1) (
      (typed (operand.Int 1 true) 4)
      ∷ (typed (operand.Int 2 true) 2)
      ∷ []) false false)
      ∷ instr (Some (value 9)) 1 (op.Gep (ty 5) (typed (operand.Value (value 0)) 1) ((typed (operand.Int 255 true) 5) ∷ []) false false)
      ∷ instr (Some (value 10)) 1 (op.Gep (ty 12) (typed (operand.Value (value 0)) 1) (
      (typed (operand.Int 4294967295 true) 2)
      ∷ (typed (operand.Truth true) 13)
      ∷ (typed (operand.Int 1 true) 2)
      ∷ []) false false)
      ∷ instr None 0 (op.Ret None)
      ∷ [])
      ∷ [])
      (
      value_of 0 1 (def.Param 0)
      ∷ value_of 0 4 (def.Param 1)
      ∷ value_of 0 5 (def.Param 2)
      ∷ value_of 0 1 (def.Instr (spot 0 0))
      ∷ value_of 0 1 (def.Instr (spot 0 1))
      ∷ value_of 0 1 (def.Instr (spot 0 2))
      ∷ value_of 0 1 (def.Instr (spot 0 3))
      ∷ value_of 0 1 (def.Instr (spot 0 4))
      ∷ value_of 0 1 (def.Instr (spot 0 5))
      ∷ value_of 0 1 (def.Instr (spot 0 6))
      ∷ value_of 0 1 (def.Instr (spot 0 7))
      ∷ [])
      ([]);
  opening = opened 1 (shape_of 40 65536 (OfSymbol (symbol.Global (global 0))) ∷ shape_of 0 65584 (OfSymbol (symbol.Func (function 0))) ∷ []);
  choices = (
      choice ([]) (Some (act.Enter (function 0) (
      (with_marks (datum.Ptr 0 4) ([]))
      ∷ (with_marks (datum.Int 18446744073709551615) ([]))
      ∷ (with_marks (datum.Int 254) ([]))
      ∷ [])))
      ∷ choice ([]) None
      ∷ choice ([]) None
      ∷ choice ([]) None
      ∷ choice ([]) None
      ∷ choice ([]) None
      ∷ choice ([]) None
      ∷ choice ([]) None
      ∷ choice ([]) None
      ∷ []);
  steps = (
      expected 0 (by_call 0 (Enter 0) ∷ [])
      ∷ expected 0 ([])
      ∷ expected 0 ([])
      ∷ expected 0 ([])
      ∷ expected 0 ([])
      ∷ expected 0 ([])
      ∷ expected 0 ([])
      ∷ expected 0 ([])
      ∷ expected 0 ([])
      ∷ []);
  final = record {
    blocks = (block_is 0 (shape_of 40 65536 (OfSymbol (symbol.Global (global 0)))) Live ∷ block_is 1 (shape_of 0 65584 (OfSymbol (symbol.Func
        (function 0)))) Live ∷ []);
    bytes = ([]);
    kept = ([]);
    frames = (
        body 1 0 0 8 (
        value_is 0 (with_marks (datum.Ptr 0 4) (mark 1 0 ∷ []))
        ∷ value_is 1 (with_marks (datum.Int 18446744073709551615) ([]))
        ∷ value_is 2 (with_marks (datum.Int 254) ([]))
        ∷ value_is 3 (with_marks (datum.Ptr 0 12) (mark 1 0 ∷ []))
        ∷ value_is 4 (with_marks (datum.Ptr 0 0) (mark 1 0 ∷ []))
        ∷ value_is 5 (with_marks (datum.Ptr 0 0) (mark 1 0 ∷ []))
        ∷ value_is 6 (with_marks (datum.Ptr 0 24) (mark 1 0 ∷ []))
        ∷ value_is 7 (with_marks (datum.Ptr 0 26) (mark 1 0 ∷ []))
        ∷ value_is 8 (with_marks (datum.Ptr 0 23) (mark 1 0 ∷ []))
        ∷ value_is 9 (with_marks (datum.Ptr 0 3) (mark 1 0 ∷ []))
        ∷ value_is 10 (with_marks (datum.Ptr 0 0) (mark 1 0 ∷ []))
        ∷ [])
        ∷ outside 0 ([])
        ∷ []);
  };
}

-- define void @f(ptr %n, i64 %z) {
--   %a = getelementptr i32, ptr %n, i64 0
--   %b = getelementptr i32, ptr %n, i64 %z
--   %c = getelementptr i32, ptr %n, i64 1
--   %d = getelementptr inbounds i32, ptr %n, i64 -1
--   %e = getelementptr i8, ptr null, i64 0
--   %h = getelementptr inbounds i8, ptr %n, i64 0
--   ret void
-- }
abbrev pub gep_from_null : Sample
gep_from_null = record {
  program = a_module
      ((type.Void) ∷ (type.Ptr) ∷ (type.Int 64) ∷ (type.Int 32) ∷ (type.Int 8) ∷ [])
      ([])
      (a_function [] linkage.Plain 0 (attributes false 0 0) (parameter 0 1 (attributes false 0 0) ∷ parameter 1 2 (attributes false 0 0) ∷ []) false
      ([]) 0 1 ∷ [])
      (a_block 0 0 1 ∷ [])
      (
      segment 0 (
      instr (Some (value 2)) 1 (op.Gep (ty 3) (typed (operand.Value (value 0)) 1) ((typed (operand.Int 0 true) 2) ∷ []) false false)
      ∷ instr (Some (value 3)) 1 (op.Gep (ty 3) (typed (operand.Value (value 0)) 1) ((typed (operand.Value (value 1)) 2) ∷ []) false false)
      ∷ instr (Some (value 4)) 1 (op.Gep (ty 3) (typed (operand.Value (value 0)) 1) ((typed (operand.Int 1 true) 2) ∷ []) false false)
      ∷ instr (Some (value 5)) 1 (op.Gep (ty 3) (typed (operand.Value (value 0)) 1) ((typed (operand.Int 18446744073709551615 true) 2) ∷ []) true false)
      ∷ instr (Some (value 6)) 1 (op.Gep (ty 4) (typed (operand.Null) 1) ((typed (operand.Int 0 true) 2) ∷ []) false false)
      ∷ instr (Some (value 7)) 1 (op.Gep (ty 4) (typed (operand.Value (value 0)) 1) ((typed (operand.Int 0 true) 2) ∷ []) true false)
      ∷ instr None 0 (op.Ret None)
      ∷ [])
      ∷ [])
      (
      value_of 0 1 (def.Param 0)
      ∷ value_of 0 2 (def.Param 1)
      ∷ value_of 0 1 (def.Instr (spot 0 0))
      ∷ value_of 0 1 (def.Instr (spot 0 1))
      ∷ value_of 0 1 (def.Instr (spot 0 2))
      ∷ value_of 0 1 (def.Instr (spot 0 3))
      ∷ value_of 0 1 (def.Instr (spot 0 4))
      ∷ value_of 0 1 (def.Instr (spot 0 5))
      ∷ [])
      ([]);
  opening = opened 0 (shape_of 0 65536 (OfSymbol (symbol.Func (function 0))) ∷ []);
  choices = (
      choice ([]) (Some (act.Enter (function 0) ((with_marks (datum.Null) ([])) ∷ (with_marks (datum.Int 0) ([])) ∷ [])))
      ∷ choice ([]) None
      ∷ choice ([]) None
      ∷ choice ([]) None
      ∷ choice ([]) None
      ∷ choice ([]) None
      ∷ choice ([]) None
      ∷ []);
  steps = (expected 0 (by_call 0 (Enter 0) ∷ []) ∷ expected 0 ([]) ∷ expected 0 ([]) ∷ expected 0 ([]) ∷ expected 0 ([]) ∷ expected 0 ([]) ∷ expected 0
      ([]) ∷ []);
  final = record {
    blocks = (block_is 0 (shape_of 0 65536 (OfSymbol (symbol.Func (function 0)))) Live ∷ []);
    bytes = ([]);
    kept = ([]);
    frames = (
        body 1 0 0 6 (
        value_is 0 (with_marks (datum.Null) (mark 1 0 ∷ []))
        ∷ value_is 1 (with_marks (datum.Int 0) ([]))
        ∷ value_is 2 (with_marks (datum.Null) (mark 1 0 ∷ []))
        ∷ value_is 3 (with_marks (datum.Null) (mark 1 0 ∷ []))
        ∷ value_is 4 (with_marks (datum.Poison) (mark 1 0 ∷ []))
        ∷ value_is 5 (with_marks (datum.Poison) (mark 1 0 ∷ []))
        ∷ value_is 6 (with_marks (datum.Null) ([]))
        ∷ value_is 7 (with_marks (datum.Null) (mark 1 0 ∷ []))
        ∷ [])
        ∷ outside 0 ([])
        ∷ []);
  };
}

-- @g = global [10 x i32] zeroinitializer
-- define void @f(ptr %g, i8 %u) {
--   %a = getelementptr i32, ptr %g, i8 %u
--   %b = getelementptr i32, ptr %g, i8 %u
--   %c = getelementptr [3 x i32], ptr %g, i8 %u, i8 %u
--   %d = getelementptr i32, ptr %g, i8 undef
--   ret void
-- }
abbrev pub gep_undef_index_goes_by_pick : Sample
gep_undef_index_goes_by_pick = record {
  program = a_module
      ((type.Void) ∷ (type.Ptr) ∷ (type.Int 32) ∷ (type.Array 10 (ty 2)) ∷ (type.Int 8) ∷ (type.Array 3 (ty 2)) ∷ [])
      (a_global linkage.Plain 3 (Some (typed (operand.Zero) 3)) (None) ∷ [])
      (a_function [] linkage.Plain 0 (attributes false 0 0) (parameter 0 1 (attributes false 0 0) ∷ parameter 1 4 (attributes false 0 0) ∷ []) false
      ([]) 0 1 ∷ [])
      (a_block 0 0 1 ∷ [])
      (
      segment 0 (
      instr (Some (value 2)) 1 (op.Gep (ty 2) (typed (operand.Value (value 0)) 1) ((typed (operand.Value (value 1)) 4) ∷ []) false false)
      ∷ instr (Some (value 3)) 1 (op.Gep (ty 2) (typed (operand.Value (value 0)) 1) ((typed (operand.Value (value 1)) 4) ∷ []) false false)
      ∷ instr (Some (value 4)) 1 (op.Gep (ty 5) (typed (operand.Value (value 0)) 1) (
      (typed (operand.Value (value 1)) 4)
      ∷ (typed (operand.Value (value 1)) 4)
      ∷ []) false false)
      ∷ instr (Some (value 5)) 1 (op.Gep (ty 2) (typed (operand.Value (value 0)) 1) ((typed (operand.Undef) 4) ∷ []) false false)
      ∷ instr None 0 (op.Ret None)
      ∷ [])
      ∷ [])
      (
      value_of 0 1 (def.Param 0)
      ∷ value_of 0 4 (def.Param 1)
      ∷ value_of 0 1 (def.Instr (spot 0 0))
      ∷ value_of 0 1 (def.Instr (spot 0 1))
      ∷ value_of 0 1 (def.Instr (spot 0 2))
      ∷ value_of 0 1 (def.Instr (spot 0 3))
      ∷ [])
      ([]);
  opening = opened 1 (shape_of 40 65536 (OfSymbol (symbol.Global (global 0))) ∷ shape_of 0 65584 (OfSymbol (symbol.Func (function 0))) ∷ []);
  choices = (
      choice ([]) (Some (act.Enter (function 0) ((with_marks (datum.Ptr 0 8) ([])) ∷ (with_marks (datum.Undef) ([])) ∷ [])))
      ∷ choice ([]) None
      ∷ choice (511 ∷ []) None
      ∷ choice (2 ∷ 258 ∷ []) None
      ∷ choice (1 ∷ []) None
      ∷ []);
  steps = (expected 0 (by_call 0 (Enter 0) ∷ []) ∷ expected 0 ([]) ∷ expected 0 ([]) ∷ expected 0 ([]) ∷ expected 0 ([]) ∷ []);
  final = record {
    blocks = (block_is 0 (shape_of 40 65536 (OfSymbol (symbol.Global (global 0)))) Live ∷ block_is 1 (shape_of 0 65584 (OfSymbol (symbol.Func
        (function 0)))) Live ∷ []);
    bytes = ([]);
    kept = ([]);
    frames = (
        body 1 0 0 4 (
        value_is 0 (with_marks (datum.Ptr 0 8) (mark 1 0 ∷ []))
        ∷ value_is 1 (with_marks (datum.Undef) ([]))
        ∷ value_is 2 (with_marks (datum.Ptr 0 8) (mark 1 0 ∷ []))
        ∷ value_is 3 (with_marks (datum.Ptr 0 4) (mark 1 0 ∷ []))
        ∷ value_is 4 (with_marks (datum.Ptr 0 40) (mark 1 0 ∷ []))
        ∷ value_is 5 (with_marks (datum.Ptr 0 12) (mark 1 0 ∷ []))
        ∷ [])
        ∷ outside 0 ([])
        ∷ []);
  };
}

-- @g = global [10 x i32] zeroinitializer
-- define void @f(ptr %u, ptr %p, i64 %i, i64 %j, ptr %g) {
--   %a = getelementptr i8, ptr %u, i64 1
--   %b = getelementptr i8, ptr %p, i64 1
--   %c = getelementptr i8, ptr %g, i64 %j
--   %d = getelementptr i8, ptr %u, i64 %j
--   %e = getelementptr i8, ptr %p, i64 %i
--   %h = getelementptr i8, ptr null, i64 %j
--   ret void
-- }
abbrev pub gep_of_undef_and_poison : Sample
gep_of_undef_and_poison = record {
  program = a_module
      ((type.Void) ∷ (type.Ptr) ∷ (type.Int 32) ∷ (type.Array 10 (ty 2)) ∷ (type.Int 64) ∷ (type.Int 8) ∷ [])
      (a_global linkage.Plain 3 (Some (typed (operand.Zero) 3)) (None) ∷ [])
      (
      a_function [] linkage.Plain 0 (attributes false 0 0) (
      parameter 0 1 (attributes false 0 0)
      ∷ parameter 1 1 (attributes false 0 0)
      ∷ parameter 2 4 (attributes false 0 0)
      ∷ parameter 3 4 (attributes false 0 0)
      ∷ parameter 4 1 (attributes false 0 0)
      ∷ []) false ([]) 0 1
      ∷ [])
      (a_block 0 0 1 ∷ [])
      (
      segment 0 (
      instr (Some (value 5)) 1 (op.Gep (ty 5) (typed (operand.Value (value 0)) 1) ((typed (operand.Int 1 true) 4) ∷ []) false false)
      ∷ instr (Some (value 6)) 1 (op.Gep (ty 5) (typed (operand.Value (value 1)) 1) ((typed (operand.Int 1 true) 4) ∷ []) false false)
      ∷ instr (Some (value 7)) 1 (op.Gep (ty 5) (typed (operand.Value (value 4)) 1) ((typed (operand.Value (value 3)) 4) ∷ []) false false)
      ∷ instr (Some (value 8)) 1 (op.Gep (ty 5) (typed (operand.Value (value 0)) 1) ((typed (operand.Value (value 3)) 4) ∷ []) false false)
      ∷ instr (Some (value 9)) 1 (op.Gep (ty 5) (typed (operand.Value (value 1)) 1) ((typed (operand.Value (value 2)) 4) ∷ []) false false)
      ∷ instr (Some (value 10)) 1 (op.Gep (ty 5) (typed (operand.Null) 1) ((typed (operand.Value (value 3)) 4) ∷ []) false false)
      ∷ instr None 0 (op.Ret None)
      ∷ [])
      ∷ [])
      (
      value_of 0 1 (def.Param 0)
      ∷ value_of 0 1 (def.Param 1)
      ∷ value_of 0 4 (def.Param 2)
      ∷ value_of 0 4 (def.Param 3)
      ∷ value_of 0 1 (def.Param 4)
      ∷ value_of 0 1 (def.Instr (spot 0 0))
      ∷ value_of 0 1 (def.Instr (spot 0 1))
      ∷ value_of 0 1 (def.Instr (spot 0 2))
      ∷ value_of 0 1 (def.Instr (spot 0 3))
      ∷ value_of 0 1 (def.Instr (spot 0 4))
      ∷ value_of 0 1 (def.Instr (spot 0 5))
      ∷ [])
      ([]);
  opening = opened 1 (shape_of 40 65536 (OfSymbol (symbol.Global (global 0))) ∷ shape_of 0 65584 (OfSymbol (symbol.Func (function 0))) ∷ []);
  choices = (
      choice ([]) (Some (act.Enter (function 0) (
      (with_marks (datum.Undef) ([]))
      ∷ (with_marks (datum.Poison) ([]))
      ∷ (with_marks (datum.Undef) ([]))
      ∷ (with_marks (datum.Poison) ([]))
      ∷ (with_marks (datum.Ptr 0 0) ([]))
      ∷ [])))
      ∷ choice ([]) None
      ∷ choice ([]) None
      ∷ choice ([]) None
      ∷ choice ([]) None
      ∷ choice ([]) None
      ∷ choice ([]) None
      ∷ []);
  steps = (expected 0 (by_call 0 (Enter 0) ∷ []) ∷ expected 0 ([]) ∷ expected 0 ([]) ∷ expected 0 ([]) ∷ expected 0 ([]) ∷ expected 0 ([]) ∷ expected 0
      ([]) ∷ []);
  final = record {
    blocks = (block_is 0 (shape_of 40 65536 (OfSymbol (symbol.Global (global 0)))) Live ∷ block_is 1 (shape_of 0 65584 (OfSymbol (symbol.Func
        (function 0)))) Live ∷ []);
    bytes = ([]);
    kept = ([]);
    frames = (
        body 1 0 0 6 (
        value_is 0 (with_marks (datum.Undef) (mark 1 0 ∷ []))
        ∷ value_is 1 (with_marks (datum.Poison) (mark 1 1 ∷ []))
        ∷ value_is 2 (with_marks (datum.Undef) ([]))
        ∷ value_is 3 (with_marks (datum.Poison) ([]))
        ∷ value_is 4 (with_marks (datum.Ptr 0 0) (mark 1 4 ∷ []))
        ∷ value_is 5 (with_marks (datum.Undef) (mark 1 0 ∷ []))
        ∷ value_is 6 (with_marks (datum.Poison) (mark 1 1 ∷ []))
        ∷ value_is 7 (with_marks (datum.Poison) (mark 1 4 ∷ []))
        ∷ value_is 8 (with_marks (datum.Poison) (mark 1 0 ∷ []))
        ∷ value_is 9 (with_marks (datum.Poison) (mark 1 1 ∷ []))
        ∷ value_is 10 (with_marks (datum.Poison) ([]))
        ∷ [])
        ∷ outside 0 ([])
        ∷ []);
  };
}
