-- Sample runs: calls. Each has its program as text above it.
use Rattle.std.specs.Prelude.{true, false, [], ◌∷◌, None, Some}
use Rattle.ir_types.specs.declared.ir_type.IrType.TheVariants as type
use Rattle.ir_ops.specs.declared.binary.BinOp.TheVariants as kind
use Rattle.ir_module.specs.declared.op.Operand.TheVariants as operand
use Rattle.ir_module.specs.declared.op.Symbol.TheVariants as symbol
use Rattle.ir_module.specs.declared.op.Op.TheVariants as op
use Rattle.ir_module.specs.declared.module.Linkage.TheVariants as linkage
use Rattle.ir_module.specs.declared.module.Def.TheVariants as def
use Rattle.ir_module.specs.Places.{spot}
use Rattle.ir_machine.specs.declared.choice.Datum.TheVariants as datum
use Rattle.ir_machine.specs.declared.choice.Act.TheVariants as act
use Rattle.ir_machine.specs.Memory.{OfSymbol, OfAlloca, Live, Dead}
use Rattle.ir_machine.specs.Frames.{Enter, Read, Capture, Return}
use Rattle.machine_samples.specs.Build.{ty, value, function, global, block, typed, attributes, a_call, instr, segment, a_block, value_of, parameter, a_function}
use Rattle.machine_samples.specs.Build.{a_global, a_module, shape_of, mark, with_marks, choice, opened, by_call, expected, block_is, value_is, outside, body}
use Rattle.machine_samples.specs.Build.{Sample}

-- @a = global i64 0
-- define i32 @f(ptr %p) {
--   %r = call i32 @g(i32 4, ptr %p)
--   ret i32 %r
-- }
-- define internal i32 @g(i32 %n, ptr %q) {
--   %s = add i32 %n, 1
--   ret i32 %s
-- }
abbrev pub an_inner_call_pushes_a_module_frame : Sample
an_inner_call_pushes_a_module_frame = record {
  program = a_module
      ((type.Void) ∷ (type.Ptr) ∷ (type.Int 64) ∷ (type.Int 32) ∷ [])
      (a_global linkage.Plain 2 (Some (typed (operand.Int 0 true) 2)) (None) ∷ [])
      (
      a_function [] linkage.Plain 3 (attributes false 0 0) (parameter 0 1 (attributes false 0 0) ∷ []) false ([]) 0 1
      ∷ a_function [] linkage.Internal 3 (attributes false 0 0) (parameter 2 3 (attributes false 0 0) ∷ parameter 3 1 (attributes false 0 0) ∷ []) false
      ([]) 1 1
      ∷ [])
      (a_block 0 0 2 ∷ a_block 1 2 1 ∷ [])
      (
      segment 0 (
      instr (Some (value 1)) 3 (op.Call (a_call 3 (
      ty 3
      ∷ ty 1
      ∷ []) false (typed (operand.Func (function 1)) 1) (
      (typed (operand.Int 4 true) 3)
      ∷ (typed (operand.Value (value 0)) 1)
      ∷ []) (attributes false 0 0) (
      (attributes false 0 0)
      ∷ (attributes false 0 0)
      ∷ [])))
      ∷ [])
      ∷ segment 0 (instr None 0 (op.Ret (Some (typed (operand.Value (value 1)) 3))) ∷ [])
      ∷ segment 1 (
      instr (Some (value 4)) 3 (op.Bin kind.Add false (typed (operand.Value (value 2)) 3) (typed (operand.Int 1 true) 3))
      ∷ instr None 0 (op.Ret (Some (typed (operand.Value (value 4)) 3)))
      ∷ [])
      ∷ [])
      (
      value_of 0 1 (def.Param 0)
      ∷ value_of 0 3 (def.Instr (spot 0 0))
      ∷ value_of 1 3 (def.Param 0)
      ∷ value_of 1 1 (def.Param 1)
      ∷ value_of 1 3 (def.Instr (spot 2 0))
      ∷ [])
      ([]);
  opening = opened 1 (
      shape_of 8 65536 (OfSymbol (symbol.Global (global 0)))
      ∷ shape_of 0 65552 (OfSymbol (symbol.Func (function 0)))
      ∷ shape_of 0 65568 (OfSymbol (symbol.Func (function 1)))
      ∷ []);
  choices = (
      choice ([]) (Some (act.Enter (function 0) ((with_marks (datum.Ptr 0 0) ([])) ∷ [])))
      ∷ choice ([]) None
      ∷ choice ([]) None
      ∷ choice ([]) None
      ∷ choice ([]) None
      ∷ []);
  steps = (
      expected 0 (by_call 0 (Enter 0) ∷ [])
      ∷ expected 0 (by_call 1 (Enter 1) ∷ [])
      ∷ expected 0 ([])
      ∷ expected 0 (by_call 2 (Return (Some (with_marks (datum.Int 5) ([])))) ∷ [])
      ∷ expected 0 (by_call 1 (Return (Some (with_marks (datum.Int 5) ([])))) ∷ [])
      ∷ []);
  final = record {
    blocks = (
        block_is 0 (shape_of 8 65536 (OfSymbol (symbol.Global (global 0)))) Live
        ∷ block_is 1 (shape_of 0 65552 (OfSymbol (symbol.Func (function 0)))) Live
        ∷ block_is 2 (shape_of 0 65568 (OfSymbol (symbol.Func (function 1)))) Live
        ∷ []);
    bytes = ([]);
    kept = ([]);
    frames = (outside 0 ((with_marks (datum.Int 5) ([])) ∷ []) ∷ []);
  };
}

-- define void @f(ptr %p) {
--   call void @x(i8 9, ptr null, ptr %p)
--   ret void
-- }
-- declare void @x(i8, ptr, ptr)
abbrev pub an_outer_call_pushes_an_outside_frame : Sample
an_outer_call_pushes_an_outside_frame = record {
  program = a_module
      ((type.Void) ∷ (type.Ptr) ∷ (type.Int 8) ∷ [])
      ([])
      (
      a_function [] linkage.Plain 0 (attributes false 0 0) (parameter 0 1 (attributes false 0 0) ∷ []) false ([]) 0 1
      ∷ a_function [] linkage.Plain 0 (attributes false 0 0) (parameter 1 2 (attributes false 0 0) ∷ parameter 2 1 (attributes false 0 0) ∷ parameter 3 1
      (attributes false 0 0) ∷ []) false ([]) 1 0
      ∷ [])
      (a_block 0 0 2 ∷ [])
      (
      segment 0 (
      instr None 0 (op.Call (a_call 0 (
      ty 2
      ∷ ty 1
      ∷ ty 1
      ∷ []) false (typed (operand.Func (function 1)) 1) (
      (typed (operand.Int 9 true) 2)
      ∷ (typed (operand.Null) 1)
      ∷ (typed (operand.Value (value 0)) 1)
      ∷ []) (attributes false 0 0) (
      (attributes false 0 0)
      ∷ (attributes false 0 0)
      ∷ (attributes false 0 0)
      ∷ [])))
      ∷ [])
      ∷ segment 0 (instr None 0 (op.Ret None) ∷ [])
      ∷ [])
      (value_of 0 1 (def.Param 0) ∷ value_of 1 2 (def.Param 0) ∷ value_of 1 1 (def.Param 1) ∷ value_of 1 1 (def.Param 2) ∷ [])
      ([]);
  opening = opened 0 (shape_of 0 65536 (OfSymbol (symbol.Func (function 0))) ∷ shape_of 0 65552 (OfSymbol (symbol.Func (function 1))) ∷ []);
  choices = (choice ([]) (Some (act.Enter (function 0) ((with_marks (datum.Undef) ([])) ∷ []))) ∷ choice ([]) None ∷ []);
  steps = (expected 0 (by_call 0 (Enter 0) ∷ []) ∷ expected 0 ([]) ∷ []);
  final = record {
    blocks = (block_is 0 (shape_of 0 65536 (OfSymbol (symbol.Func (function 0)))) Live ∷ block_is 1 (shape_of 0 65552 (OfSymbol (symbol.Func
        (function 1)))) Live ∷ []);
    bytes = ([]);
    kept = ([]);
    frames = (
        outside 2 ((with_marks (datum.Int 9) ([])) ∷ (with_marks (datum.Null) (mark 2 1 ∷ [])) ∷ (with_marks (datum.Undef) (mark 1 0 ∷ mark 2 2 ∷ [])) ∷ [])
        ∷ body 1 0 0 0 (value_is 0 (with_marks (datum.Undef) (mark 1 0 ∷ [])) ∷ [])
        ∷ outside 0 ([])
        ∷ []);
  };
}

-- define void @f(ptr %p) {
--   call void %p()
--   ret void
-- }
-- define void @g() {
--   ret void
-- }
abbrev pub an_indirect_call_of_a_body_is_outer : Sample
an_indirect_call_of_a_body_is_outer = record {
  program = a_module
      ((type.Void) ∷ (type.Ptr) ∷ [])
      ([])
      (
      a_function [] linkage.Plain 0 (attributes false 0 0) (parameter 0 1 (attributes false 0 0) ∷ []) false ([]) 0 1
      ∷ a_function [] linkage.Plain 0 (attributes false 0 0) ([]) false ([]) 1 1
      ∷ [])
      (a_block 0 0 2 ∷ a_block 1 2 1 ∷ [])
      (
      segment 0 (instr None 0 (op.Call (a_call 0 ([]) false (typed (operand.Value (value 0)) 1) ([]) (attributes false 0 0) ([]))) ∷ [])
      ∷ segment 0 (instr None 0 (op.Ret None) ∷ [])
      ∷ segment 1 (instr None 0 (op.Ret None) ∷ [])
      ∷ [])
      (value_of 0 1 (def.Param 0) ∷ [])
      ([]);
  opening = opened 0 (shape_of 0 65536 (OfSymbol (symbol.Func (function 0))) ∷ shape_of 0 65552 (OfSymbol (symbol.Func (function 1))) ∷ []);
  choices = (
      choice ([]) (Some (act.Enter (function 0) ((with_marks (datum.Ptr 1 0) ([])) ∷ [])))
      ∷ choice ([]) None
      ∷ choice ([]) (Some (act.Enter (function 1) ([])))
      ∷ choice ([]) None
      ∷ choice ([]) (Some (act.Return None))
      ∷ choice ([]) None
      ∷ []);
  steps = (
      expected 0 (by_call 0 (Enter 0) ∷ [])
      ∷ expected 0 (by_call 1 (Capture (mark 1 0 ∷ [])) ∷ [])
      ∷ expected 0 (by_call 2 (Enter 1) ∷ [])
      ∷ expected 0 (by_call 3 (Return None) ∷ [])
      ∷ expected 0 (by_call 2 (Return None) ∷ [])
      ∷ expected 0 (by_call 1 (Return None) ∷ [])
      ∷ []);
  final = record {
    blocks = (block_is 0 (shape_of 0 65536 (OfSymbol (symbol.Func (function 0)))) Live ∷ block_is 1 (shape_of 0 65552 (OfSymbol (symbol.Func
        (function 1)))) Live ∷ []);
    bytes = ([]);
    kept = ([]);
    frames = (outside 0 ([]) ∷ []);
  };
}

-- @a = global i8 0
-- define void @f() {
--   call void null()
--   call void undef()
--   call void poison()
--   call void @a()
--   ret void
-- }
abbrev pub an_indirect_call_through_no_function_is_outer : Sample
an_indirect_call_through_no_function_is_outer = record {
  program = a_module
      ((type.Void) ∷ (type.Ptr) ∷ (type.Int 8) ∷ [])
      (a_global linkage.Plain 2 (Some (typed (operand.Int 0 true) 2)) (None) ∷ [])
      (a_function [] linkage.Plain 0 (attributes false 0 0) ([]) false ([]) 0 1 ∷ [])
      (a_block 0 0 5 ∷ [])
      (
      segment 0 (instr None 0 (op.Call (a_call 0 ([]) false (typed (operand.Null) 1) ([]) (attributes false 0 0) ([]))) ∷ [])
      ∷ segment 0 (instr None 0 (op.Call (a_call 0 ([]) false (typed (operand.Undef) 1) ([]) (attributes false 0 0) ([]))) ∷ [])
      ∷ segment 0 (instr None 0 (op.Call (a_call 0 ([]) false (typed (operand.Poison) 1) ([]) (attributes false 0 0) ([]))) ∷ [])
      ∷ segment 0 (instr None 0 (op.Call (a_call 0 ([]) false (typed (operand.Global (global 0)) 1) ([]) (attributes false 0 0) ([]))) ∷ [])
      ∷ segment 0 (instr None 0 (op.Ret None) ∷ [])
      ∷ [])
      ([])
      ([]);
  opening = opened 1 (shape_of 1 65536 (OfSymbol (symbol.Global (global 0))) ∷ shape_of 0 65552 (OfSymbol (symbol.Func (function 0))) ∷ []);
  choices = (
      choice ([]) (Some (act.Enter (function 0) ([])))
      ∷ choice ([]) None
      ∷ choice ([]) (Some (act.Return None))
      ∷ choice ([]) None
      ∷ choice ([]) (Some (act.Return None))
      ∷ choice ([]) None
      ∷ choice ([]) (Some (act.Return None))
      ∷ choice ([]) None
      ∷ []);
  steps = (
      expected 0 (by_call 0 (Enter 0) ∷ [])
      ∷ expected 0 ([])
      ∷ expected 0 (by_call 2 (Return None) ∷ [])
      ∷ expected 0 ([])
      ∷ expected 0 (by_call 3 (Return None) ∷ [])
      ∷ expected 0 ([])
      ∷ expected 0 (by_call 4 (Return None) ∷ [])
      ∷ expected 0 ([])
      ∷ []);
  final = record {
    blocks = (block_is 0 (shape_of 1 65536 (OfSymbol (symbol.Global (global 0)))) Live ∷ block_is 1 (shape_of 0 65552 (OfSymbol (symbol.Func
        (function 0)))) Live ∷ []);
    bytes = ([]);
    kept = ([]);
    frames = (outside 5 ([]) ∷ body 1 0 3 0 ([]) ∷ outside 0 ([]) ∷ []);
  };
}

-- @a = global i32 0
-- define void @f(i32 %n, ptr %p, i8 %k, ptr %q) {
--   ret void
-- }
abbrev pub enter_marks_each_pointer_by_its_place : Sample
enter_marks_each_pointer_by_its_place = record {
  program = a_module
      ((type.Void) ∷ (type.Ptr) ∷ (type.Int 32) ∷ (type.Int 8) ∷ [])
      (a_global linkage.Plain 2 (Some (typed (operand.Int 0 true) 2)) (None) ∷ [])
      (
      a_function [] linkage.Plain 0 (attributes false 0 0) (
      parameter 0 2 (attributes false 0 0)
      ∷ parameter 1 1 (attributes false 0 0)
      ∷ parameter 2 3 (attributes false 0 0)
      ∷ parameter 3 1 (attributes false 0 0)
      ∷ []) false ([]) 0 1
      ∷ [])
      (a_block 0 0 1 ∷ [])
      (segment 0 (instr None 0 (op.Ret None) ∷ []) ∷ [])
      (value_of 0 2 (def.Param 0) ∷ value_of 0 1 (def.Param 1) ∷ value_of 0 3 (def.Param 2) ∷ value_of 0 1 (def.Param 3) ∷ [])
      ([]);
  opening = opened 1 (shape_of 4 65536 (OfSymbol (symbol.Global (global 0))) ∷ shape_of 0 65552 (OfSymbol (symbol.Func (function 0))) ∷ []);
  choices = (
      choice ([]) (Some (act.Enter (function 0) (
      (with_marks (datum.Int 1) ([]))
      ∷ (with_marks (datum.Ptr 0 2) ([]))
      ∷ (with_marks (datum.Int 255) ([]))
      ∷ (with_marks (datum.Null) ([]))
      ∷ [])))
      ∷ []);
  steps = (expected 0 (by_call 0 (Enter 0) ∷ []) ∷ []);
  final = record {
    blocks = (block_is 0 (shape_of 4 65536 (OfSymbol (symbol.Global (global 0)))) Live ∷ block_is 1 (shape_of 0 65552 (OfSymbol (symbol.Func
        (function 0)))) Live ∷ []);
    bytes = ([]);
    kept = ([]);
    frames = (
        body 1 0 0 0 (
        value_is 0 (with_marks (datum.Int 1) ([]))
        ∷ value_is 1 (with_marks (datum.Ptr 0 2) (mark 1 1 ∷ []))
        ∷ value_is 2 (with_marks (datum.Int 255) ([]))
        ∷ value_is 3 (with_marks (datum.Null) (mark 1 3 ∷ []))
        ∷ [])
        ∷ outside 0 ([])
        ∷ []);
  };
}

-- define void @f(ptr nonnull %a, ptr nonnull %b, ptr nonnull %c, ptr nonnull %d) {
--   ret void
-- }
abbrev pub entry_nonnull : Sample
entry_nonnull = record {
  program = a_module
      ((type.Void) ∷ (type.Ptr) ∷ [])
      ([])
      (
      a_function [] linkage.Plain 0 (attributes false 0 0) (
      parameter 0 1 (attributes true 0 0)
      ∷ parameter 1 1 (attributes true 0 0)
      ∷ parameter 2 1 (attributes true 0 0)
      ∷ parameter 3 1 (attributes true 0 0)
      ∷ []) false ([]) 0 1
      ∷ [])
      (a_block 0 0 1 ∷ [])
      (segment 0 (instr None 0 (op.Ret None) ∷ []) ∷ [])
      (value_of 0 1 (def.Param 0) ∷ value_of 0 1 (def.Param 1) ∷ value_of 0 1 (def.Param 2) ∷ value_of 0 1 (def.Param 3) ∷ [])
      ([]);
  opening = opened 0 (shape_of 0 65536 (OfSymbol (symbol.Func (function 0))) ∷ []);
  choices = (
      choice ([]) (Some (act.Enter (function 0) (
      (with_marks (datum.Null) ([]))
      ∷ (with_marks (datum.Undef) ([]))
      ∷ (with_marks (datum.Poison) ([]))
      ∷ (with_marks (datum.Ptr 0 0) ([]))
      ∷ [])))
      ∷ []);
  steps = (expected 0 (by_call 0 (Enter 0) ∷ []) ∷ []);
  final = record {
    blocks = (block_is 0 (shape_of 0 65536 (OfSymbol (symbol.Func (function 0)))) Live ∷ []);
    bytes = ([]);
    kept = ([]);
    frames = (
        body 1 0 0 0 (
        value_is 0 (with_marks (datum.Poison) (mark 1 0 ∷ []))
        ∷ value_is 1 (with_marks (datum.Poison) (mark 1 1 ∷ []))
        ∷ value_is 2 (with_marks (datum.Poison) (mark 1 2 ∷ []))
        ∷ value_is 3 (with_marks (datum.Ptr 0 0) (mark 1 3 ∷ []))
        ∷ [])
        ∷ outside 0 ([])
        ∷ []);
  };
}

-- @g = global i64 0, align 16
-- define void @f(ptr align 16 %a, ptr align 16 %b, ptr align 16 %c, ptr align 16 %d, ptr align 16 %e, ptr align 1 %g) {
--   ret void
-- }
abbrev pub entry_align : Sample
entry_align = record {
  program = a_module
      ((type.Void) ∷ (type.Ptr) ∷ (type.Int 64) ∷ [])
      (a_global linkage.Plain 2 (Some (typed (operand.Int 0 true) 2)) (Some 16) ∷ [])
      (
      a_function [] linkage.Plain 0 (attributes false 0 0) (
      parameter 0 1 (attributes false 16 0)
      ∷ parameter 1 1 (attributes false 16 0)
      ∷ parameter 2 1 (attributes false 16 0)
      ∷ parameter 3 1 (attributes false 16 0)
      ∷ parameter 4 1 (attributes false 16 0)
      ∷ parameter 5 1 (attributes false 1 0)
      ∷ []) false ([]) 0 1
      ∷ [])
      (a_block 0 0 1 ∷ [])
      (segment 0 (instr None 0 (op.Ret None) ∷ []) ∷ [])
      (
      value_of 0 1 (def.Param 0)
      ∷ value_of 0 1 (def.Param 1)
      ∷ value_of 0 1 (def.Param 2)
      ∷ value_of 0 1 (def.Param 3)
      ∷ value_of 0 1 (def.Param 4)
      ∷ value_of 0 1 (def.Param 5)
      ∷ [])
      ([]);
  opening = opened 1 (shape_of 8 65536 (OfSymbol (symbol.Global (global 0))) ∷ shape_of 0 65552 (OfSymbol (symbol.Func (function 0))) ∷ []);
  choices = (
      choice ([]) (Some (act.Enter (function 0) (
      (with_marks (datum.Null) ([]))
      ∷ (with_marks (datum.Undef) ([]))
      ∷ (with_marks (datum.Poison) ([]))
      ∷ (with_marks (datum.Ptr 0 0) ([]))
      ∷ (with_marks (datum.Ptr 0 8) ([]))
      ∷ (with_marks (datum.Undef) ([]))
      ∷ [])))
      ∷ []);
  steps = (expected 0 (by_call 0 (Enter 0) ∷ []) ∷ []);
  final = record {
    blocks = (block_is 0 (shape_of 8 65536 (OfSymbol (symbol.Global (global 0)))) Live ∷ block_is 1 (shape_of 0 65552 (OfSymbol (symbol.Func
        (function 0)))) Live ∷ []);
    bytes = ([]);
    kept = ([]);
    frames = (
        body 1 0 0 0 (
        value_is 0 (with_marks (datum.Null) (mark 1 0 ∷ []))
        ∷ value_is 1 (with_marks (datum.Poison) (mark 1 1 ∷ []))
        ∷ value_is 2 (with_marks (datum.Poison) (mark 1 2 ∷ []))
        ∷ value_is 3 (with_marks (datum.Ptr 0 0) (mark 1 3 ∷ []))
        ∷ value_is 4 (with_marks (datum.Poison) (mark 1 4 ∷ []))
        ∷ value_is 5 (with_marks (datum.Poison) (mark 1 5 ∷ []))
        ∷ [])
        ∷ outside 0 ([])
        ∷ []);
  };
}

-- define void @f(ptr dereferenceable(1) %a) {
--   ret void
-- }
abbrev pub entry_dereferenceable_of_null_is_undefined : Sample
entry_dereferenceable_of_null_is_undefined = record {
  program = a_module
      ((type.Void) ∷ (type.Ptr) ∷ [])
      ([])
      (a_function [] linkage.Plain 0 (attributes false 0 0) (parameter 0 1 (attributes false 0 1) ∷ []) false ([]) 0 1 ∷ [])
      (a_block 0 0 1 ∷ [])
      (segment 0 (instr None 0 (op.Ret None) ∷ []) ∷ [])
      (value_of 0 1 (def.Param 0) ∷ [])
      ([]);
  opening = opened 0 (shape_of 0 65536 (OfSymbol (symbol.Func (function 0))) ∷ []);
  choices = (choice ([]) (Some (act.Enter (function 0) ((with_marks (datum.Null) ([])) ∷ []))) ∷ []);
  steps = (expected 1 ([]) ∷ []);
  final = record {
    blocks = (block_is 0 (shape_of 0 65536 (OfSymbol (symbol.Func (function 0)))) Live ∷ []);
    bytes = ([]);
    kept = ([]);
    frames = (outside 0 ([]) ∷ []);
  };
}

-- @g = global i64 0
-- define void @f() {
--   %r = call ptr @x()
--   ret void
-- }
-- declare nonnull ptr @x()
abbrev pub returned_nonnull_null_becomes_poison : Sample
returned_nonnull_null_becomes_poison = record {
  program = a_module
      ((type.Void) ∷ (type.Ptr) ∷ (type.Int 64) ∷ [])
      (a_global linkage.Plain 2 (Some (typed (operand.Int 0 true) 2)) (None) ∷ [])
      (a_function [] linkage.Plain 0 (attributes false 0 0) ([]) false ([]) 0 1 ∷ a_function [] linkage.Plain 1 (attributes true 0 0) ([]) false ([]) 1 0 ∷ [])
      (a_block 0 0 2 ∷ [])
      (
      segment 0 (instr (Some (value 0)) 1 (op.Call (a_call 1 ([]) false (typed (operand.Func (function 1)) 1) ([]) (attributes false 0 0) ([]))) ∷ [])
      ∷ segment 0 (instr None 0 (op.Ret None) ∷ [])
      ∷ [])
      (value_of 0 1 (def.Instr (spot 0 0)) ∷ [])
      ([]);
  opening = opened 1 (
      shape_of 8 65536 (OfSymbol (symbol.Global (global 0)))
      ∷ shape_of 0 65552 (OfSymbol (symbol.Func (function 0)))
      ∷ shape_of 0 65568 (OfSymbol (symbol.Func (function 1)))
      ∷ []);
  choices = (choice ([]) (Some (act.Enter (function 0) ([]))) ∷ choice ([]) None ∷ choice ([]) (Some (act.Return (Some (with_marks (datum.Null) ([]))))) ∷ []);
  steps = (expected 0 (by_call 0 (Enter 0) ∷ []) ∷ expected 0 ([]) ∷ expected 0 (by_call 2 (Return (Some (with_marks (datum.Null) ([])))) ∷ []) ∷ []);
  final = record {
    blocks = (
        block_is 0 (shape_of 8 65536 (OfSymbol (symbol.Global (global 0)))) Live
        ∷ block_is 1 (shape_of 0 65552 (OfSymbol (symbol.Func (function 0)))) Live
        ∷ block_is 2 (shape_of 0 65568 (OfSymbol (symbol.Func (function 1)))) Live
        ∷ []);
    bytes = ([]);
    kept = ([]);
    frames = (body 1 0 1 0 (value_is 0 (with_marks (datum.Poison) ([])) ∷ []) ∷ outside 0 ([]) ∷ []);
  };
}

-- @g = global i64 0
-- define void @f() {
--   %r = call ptr @x()
--   ret void
-- }
-- declare dereferenceable(1) ptr @x()
abbrev pub returned_dereferenceable_null_is_undefined : Sample
returned_dereferenceable_null_is_undefined = record {
  program = a_module
      ((type.Void) ∷ (type.Ptr) ∷ (type.Int 64) ∷ [])
      (a_global linkage.Plain 2 (Some (typed (operand.Int 0 true) 2)) (None) ∷ [])
      (a_function [] linkage.Plain 0 (attributes false 0 0) ([]) false ([]) 0 1 ∷ a_function [] linkage.Plain 1 (attributes false 0 1) ([]) false ([]) 1 0 ∷ [])
      (a_block 0 0 2 ∷ [])
      (
      segment 0 (instr (Some (value 0)) 1 (op.Call (a_call 1 ([]) false (typed (operand.Func (function 1)) 1) ([]) (attributes false 0 0) ([]))) ∷ [])
      ∷ segment 0 (instr None 0 (op.Ret None) ∷ [])
      ∷ [])
      (value_of 0 1 (def.Instr (spot 0 0)) ∷ [])
      ([]);
  opening = opened 1 (
      shape_of 8 65536 (OfSymbol (symbol.Global (global 0)))
      ∷ shape_of 0 65552 (OfSymbol (symbol.Func (function 0)))
      ∷ shape_of 0 65568 (OfSymbol (symbol.Func (function 1)))
      ∷ []);
  choices = (choice ([]) (Some (act.Enter (function 0) ([]))) ∷ choice ([]) None ∷ choice ([]) (Some (act.Return (Some (with_marks (datum.Null) ([]))))) ∷ []);
  steps = (expected 0 (by_call 0 (Enter 0) ∷ []) ∷ expected 0 ([]) ∷ expected 1 ([]) ∷ []);
  final = record {
    blocks = (
        block_is 0 (shape_of 8 65536 (OfSymbol (symbol.Global (global 0)))) Live
        ∷ block_is 1 (shape_of 0 65552 (OfSymbol (symbol.Func (function 0)))) Live
        ∷ block_is 2 (shape_of 0 65568 (OfSymbol (symbol.Func (function 1)))) Live
        ∷ []);
    bytes = ([]);
    kept = ([]);
    frames = (outside 2 ([]) ∷ body 1 0 0 0 ([]) ∷ outside 0 ([]) ∷ []);
  };
}

-- @a = global i64 0
-- define ptr @f(ptr %p, i32 %n) {
--   %q = call ptr @x(i32 %n, ptr %p)
--   ret ptr %q
-- }
-- declare ptr @x(i32, ptr)
abbrev pub outside_returns_what_it_has_in_hand : Sample
outside_returns_what_it_has_in_hand = record {
  program = a_module
      ((type.Void) ∷ (type.Ptr) ∷ (type.Int 64) ∷ (type.Int 32) ∷ [])
      (a_global linkage.Plain 2 (Some (typed (operand.Int 0 true) 2)) (None) ∷ [])
      (
      a_function [] linkage.Plain 1 (attributes false 0 0) (parameter 0 1 (attributes false 0 0) ∷ parameter 1 3 (attributes false 0 0) ∷ []) false ([]) 0 1
      ∷ a_function [] linkage.Plain 1 (attributes false 0 0) (parameter 3 3 (attributes false 0 0) ∷ parameter 4 1 (attributes false 0 0) ∷ []) false ([]) 1 0
      ∷ [])
      (a_block 0 0 2 ∷ [])
      (
      segment 0 (
      instr (Some (value 2)) 1 (op.Call (a_call 1 (
      ty 3
      ∷ ty 1
      ∷ []) false (typed (operand.Func (function 1)) 1) (
      (typed (operand.Value (value 1)) 3)
      ∷ (typed (operand.Value (value 0)) 1)
      ∷ []) (attributes false 0 0) (
      (attributes false 0 0)
      ∷ (attributes false 0 0)
      ∷ [])))
      ∷ [])
      ∷ segment 0 (instr None 0 (op.Ret (Some (typed (operand.Value (value 2)) 1))) ∷ [])
      ∷ [])
      (value_of 0 1 (def.Param 0) ∷ value_of 0 3 (def.Param 1) ∷ value_of 0 1 (def.Instr (spot 0 0)) ∷ value_of 1 3 (def.Param 0) ∷ value_of 1 1
      (def.Param 1) ∷ [])
      ([]);
  opening = opened 1 (
      shape_of 8 65536 (OfSymbol (symbol.Global (global 0)))
      ∷ shape_of 0 65552 (OfSymbol (symbol.Func (function 0)))
      ∷ shape_of 0 65568 (OfSymbol (symbol.Func (function 1)))
      ∷ []);
  choices = (
      choice ([]) (Some (act.Enter (function 0) ((with_marks (datum.Ptr 0 0) ([])) ∷ (with_marks (datum.Int 3) ([])) ∷ [])))
      ∷ choice ([]) None
      ∷ choice ([]) (Some (act.Return (Some (with_marks (datum.Ptr 0 8) (mark 1 0 ∷ mark 2 1 ∷ [])))))
      ∷ choice ([]) None
      ∷ []);
  steps = (
      expected 0 (by_call 0 (Enter 0) ∷ [])
      ∷ expected 0 ([])
      ∷ expected 0 (by_call 2 (Return (Some (with_marks (datum.Ptr 0 8) (mark 1 0 ∷ mark 2 1 ∷ [])))) ∷ [])
      ∷ expected 0 (by_call 1 (Return (Some (with_marks (datum.Ptr 0 8) (mark 1 0 ∷ mark 2 1 ∷ [])))) ∷ [])
      ∷ []);
  final = record {
    blocks = (
        block_is 0 (shape_of 8 65536 (OfSymbol (symbol.Global (global 0)))) Live
        ∷ block_is 1 (shape_of 0 65552 (OfSymbol (symbol.Func (function 0)))) Live
        ∷ block_is 2 (shape_of 0 65568 (OfSymbol (symbol.Func (function 1)))) Live
        ∷ []);
    bytes = ([]);
    kept = ([]);
    frames = (outside 0 ((with_marks (datum.Ptr 0 8) (mark 1 0 ∷ mark 2 1 ∷ [])) ∷ []) ∷ []);
  };
}

-- @a = global i64 0
-- define ptr @f(ptr %p) {
--   ret ptr %p
-- }
-- define i32 @g() {
--   ret i32 5
-- }
abbrev pub results_of_entered_bodies_are_in_hand : Sample
results_of_entered_bodies_are_in_hand = record {
  program = a_module
      ((type.Void) ∷ (type.Ptr) ∷ (type.Int 64) ∷ (type.Int 32) ∷ [])
      (a_global linkage.Plain 2 (Some (typed (operand.Int 0 true) 2)) (None) ∷ [])
      (
      a_function [] linkage.Plain 1 (attributes false 0 0) (parameter 0 1 (attributes false 0 0) ∷ []) false ([]) 0 1
      ∷ a_function [] linkage.Plain 3 (attributes false 0 0) ([]) false ([]) 1 1
      ∷ [])
      (a_block 0 0 1 ∷ a_block 1 1 1 ∷ [])
      (segment 0 (instr None 0 (op.Ret (Some (typed (operand.Value (value 0)) 1))) ∷ []) ∷ segment 1 (instr None 0 (op.Ret (Some (typed
      (operand.Int 5 true) 3))) ∷ []) ∷ [])
      (value_of 0 1 (def.Param 0) ∷ [])
      ([]);
  opening = opened 1 (
      shape_of 8 65536 (OfSymbol (symbol.Global (global 0)))
      ∷ shape_of 0 65552 (OfSymbol (symbol.Func (function 0)))
      ∷ shape_of 0 65568 (OfSymbol (symbol.Func (function 1)))
      ∷ []);
  choices = (
      choice ([]) (Some (act.Enter (function 0) ((with_marks (datum.Ptr 0 0) ([])) ∷ [])))
      ∷ choice ([]) None
      ∷ choice ([]) (Some (act.Enter (function 1) ([])))
      ∷ choice ([]) None
      ∷ choice ([]) (Some (act.Read (with_marks (datum.Ptr 0 0) (mark 1 0 ∷ [])) 8))
      ∷ []);
  steps = (
      expected 0 (by_call 0 (Enter 0) ∷ [])
      ∷ expected 0 (by_call 1 (Return (Some (with_marks (datum.Ptr 0 0) (mark 1 0 ∷ [])))) ∷ [])
      ∷ expected 0 (by_call 0 (Enter 1) ∷ [])
      ∷ expected 0 (by_call 2 (Return (Some (with_marks (datum.Int 5) ([])))) ∷ [])
      ∷ expected 0 (by_call 0 (Read 0 (mark 1 0 ∷ [])) ∷ [])
      ∷ []);
  final = record {
    blocks = (
        block_is 0 (shape_of 8 65536 (OfSymbol (symbol.Global (global 0)))) Live
        ∷ block_is 1 (shape_of 0 65552 (OfSymbol (symbol.Func (function 0)))) Live
        ∷ block_is 2 (shape_of 0 65568 (OfSymbol (symbol.Func (function 1)))) Live
        ∷ []);
    bytes = ([]);
    kept = ([]);
    frames = (outside 0 ((with_marks (datum.Ptr 0 0) (mark 1 0 ∷ [])) ∷ (with_marks (datum.Int 5) ([])) ∷ []) ∷ []);
  };
}

-- define ptr @f() {
--   %p = alloca i32
--   %q = alloca i8, align 32
--   ret ptr %p
-- }
abbrev pub allocas_die_when_their_frame_returns : Sample
allocas_die_when_their_frame_returns = record {
  program = a_module
      ((type.Void) ∷ (type.Ptr) ∷ (type.Int 32) ∷ (type.Int 8) ∷ [])
      ([])
      (a_function [] linkage.Plain 1 (attributes false 0 0) ([]) false ([]) 0 1 ∷ [])
      (a_block 0 0 1 ∷ [])
      (
      segment 0 (
      instr (Some (value 0)) 1 (op.Alloca (ty 2) None None)
      ∷ instr (Some (value 1)) 1 (op.Alloca (ty 3) None (Some 32))
      ∷ instr None 0 (op.Ret (Some (typed (operand.Value (value 0)) 1)))
      ∷ [])
      ∷ [])
      (value_of 0 1 (def.Instr (spot 0 0)) ∷ value_of 0 1 (def.Instr (spot 0 1)) ∷ [])
      ([]);
  opening = opened 0 (shape_of 0 65536 (OfSymbol (symbol.Func (function 0))) ∷ []);
  choices = (choice ([]) (Some (act.Enter (function 0) ([]))) ∷ choice ([]) None ∷ choice ([]) None ∷ choice ([]) None ∷ []);
  steps = (expected 0 (by_call 0 (Enter 0) ∷ []) ∷ expected 0 ([]) ∷ expected 0 ([]) ∷ expected 0 (by_call 1 (Return (Some (with_marks (datum.Ptr 1 0)
      ([])))) ∷ []) ∷ []);
  final = record {
    blocks = (block_is 0 (shape_of 0 65536 (OfSymbol (symbol.Func (function 0)))) Live ∷ block_is 1 (shape_of 4 65552 (OfAlloca 1 0)) Dead ∷ block_is 2
        (shape_of 1 65568 (OfAlloca 1 0)) Dead ∷ []);
    bytes = ([]);
    kept = ([]);
    frames = (outside 0 ((with_marks (datum.Ptr 1 0) ([])) ∷ []) ∷ []);
  };
}

-- define i32 @f() personality ptr @pers {
--   %r = invoke i32 @x() to label %n unwind label %u
-- n:
--   ret i32 %r
-- u:
--   %l = landingpad { ptr, i32 } cleanup
--   resume { ptr, i32 } %l
-- }
-- declare i32 @x()
-- declare i32 @pers(...)
-- @ti = external global ptr
abbrev pub an_invoke_goes_on_at_the_normal_block : Sample
an_invoke_goes_on_at_the_normal_block = record {
  program = a_module
      ((type.Void) ∷ (type.Ptr) ∷ (type.Int 32) ∷ (type.Struct (ty 1 ∷ ty 2 ∷ []) false) ∷ [])
      (a_global linkage.External 1 (None) (None) ∷ [])
      (
      a_function [] linkage.Plain 2 (attributes false 0 0) ([]) false (typed (operand.Func (function 2)) 1 ∷ []) 0 3
      ∷ a_function [] linkage.Plain 2 (attributes false 0 0) ([]) false ([]) 3 0
      ∷ a_function [] linkage.Plain 2 (attributes false 0 0) ([]) true ([]) 3 0
      ∷ [])
      (a_block 0 0 1 ∷ a_block 0 1 1 ∷ a_block 0 2 1 ∷ [])
      (
      segment 0 (instr (Some (value 0)) 2 (op.Invoke (a_call 2 ([]) false (typed (operand.Func (function 1)) 1) ([]) (attributes false 0 0) ([]))
      (block 1) (block 2)) ∷ [])
      ∷ segment 1 (instr None 0 (op.Ret (Some (typed (operand.Value (value 0)) 2))) ∷ [])
      ∷ segment 2 (instr (Some (value 1)) 3 (op.LandingPad true []) ∷ instr None 0 (op.Resume (typed (operand.Value (value 1)) 3)) ∷ [])
      ∷ [])
      (value_of 0 2 (def.Instr (spot 0 0)) ∷ value_of 0 3 (def.Instr (spot 2 0)) ∷ [])
      ([]);
  opening = opened 1 (
      shape_of 8 65536 (OfSymbol (symbol.Global (global 0)))
      ∷ shape_of 0 65552 (OfSymbol (symbol.Func (function 0)))
      ∷ shape_of 0 65568 (OfSymbol (symbol.Func (function 1)))
      ∷ shape_of 0 65584 (OfSymbol (symbol.Func (function 2)))
      ∷ []);
  choices = (
      choice ([]) (Some (act.Enter (function 0) ([])))
      ∷ choice ([]) None
      ∷ choice ([]) (Some (act.Return (Some (with_marks (datum.Int 6) ([])))))
      ∷ choice ([]) None
      ∷ []);
  steps = (
      expected 0 (by_call 0 (Enter 0) ∷ [])
      ∷ expected 0 ([])
      ∷ expected 0 (by_call 2 (Return (Some (with_marks (datum.Int 6) ([])))) ∷ [])
      ∷ expected 0 (by_call 1 (Return (Some (with_marks (datum.Int 6) ([])))) ∷ [])
      ∷ []);
  final = record {
    blocks = (
        block_is 0 (shape_of 8 65536 (OfSymbol (symbol.Global (global 0)))) Live
        ∷ block_is 1 (shape_of 0 65552 (OfSymbol (symbol.Func (function 0)))) Live
        ∷ block_is 2 (shape_of 0 65568 (OfSymbol (symbol.Func (function 1)))) Live
        ∷ block_is 3 (shape_of 0 65584 (OfSymbol (symbol.Func (function 2)))) Live
        ∷ []);
    bytes = ([]);
    kept = ([]);
    frames = (outside 0 ((with_marks (datum.Int 6) ([])) ∷ []) ∷ []);
  };
}
