-- Sample runs: branches and phis. Each has its program as text above it.
use Rattle.std.specs.Prelude.{true, false, [], ◌∷◌, None, Some}
use Rattle.ir_types.specs.declared.ir_type.IrType.TheVariants as type
use Rattle.ir_module.specs.declared.op.Operand.TheVariants as operand
use Rattle.ir_module.specs.declared.op.Symbol.TheVariants as symbol
use Rattle.ir_module.specs.declared.op.Op.TheVariants as op
use Rattle.ir_module.specs.declared.module.Linkage.TheVariants as linkage
use Rattle.ir_module.specs.declared.module.Def.TheVariants as def
use Rattle.ir_module.specs.Places.{spot}
use Rattle.ir_machine.specs.declared.choice.Datum.TheVariants as datum
use Rattle.ir_machine.specs.declared.choice.Act.TheVariants as act
use Rattle.ir_machine.specs.Memory.{OfSymbol, Live}
use Rattle.ir_machine.specs.Frames.{Enter, Return, Unwind}
use Rattle.machine_samples.specs.Build.{ty, value, function, global, block, typed, arm, attributes, a_call, instr, segment, a_block, value_of, parameter}
use Rattle.machine_samples.specs.Build.{a_function, a_global, a_module, shape_of, mark, with_marks, choice, opened, by_call, expected, block_is, value_is}
use Rattle.machine_samples.specs.Build.{outside, body, Sample}

-- define void @f(i1 %c) {
--   br i1 %c, label %a, label %b
-- a:
--   ret void
-- b:
--   br i1 true, label %a, label %b
-- }
abbrev pub br_takes_the_arm_of_its_condition : Sample
br_takes_the_arm_of_its_condition = record {
  program = a_module
      ((type.Void) ∷ (type.Ptr) ∷ (type.Int 1) ∷ [])
      ([])
      (a_function [] linkage.Plain 0 (attributes false 0 0) (parameter 0 2 (attributes false 0 0) ∷ []) false ([]) 0 3 ∷ [])
      (a_block 0 0 1 ∷ a_block 0 1 1 ∷ a_block 0 2 1 ∷ [])
      (
      segment 0 (instr None 0 (op.Branch (typed (operand.Value (value 0)) 2) (block 1) (block 2)) ∷ [])
      ∷ segment 1 (instr None 0 (op.Ret None) ∷ [])
      ∷ segment 2 (instr None 0 (op.Branch (typed (operand.Truth true) 2) (block 1) (block 2)) ∷ [])
      ∷ [])
      (value_of 0 2 (def.Param 0) ∷ [])
      ([]);
  opening = opened 0 (shape_of 0 65536 (OfSymbol (symbol.Func (function 0))) ∷ []);
  choices = (
      choice ([]) (Some (act.Enter (function 0) ((with_marks (datum.Int 0) ([])) ∷ [])))
      ∷ choice ([]) None
      ∷ choice ([]) None
      ∷ choice ([]) None
      ∷ choice ([]) (Some (act.Enter (function 0) ((with_marks (datum.Int 1) ([])) ∷ [])))
      ∷ choice ([]) None
      ∷ []);
  steps = (
      expected 0 (by_call 0 (Enter 0) ∷ [])
      ∷ expected 0 ([])
      ∷ expected 0 ([])
      ∷ expected 0 (by_call 1 (Return None) ∷ [])
      ∷ expected 0 (by_call 0 (Enter 0) ∷ [])
      ∷ expected 0 ([])
      ∷ []);
  final = record {
    blocks = (block_is 0 (shape_of 0 65536 (OfSymbol (symbol.Func (function 0)))) Live ∷ []);
    bytes = ([]);
    kept = ([]);
    frames = (body 2 0 1 0 (value_is 0 (with_marks (datum.Int 1) ([])) ∷ []) ∷ outside 0 ([]) ∷ []);
  };
}

-- define void @f(i1 %c) {
--   br i1 %c, label %a, label %a
-- a:
--   ret void
-- }
abbrev pub br_on_undef_is_undefined : Sample
br_on_undef_is_undefined = record {
  program = a_module
      ((type.Void) ∷ (type.Ptr) ∷ (type.Int 1) ∷ [])
      ([])
      (a_function [] linkage.Plain 0 (attributes false 0 0) (parameter 0 2 (attributes false 0 0) ∷ []) false ([]) 0 2 ∷ [])
      (a_block 0 0 1 ∷ a_block 0 1 1 ∷ [])
      (segment 0 (instr None 0 (op.Branch (typed (operand.Value (value 0)) 2) (block 1) (block 1)) ∷ []) ∷ segment 1 (instr None 0 (op.Ret None) ∷ []) ∷ [])
      (value_of 0 2 (def.Param 0) ∷ [])
      ([]);
  opening = opened 0 (shape_of 0 65536 (OfSymbol (symbol.Func (function 0))) ∷ []);
  choices = (choice ([]) (Some (act.Enter (function 0) ((with_marks (datum.Undef) ([])) ∷ []))) ∷ choice ([]) None ∷ []);
  steps = (expected 0 (by_call 0 (Enter 0) ∷ []) ∷ expected 1 ([]) ∷ []);
  final = record {
    blocks = (block_is 0 (shape_of 0 65536 (OfSymbol (symbol.Func (function 0)))) Live ∷ []);
    bytes = ([]);
    kept = ([]);
    frames = (body 1 0 0 0 (value_is 0 (with_marks (datum.Undef) ([])) ∷ []) ∷ outside 0 ([]) ∷ []);
  };
}

-- define void @f(i8 %c) {
--   switch i8 %c, label %a [ ]
-- a:
--   ret void
-- }
abbrev pub switch_on_poison_is_undefined : Sample
switch_on_poison_is_undefined = record {
  program = a_module
      ((type.Void) ∷ (type.Ptr) ∷ (type.Int 8) ∷ [])
      ([])
      (a_function [] linkage.Plain 0 (attributes false 0 0) (parameter 0 2 (attributes false 0 0) ∷ []) false ([]) 0 2 ∷ [])
      (a_block 0 0 1 ∷ a_block 0 1 1 ∷ [])
      (segment 0 (instr None 0 (op.Switch (typed (operand.Value (value 0)) 2) (block 1) ([])) ∷ []) ∷ segment 1 (instr None 0 (op.Ret None) ∷ []) ∷ [])
      (value_of 0 2 (def.Param 0) ∷ [])
      ([]);
  opening = opened 0 (shape_of 0 65536 (OfSymbol (symbol.Func (function 0))) ∷ []);
  choices = (choice ([]) (Some (act.Enter (function 0) ((with_marks (datum.Poison) ([])) ∷ []))) ∷ choice ([]) None ∷ []);
  steps = (expected 0 (by_call 0 (Enter 0) ∷ []) ∷ expected 1 ([]) ∷ []);
  final = record {
    blocks = (block_is 0 (shape_of 0 65536 (OfSymbol (symbol.Func (function 0)))) Live ∷ []);
    bytes = ([]);
    kept = ([]);
    frames = (body 1 0 0 0 (value_is 0 (with_marks (datum.Poison) ([])) ∷ []) ∷ outside 0 ([]) ∷ []);
  };
}

-- define void @f() {
--   unreachable
-- }
abbrev pub unreachable_is_undefined : Sample
unreachable_is_undefined = record {
  program = a_module
      ((type.Void) ∷ (type.Ptr) ∷ [])
      ([])
      (a_function [] linkage.Plain 0 (attributes false 0 0) ([]) false ([]) 0 1 ∷ [])
      (a_block 0 0 1 ∷ [])
      (segment 0 (instr None 0 (op.Unreachable) ∷ []) ∷ [])
      ([])
      ([]);
  opening = opened 0 (shape_of 0 65536 (OfSymbol (symbol.Func (function 0))) ∷ []);
  choices = (choice ([]) (Some (act.Enter (function 0) ([]))) ∷ choice ([]) None ∷ []);
  steps = (expected 0 (by_call 0 (Enter 0) ∷ []) ∷ expected 1 ([]) ∷ []);
  final = record {
    blocks = (block_is 0 (shape_of 0 65536 (OfSymbol (symbol.Func (function 0)))) Live ∷ []);
    bytes = ([]);
    kept = ([]);
    frames = (body 1 0 0 0 ([]) ∷ outside 0 ([]) ∷ []);
  };
}

-- define void @f(i8 %x, i8 %y) {
--   br label %l
-- l:
--   %a = phi i8 [ %x, %0 ], [ %b, %l ]
--   %b = phi i8 [ %y, %0 ], [ %a, %l ]
--   br label %l
-- }
abbrev pub phis_read_the_old_values : Sample
phis_read_the_old_values = record {
  program = a_module
      ((type.Void) ∷ (type.Ptr) ∷ (type.Int 8) ∷ [])
      ([])
      (a_function [] linkage.Plain 0 (attributes false 0 0) (parameter 0 2 (attributes false 0 0) ∷ parameter 1 2 (attributes false 0 0) ∷ []) false
      ([]) 0 2 ∷ [])
      (a_block 0 0 1 ∷ a_block 0 1 1 ∷ [])
      (
      segment 0 (instr None 0 (op.Jump (block 1)) ∷ [])
      ∷ segment 1 (
      instr (Some (value 2)) 2 (op.Phi (arm (typed (operand.Value (value 0)) 2) (block 0) ∷ arm (typed (operand.Value (value 3)) 2) (block 1) ∷ []))
      ∷ instr (Some (value 3)) 2 (op.Phi (arm (typed (operand.Value (value 1)) 2) (block 0) ∷ arm (typed (operand.Value (value 2)) 2) (block 1) ∷ []))
      ∷ instr None 0 (op.Jump (block 1))
      ∷ [])
      ∷ [])
      (value_of 0 2 (def.Param 0) ∷ value_of 0 2 (def.Param 1) ∷ value_of 0 2 (def.Instr (spot 1 0)) ∷ value_of 0 2 (def.Instr (spot 1 1)) ∷ [])
      ([]);
  opening = opened 0 (shape_of 0 65536 (OfSymbol (symbol.Func (function 0))) ∷ []);
  choices = (
      choice ([]) (Some (act.Enter (function 0) ((with_marks (datum.Int 1) ([])) ∷ (with_marks (datum.Int 2) ([])) ∷ [])))
      ∷ choice ([]) None
      ∷ choice ([]) None
      ∷ choice ([]) None
      ∷ []);
  steps = (expected 0 (by_call 0 (Enter 0) ∷ []) ∷ expected 0 ([]) ∷ expected 0 ([]) ∷ expected 0 ([]) ∷ []);
  final = record {
    blocks = (block_is 0 (shape_of 0 65536 (OfSymbol (symbol.Func (function 0)))) Live ∷ []);
    bytes = ([]);
    kept = ([]);
    frames = (
        body 1 0 1 2 (
        value_is 0 (with_marks (datum.Int 1) ([]))
        ∷ value_is 1 (with_marks (datum.Int 2) ([]))
        ∷ value_is 2 (with_marks (datum.Int 1) ([]))
        ∷ value_is 3 (with_marks (datum.Int 2) ([]))
        ∷ [])
        ∷ outside 0 ([])
        ∷ []);
  };
}

-- define void @f(ptr %p, i1 %c) {
--   br i1 %c, label %l, label %k
-- k:
--   br label %l
-- l:
--   %a = phi ptr [ %p, %0 ], [ null, %k ]
--   %b = phi i8 [ undef, %0 ], [ poison, %k ]
--   ret void
-- }
abbrev pub phis_carry_origins_and_take_the_arm_of_the_edge : Sample
phis_carry_origins_and_take_the_arm_of_the_edge = record {
  program = a_module
      ((type.Void) ∷ (type.Ptr) ∷ (type.Int 1) ∷ (type.Int 8) ∷ [])
      ([])
      (a_function [] linkage.Plain 0 (attributes false 0 0) (parameter 0 1 (attributes false 0 0) ∷ parameter 1 2 (attributes false 0 0) ∷ []) false
      ([]) 0 3 ∷ [])
      (a_block 0 0 1 ∷ a_block 0 1 1 ∷ a_block 0 2 1 ∷ [])
      (
      segment 0 (instr None 0 (op.Branch (typed (operand.Value (value 1)) 2) (block 2) (block 1)) ∷ [])
      ∷ segment 1 (instr None 0 (op.Jump (block 2)) ∷ [])
      ∷ segment 2 (
      instr (Some (value 2)) 1 (op.Phi (arm (typed (operand.Value (value 0)) 1) (block 0) ∷ arm (typed (operand.Null) 1) (block 1) ∷ []))
      ∷ instr (Some (value 3)) 3 (op.Phi (arm (typed (operand.Undef) 3) (block 0) ∷ arm (typed (operand.Poison) 3) (block 1) ∷ []))
      ∷ instr None 0 (op.Ret None)
      ∷ [])
      ∷ [])
      (value_of 0 1 (def.Param 0) ∷ value_of 0 2 (def.Param 1) ∷ value_of 0 1 (def.Instr (spot 2 0)) ∷ value_of 0 3 (def.Instr (spot 2 1)) ∷ [])
      ([]);
  opening = opened 0 (shape_of 0 65536 (OfSymbol (symbol.Func (function 0))) ∷ []);
  choices = (
      choice ([]) (Some (act.Enter (function 0) ((with_marks (datum.Ptr 0 0) ([])) ∷ (with_marks (datum.Int 1) ([])) ∷ [])))
      ∷ choice ([]) None
      ∷ choice ([]) (Some (act.Read (with_marks (datum.Ptr 0 0) ([])) 1))
      ∷ []);
  steps = (expected 0 (by_call 0 (Enter 0) ∷ []) ∷ expected 0 ([]) ∷ expected 2 ([]) ∷ []);
  final = record {
    blocks = (block_is 0 (shape_of 0 65536 (OfSymbol (symbol.Func (function 0)))) Live ∷ []);
    bytes = ([]);
    kept = ([]);
    frames = (
        body 1 0 2 2 (
        value_is 0 (with_marks (datum.Ptr 0 0) (mark 1 0 ∷ []))
        ∷ value_is 1 (with_marks (datum.Int 1) ([]))
        ∷ value_is 2 (with_marks (datum.Ptr 0 0) (mark 1 0 ∷ []))
        ∷ value_is 3 (with_marks (datum.Undef) ([]))
        ∷ [])
        ∷ outside 0 ([])
        ∷ []);
  };
}

-- @ti = external global ptr
-- define void @f() personality ptr @pers {
--   invoke void @x() to label %n unwind label %u
-- n:
--   ret void
-- u:
--   %p = phi i8 [ ptrtoint (ptr @ti to i8), %0 ]
--   %q = phi i8 [ 3, %0 ]
--   %r = phi i8 [ ptrtoint (ptr @ti to i8), %0 ]
--   %l = landingpad { ptr, i32 } catch ptr @ti
--   ret void
-- }
-- declare void @x()
-- declare i32 @pers(...)
abbrev pub phis_of_the_unwind_block_take_the_later_picks : Sample
phis_of_the_unwind_block_take_the_later_picks = record {
  program = a_module
      ((type.Void) ∷ (type.Ptr) ∷ (type.Int 8) ∷ (type.Int 32) ∷ (type.Struct (ty 1 ∷ ty 3 ∷ []) false) ∷ [])
      (a_global linkage.External 1 (None) (None) ∷ [])
      (
      a_function [] linkage.Plain 0 (attributes false 0 0) ([]) false (typed (operand.Func (function 2)) 1 ∷ []) 0 3
      ∷ a_function [] linkage.Plain 0 (attributes false 0 0) ([]) false ([]) 3 0
      ∷ a_function [] linkage.Plain 3 (attributes false 0 0) ([]) true ([]) 3 0
      ∷ [])
      (a_block 0 0 1 ∷ a_block 0 1 1 ∷ a_block 0 2 1 ∷ [])
      (
      segment 0 (instr None 0 (op.Invoke (a_call 0 ([]) false (typed (operand.Func (function 1)) 1) ([]) (attributes false 0 0) ([])) (block 1) (block 2)) ∷ [])
      ∷ segment 1 (instr None 0 (op.Ret None) ∷ [])
      ∷ segment 2 (
      instr (Some (value 0)) 2 (op.Phi (arm (typed (operand.AnyInt 0 1) 2) (block 0) ∷ []))
      ∷ instr (Some (value 1)) 2 (op.Phi (arm (typed (operand.Int 3 true) 2) (block 0) ∷ []))
      ∷ instr (Some (value 2)) 2 (op.Phi (arm (typed (operand.AnyInt 1 1) 2) (block 0) ∷ []))
      ∷ instr (Some (value 3)) 4 (op.LandingPad false [])
      ∷ instr None 0 (op.Ret None)
      ∷ [])
      ∷ [])
      (value_of 0 2 (def.Instr (spot 2 0)) ∷ value_of 0 2 (def.Instr (spot 2 1)) ∷ value_of 0 2 (def.Instr (spot 2 2)) ∷ value_of 0 4 (def.Instr
      (spot 2 3)) ∷ [])
      (typed (operand.Global (global 0)) 1 ∷ typed (operand.Global (global 0)) 1 ∷ []);
  opening = opened 1 (
      shape_of 8 65536 (OfSymbol (symbol.Global (global 0)))
      ∷ shape_of 0 65552 (OfSymbol (symbol.Func (function 0)))
      ∷ shape_of 0 65568 (OfSymbol (symbol.Func (function 1)))
      ∷ shape_of 0 65584 (OfSymbol (symbol.Func (function 2)))
      ∷ []);
  choices = (choice ([]) (Some (act.Enter (function 0) ([]))) ∷ choice ([]) None ∷ choice (0 ∷ 257 ∷ 5 ∷ []) (Some (act.Unwind)) ∷ choice ([]) None ∷ []);
  steps = (expected 0 (by_call 0 (Enter 0) ∷ []) ∷ expected 0 ([]) ∷ expected 0 (by_call 2 (Unwind) ∷ []) ∷ expected 0 ([]) ∷ []);
  final = record {
    blocks = (
        block_is 0 (shape_of 8 65536 (OfSymbol (symbol.Global (global 0)))) Live
        ∷ block_is 1 (shape_of 0 65552 (OfSymbol (symbol.Func (function 0)))) Live
        ∷ block_is 2 (shape_of 0 65568 (OfSymbol (symbol.Func (function 1)))) Live
        ∷ block_is 3 (shape_of 0 65584 (OfSymbol (symbol.Func (function 2)))) Live
        ∷ []);
    bytes = ([]);
    kept = ([]);
    frames = (
        body 1 0 2 4 (
        value_is 0 (with_marks (datum.Int 1) ([]))
        ∷ value_is 1 (with_marks (datum.Int 3) ([]))
        ∷ value_is 2 (with_marks (datum.Int 5) ([]))
        ∷ value_is 3 (with_marks (datum.Pair) ([]))
        ∷ [])
        ∷ outside 0 ([])
        ∷ []);
  };
}

-- define void @f(i1 %c) personality ptr @pers {
--   invoke void @x() to label %n unwind label %u
-- n:
--   ret void
-- u:
--   %l = landingpad { ptr, i32 } cleanup
--   br i1 %c, label %j, label %k
-- k:
--   br label %j
-- j:
--   %p = phi { ptr, i32 } [ %l, %u ], [ zeroinitializer, %k ]
--   resume { ptr, i32 } %p
-- }
-- declare void @x()
-- declare i32 @pers(...)
abbrev pub pairs_go_through_a_phi : Sample
pairs_go_through_a_phi = record {
  program = a_module
      ((type.Void) ∷ (type.Ptr) ∷ (type.Int 1) ∷ (type.Int 32) ∷ (type.Struct (ty 1 ∷ ty 3 ∷ []) false) ∷ [])
      ([])
      (
      a_function [] linkage.Plain 0 (attributes false 0 0) (parameter 0 2 (attributes false 0 0) ∷ []) false (typed (operand.Func (function 2)) 1 ∷ []) 0 5
      ∷ a_function [] linkage.Plain 0 (attributes false 0 0) ([]) false ([]) 5 0
      ∷ a_function [] linkage.Plain 3 (attributes false 0 0) ([]) true ([]) 5 0
      ∷ [])
      (a_block 0 0 1 ∷ a_block 0 1 1 ∷ a_block 0 2 1 ∷ a_block 0 3 1 ∷ a_block 0 4 1 ∷ [])
      (
      segment 0 (instr None 0 (op.Invoke (a_call 0 ([]) false (typed (operand.Func (function 1)) 1) ([]) (attributes false 0 0) ([])) (block 1) (block 2)) ∷ [])
      ∷ segment 1 (instr None 0 (op.Ret None) ∷ [])
      ∷ segment 2 (instr (Some (value 1)) 4 (op.LandingPad true []) ∷ instr None 0 (op.Branch (typed (operand.Value (value 0)) 2) (block 4) (block 3)) ∷ [])
      ∷ segment 3 (instr None 0 (op.Jump (block 4)) ∷ [])
      ∷ segment 4 (
      instr (Some (value 2)) 4 (op.Phi (arm (typed (operand.Value (value 1)) 4) (block 2) ∷ arm (typed (operand.Zero) 4) (block 3) ∷ []))
      ∷ instr None 0 (op.Resume (typed (operand.Value (value 2)) 4))
      ∷ [])
      ∷ [])
      (value_of 0 2 (def.Param 0) ∷ value_of 0 4 (def.Instr (spot 2 0)) ∷ value_of 0 4 (def.Instr (spot 4 0)) ∷ [])
      ([]);
  opening = opened 0 (
      shape_of 0 65536 (OfSymbol (symbol.Func (function 0)))
      ∷ shape_of 0 65552 (OfSymbol (symbol.Func (function 1)))
      ∷ shape_of 0 65568 (OfSymbol (symbol.Func (function 2)))
      ∷ []);
  choices = (
      choice ([]) (Some (act.Enter (function 0) ((with_marks (datum.Int 0) ([])) ∷ [])))
      ∷ choice ([]) None
      ∷ choice ([]) (Some (act.Unwind))
      ∷ choice ([]) None
      ∷ choice ([]) None
      ∷ choice ([]) None
      ∷ choice ([]) None
      ∷ choice ([]) (Some (act.Enter (function 0) ((with_marks (datum.Int 1) ([])) ∷ [])))
      ∷ choice ([]) None
      ∷ choice ([]) (Some (act.Unwind))
      ∷ choice ([]) None
      ∷ choice ([]) None
      ∷ choice ([]) None
      ∷ []);
  steps = (
      expected 0 (by_call 0 (Enter 0) ∷ [])
      ∷ expected 0 ([])
      ∷ expected 0 (by_call 2 (Unwind) ∷ [])
      ∷ expected 0 ([])
      ∷ expected 0 ([])
      ∷ expected 0 ([])
      ∷ expected 0 (by_call 1 (Unwind) ∷ [])
      ∷ expected 0 (by_call 0 (Enter 0) ∷ [])
      ∷ expected 0 ([])
      ∷ expected 0 (by_call 4 (Unwind) ∷ [])
      ∷ expected 0 ([])
      ∷ expected 0 ([])
      ∷ expected 0 (by_call 3 (Unwind) ∷ [])
      ∷ []);
  final = record {
    blocks = (
        block_is 0 (shape_of 0 65536 (OfSymbol (symbol.Func (function 0)))) Live
        ∷ block_is 1 (shape_of 0 65552 (OfSymbol (symbol.Func (function 1)))) Live
        ∷ block_is 2 (shape_of 0 65568 (OfSymbol (symbol.Func (function 2)))) Live
        ∷ []);
    bytes = ([]);
    kept = ([]);
    frames = (outside 0 ([]) ∷ []);
  };
}
