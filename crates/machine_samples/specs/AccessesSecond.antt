-- Sample runs: memory access. Each has its program as text above it.
use Rattle.std.specs.Prelude.{true, false, [], ◌∷◌, None, Some}
use Rattle.ir_types.specs.declared.ir_type.IrType.TheVariants as type
use Rattle.ir_module.specs.declared.op.Operand.TheVariants as operand
use Rattle.ir_module.specs.declared.op.Symbol.TheVariants as symbol
use Rattle.ir_module.specs.declared.op.Op.TheVariants as op
use Rattle.ir_module.specs.declared.module.Linkage.TheVariants as linkage
use Rattle.ir_module.specs.declared.module.Def.TheVariants as def
use Rattle.ir_module.specs.Places.{spot}
use Rattle.ir_machine.specs.declared.choice.Datum.TheVariants as datum
use Rattle.ir_machine.specs.declared.choice.Act.TheVariants as act
use Rattle.ir_machine.specs.Memory.{OfSymbol, Heap, Live, Dead}
use Rattle.ir_machine.specs.Frames.{Enter, Read, Write, HiddenRead, HiddenWrite, Free, Capture}
use Rattle.machine_samples.specs.Build.{ty, value, function, global, typed, attributes, instr, segment, a_block, value_of, parameter, a_function, a_global}
use Rattle.machine_samples.specs.Build.{a_module, shape_of, mark, with_marks, choice, opened, by_call, expected, block_is, value_is, outside, body, Sample}

-- define void @f(ptr %p) {
--   store i8 1, ptr %p
--   ret void
-- }
abbrev pub store_through_a_dead_block_is_undefined : Sample
store_through_a_dead_block_is_undefined = record {
  program = a_module
      ((type.Void) ∷ (type.Ptr) ∷ (type.Int 8) ∷ [])
      ([])
      (a_function [] linkage.Plain 0 (attributes false 0 0) (parameter 0 1 (attributes false 0 0) ∷ []) false ([]) 0 1 ∷ [])
      (a_block 0 0 1 ∷ [])
      (segment 0 (instr None 0 (op.Store (typed (operand.Int 1 true) 2) (typed (operand.Value (value 0)) 1) None false) ∷ instr None 0 (op.Ret None) ∷ []) ∷ [])
      (value_of 0 1 (def.Param 0) ∷ [])
      ([]);
  opening = opened 0 (shape_of 0 65536 (OfSymbol (symbol.Func (function 0))) ∷ []);
  choices = (
      choice ([]) (Some (act.New 4 0))
      ∷ choice ([]) (Some (act.Free 1))
      ∷ choice ([]) (Some (act.Enter (function 0) ((with_marks (datum.Ptr 1 0) ([])) ∷ [])))
      ∷ choice ([]) None
      ∷ []);
  steps = (expected 0 ([]) ∷ expected 0 (by_call 0 (Free 1) ∷ []) ∷ expected 0 (by_call 0 (Enter 0) ∷ []) ∷ expected 1 ([]) ∷ []);
  final = record {
    blocks = (block_is 0 (shape_of 0 65536 (OfSymbol (symbol.Func (function 0)))) Live ∷ block_is 1 (shape_of 4 65552 (Heap)) Dead ∷ []);
    bytes = ([]);
    kept = ([]);
    frames = (body 1 0 0 0 (value_is 0 (with_marks (datum.Ptr 1 0) (mark 1 0 ∷ [])) ∷ []) ∷ outside 0 ([]) ∷ []);
  };
}

-- @g = global [16 x i8] zeroinitializer, align 16
-- define void @f(ptr %p) {
--   %v = load volatile i8, ptr %p
--   ret void
-- }
abbrev pub a_volatile_load : Sample
a_volatile_load = record {
  program = a_module
      ((type.Void) ∷ (type.Ptr) ∷ (type.Int 8) ∷ (type.Array 16 (ty 2)) ∷ [])
      (a_global linkage.Plain 3 (Some (typed (operand.Zero) 3)) (Some 16) ∷ [])
      (a_function [] linkage.Plain 0 (attributes false 0 0) (parameter 0 1 (attributes false 0 0) ∷ []) false ([]) 0 1 ∷ [])
      (a_block 0 0 1 ∷ [])
      (segment 0 (instr (Some (value 1)) 2 (op.Load (typed (operand.Value (value 0)) 1) None true) ∷ instr None 0 (op.Ret None) ∷ []) ∷ [])
      (value_of 0 1 (def.Param 0) ∷ value_of 0 2 (def.Instr (spot 0 0)) ∷ [])
      ([]);
  opening = opened 1 (shape_of 16 65536 (OfSymbol (symbol.Global (global 0))) ∷ shape_of 0 65568 (OfSymbol (symbol.Func (function 0))) ∷ []);
  choices = (choice ([]) (Some (act.Enter (function 0) ((with_marks (datum.Ptr 0 0) ([])) ∷ []))) ∷ choice ([]) None ∷ []);
  steps = (
      expected 0 (by_call 0 (Enter 0) ∷ [])
      ∷ expected 0 (by_call 1 (Read 0 (mark 1 0 ∷ [])) ∷ by_call 1 (HiddenRead) ∷ by_call 1 (HiddenWrite) ∷ by_call 1 (Capture (mark 1 0 ∷ [])) ∷ [])
      ∷ []);
  final = record {
    blocks = (block_is 0 (shape_of 16 65536 (OfSymbol (symbol.Global (global 0)))) Live ∷ block_is 1 (shape_of 0 65568 (OfSymbol (symbol.Func
        (function 0)))) Live ∷ []);
    bytes = ([]);
    kept = ([]);
    frames = (body 1 0 0 1 (value_is 0 (with_marks (datum.Ptr 0 0) (mark 1 0 ∷ [])) ∷ value_is 1 (with_marks (datum.Int 0) ([])) ∷ []) ∷ outside 0 ([]) ∷ []);
  };
}

-- @g = global [16 x i8] zeroinitializer, align 16
-- define void @f(ptr %p, ptr %q) {
--   store volatile ptr %q, ptr %p
--   ret void
-- }
abbrev pub a_volatile_store : Sample
a_volatile_store = record {
  program = a_module
      ((type.Void) ∷ (type.Ptr) ∷ (type.Int 8) ∷ (type.Array 16 (ty 2)) ∷ [])
      (a_global linkage.Plain 3 (Some (typed (operand.Zero) 3)) (Some 16) ∷ [])
      (a_function [] linkage.Plain 0 (attributes false 0 0) (parameter 0 1 (attributes false 0 0) ∷ parameter 1 1 (attributes false 0 0) ∷ []) false
      ([]) 0 1 ∷ [])
      (a_block 0 0 1 ∷ [])
      (segment 0 (instr None 0 (op.Store (typed (operand.Value (value 1)) 1) (typed (operand.Value (value 0)) 1) None true) ∷ instr None 0
      (op.Ret None) ∷ []) ∷ [])
      (value_of 0 1 (def.Param 0) ∷ value_of 0 1 (def.Param 1) ∷ [])
      ([]);
  opening = opened 1 (shape_of 16 65536 (OfSymbol (symbol.Global (global 0))) ∷ shape_of 0 65568 (OfSymbol (symbol.Func (function 0))) ∷ []);
  choices = (choice ([]) (Some (act.Enter (function 0) ((with_marks (datum.Ptr 0 0) ([])) ∷ (with_marks (datum.Null) ([])) ∷ []))) ∷ choice ([]) None ∷ []);
  steps = (
      expected 0 (by_call 0 (Enter 0) ∷ [])
      ∷ expected 0 (
      by_call 1 (Write 0 (mark 1 0 ∷ []))
      ∷ by_call 1 (HiddenRead)
      ∷ by_call 1 (HiddenWrite)
      ∷ by_call 1 (Capture (mark 1 1 ∷ []))
      ∷ by_call 1 (Capture (mark 1 0 ∷ []))
      ∷ [])
      ∷ []);
  final = record {
    blocks = (block_is 0 (shape_of 16 65536 (OfSymbol (symbol.Global (global 0)))) Live ∷ block_is 1 (shape_of 0 65568 (OfSymbol (symbol.Func
        (function 0)))) Live ∷ []);
    bytes = ([]);
    kept = ([]);
    frames = (body 1 0 0 1 (value_is 0 (with_marks (datum.Ptr 0 0) (mark 1 0 ∷ [])) ∷ value_is 1 (with_marks (datum.Null)
        (mark 1 1 ∷ [])) ∷ []) ∷ outside 0 ([]) ∷ []);
  };
}
