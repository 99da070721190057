-- Sample runs: instructions that compute. Each has its program as text above it.
use Rattle.std.specs.Prelude.{true, false, [], ◌∷◌, None, Some}
use Rattle.ir_types.specs.declared.ir_type.IrType.TheVariants as type
use Rattle.ir_ops.specs.declared.binary.BinOp.TheVariants as kind
use Rattle.ir_ops.specs.declared.predicate.Pred.TheVariants as pred
use Rattle.ir_ops.specs.declared.conversion.CastOp.TheVariants as cast
use Rattle.ir_module.specs.declared.op.Operand.TheVariants as operand
use Rattle.ir_module.specs.declared.op.Symbol.TheVariants as symbol
use Rattle.ir_module.specs.declared.op.Op.TheVariants as op
use Rattle.ir_module.specs.declared.module.Linkage.TheVariants as linkage
use Rattle.ir_module.specs.declared.module.Def.TheVariants as def
use Rattle.ir_module.specs.Places.{spot}
use Rattle.ir_machine.specs.declared.choice.Datum.TheVariants as datum
use Rattle.ir_machine.specs.declared.choice.Act.TheVariants as act
use Rattle.ir_machine.specs.Memory.{OfSymbol, Live}
use Rattle.ir_machine.specs.Frames.{Enter, Capture}
use Rattle.machine_samples.specs.Build.{value, function, typed, attributes, instr, segment, a_block, value_of, parameter, a_function, a_module, shape_of, mark}
use Rattle.machine_samples.specs.Build.{with_marks, choice, opened, by_call, expected, block_is, value_is, outside, body, Sample}

-- define void @f(i8 %a, i8 %b) {
--   %r0 = add i8 %a, %b
--   %r1 = sub i8 %a, %b
--   %r2 = mul i8 %a, %b
--   %r3 = and i8 %a, %b
--   %r4 = or i8 %a, %b
--   %r5 = xor i8 %a, %b
--   %r6 = udiv i8 %a, %b
--   %r7 = urem i8 %a, %b
--   %r8 = sdiv i8 %a, %b
--   %r9 = srem i8 %a, %b
--   ret void
-- }
abbrev pub operations_at_8_bits : Sample
operations_at_8_bits = record {
  program = a_module
      ((type.Void) ∷ (type.Ptr) ∷ (type.Int 8) ∷ [])
      ([])
      (a_function [] linkage.Plain 0 (attributes false 0 0) (parameter 0 2 (attributes false 0 0) ∷ parameter 1 2 (attributes false 0 0) ∷ []) false
      ([]) 0 1 ∷ [])
      (a_block 0 0 1 ∷ [])
      (
      segment 0 (
      instr (Some (value 2)) 2 (op.Bin kind.Add false (typed (operand.Value (value 0)) 2) (typed (operand.Value (value 1)) 2))
      ∷ instr (Some (value 3)) 2 (op.Bin kind.Sub false (typed (operand.Value (value 0)) 2) (typed (operand.Value (value 1)) 2))
      ∷ instr (Some (value 4)) 2 (op.Bin kind.Mul false (typed (operand.Value (value 0)) 2) (typed (operand.Value (value 1)) 2))
      ∷ instr (Some (value 5)) 2 (op.Bin kind.And false (typed (operand.Value (value 0)) 2) (typed (operand.Value (value 1)) 2))
      ∷ instr (Some (value 6)) 2 (op.Bin kind.Or false (typed (operand.Value (value 0)) 2) (typed (operand.Value (value 1)) 2))
      ∷ instr (Some (value 7)) 2 (op.Bin kind.Xor false (typed (operand.Value (value 0)) 2) (typed (operand.Value (value 1)) 2))
      ∷ instr (Some (value 8)) 2 (op.Bin kind.UDiv false (typed (operand.Value (value 0)) 2) (typed (operand.Value (value 1)) 2))
      ∷ instr (Some (value 9)) 2 (op.Bin kind.URem false (typed (operand.Value (value 0)) 2) (typed (operand.Value (value 1)) 2))
      ∷ instr (Some (value 10)) 2 (op.Bin kind.SDiv false (typed (operand.Value (value 0)) 2) (typed (operand.Value (value 1)) 2))
      ∷ instr (Some (value 11)) 2 (op.Bin kind.SRem false (typed (operand.Value (value 0)) 2) (typed (operand.Value (value 1)) 2))
      ∷ instr None 0 (op.Ret None)
      ∷ [])
      ∷ [])
      (
      value_of 0 2 (def.Param 0)
      ∷ value_of 0 2 (def.Param 1)
      ∷ value_of 0 2 (def.Instr (spot 0 0))
      ∷ value_of 0 2 (def.Instr (spot 0 1))
      ∷ value_of 0 2 (def.Instr (spot 0 2))
      ∷ value_of 0 2 (def.Instr (spot 0 3))
      ∷ value_of 0 2 (def.Instr (spot 0 4))
      ∷ value_of 0 2 (def.Instr (spot 0 5))
      ∷ value_of 0 2 (def.Instr (spot 0 6))
      ∷ value_of 0 2 (def.Instr (spot 0 7))
      ∷ value_of 0 2 (def.Instr (spot 0 8))
      ∷ value_of 0 2 (def.Instr (spot 0 9))
      ∷ [])
      ([]);
  opening = opened 0 (shape_of 0 65536 (OfSymbol (symbol.Func (function 0))) ∷ []);
  choices = (
      choice ([]) (Some (act.Enter (function 0) ((with_marks (datum.Int 200) ([])) ∷ (with_marks (datum.Int 7) ([])) ∷ [])))
      ∷ choice ([]) None
      ∷ choice ([]) None
      ∷ choice ([]) None
      ∷ choice ([]) None
      ∷ choice ([]) None
      ∷ choice ([]) None
      ∷ choice ([]) None
      ∷ choice ([]) None
      ∷ choice ([]) None
      ∷ choice ([]) None
      ∷ []);
  steps = (
      expected 0 (by_call 0 (Enter 0) ∷ [])
      ∷ expected 0 ([])
      ∷ expected 0 ([])
      ∷ expected 0 ([])
      ∷ expected 0 ([])
      ∷ expected 0 ([])
      ∷ expected 0 ([])
      ∷ expected 0 ([])
      ∷ expected 0 ([])
      ∷ expected 0 ([])
      ∷ expected 0 ([])
      ∷ []);
  final = record {
    blocks = (block_is 0 (shape_of 0 65536 (OfSymbol (symbol.Func (function 0)))) Live ∷ []);
    bytes = ([]);
    kept = ([]);
    frames = (
        body 1 0 0 10 (
        value_is 0 (with_marks (datum.Int 200) ([]))
        ∷ value_is 1 (with_marks (datum.Int 7) ([]))
        ∷ value_is 2 (with_marks (datum.Int 207) ([]))
        ∷ value_is 3 (with_marks (datum.Int 193) ([]))
        ∷ value_is 4 (with_marks (datum.Int 120) ([]))
        ∷ value_is 5 (with_marks (datum.Int 0) ([]))
        ∷ value_is 6 (with_marks (datum.Int 207) ([]))
        ∷ value_is 7 (with_marks (datum.Int 207) ([]))
        ∷ value_is 8 (with_marks (datum.Int 28) ([]))
        ∷ value_is 9 (with_marks (datum.Int 4) ([]))
        ∷ value_is 10 (with_marks (datum.Int 248) ([]))
        ∷ value_is 11 (with_marks (datum.Int 0) ([]))
        ∷ [])
        ∷ outside 0 ([])
        ∷ []);
  };
}

-- define void @f(i8 %a, i8 %z) {
--   %b = add nsw i8 %a, 100
--   %c = add nuw nsw i8 %a, 100
--   %d = udiv exact i8 %a, 2
--   %e = lshr exact i8 %a, 1
--   %g = or disjoint i8 %a, 1
--   %h = zext nneg i8 %a to i16
--   %i = icmp samesign ult i8 %a, 4
--   %j = trunc nuw i8 %a to i1
--   %k = shl nuw i8 %a, 9
--   %l = add nsw i8 %z, 1
--   %m = add nsw i8 %z, 1
--   ret void
-- }
abbrev pub flags_give_the_exact_result_or_poison : Sample
flags_give_the_exact_result_or_poison = record {
  program = a_module
      ((type.Void) ∷ (type.Ptr) ∷ (type.Int 8) ∷ (type.Int 16) ∷ (type.Int 1) ∷ [])
      ([])
      (a_function [] linkage.Plain 0 (attributes false 0 0) (parameter 0 2 (attributes false 0 0) ∷ parameter 1 2 (attributes false 0 0) ∷ []) false
      ([]) 0 1 ∷ [])
      (a_block 0 0 1 ∷ [])
      (
      segment 0 (
      instr (Some (value 2)) 2 (op.Bin kind.Add true (typed (operand.Value (value 0)) 2) (typed (operand.Int 100 true) 2))
      ∷ instr (Some (value 3)) 2 (op.Bin kind.Add true (typed (operand.Value (value 0)) 2) (typed (operand.Int 100 true) 2))
      ∷ instr (Some (value 4)) 2 (op.Bin kind.UDiv true (typed (operand.Value (value 0)) 2) (typed (operand.Int 2 true) 2))
      ∷ instr (Some (value 5)) 2 (op.Bin kind.LShr true (typed (operand.Value (value 0)) 2) (typed (operand.Int 1 true) 2))
      ∷ instr (Some (value 6)) 2 (op.Bin kind.Or true (typed (operand.Value (value 0)) 2) (typed (operand.Int 1 true) 2))
      ∷ instr (Some (value 7)) 3 (op.Cast cast.ZExt true (typed (operand.Value (value 0)) 2))
      ∷ instr (Some (value 8)) 4 (op.Icmp pred.Ult true (typed (operand.Value (value 0)) 2) (typed (operand.Int 4 true) 2))
      ∷ instr (Some (value 9)) 4 (op.Cast cast.Trunc true (typed (operand.Value (value 0)) 2))
      ∷ instr (Some (value 10)) 2 (op.Bin kind.Shl true (typed (operand.Value (value 0)) 2) (typed (operand.Int 9 true) 2))
      ∷ instr (Some (value 11)) 2 (op.Bin kind.Add true (typed (operand.Value (value 1)) 2) (typed (operand.Int 1 true) 2))
      ∷ instr (Some (value 12)) 2 (op.Bin kind.Add true (typed (operand.Value (value 1)) 2) (typed (operand.Int 1 true) 2))
      ∷ instr None 0 (op.Ret None)
      ∷ [])
      ∷ [])
      (
      value_of 0 2 (def.Param 0)
      ∷ value_of 0 2 (def.Param 1)
      ∷ value_of 0 2 (def.Instr (spot 0 0))
      ∷ value_of 0 2 (def.Instr (spot 0 1))
      ∷ value_of 0 2 (def.Instr (spot 0 2))
      ∷ value_of 0 2 (def.Instr (spot 0 3))
      ∷ value_of 0 2 (def.Instr (spot 0 4))
      ∷ value_of 0 3 (def.Instr (spot 0 5))
      ∷ value_of 0 4 (def.Instr (spot 0 6))
      ∷ value_of 0 4 (def.Instr (spot 0 7))
      ∷ value_of 0 2 (def.Instr (spot 0 8))
      ∷ value_of 0 2 (def.Instr (spot 0 9))
      ∷ value_of 0 2 (def.Instr (spot 0 10))
      ∷ [])
      ([]);
  opening = opened 0 (shape_of 0 65536 (OfSymbol (symbol.Func (function 0))) ∷ []);
  choices = (
      choice ([]) (Some (act.Enter (function 0) ((with_marks (datum.Int 201) ([])) ∷ (with_marks (datum.Undef) ([])) ∷ [])))
      ∷ choice ([]) None
      ∷ choice (1 ∷ []) None
      ∷ choice ([]) None
      ∷ choice (9 ∷ []) None
      ∷ choice (0 ∷ []) None
      ∷ choice (1 ∷ []) None
      ∷ choice ([]) None
      ∷ choice (18446744073709551615 ∷ []) None
      ∷ choice ([]) None
      ∷ choice ([]) None
      ∷ choice (2 ∷ []) None
      ∷ []);
  steps = (
      expected 0 (by_call 0 (Enter 0) ∷ [])
      ∷ expected 0 ([])
      ∷ expected 0 ([])
      ∷ expected 0 ([])
      ∷ expected 0 ([])
      ∷ expected 0 ([])
      ∷ expected 0 ([])
      ∷ expected 0 ([])
      ∷ expected 0 ([])
      ∷ expected 0 ([])
      ∷ expected 0 ([])
      ∷ expected 0 ([])
      ∷ []);
  final = record {
    blocks = (block_is 0 (shape_of 0 65536 (OfSymbol (symbol.Func (function 0)))) Live ∷ []);
    bytes = ([]);
    kept = ([]);
    frames = (
        body 1 0 0 11 (
        value_is 0 (with_marks (datum.Int 201) ([]))
        ∷ value_is 1 (with_marks (datum.Undef) ([]))
        ∷ value_is 2 (with_marks (datum.Int 45) ([]))
        ∷ value_is 3 (with_marks (datum.Poison) ([]))
        ∷ value_is 4 (with_marks (datum.Int 100) ([]))
        ∷ value_is 5 (with_marks (datum.Poison) ([]))
        ∷ value_is 6 (with_marks (datum.Int 201) ([]))
        ∷ value_is 7 (with_marks (datum.Poison) ([]))
        ∷ value_is 8 (with_marks (datum.Int 0) ([]))
        ∷ value_is 9 (with_marks (datum.Poison) ([]))
        ∷ value_is 10 (with_marks (datum.Poison) ([]))
        ∷ value_is 11 (with_marks (datum.Undef) ([]))
        ∷ value_is 12 (with_marks (datum.Poison) ([]))
        ∷ [])
        ∷ outside 0 ([])
        ∷ []);
  };
}

-- define void @f(i8 %u, i8 %p, i8 %n) {
--   %a = add i8 %u, %n
--   %b = add i8 %n, %u
--   %c = and i8 %u, 0
--   %d = mul i8 %p, 0
--   %e = sub i8 %u, %p
--   %g = xor i8 %p, %u
--   %h = shl i8 %u, 9
--   %i = shl i8 1, %u
--   %j = icmp eq i8 %u, %u
--   %k = icmp ult i8 %n, %p
--   %l = icmp sgt i8 %u, %p
--   %m = trunc i8 %u to i1
--   %o = zext i8 %p to i16
--   %q = sext i8 %u to i16
--   %r = udiv i8 %u, 3
--   ret void
-- }
abbrev pub undef_and_poison_in_operands : Sample
undef_and_poison_in_operands = record {
  program = a_module
      ((type.Void) ∷ (type.Ptr) ∷ (type.Int 8) ∷ (type.Int 1) ∷ (type.Int 16) ∷ [])
      ([])
      (
      a_function [] linkage.Plain 0 (attributes false 0 0) (parameter 0 2 (attributes false 0 0) ∷ parameter 1 2 (attributes false 0 0) ∷ parameter 2 2
      (attributes false 0 0) ∷ []) false ([]) 0 1
      ∷ [])
      (a_block 0 0 1 ∷ [])
      (
      segment 0 (
      instr (Some (value 3)) 2 (op.Bin kind.Add false (typed (operand.Value (value 0)) 2) (typed (operand.Value (value 2)) 2))
      ∷ instr (Some (value 4)) 2 (op.Bin kind.Add false (typed (operand.Value (value 2)) 2) (typed (operand.Value (value 0)) 2))
      ∷ instr (Some (value 5)) 2 (op.Bin kind.And false (typed (operand.Value (value 0)) 2) (typed (operand.Int 0 true) 2))
      ∷ instr (Some (value 6)) 2 (op.Bin kind.Mul false (typed (operand.Value (value 1)) 2) (typed (operand.Int 0 true) 2))
      ∷ instr (Some (value 7)) 2 (op.Bin kind.Sub false (typed (operand.Value (value 0)) 2) (typed (operand.Value (value 1)) 2))
      ∷ instr (Some (value 8)) 2 (op.Bin kind.Xor false (typed (operand.Value (value 1)) 2) (typed (operand.Value (value 0)) 2))
      ∷ instr (Some (value 9)) 2 (op.Bin kind.Shl false (typed (operand.Value (value 0)) 2) (typed (operand.Int 9 true) 2))
      ∷ instr (Some (value 10)) 2 (op.Bin kind.Shl false (typed (operand.Int 1 true) 2) (typed (operand.Value (value 0)) 2))
      ∷ instr (Some (value 11)) 3 (op.Icmp pred.Eq false (typed (operand.Value (value 0)) 2) (typed (operand.Value (value 0)) 2))
      ∷ instr (Some (value 12)) 3 (op.Icmp pred.Ult false (typed (operand.Value (value 2)) 2) (typed (operand.Value (value 1)) 2))
      ∷ instr (Some (value 13)) 3 (op.Icmp pred.Sgt false (typed (operand.Value (value 0)) 2) (typed (operand.Value (value 1)) 2))
      ∷ instr (Some (value 14)) 3 (op.Cast cast.Trunc false (typed (operand.Value (value 0)) 2))
      ∷ instr (Some (value 15)) 4 (op.Cast cast.ZExt false (typed (operand.Value (value 1)) 2))
      ∷ instr (Some (value 16)) 4 (op.Cast cast.SExt false (typed (operand.Value (value 0)) 2))
      ∷ instr (Some (value 17)) 2 (op.Bin kind.UDiv false (typed (operand.Value (value 0)) 2) (typed (operand.Int 3 true) 2))
      ∷ instr None 0 (op.Ret None)
      ∷ [])
      ∷ [])
      (
      value_of 0 2 (def.Param 0)
      ∷ value_of 0 2 (def.Param 1)
      ∷ value_of 0 2 (def.Param 2)
      ∷ value_of 0 2 (def.Instr (spot 0 0))
      ∷ value_of 0 2 (def.Instr (spot 0 1))
      ∷ value_of 0 2 (def.Instr (spot 0 2))
      ∷ value_of 0 2 (def.Instr (spot 0 3))
      ∷ value_of 0 2 (def.Instr (spot 0 4))
      ∷ value_of 0 2 (def.Instr (spot 0 5))
      ∷ value_of 0 2 (def.Instr (spot 0 6))
      ∷ value_of 0 2 (def.Instr (spot 0 7))
      ∷ value_of 0 3 (def.Instr (spot 0 8))
      ∷ value_of 0 3 (def.Instr (spot 0 9))
      ∷ value_of 0 3 (def.Instr (spot 0 10))
      ∷ value_of 0 3 (def.Instr (spot 0 11))
      ∷ value_of 0 4 (def.Instr (spot 0 12))
      ∷ value_of 0 4 (def.Instr (spot 0 13))
      ∷ value_of 0 2 (def.Instr (spot 0 14))
      ∷ [])
      ([]);
  opening = opened 0 (shape_of 0 65536 (OfSymbol (symbol.Func (function 0))) ∷ []);
  choices = (
      choice ([]) (Some (act.Enter (function 0) ((with_marks (datum.Undef) ([])) ∷ (with_marks (datum.Poison) ([])) ∷ (with_marks (datum.Int 3) ([])) ∷ [])))
      ∷ choice ([]) None
      ∷ choice ([]) None
      ∷ choice ([]) None
      ∷ choice ([]) None
      ∷ choice ([]) None
      ∷ choice ([]) None
      ∷ choice ([]) None
      ∷ choice ([]) None
      ∷ choice ([]) None
      ∷ choice ([]) None
      ∷ choice ([]) None
      ∷ choice ([]) None
      ∷ choice ([]) None
      ∷ choice ([]) None
      ∷ choice ([]) None
      ∷ []);
  steps = (
      expected 0 (by_call 0 (Enter 0) ∷ [])
      ∷ expected 0 ([])
      ∷ expected 0 ([])
      ∷ expected 0 ([])
      ∷ expected 0 ([])
      ∷ expected 0 ([])
      ∷ expected 0 ([])
      ∷ expected 0 ([])
      ∷ expected 0 ([])
      ∷ expected 0 ([])
      ∷ expected 0 ([])
      ∷ expected 0 ([])
      ∷ expected 0 ([])
      ∷ expected 0 ([])
      ∷ expected 0 ([])
      ∷ expected 0 ([])
      ∷ []);
  final = record {
    blocks = (block_is 0 (shape_of 0 65536 (OfSymbol (symbol.Func (function 0)))) Live ∷ []);
    bytes = ([]);
    kept = ([]);
    frames = (
        body 1 0 0 15 (
        value_is 0 (with_marks (datum.Undef) ([]))
        ∷ value_is 1 (with_marks (datum.Poison) ([]))
        ∷ value_is 2 (with_marks (datum.Int 3) ([]))
        ∷ value_is 3 (with_marks (datum.Undef) ([]))
        ∷ value_is 4 (with_marks (datum.Undef) ([]))
        ∷ value_is 5 (with_marks (datum.Undef) ([]))
        ∷ value_is 6 (with_marks (datum.Poison) ([]))
        ∷ value_is 7 (with_marks (datum.Poison) ([]))
        ∷ value_is 8 (with_marks (datum.Poison) ([]))
        ∷ value_is 9 (with_marks (datum.Undef) ([]))
        ∷ value_is 10 (with_marks (datum.Undef) ([]))
        ∷ value_is 11 (with_marks (datum.Undef) ([]))
        ∷ value_is 12 (with_marks (datum.Poison) ([]))
        ∷ value_is 13 (with_marks (datum.Poison) ([]))
        ∷ value_is 14 (with_marks (datum.Undef) ([]))
        ∷ value_is 15 (with_marks (datum.Poison) ([]))
        ∷ value_is 16 (with_marks (datum.Undef) ([]))
        ∷ value_is 17 (with_marks (datum.Undef) ([]))
        ∷ [])
        ∷ outside 0 ([])
        ∷ []);
  };
}

-- define void @f(i8 %a, i8 %b) {
--   %q = udiv i8 %a, 0
--   %r = udiv i8 %b, 0
--   %s = udiv i8 %b, -1
--   ret void
-- }
abbrev pub udiv_of_poison_and_of_undef_by_0 : Sample
udiv_of_poison_and_of_undef_by_0 = record {
  program = a_module
      ((type.Void) ∷ (type.Ptr) ∷ (type.Int 8) ∷ [])
      ([])
      (a_function [] linkage.Plain 0 (attributes false 0 0) (parameter 0 2 (attributes false 0 0) ∷ parameter 1 2 (attributes false 0 0) ∷ []) false
      ([]) 0 1 ∷ [])
      (a_block 0 0 1 ∷ [])
      (
      segment 0 (
      instr (Some (value 2)) 2 (op.Bin kind.UDiv false (typed (operand.Value (value 0)) 2) (typed (operand.Int 0 true) 2))
      ∷ instr (Some (value 3)) 2 (op.Bin kind.UDiv false (typed (operand.Value (value 1)) 2) (typed (operand.Int 0 true) 2))
      ∷ instr (Some (value 4)) 2 (op.Bin kind.UDiv false (typed (operand.Value (value 1)) 2) (typed (operand.Int 255 true) 2))
      ∷ instr None 0 (op.Ret None)
      ∷ [])
      ∷ [])
      (
      value_of 0 2 (def.Param 0)
      ∷ value_of 0 2 (def.Param 1)
      ∷ value_of 0 2 (def.Instr (spot 0 0))
      ∷ value_of 0 2 (def.Instr (spot 0 1))
      ∷ value_of 0 2 (def.Instr (spot 0 2))
      ∷ [])
      ([]);
  opening = opened 0 (shape_of 0 65536 (OfSymbol (symbol.Func (function 0))) ∷ []);
  choices = (
      choice ([]) (Some (act.Enter (function 0) ((with_marks (datum.Poison) ([])) ∷ (with_marks (datum.Undef) ([])) ∷ [])))
      ∷ choice ([]) None
      ∷ choice ([]) None
      ∷ choice ([]) None
      ∷ []);
  steps = (expected 0 (by_call 0 (Enter 0) ∷ []) ∷ expected 0 ([]) ∷ expected 0 ([]) ∷ expected 0 ([]) ∷ []);
  final = record {
    blocks = (block_is 0 (shape_of 0 65536 (OfSymbol (symbol.Func (function 0)))) Live ∷ []);
    bytes = ([]);
    kept = ([]);
    frames = (
        body 1 0 0 3 (
        value_is 0 (with_marks (datum.Poison) ([]))
        ∷ value_is 1 (with_marks (datum.Undef) ([]))
        ∷ value_is 2 (with_marks (datum.Poison) ([]))
        ∷ value_is 3 (with_marks (datum.Undef) ([]))
        ∷ value_is 4 (with_marks (datum.Undef) ([]))
        ∷ [])
        ∷ outside 0 ([])
        ∷ []);
  };
}

-- define void @f(i8 %a) {
--   %q = udiv i8 %a, 0
--   ret void
-- }
abbrev pub udiv_by_0_is_undefined : Sample
udiv_by_0_is_undefined = record {
  program = a_module
      ((type.Void) ∷ (type.Ptr) ∷ (type.Int 8) ∷ [])
      ([])
      (a_function [] linkage.Plain 0 (attributes false 0 0) (parameter 0 2 (attributes false 0 0) ∷ []) false ([]) 0 1 ∷ [])
      (a_block 0 0 1 ∷ [])
      (
      segment 0 (instr (Some (value 1)) 2 (op.Bin kind.UDiv false (typed (operand.Value (value 0)) 2) (typed (operand.Int 0 true) 2)) ∷ instr None 0
      (op.Ret None) ∷ [])
      ∷ [])
      (value_of 0 2 (def.Param 0) ∷ value_of 0 2 (def.Instr (spot 0 0)) ∷ [])
      ([]);
  opening = opened 0 (shape_of 0 65536 (OfSymbol (symbol.Func (function 0))) ∷ []);
  choices = (choice ([]) (Some (act.Enter (function 0) ((with_marks (datum.Int 5) ([])) ∷ []))) ∷ choice ([]) None ∷ []);
  steps = (expected 0 (by_call 0 (Enter 0) ∷ []) ∷ expected 1 ([]) ∷ []);
  final = record {
    blocks = (block_is 0 (shape_of 0 65536 (OfSymbol (symbol.Func (function 0)))) Live ∷ []);
    bytes = ([]);
    kept = ([]);
    frames = (body 1 0 0 0 (value_is 0 (with_marks (datum.Int 5) ([])) ∷ []) ∷ outside 0 ([]) ∷ []);
  };
}

-- define void @f(i8 %a, i8 %b) {
--   %r0 = icmp eq i8 %a, %b
--   %r1 = icmp ne i8 %a, %b
--   %r2 = icmp ugt i8 %a, %b
--   %r3 = icmp uge i8 %a, %b
--   %r4 = icmp ult i8 %a, %b
--   %r5 = icmp ule i8 %a, %b
--   %r6 = icmp sgt i8 %a, %b
--   %r7 = icmp sge i8 %a, %b
--   %r8 = icmp slt i8 %a, %b
--   %r9 = icmp sle i8 %a, %b
--   %s0 = icmp uge i8 %a, %a
--   %s1 = icmp sle i8 %b, %b
--   %s2 = icmp eq i8 -56, %a
--   ret void
-- }
abbrev pub icmp_predicates : Sample
icmp_predicates = record {
  program = a_module
      ((type.Void) ∷ (type.Ptr) ∷ (type.Int 8) ∷ (type.Int 1) ∷ [])
      ([])
      (a_function [] linkage.Plain 0 (attributes false 0 0) (parameter 0 2 (attributes false 0 0) ∷ parameter 1 2 (attributes false 0 0) ∷ []) false
      ([]) 0 1 ∷ [])
      (a_block 0 0 1 ∷ [])
      (
      segment 0 (
      instr (Some (value 2)) 3 (op.Icmp pred.Eq false (typed (operand.Value (value 0)) 2) (typed (operand.Value (value 1)) 2))
      ∷ instr (Some (value 3)) 3 (op.Icmp pred.Ne false (typed (operand.Value (value 0)) 2) (typed (operand.Value (value 1)) 2))
      ∷ instr (Some (value 4)) 3 (op.Icmp pred.Ugt false (typed (operand.Value (value 0)) 2) (typed (operand.Value (value 1)) 2))
      ∷ instr (Some (value 5)) 3 (op.Icmp pred.Uge false (typed (operand.Value (value 0)) 2) (typed (operand.Value (value 1)) 2))
      ∷ instr (Some (value 6)) 3 (op.Icmp pred.Ult false (typed (operand.Value (value 0)) 2) (typed (operand.Value (value 1)) 2))
      ∷ instr (Some (value 7)) 3 (op.Icmp pred.Ule false (typed (operand.Value (value 0)) 2) (typed (operand.Value (value 1)) 2))
      ∷ instr (Some (value 8)) 3 (op.Icmp pred.Sgt false (typed (operand.Value (value 0)) 2) (typed (operand.Value (value 1)) 2))
      ∷ instr (Some (value 9)) 3 (op.Icmp pred.Sge false (typed (operand.Value (value 0)) 2) (typed (operand.Value (value 1)) 2))
      ∷ instr (Some (value 10)) 3 (op.Icmp pred.Slt false (typed (operand.Value (value 0)) 2) (typed (operand.Value (value 1)) 2))
      ∷ instr (Some (value 11)) 3 (op.Icmp pred.Sle false (typed (operand.Value (value 0)) 2) (typed (operand.Value (value 1)) 2))
      ∷ instr (Some (value 12)) 3 (op.Icmp pred.Uge false (typed (operand.Value (value 0)) 2) (typed (operand.Value (value 0)) 2))
      ∷ instr (Some (value 13)) 3 (op.Icmp pred.Sle false (typed (operand.Value (value 1)) 2) (typed (operand.Value (value 1)) 2))
      ∷ instr (Some (value 14)) 3 (op.Icmp pred.Eq false (typed (operand.Int 200 true) 2) (typed (operand.Value (value 0)) 2))
      ∷ instr None 0 (op.Ret None)
      ∷ [])
      ∷ [])
      (
      value_of 0 2 (def.Param 0)
      ∷ value_of 0 2 (def.Param 1)
      ∷ value_of 0 3 (def.Instr (spot 0 0))
      ∷ value_of 0 3 (def.Instr (spot 0 1))
      ∷ value_of 0 3 (def.Instr (spot 0 2))
      ∷ value_of 0 3 (def.Instr (spot 0 3))
      ∷ value_of 0 3 (def.Instr (spot 0 4))
      ∷ value_of 0 3 (def.Instr (spot 0 5))
      ∷ value_of 0 3 (def.Instr (spot 0 6))
      ∷ value_of 0 3 (def.Instr (spot 0 7))
      ∷ value_of 0 3 (def.Instr (spot 0 8))
      ∷ value_of 0 3 (def.Instr (spot 0 9))
      ∷ value_of 0 3 (def.Instr (spot 0 10))
      ∷ value_of 0 3 (def.Instr (spot 0 11))
      ∷ value_of 0 3 (def.Instr (spot 0 12))
      ∷ [])
      ([]);
  opening = opened 0 (shape_of 0 65536 (OfSymbol (symbol.Func (function 0))) ∷ []);
  choices = (
      choice ([]) (Some (act.Enter (function 0) ((with_marks (datum.Int 200) ([])) ∷ (with_marks (datum.Int 100) ([])) ∷ [])))
      ∷ choice ([]) None
      ∷ choice ([]) None
      ∷ choice ([]) None
      ∷ choice ([]) None
      ∷ choice ([]) None
      ∷ choice ([]) None
      ∷ choice ([]) None
      ∷ choice ([]) None
      ∷ choice ([]) None
      ∷ choice ([]) None
      ∷ choice ([]) None
      ∷ choice ([]) None
      ∷ choice ([]) None
      ∷ []);
  steps = (
      expected 0 (by_call 0 (Enter 0) ∷ [])
      ∷ expected 0 ([])
      ∷ expected 0 ([])
      ∷ expected 0 ([])
      ∷ expected 0 ([])
      ∷ expected 0 ([])
      ∷ expected 0 ([])
      ∷ expected 0 ([])
      ∷ expected 0 ([])
      ∷ expected 0 ([])
      ∷ expected 0 ([])
      ∷ expected 0 ([])
      ∷ expected 0 ([])
      ∷ expected 0 ([])
      ∷ []);
  final = record {
    blocks = (block_is 0 (shape_of 0 65536 (OfSymbol (symbol.Func (function 0)))) Live ∷ []);
    bytes = ([]);
    kept = ([]);
    frames = (
        body 1 0 0 13 (
        value_is 0 (with_marks (datum.Int 200) ([]))
        ∷ value_is 1 (with_marks (datum.Int 100) ([]))
        ∷ value_is 2 (with_marks (datum.Int 0) ([]))
        ∷ value_is 3 (with_marks (datum.Int 1) ([]))
        ∷ value_is 4 (with_marks (datum.Int 1) ([]))
        ∷ value_is 5 (with_marks (datum.Int 1) ([]))
        ∷ value_is 6 (with_marks (datum.Int 0) ([]))
        ∷ value_is 7 (with_marks (datum.Int 0) ([]))
        ∷ value_is 8 (with_marks (datum.Int 0) ([]))
        ∷ value_is 9 (with_marks (datum.Int 0) ([]))
        ∷ value_is 10 (with_marks (datum.Int 1) ([]))
        ∷ value_is 11 (with_marks (datum.Int 1) ([]))
        ∷ value_is 12 (with_marks (datum.Int 1) ([]))
        ∷ value_is 13 (with_marks (datum.Int 1) ([]))
        ∷ value_is 14 (with_marks (datum.Int 1) ([]))
        ∷ [])
        ∷ outside 0 ([])
        ∷ []);
  };
}

-- define void @f(ptr %p, ptr %q) {
--   %a = icmp eq ptr %p, %p
--   %b = icmp ne ptr %p, %p
--   %c = icmp ult ptr %p, %q
--   %d = icmp eq ptr undef, poison
--   %e = icmp sgt ptr poison, null
--   ret void
-- }
abbrev pub icmp_on_pointers_goes_by_pick_and_captures : Sample
icmp_on_pointers_goes_by_pick_and_captures = record {
  program = a_module
      ((type.Void) ∷ (type.Ptr) ∷ (type.Int 1) ∷ [])
      ([])
      (a_function [] linkage.Plain 0 (attributes false 0 0) (parameter 0 1 (attributes false 0 0) ∷ parameter 1 1 (attributes false 0 0) ∷ []) false
      ([]) 0 1 ∷ [])
      (a_block 0 0 1 ∷ [])
      (
      segment 0 (
      instr (Some (value 2)) 2 (op.Icmp pred.Eq false (typed (operand.Value (value 0)) 1) (typed (operand.Value (value 0)) 1))
      ∷ instr (Some (value 3)) 2 (op.Icmp pred.Ne false (typed (operand.Value (value 0)) 1) (typed (operand.Value (value 0)) 1))
      ∷ instr (Some (value 4)) 2 (op.Icmp pred.Ult false (typed (operand.Value (value 0)) 1) (typed (operand.Value (value 1)) 1))
      ∷ instr (Some (value 5)) 2 (op.Icmp pred.Eq false (typed (operand.Undef) 1) (typed (operand.Poison) 1))
      ∷ instr (Some (value 6)) 2 (op.Icmp pred.Sgt false (typed (operand.Poison) 1) (typed (operand.Null) 1))
      ∷ instr None 0 (op.Ret None)
      ∷ [])
      ∷ [])
      (
      value_of 0 1 (def.Param 0)
      ∷ value_of 0 1 (def.Param 1)
      ∷ value_of 0 2 (def.Instr (spot 0 0))
      ∷ value_of 0 2 (def.Instr (spot 0 1))
      ∷ value_of 0 2 (def.Instr (spot 0 2))
      ∷ value_of 0 2 (def.Instr (spot 0 3))
      ∷ value_of 0 2 (def.Instr (spot 0 4))
      ∷ [])
      ([]);
  opening = opened 0 (shape_of 0 65536 (OfSymbol (symbol.Func (function 0))) ∷ []);
  choices = (
      choice ([]) (Some (act.Enter (function 0) ((with_marks (datum.Ptr 0 0) ([])) ∷ (with_marks (datum.Null) ([])) ∷ [])))
      ∷ choice ([]) None
      ∷ choice (1 ∷ []) None
      ∷ choice (5 ∷ []) None
      ∷ choice ([]) None
      ∷ choice (1 ∷ []) None
      ∷ []);
  steps = (
      expected 0 (by_call 0 (Enter 0) ∷ [])
      ∷ expected 0 (by_call 1 (Capture (mark 1 0 ∷ [])) ∷ [])
      ∷ expected 0 (by_call 1 (Capture (mark 1 0 ∷ [])) ∷ [])
      ∷ expected 0 (by_call 1 (Capture (mark 1 0 ∷ [])) ∷ by_call 1 (Capture (mark 1 1 ∷ [])) ∷ [])
      ∷ expected 0 ([])
      ∷ expected 0 ([])
      ∷ []);
  final = record {
    blocks = (block_is 0 (shape_of 0 65536 (OfSymbol (symbol.Func (function 0)))) Live ∷ []);
    bytes = ([]);
    kept = ([]);
    frames = (
        body 1 0 0 5 (
        value_is 0 (with_marks (datum.Ptr 0 0) (mark 1 0 ∷ []))
        ∷ value_is 1 (with_marks (datum.Null) (mark 1 1 ∷ []))
        ∷ value_is 2 (with_marks (datum.Int 0) ([]))
        ∷ value_is 3 (with_marks (datum.Int 1) ([]))
        ∷ value_is 4 (with_marks (datum.Int 1) ([]))
        ∷ value_is 5 (with_marks (datum.Int 0) ([]))
        ∷ value_is 6 (with_marks (datum.Int 1) ([]))
        ∷ [])
        ∷ outside 0 ([])
        ∷ []);
  };
}

-- define void @f(i8 %a, i64 %b, i33 %c) {
--   %r0 = zext i8 %a to i16
--   %r1 = sext i8 %a to i16
--   %r2 = trunc i8 %a to i1
--   %r3 = sext i1 true to i64
--   %r4 = trunc i64 %b to i33
--   %r5 = sext i33 %c to i64
--   %r6 = zext i33 %c to i64
--   %r7 = trunc i64 %b to i7
--   ret void
-- }
abbrev pub casts : Sample
casts = record {
  program = a_module
      ((type.Void) ∷ (type.Ptr) ∷ (type.Int 8) ∷ (type.Int 64) ∷ (type.Int 33) ∷ (type.Int 16) ∷ (type.Int 1) ∷ (type.Int 7) ∷ [])
      ([])
      (
      a_function [] linkage.Plain 0 (attributes false 0 0) (parameter 0 2 (attributes false 0 0) ∷ parameter 1 3 (attributes false 0 0) ∷ parameter 2 4
      (attributes false 0 0) ∷ []) false ([]) 0 1
      ∷ [])
      (a_block 0 0 1 ∷ [])
      (
      segment 0 (
      instr (Some (value 3)) 5 (op.Cast cast.ZExt false (typed (operand.Value (value 0)) 2))
      ∷ instr (Some (value 4)) 5 (op.Cast cast.SExt false (typed (operand.Value (value 0)) 2))
      ∷ instr (Some (value 5)) 6 (op.Cast cast.Trunc false (typed (operand.Value (value 0)) 2))
      ∷ instr (Some (value 6)) 3 (op.Cast cast.SExt false (typed (operand.Truth true) 6))
      ∷ instr (Some (value 7)) 4 (op.Cast cast.Trunc false (typed (operand.Value (value 1)) 3))
      ∷ instr (Some (value 8)) 3 (op.Cast cast.SExt false (typed (operand.Value (value 2)) 4))
      ∷ instr (Some (value 9)) 3 (op.Cast cast.ZExt false (typed (operand.Value (value 2)) 4))
      ∷ instr (Some (value 10)) 7 (op.Cast cast.Trunc false (typed (operand.Value (value 1)) 3))
      ∷ instr None 0 (op.Ret None)
      ∷ [])
      ∷ [])
      (
      value_of 0 2 (def.Param 0)
      ∷ value_of 0 3 (def.Param 1)
      ∷ value_of 0 4 (def.Param 2)
      ∷ value_of 0 5 (def.Instr (spot 0 0))
      ∷ value_of 0 5 (def.Instr (spot 0 1))
      ∷ value_of 0 6 (def.Instr (spot 0 2))
      ∷ value_of 0 3 (def.Instr (spot 0 3))
      ∷ value_of 0 4 (def.Instr (spot 0 4))
      ∷ value_of 0 3 (def.Instr (spot 0 5))
      ∷ value_of 0 3 (def.Instr (spot 0 6))
      ∷ value_of 0 7 (def.Instr (spot 0 7))
      ∷ [])
      ([]);
  opening = opened 0 (shape_of 0 65536 (OfSymbol (symbol.Func (function 0))) ∷ []);
  choices = (
      choice ([]) (Some (act.Enter (function 0) (
      (with_marks (datum.Int 131) ([]))
      ∷ (with_marks (datum.Int 18446744073709551615) ([]))
      ∷ (with_marks (datum.Int 4294967296) ([]))
      ∷ [])))
      ∷ choice ([]) None
      ∷ choice ([]) None
      ∷ choice ([]) None
      ∷ choice ([]) None
      ∷ choice ([]) None
      ∷ choice ([]) None
      ∷ choice ([]) None
      ∷ choice ([]) None
      ∷ []);
  steps = (
      expected 0 (by_call 0 (Enter 0) ∷ [])
      ∷ expected 0 ([])
      ∷ expected 0 ([])
      ∷ expected 0 ([])
      ∷ expected 0 ([])
      ∷ expected 0 ([])
      ∷ expected 0 ([])
      ∷ expected 0 ([])
      ∷ expected 0 ([])
      ∷ []);
  final = record {
    blocks = (block_is 0 (shape_of 0 65536 (OfSymbol (symbol.Func (function 0)))) Live ∷ []);
    bytes = ([]);
    kept = ([]);
    frames = (
        body 1 0 0 8 (
        value_is 0 (with_marks (datum.Int 131) ([]))
        ∷ value_is 1 (with_marks (datum.Int 18446744073709551615) ([]))
        ∷ value_is 2 (with_marks (datum.Int 4294967296) ([]))
        ∷ value_is 3 (with_marks (datum.Int 131) ([]))
        ∷ value_is 4 (with_marks (datum.Int 65411) ([]))
        ∷ value_is 5 (with_marks (datum.Int 1) ([]))
        ∷ value_is 6 (with_marks (datum.Int 18446744073709551615) ([]))
        ∷ value_is 7 (with_marks (datum.Int 8589934591) ([]))
        ∷ value_is 8 (with_marks (datum.Int 18446744069414584320) ([]))
        ∷ value_is 9 (with_marks (datum.Int 4294967296) ([]))
        ∷ value_is 10 (with_marks (datum.Int 127) ([]))
        ∷ [])
        ∷ outside 0 ([])
        ∷ []);
  };
}
