-- Instructions keep rules by numbers that tell no more types apart.
use Rattle.std.proofs.Common.{ℕ, List, None, Some}
use Rattle.attr_ids.specs.declared.ids.TypeId.{TypeId}
use Rattle.ir_module.specs.declared.op.Operand.{Operand}
use Rattle.ir_module.specs.declared.op.Operand.TheVariants as operand
use Rattle.ir_module.specs.declared.op.Written.{Written}
use Rattle.ir_module.specs.declared.op.Arm.{Arm}
use Rattle.ir_module.specs.declared.op.Case.{Case}
use Rattle.ir_module.specs.declared.op.Call.{Call}
use Rattle.ir_module.specs.declared.op.Op.{Op}
use Rattle.ir_module.specs.declared.op.Op.TheVariants as op
use Rattle.ir_module.specs.declared.module.Func.{Func}
use Rattle.ir_module.specs.declared.module.Module.{Module}
use Rattle.ir_module.specs.Operands.{operands}
use Rattle.ir_operands.specs.declared.rule.ConstantRule.{ConstantRule}
use Rattle.ir_operands.specs.declared.rule.ConstantRule.TheVariants as constant
use Rattle.ir_operands.specs.Types.{type_of, AreOne}
use Rattle.ir_rules.specs.Blocks.{ArmsFit, HasArms}
use Rattle.ir_rules.specs.Operations.{Switches, Branches, Returns, Selects, IsOfType, IsCallee, FitsCall, CallsAsWritten}
use Rattle.ir_rules.specs.Values.{EachKeeps, site_of, HasTypeOf, FitsWritten, HasFittingCallee}
use Rattle.ir_verify.specs.declared.rule.Rule.{Rule}
use Rattle.ir_verify.specs.declared.rule.Rule.TheVariants as rule
use Rattle.ir_verify.specs.Demands.{OfInstr, Placed}
use Rattle.const_numbers.proofs.Constants.{kind}
use Rattle.rule_numbers.proofs.Operands.{keeps, inside, scalar_operand, one_value}

module _ (m : Module) (a b : List ℕ) (leads : (t u : TypeId) → AreOne a t u → AreOne b t u) where
  pub each : (r : ConstantRule) (ws : List Written) → EachKeeps m a r ws → EachKeeps m b r ws
  each r ws h = λ k w at. keeps m.types m.parts a b leads r w (h k w at)

  -- ---- operands

  value : (t : TypeId) (o : Operand) → HasTypeOf m a t o → HasTypeOf m b t o
  value t (operand.Value v) h = (h.0, h.1, leads h.0.ty t h.2)
  value t (operand.Int bits fits) h = h
  value t (operand.Truth is) h = h
  value t operand.Zero h = h
  value t operand.Null h = h
  value t operand.Undef h = h
  value t operand.Poison h = h
  value t (operand.Global g) h = h
  value t (operand.Func f) h = h
  value t (operand.Offset base bytes inbounds wrap) h = h
  value t (operand.WrongOffset broken) h = h
  value t (operand.Parts form first count) h = h
  value t (operand.AnyInt first count) h = h

  fits : (w : Written) → FitsWritten m a w → FitsWritten m b w
  fits w h = record { value = value w.ty w.val h.value; constant = keeps m.types m.parts a b leads constant.Fitting w h.constant }

  of_type : (w : Written) → IsOfType m a w → IsOfType m b w
  of_type w h = record {
    value = value w.ty w.val h.value;
    constant = kind m.types m.parts a b leads (type_of m.types w.ty) w.val h.constant;
  }

  -- ---- operations

  arms_fit : (n : ℕ) (arms : List Arm) → ArmsFit m a n arms → ArmsFit m b n arms
  arms_fit n arms h = record {
    incoming = h.incoming;
    agree = λ i j x y at other from. one_value m.types m.parts a b leads x.val y.val (h.agree i j x y at other from);
  }

  switches : (on : Written) (cases : List Case) → Switches m a on cases → Switches m b on cases
  switches on cases h = record { integer = h.integer; types = λ k case at. leads case.val.ty on.ty (h.types k case at); distinct = h.distinct }

  callee : (w : Written) → IsCallee m a w → IsCallee m b w
  callee w h = record { pointer = h.pointer; of_type = of_type w h.of_type }

  fits_call : (call : Call) → FitsCall m a call → FitsCall m b call
  fits_call call h = record {
    callee = callee call.callee h.callee;
    args = record { many = h.args.many; types = λ k w at t param. leads w.ty t (h.args.types k w at t param) };
  }

  -- the rules of arms, of branches, of a `ret`, of a `select`, of a call, and of the parts of its callee
  abbrev Moves : ℕ → Func → Op → Type 0
  Moves n func o = (HasArms m a n o → HasArms m b n o) × (Branches m a o → Branches m b o)
      × (Returns m.types a func o → Returns m.types b func o) × (Selects m.types a o → Selects m.types b o)
      × (CallsAsWritten m a o → CallsAsWritten m b o) × (HasFittingCallee m a o → HasFittingCallee m b o)

  moves : (n : ℕ) (func : Func) (o : Op) → Moves n func o
  moves n func (op.Bin kind flagged x y) = (λ h. h, λ h. h, λ h. h, λ h. h, λ h. h, λ h. h)
  moves n func (op.Icmp pred flagged x y) = (λ h. h, λ h. h, λ h. h, λ h. h, λ h. h, λ h. h)
  moves n func (op.Cast kind flagged x) = (λ h. h, λ h. h, λ h. h, λ h. h, λ h. h, λ h. h)
  moves n func (op.Select c x y) = (λ h. h, λ h. h, λ h. h, λ h. (h.0, leads x.ty y.ty h.1), λ h. h, λ h. h)
  moves n func (op.Freeze x) = (λ h. h, λ h. h, λ h. h, λ h. h, λ h. h, λ h. h)
  moves n func (op.Phi arms) = (λ h. arms_fit n arms h, λ h. h, λ h. h, λ h. h, λ h. h, λ h. h)
  moves n func (op.Alloca ty count align) = (λ h. h, λ h. h, λ h. h, λ h. h, λ h. h, λ h. h)
  moves n func (op.Load ptr align volatile) = (λ h. h, λ h. h, λ h. h, λ h. h, λ h. h, λ h. h)
  moves n func (op.Store val ptr align volatile) = (λ h. h, λ h. h, λ h. h, λ h. h, λ h. h, λ h. h)
  moves n func (op.Gep elem base indices inbounds wrap) = (λ h. h, λ h. h, λ h. h, λ h. h, λ h. h, λ h. h)
  moves n func (op.Call call) =
      (λ h. h, λ h. h, λ h. h, λ h. h, λ h. fits_call call h, λ h. inside m.types m.parts a b leads constant.Fitting call.callee h)
  moves n func (op.Invoke call normal unwind) =
      (λ h. h, λ h. h, λ h. h, λ h. h, λ h. fits_call call h, λ h. inside m.types m.parts a b leads constant.Fitting call.callee h)
  moves n func (op.LandingPad catch_all clauses) = (λ h. h, λ h. h, λ h. h, λ h. h, λ h. h, λ h. h)
  moves n func (op.Resume val) = (λ h. h, λ h. h, λ h. h, λ h. h, λ h. h, λ h. h)
  moves n func (op.Ret None) = (λ h. h, λ h. h, λ h. h, λ h. h, λ h. h, λ h. h)
  moves n func (op.Ret (Some val)) = (λ h. h, λ h. h, λ h. leads val.ty func.ret h, λ h. h, λ h. h, λ h. h)
  moves n func (op.Jump to) = (λ h. h, λ h. h, λ h. h, λ h. h, λ h. h, λ h. h)
  moves n func (op.Branch c so otherwise) = (λ h. h, λ h. h, λ h. h, λ h. h, λ h. h, λ h. h)
  moves n func (op.Switch on other cases) = (λ h. h, λ h. switches on cases h, λ h. h, λ h. h, λ h. h, λ h. h)
  moves n func op.Unreachable = (λ h. h, λ h. h, λ h. h, λ h. h, λ h. h, λ h. h)

  -- ---- instructions

  pub instr_keeps : (p : Placed) (r : Rule) → OfInstr m a p r → OfInstr m b p r
  instr_keeps p rule.V1 h = record {
    result = h.result;
    operands = λ k w at. scalar_operand m.types m.parts a b leads (site_of p.instr.op k) w (h.operands k w at);
  }
  instr_keeps p rule.V2 h = record { type = h.type; constants = each constant.Sized (operands p.instr.op) h.constants }
  instr_keeps p rule.V3 h = h
  instr_keeps p rule.V4 h = h
  instr_keeps p rule.V5 h = h
  instr_keeps p rule.V6 h = (moves p.seg.block.0 p.func p.instr.op).0 h
  instr_keeps p rule.V7 h = record {
    operands = record {
      operands = λ k w at. fits w (h.operands.operands k w at);
      callee = (moves p.seg.block.0 p.func p.instr.op).5 h.operands.callee;
    };
    name = h.name;
  }
  instr_keeps p rule.V8 h = h
  instr_keeps p rule.V9 h = h
  instr_keeps p rule.V10 h = h
  instr_keeps p rule.V11 h = record { indices = h.indices; constants = each constant.Indexed (operands p.instr.op) h.constants }
  instr_keeps p rule.V12 h = (moves p.seg.block.0 p.func p.instr.op).1 h
  instr_keeps p rule.V13 h = (moves p.seg.block.0 p.func p.instr.op).2 h
  instr_keeps p rule.V14 h = (moves p.seg.block.0 p.func p.instr.op).3 h
  instr_keeps p rule.V15 h = (moves p.seg.block.0 p.func p.instr.op).4 h
  instr_keeps p rule.V16 h = h
  instr_keeps p rule.V17 h = each constant.InRange (operands p.instr.op) h
  instr_keeps p rule.V18 h = h
  instr_keeps p rule.V19 h = h
  instr_keeps p rule.V20 h = h
  instr_keeps p rule.V21 h = h
