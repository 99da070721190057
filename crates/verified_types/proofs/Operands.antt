-- Operands and results have the types that are asked of them.
use Rattle.std.proofs.Common.{◌≡◌, ℕ, false, List, Option, None, Some, refl, sym, ap, subst, ◌∙◌}
use Rattle.attr_ids.specs.declared.ids.TypeId.{TypeId}
use Rattle.ir_ops.specs.declared.conversion.CastOp.{CastOp}
use Rattle.ir_ops.specs.declared.conversion.CastOp.TheVariants as cast
use Rattle.ir_module.specs.declared.op.Call.{Call}
use Rattle.ir_module.specs.declared.op.Op.{Op}
use Rattle.ir_module.specs.declared.op.Op.TheVariants as op
use Rattle.ir_module.specs.declared.op.Operand.{Operand}
use Rattle.ir_module.specs.declared.op.Operand.TheVariants as operand
use Rattle.ir_module.specs.declared.op.Written.{Written}
use Rattle.ir_module.specs.declared.module.Func.{Func}
use Rattle.ir_module.specs.declared.module.Module.{Module}
use Rattle.ir_module.specs.Operands.{operands}
use Rattle.ir_module.specs.Calls.{call_of}
use Rattle.ir_operands.specs.Types.{type_of}
use Rattle.ir_operands.specs.Constants.{FitsKind}
use Rattle.ir_type_equality.specs.Numbers.{AreCanonical}
use Rattle.ir_rules.specs.Values.{HasTypeOf, FitsWritten, typed_in as listed_in, typed as listed}
use Rattle.ir_rules.specs.Operations.{IsOnIntegers, Converts, Casts, Returns, Selects, CallsAsWritten, IsPadPair}
use Rattle.facts.specs.Bodies.{is_pointer}
use Rattle.law_premises.specs.Types.{AreAlike, IsWrittenAs, typed_in, typed, GivesType, PassesTypes, ReturnsType}
use Rattle.verified_types.specs.Results.{WritesType}
use Rattle.verified_types.proofs.Alike.{pointer_is, integer_is_none, integer_of, narrower_is, pair_is_none, alike}

-- both lists of operands are one
same_list : (c : Option Call) (all : List Written) → typed_in c all ≡ listed_in c all
same_list None all = refl
same_list (Some call) all = refl

pub same_operands : (o : Op) → typed o ≡ listed o
same_operands o = same_list (call_of o) (operands o)

module _ (m : Module) (numbers : List ℕ) (canonical : AreCanonical m.types numbers) where
  written_by : (t : TypeId) (o : Operand) → HasTypeOf m numbers t o → FitsKind m.types numbers m.parts (type_of m.types t) o → IsWrittenAs m t o
  written_by t (operand.Value v) has fits = (has.0, has.1, alike m numbers canonical has.0.ty t has.2)
  written_by t (operand.Int bits here) has fits = integer_is_none (type_of m.types t) fits
  written_by t (operand.Truth value) has fits = integer_is_none (type_of m.types t) (integer_of 1 (type_of m.types t) fits)
  written_by t (operand.AnyInt first count) has fits = integer_is_none (type_of m.types t) fits
  written_by t operand.Null has fits = pointer_is (type_of m.types t) fits
  written_by t (operand.Global g) has fits = pointer_is (type_of m.types t) fits
  written_by t (operand.Func f) has fits = pointer_is (type_of m.types t) fits
  written_by t (operand.Offset base bytes inbounds wrap) has fits = pointer_is (type_of m.types t) fits
  written_by t operand.Zero has fits = tt
  written_by t operand.Undef has fits = tt
  written_by t operand.Poison has fits = tt
  written_by t (operand.WrongOffset broken) has fits = tt
  written_by t (operand.Parts shape first count) has fits = tt

  -- an operand that fits what is written for it has its type
  pub written_as : (w : Written) → FitsWritten m numbers w → IsWrittenAs m w.ty w.val
  written_as w fits = written_by w.ty w.val fits.value (fits.constant 0 w refl).1

  cast_gives : (kind : CastOp) (from to : TypeId) → Converts m.types kind from to → is_pointer m to ≡ false
  cast_gives cast.Trunc from to is = integer_is_none (type_of m.types to) (narrower_is (type_of m.types to) (type_of m.types from) is).0
  cast_gives cast.ZExt from to is = integer_is_none (type_of m.types to) (narrower_is (type_of m.types from) (type_of m.types to) is).1
  cast_gives cast.SExt from to is = integer_is_none (type_of m.types to) (narrower_is (type_of m.types from) (type_of m.types to) is).1
  cast_gives cast.PtrToInt from to is = integer_is_none (type_of m.types to) is.1

  -- the type that an operation writes is the one that it gives
  pub gives : (t : TypeId) (o : Op) → WritesType m t o → IsOnIntegers m.types o → Casts m.types t o → Selects m.types numbers o →
      IsPadPair m.types t o → GivesType m t o
  gives t (op.Bin kind flagged a b) writes on casts selects pad = ap (is_pointer m) (sym writes) ∙ integer_is_none (type_of m.types a.ty) on.0
  gives t (op.Icmp pred flagged a b) writes on casts selects pad = integer_is_none (type_of m.types t) (integer_of 1 (type_of m.types t) writes)
  gives t (op.Cast kind flagged a) writes on casts selects pad = cast_gives kind a.ty t casts
  gives t (op.Select c a b) writes on casts selects pad =
      let first : AreAlike m a.ty t = ap (is_pointer m) writes in
      (first, sym (alike m numbers canonical a.ty b.ty selects.1) ∙ first)
  gives t (op.Freeze a) writes on casts selects pad = ap (is_pointer m) writes
  gives t (op.Phi arms) writes on casts selects pad = λ k arm at. ap (is_pointer m) (writes k arm at)
  gives t (op.Alloca ty count align) writes on casts selects pad = pointer_is (type_of m.types t) writes
  gives t (op.Load ptr align volatile) writes on casts selects pad = tt
  gives t (op.Store val ptr align volatile) writes on casts selects pad = tt
  gives t (op.Gep elem base indices inbounds wrap) writes on casts selects pad = pointer_is (type_of m.types t) writes
  gives t (op.Call call) writes on casts selects pad = ap (is_pointer m) writes
  gives t (op.Invoke call normal unwind) writes on casts selects pad = ap (is_pointer m) writes
  gives t (op.LandingPad catch_all clauses) writes on casts selects pad = pair_is_none m.types (type_of m.types t) pad
  gives t (op.Resume val) writes on casts selects pad = tt
  gives t (op.Ret val) writes on casts selects pad = tt
  gives t (op.Jump to) writes on casts selects pad = tt
  gives t (op.Branch c so otherwise) writes on casts selects pad = tt
  gives t (op.Switch on_value other cases) writes on casts selects pad = tt
  gives t op.Unreachable writes on casts selects pad = tt

  -- a call passes what its function type says
  pub passes : (o : Op) (call : Call) → call_of o ≡ Some call → CallsAsWritten m numbers o → PassesTypes m call
  passes (op.Call other) call is fits =
      let same : other ≡ call = cc in
      subst (PassesTypes m) same (λ k w t at param. alike m numbers canonical w.ty t (fits.args.types k w at t param))
  passes (op.Invoke other normal unwind) call is fits =
      let same : other ≡ call = cc in
      subst (PassesTypes m) same (λ k w t at param. alike m numbers canonical w.ty t (fits.args.types k w at t param))
  passes (op.Bin kind flagged a b) call is fits = absurd (cc)
  passes (op.Icmp pred flagged a b) call is fits = absurd (cc)
  passes (op.Cast kind flagged a) call is fits = absurd (cc)
  passes (op.Select c a b) call is fits = absurd (cc)
  passes (op.Freeze a) call is fits = absurd (cc)
  passes (op.Phi arms) call is fits = absurd (cc)
  passes (op.Alloca ty count align) call is fits = absurd (cc)
  passes (op.Load ptr align volatile) call is fits = absurd (cc)
  passes (op.Store val ptr align volatile) call is fits = absurd (cc)
  passes (op.Gep elem base indices inbounds wrap) call is fits = absurd (cc)
  passes (op.LandingPad catch_all clauses) call is fits = absurd (cc)
  passes (op.Resume val) call is fits = absurd (cc)
  passes (op.Ret val) call is fits = absurd (cc)
  passes (op.Jump to) call is fits = absurd (cc)
  passes (op.Branch c so otherwise) call is fits = absurd (cc)
  passes (op.Switch on_value other cases) call is fits = absurd (cc)
  passes op.Unreachable call is fits = absurd (cc)

  -- a `ret` returns what its function does
  pub returns_type : (func : Func) (o : Op) → Returns m.types numbers func o → ReturnsType m func o
  returns_type func (op.Ret None) is = tt
  returns_type func (op.Ret (Some w)) is = alike m numbers canonical w.ty func.ret is
  returns_type func (op.Bin kind flagged a b) is = tt
  returns_type func (op.Icmp pred flagged a b) is = tt
  returns_type func (op.Cast kind flagged a) is = tt
  returns_type func (op.Select c a b) is = tt
  returns_type func (op.Freeze a) is = tt
  returns_type func (op.Phi arms) is = tt
  returns_type func (op.Alloca ty count align) is = tt
  returns_type func (op.Load ptr align volatile) is = tt
  returns_type func (op.Store val ptr align volatile) is = tt
  returns_type func (op.Gep elem base indices inbounds wrap) is = tt
  returns_type func (op.Call call) is = tt
  returns_type func (op.Invoke call normal unwind) is = tt
  returns_type func (op.LandingPad catch_all clauses) is = tt
  returns_type func (op.Resume val) is = tt
  returns_type func (op.Jump to) is = tt
  returns_type func (op.Branch c so otherwise) is = tt
  returns_type func (op.Switch on_value other cases) is = tt
  returns_type func op.Unreachable is = tt
