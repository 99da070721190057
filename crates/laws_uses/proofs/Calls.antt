-- Calls: what a frame knows that begins, and what comes back to the frame under one that returns.
use Rattle.std.proofs.Common.{◌≡◌, ℕ, zero, suc, ◌+◌, ◌++◌, ◌<◌, Bool, true, false, if◌then◌else◌, List, [], ◌∷◌, slice_get, MatchOption, Option, None, Some}
use Rattle.std.proofs.Common.{refl, sym, ap, subst, ◌∙◌, ◌⊎◌, inl, inr, arith}
use Rattle.shelf.proofs.Every.{every_at, every_mapped}
use Rattle.std.specs.List.{AllByRecursion, list_all}
use Rattle.attr_ids.specs.declared.ids.TypeId.{TypeId}
use Rattle.attr_ids.specs.declared.ids.ValueId.{ValueId}
use Rattle.ir_types.specs.declared.ir_type.IrType.{IrType}
use Rattle.ir_types.specs.declared.ir_type.IrType.TheVariants as type
use Rattle.ir_module.specs.declared.attrs.ParamAttrs.{ParamAttrs}
use Rattle.ir_module.specs.declared.op.Call.{Call}
use Rattle.ir_module.specs.declared.op.Op.{Op}
use Rattle.ir_module.specs.declared.op.Op.TheVariants as op
use Rattle.ir_module.specs.declared.op.Operand.TheVariants as operand
use Rattle.ir_module.specs.declared.op.Instr.{Instr}
use Rattle.ir_module.specs.declared.op.Written.{Written}
use Rattle.ir_module.specs.declared.module.Func.{Func}
use Rattle.ir_module.specs.declared.module.Param.{Param}
use Rattle.ir_module.specs.declared.module.Module.{Module}
use Rattle.ir_module.specs.Places.{instr_at}
use Rattle.ir_module.specs.Operands.{operands}
use Rattle.ir_module.specs.Calls.{call_of, inner_callee}
use Rattle.facts.specs.Kinds.{Access, UseFact, NotReturned}
use Rattle.facts.specs.Bodies.{is_pointer, param_in, param_of}
use Rattle.facts.specs.Facts.{Fact, dead_at, used_so}
use Rattle.facts.specs.Uses.{ArgUsed, CallResultUsed, ParamUsed, PassedUsed, Permits, is_phi}
use Rattle.ir_machine.specs.declared.choice.Byte.{Byte}
use Rattle.ir_machine.specs.declared.choice.Byte.TheVariants as byte
use Rattle.ir_machine.specs.declared.choice.Datum.TheVariants as datum
use Rattle.ir_machine.specs.declared.choice.Mark.{Mark}
use Rattle.ir_machine.specs.declared.choice.Value.{Value}
use Rattle.ir_machine.specs.Values.{carried, marked}
use Rattle.ir_machine.specs.Memory.{Memory}
use Rattle.ir_machine.specs.Frames.{active, BodyFrame, OutsideFrame, Frame, Body, Outside, call_of as call_in, State}
use Rattle.ir_machine.specs.Moves.{Gives}
use Rattle.ir_machine.specs.Reading.{is_pointer as is_ptr_type, is_pointer_in, type_of}
use Rattle.ir_machine.specs.Calls.{marked_at, marked_args, becomes_poison, is_dereferenceable, poisoned, acted_on, entered, bound, params_in, params_of}
use Rattle.ir_machine.specs.Calls.{Passing, passed_to}
use Rattle.ir_machine.specs.Arguments.{Homes, IsValueOf, IsPassed, ArePassed, IsPassedBy}
use Rattle.ir_machine.specs.Links.{CallsBody}
use Rattle.ir_machine.specs.Valid.{scope_of, Known, IsByteOf, AllAre, AreOrdered}
use Rattle.ir_machine.proofs.Basics.{OnOutcome, on_with, on_needs, given, put_at}
use Rattle.law_premises.specs.Premises.{JustifiesItself}
use Rattle.laws_uses.proofs.Marks.{mark, Marked, Has, HasMarksOf, IsFrom, unmarked, same_origins, from_more, marked_keeps, marked_has, marked_back, mark_known}
use Rattle.laws_uses.proofs.Levels.{kind_of, Level, level_less, param_used}
use Rattle.laws_uses.proofs.Sealed.{IsSecret, Promises, Guarded, IsSafe, ValuesCame, ArgumentsCame, IsSealedIn, Owns, IsClean, ForSecrets, KeptOf, BeginsWell}
use Rattle.laws_uses.proofs.Using.{guarded_more, own_permits}

-- ---- types

-- the machine and the facts say alike which types are pointers
pub same_pointer : (m : Module) (ty : TypeId) → is_ptr_type m ty ≡ is_pointer m ty
same_pointer m ty = by (type_of m ty) refl
  where
    by : (found : Option IrType) → type_of m ty ≡ found → is_ptr_type m ty ≡ is_pointer m ty
    by None e = subst (λ found. is_pointer_in found ≡ is_pointer m ty) (sym e) (subst (λ found. false ≡ Rattle.facts.specs.Bodies.is_ptr found) (sym e) refl)
    by (Some t) e = subst (λ found. is_pointer_in found ≡ is_pointer m ty) (sym e)
        (subst (λ found. is_pointer_in (Some t) ≡ Rattle.facts.specs.Bodies.is_ptr found) (sym e) (each t))
      where
        each : (t : IrType) → is_pointer_in (Some t) ≡ Rattle.facts.specs.Bodies.is_ptr (Some t)
        each (type.Int width) = refl
        each type.Ptr = refl
        each (type.Struct fields packed) = refl
        each type.Void = refl
        each (type.Array n elem) = refl
        each type.Opaque = refl

-- ---- arguments as they are passed

pub passed_from : (m : Module) (call k : ℕ) (tys : List TypeId) (xs : List Value) (i : ℕ) (x : Value) → slice_get (marked_args m call k tys xs) i ≡ Some x →
    (ty : TypeId) × (y : Value) × (slice_get tys i ≡ Some ty) × (slice_get xs i ≡ Some y) × (x ≡ marked_at m call (k + i) ty y)
passed_from m call k [] xs i x e = absurd (cc)
passed_from m call k (ty ∷ tys) [] i x e = absurd (cc)
passed_from m call k (ty ∷ tys) (y ∷ xs) zero x e =
    let is : x ≡ marked_at m call k ty y = cc in (ty, y, refl, refl, is ∙ ap (λ n. marked_at m call n ty y) (omega arith))
passed_from m call k (ty ∷ tys) (y ∷ xs) (suc i) x e =
    let later = passed_from m call (k + 1) tys xs i x e in
    (later.0, later.1, later.2, later.3, later.4 ∙ ap (λ n. marked_at m call n later.0 later.1) (omega arith))

-- argument k of a call as it was passed, and the value that was passed
pub record IsArgument (m : Module) (call : ℕ) (tys : List TypeId) (xs : List Value) (k : ℕ) (x : Value) : Type 0 where
  pub ty : TypeId
  pub value : Value
  pub at_ty : slice_get tys k ≡ Some ty
  pub at_value : slice_get xs k ≡ Some value
  pub more : HasMarksOf value x
  pub back : (c j : ℕ) → Has c j x → Has c j value ⊎ (mark call k ≡ mark c j)
  pub own : (x.origins ≡ []) ⊎ Has call k x

pub argument_of : (m : Module) (call : ℕ) (tys : List TypeId) (xs : List Value) (k : ℕ) (x : Value) → slice_get (marked_args m call 0 tys xs) k ≡ Some x →
    ((ty : TypeId) → slice_get tys k ≡ Some ty → is_pointer m ty ≡ false → x.origins ≡ []) → IsArgument m call tys xs k x
argument_of m call tys xs k x at pointers =
    let found = passed_from m call 0 tys xs k x at in
    let marked_is : x ≡ marked_at m call k found.0 found.1 = found.4 ∙ ap (λ n. marked_at m call n found.0 found.1) (omega arith) in
    by found.0 found.1 found.2 found.3 marked_is (is_ptr_type m found.0) refl
  where
    by : (ty : TypeId) (y : Value) → slice_get tys k ≡ Some ty → slice_get xs k ≡ Some y → x ≡ marked_at m call k ty y → (b : Bool) → is_ptr_type m ty ≡ b →
        IsArgument m call tys xs k x
    by ty y at_ty at_y is true e =
        let exact : x ≡ marked (mark call k) y = subst (λ b. x ≡ (if b then marked (mark call k) y else y)) e is in record {
          ty = ty;
          value = y;
          at_ty = at_ty;
          at_value = at_y;
          more = subst (HasMarksOf y) (sym exact) (marked_keeps (mark call k) y);
          back = λ c j has. marked_back (mark call k) y c j (subst (Has c j) exact has);
          own = inr (subst (Has call k) (sym exact) (marked_has call k y));
        }
    by ty y at_ty at_y is false e =
        let exact : x ≡ y = subst (λ b. x ≡ (if b then marked (mark call k) y else y)) e is in record {
          ty = ty;
          value = y;
          at_ty = at_ty;
          at_value = at_y;
          more = subst (HasMarksOf y) (sym exact) (λ c j has. has);
          back = λ c j has. inl (subst (Has c j) exact has);
          own = inl (pointers ty at_ty (sym (same_pointer m ty) ∙ e));
        }

-- ---- parameters of a body that begins

acted_origins : (mem : Memory) (attrs : List ParamAttrs) (x : Value) → OnOutcome (λ (y : Value). y.origins ≡ x.origins) (acted_on mem attrs x)
acted_origins mem attrs x =
    on_needs (λ (y : Value). y.origins ≡ x.origins) (list_all (λ a. is_dereferenceable mem a.dereferenceable (poisoned mem attrs x).datum) attrs)
    (Gives (poisoned mem attrs x)) (λ _. by (becomes_poison mem attrs x.datum))
  where
    by : (b : Bool) → (if b then carried x datum.Poison else x).origins ≡ x.origins
    by true = refl
    by false = refl

-- what written attributes make of a value keeps its origins
pub acted_keeps : (mem : Memory) (attrs : List ParamAttrs) (x y : Value) → acted_on mem attrs x ≡ Gives y → y.origins ≡ x.origins
acted_keeps mem attrs x y e = given (λ (y : Value). y.origins ≡ x.origins) (acted_on mem attrs x) y (acted_origins mem attrs x) e

-- value v of a body that begins is a parameter, with the origins of its argument
abbrev IsBoundFrom : List Param → List Value → ℕ → Value → Type 0
IsBoundFrom params xs v y = (i : ℕ) × (p : Param) × (x : Value) × (slice_get params i ≡ Some p) × (p.value.0 ≡ v) × (slice_get xs i ≡ Some x) ×
    (y.origins ≡ x.origins)

bound_given : (mem : Memory) (params : List Param) (xs : List Value) →
    OnOutcome (λ args. (v : ℕ) (y : Value) → bound params args v ≡ Some y → IsBoundFrom params xs v y) (entered mem params xs)
bound_given mem [] xs = λ v y e. absurd (cc)
bound_given mem (p ∷ params) [] = tt
bound_given mem (p ∷ params) (x ∷ xs) =
    on_with (λ args. (v : ℕ) (y : Value) → bound (p ∷ params) args v ≡ Some y → IsBoundFrom (p ∷ params) (x ∷ xs) v y) (acted_on mem (p.attrs ∷ []) x) _
    (λ z acted. on_with (λ args. (v : ℕ) (y : Value) → bound (p ∷ params) args v ≡ Some y → IsBoundFrom (p ∷ params) (x ∷ xs) v y)
    (entered mem params xs) _ (λ zs rest v y.
    put_at (λ o. o ≡ Some y → IsBoundFrom (p ∷ params) (x ∷ xs) v y) p.value.0 (Some z) (bound params zs) v
    (λ same is. let one : z ≡ y = cc in
    (0, p, x, refl, sym same, refl, subst (λ (y : Value). y.origins ≡ x.origins) one (acted_keeps mem (p.attrs ∷ []) x z acted)))
    (λ other is.
    let later = given (λ args. (v : ℕ) (y : Value) → bound params args v ≡ Some y → IsBoundFrom params xs v y) (entered mem params xs) zs
    (bound_given mem params xs) rest v y is in
    (suc later.0, later.1, later.2, later.3, later.4, later.5, later.6))))

pub bound_from : (mem : Memory) (params : List Param) (xs args : List Value) → entered mem params xs ≡ Gives args → (v : ℕ) (y : Value) →
    bound params args v ≡ Some y → IsBoundFrom params xs v y
bound_from mem params xs args e =
    given (λ args. (v : ℕ) (y : Value) → bound params args v ≡ Some y → IsBoundFrom params xs v y) (entered mem params xs) args (bound_given mem params xs) e

param_at : (m : Module) (f i : ℕ) (p : Param) → slice_get (params_of m f) i ≡ Some p → param_of m f i ≡ Some p
param_at m f i p e = by (slice_get m.funcs f) e
  where
    by : (found : Option Func) → slice_get (params_in found) i ≡ Some p → param_in i found ≡ Some p
    by None e = absurd (cc)
    by (Some func) e = e

-- ---- numbers

-- a frame of the stack has a smaller number than the next call
pub below_next : (born : ℕ → ℕ) (next most : ℕ) (above : List Frame) (frame : BodyFrame) (below : List Frame) →
    AreOrdered born next most (above ++ (Body frame ∷ below)) → frame.call.number < next
below_next born next most [] frame below order = order.0
below_next born next most (top ∷ above) frame below order =
    let less = below_next born (call_in top).number (call_in top).born above frame below order.3 in
    let first : (call_in top).number < next = order.0 in
    omega (arith, less, first)

-- nothing has a mark yet of the next call
pub fresh : (t : State) (x : Value) (j : ℕ) → Known (scope_of t) x → Has t.next_call j x → ⊥
fresh t x j known has = let less : t.next_call < t.next_call = (mark_known (scope_of t) x t.next_call j known has).0 in omega (arith, less)

-- ---- a frame that begins

module _ (m : Module) (held : Fact → Bool) (access : Option Access) (t : State) (all : AllAre (Known (scope_of t)) t) (ordered :
    AreOrdered t.born t.next_call t.memory.count t.stack) (passing : Passing) (known : AllByRecursion (Known (scope_of t)) passing.values)
    (pointers : (k : ℕ) (x : Value) → slice_get (passed_to m t passing) k ≡ Some x → (ty : TypeId) → slice_get passing.tys k ≡ Some ty →
    is_pointer m ty ≡ false → x.origins ≡ []) where
  -- what is asked of the values that are passed
  abbrev pub CameUnder : List Frame → ℕ → ℕ → Value → Type 0
  CameUnder [] c j y = Unit {0}
  CameUnder (under ∷ frames) c j y = IsFrom (call_in under) c j y

  abbrev pub ArePassedWell : Frame → Type 0
  ArePassedWell frame = ForSecrets m held access t.stack (λ above low j. (k : ℕ) (y : Value) → slice_get passing.values k ≡ Some y →
      Has low.call.number j y → (IsSafe m held access frame k ⊎ Guarded m held access above y) × CameUnder above low.call.number j y)

  arg : (k : ℕ) (x : Value) → slice_get (passed_to m t passing) k ≡ Some x → IsArgument m t.next_call passing.tys passing.values k x
  arg k x at = argument_of m t.next_call passing.tys passing.values k x at (pointers k x at)

  own_mark : (k : ℕ) (x : Value) → slice_get (passed_to m t passing) k ≡ Some x → (c j : ℕ) → Has c j x → Has t.next_call k x
  own_mark k x at c j has =
      elim (arg k x at).own [
        | inl none ↦ absurd (unmarked c j x.origins none has)
        | inr own ↦ own
      ]

  new_clean : (j : ℕ) → IsClean m held access t t.next_call j
  new_clean j = record {
    bytes = λ b at. clean_byte (t.memory.bytes b at) (all.bytes b at);
    kept = every_mapped (Known (scope_of t)) (λ x. Has t.next_call j x → ⊥) t.kept (λ x known. fresh t x j known) all.kept;
  }
    where
      clean_byte : (b : Byte) → IsByteOf (Known (scope_of t)) b → IsByteOf (λ x. Has t.next_call j x → ⊥) b
      clean_byte (byte.Number n) is = tt
      clean_byte byte.Undef is = tt
      clean_byte byte.Poison is = tt
      clean_byte (byte.Fragment k x) is = fresh t x j is

  -- an argument that has the mark of an older call was passed with it
  older_back : (above : List Frame) (low : BodyFrame) (below : List Frame) → t.stack ≡ above ++ (Body low ∷ below) → (j k : ℕ) (x : Value) →
      (a : IsArgument m t.next_call passing.tys passing.values k x) → Has low.call.number j x → Has low.call.number j a.value
  older_back above low below e j k x a has =
      elim (a.back low.call.number j has) [
        | inl mine ↦ mine
        | inr new ↦
            let same : t.next_call ≡ low.call.number = ap (λ (k : Mark). k.call) new in
            let less : low.call.number < t.next_call =
            below_next t.born t.next_call t.memory.count above low below (subst (AreOrdered t.born t.next_call t.memory.count) e ordered) in
            absurd (omega (arith, same, less))
      ]

  -- the arguments of the new frame are sealed
  seal : (frame : Frame) → (call_in frame).number ≡ t.next_call → (call_in frame).passed ≡ passed_to m t passing → ArePassedWell frame →
      ((c j : ℕ) → ValuesCame m held access frame c j) →
      ForSecrets m held access t.stack (λ above low j. IsSealedIn m held access above frame low.call.number j)
  seal frame number passed well values above low below e j secret = record {
    arguments = λ k x at has.
        let a = arg k x (subst (λ xs. slice_get xs k ≡ Some x) passed at) in
        let back = older_back above low below e j k x a has in
        elim (well above low below e j secret k a.value a.at_value back).0 [
          | inl safe ↦ inl safe
          | inr guarded ↦ inr (guarded_more m held access above a.value x a.more guarded)
        ];
    passed = came above (λ k y at has. (well above low below e j secret k y at has).1);
    values = values low.call.number j;
  }
    where
      came : (frames : List Frame) → ((k : ℕ) (y : Value) → slice_get passing.values k ≡ Some y → Has low.call.number j y →
          CameUnder frames low.call.number j y) →
          ArgumentsCame m held access frames (call_in frame) low.call.number j
      came [] each = tt
      came (under ∷ frames) each = λ k x at has.
          let a = arg k x (subst (λ xs. slice_get xs k ≡ Some x) passed at) in
          from_more (call_in under) low.call.number j a.value x a.more (each k a.value a.at_value (older_back above low below e j k x a has))

  -- a body begins
  pub body_begins : (f : ℕ) (args : List Value) (frame : BodyFrame) → frame.call.number ≡ t.next_call → frame.call.passed ≡ passed_to m t passing →
      frame.func ≡ f → frame.values ≡ bound (params_of m f) args → entered t.memory (params_of m f) (passed_to m t passing) ≡ Gives args →
      ArePassedWell (Body frame) → BeginsWell m held access t (Body frame)
  body_begins f args frame number passed func values enters well = record {
    own = λ j u secret v y is has.
        let from = bound_from t.memory (params_of m f) (passed_to m t passing) args enters v y (subst (λ values. values v ≡ Some y) values is) in
        let has_x : Has t.next_call j from.2 = subst (Marked t.next_call j) from.6 (subst (λ n. Has n j y) number has) in
        let a = arg from.0 from.2 from.5 in
        elim (a.back t.next_call j has_x) [
          | inl old ↦ absurd (fresh t a.value j (every_at (Known (scope_of t)) passing.values from.0 a.value known a.at_value) old)
          | inr new ↦
              let place : from.0 ≡ j = ap (λ (k : Mark). k.param) new in
              let param : param_of m f j ≡ Some from.1 = subst (λ i. param_of m f i ≡ Some from.1) place (param_at m f from.0 from.1 from.3) in
              let same : secret.0 ≡ from.1 = some_is (sym (subst (λ f. param_of m f j ≡ Some secret.0) func secret.1) ∙ param) in
              subst (λ v. Level held access u v) from.4 (subst (λ (p : Param). Level held access u p.value.0) same secret.2)
        ];
    new = λ j. subst (λ n. IsClean m held access t n j) (sym number) (new_clean j);
    seals = seal (Body frame) number passed well came;
  }
    where
      some_is : {a b : Param} → Some a ≡ Some b → a ≡ b
      some_is e = cc

      came : (c j : ℕ) → ValuesCame m held access (Body frame) c j
      came c j v y is has =
          let from = bound_from t.memory (params_of m f) (passed_to m t passing) args enters v y (subst (λ values. values v ≡ Some y) values is) in
          let has_x : Has c j from.2 = subst (Marked c j) from.6 has in record {
            at = from.0;
            argument = from.2;
            passed = subst (λ xs. slice_get xs from.0 ≡ Some from.2) (sym passed) from.5;
            has = has_x;
            own = subst (λ n. Has n from.0 y) (sym number) (subst (Marked t.next_call from.0) (sym from.6) (own_mark from.0 from.2 from.5 c j has_x));
            marks = same_origins from.2 y from.6;
          }

  -- an outer call begins
  pub outside_begins : (frame : OutsideFrame) → frame.call.number ≡ t.next_call → frame.call.passed ≡ passed_to m t passing →
      frame.hand ≡ passed_to m t passing → ArePassedWell (Outside frame) → BeginsWell m held access t (Outside frame)
  outside_begins frame number passed hand well = record {
    own = tt;
    new = tt;
    seals = seal (Outside frame) number passed well (λ c j. subst (AllByRecursion (λ y. Has c j y → IsFrom frame.call c j y)) (sym hand)
        (each c j (passed_to m t passing) 0 (λ k x at. subst (λ n. slice_get (passed_to m t passing) n ≡ Some x) (omega arith) at)));
  }
    where
      each : (c j : ℕ) (xs : List Value) (from : ℕ) → ((k : ℕ) (x : Value) → slice_get xs k ≡ Some x → slice_get (passed_to m t passing) (from + k) ≡ Some x) →
          AllByRecursion (λ y. Has c j y → IsFrom frame.call c j y) xs
      each c j [] from at = tt
      each c j (x ∷ xs) from at = (
        (λ has.
            let here : slice_get (passed_to m t passing) from ≡ Some x = subst (λ n. slice_get (passed_to m t passing) n ≡ Some x) (omega arith) (at 0 x refl)
            in
            record {
              at = from;
              argument = x;
              passed = subst (λ xs. slice_get xs from ≡ Some x) (sym passed) here;
              has = has;
              own = subst (λ n. Has n from x) (sym number) (own_mark from x here c j has);
              marks = λ d i has. has;
            }),
        each c j xs (from + 1) (λ k y e. subst (λ n. slice_get (passed_to m t passing) n ≡ Some y) (omega arith) (at (suc k) y e)),
      )

-- ---- a frame that returns

-- an operand of a call, by its place among the arguments
pub argument_operand : (o : Op) (call : Call) (k : ℕ) (w : Written) → call_of o ≡ Some call → slice_get call.args k ≡ Some w →
    slice_get (operands o) (suc k) ≡ Some w
argument_operand (op.Call c) call k w is at = let same : c ≡ call = cc in subst (λ (c : Call). slice_get c.args k ≡ Some w) (sym same) at
argument_operand (op.Invoke c normal unwind) call k w is at = let same : c ≡ call = cc in subst (λ (c : Call). slice_get c.args k ≡ Some w) (sym same) at
argument_operand _ call k w is at = absurd (cc)

pub call_is_plain : (o : Op) (call : Call) → call_of o ≡ Some call → is_phi o ≡ false
call_is_plain (op.Call c) call is = refl
call_is_plain (op.Invoke c normal unwind) call is = refl
call_is_plain _ call is = absurd (cc)

-- what is permitted of an argument, by what is called
pub argument_permits : (m : Module) (held : Fact → Bool) (kind : UseFact) (instr : Instr) (o : Op) (call : Call) (k : ℕ) → call_of o ≡ Some call →
    Permits m held kind instr o (suc k) → PassedUsed m held kind instr k
argument_permits m held kind instr (op.Call c) call k is permits = permits
argument_permits m held kind instr (op.Invoke c normal unwind) call k is permits = permits
argument_permits m held kind instr _ call k is permits = absurd (cc)

pub inner_argument : (m : Module) (held : Fact → Bool) (kind : UseFact) (instr : Instr) (k f : ℕ) → inner_callee m instr.op ≡ Some f →
    PassedUsed m held kind instr k → (p : Param) × (param_of m f k ≡ Some p) × ParamUsed m held kind instr p
inner_argument m held kind instr k f inner used =
    by (param_of m f k) refl
    (subst (λ found. MatchOption found (ArgUsed m kind k instr.op) (λ g. MatchOption (param_of m g k) ⊥ (λ p. ParamUsed m held kind instr p))) inner used)
  where
    by : (found : Option Param) → param_of m f k ≡ found → MatchOption found ⊥ (λ p. ParamUsed m held kind instr p) →
        (p : Param) × (param_of m f k ≡ Some p) × ParamUsed m held kind instr p
    by None e none = absurd none
    by (Some p) e param = (p, e, param)

pub outer_argument : (m : Module) (held : Fact → Bool) (kind : UseFact) (instr : Instr) (k : ℕ) → inner_callee m instr.op ≡ None →
    PassedUsed m held kind instr k → ArgUsed m kind k instr.op
outer_argument m held kind instr k inner used =
    subst (λ found. MatchOption found (ArgUsed m kind k instr.op) (λ g. MatchOption (param_of m g k) ⊥ (λ p. ParamUsed m held kind instr p))) inner used

-- argument number i of those that were passed is the value of an operand
pub passed_value : (home : Homes) (values : ℕ → Option Value) (call k : ℕ) (ws : List Written) (xs : List Value) → ArePassed home values call k ws xs →
    (i : ℕ) (x : Value) → slice_get xs i ≡ Some x → (w : Written) × (slice_get ws i ≡ Some w) × IsPassed home values call (k + i) w x
passed_value home values call k ws [] are i x at = absurd (cc)
passed_value home values call k [] (y ∷ xs) are i x at = absurd are
passed_value home values call k (w ∷ ws) (y ∷ xs) are zero x at =
    let same : y ≡ x = cc in
    (w, refl, subst (λ n. IsPassed home values call n w x) (omega arith) (subst (IsPassed home values call k w) same are.0))
passed_value home values call k (w ∷ ws) (y ∷ xs) are (suc i) x at =
    let later = passed_value home values call (k + 1) ws xs are.1 i x at in
    (later.0, later.1, subst (λ n. IsPassed home values call n later.0 x) (omega arith) later.2)

module _ (m : Module) (held : Fact → Bool) (is : JustifiesItself m held) (access : Option Access) (t : State) (top : Frame) (x : Value) where
  -- the frame that returns has let go what it must not return
  abbrev pub Released : Frame → Type 0
  Released (Body f) = (k : ℕ) → IsSecret m held access f k true → Has f.call.number k x → ⊥
  Released (Outside f) = (k : ℕ) → Promises m held access f.call k → Has f.call.number k x → ⊥

  -- what it returns came into it as an argument
  abbrev pub ReturnsFrom : List Frame → Type 0
  ReturnsFrom rest = ForSecrets m held access rest (λ above low j. Has low.call.number j x → IsFrom (call_in top) low.call.number j x)

  -- so it came into the frame under it
  pub came_through : (under : Frame) (rest : List Frame) → ForSecrets m held access (top ∷ under ∷ rest) (KeptOf m held access t) →
      ReturnsFrom (under ∷ rest) →
      ForSecrets m held access rest (λ above low j. Has low.call.number j x → IsFrom (call_in under) low.call.number j x)
  came_through under rest kept returns above low below e j secret has =
      let came = returns (under ∷ above) low below (ap (λ l. under ∷ l) e) j secret has in
      let sealed = (kept (top ∷ under ∷ above) low below (ap (λ l. top ∷ under ∷ l) e) j secret).0.0 in
      from_more (call_in under) low.call.number j came.argument x came.marks (sealed.passed came.at came.argument came.passed came.has)

  module _ (under : BodyFrame) (rest : List Frame) (kept : ForSecrets m held access (top ∷ Body under ∷ rest) (KeptOf m held access t))
      (own : Owns m held access under under.values) (home : Homes) (passed : IsPassedBy m home (call_in top) under)
      (other : under.call.number < (call_in top).number)
      (instr : Instr) (at : instr_at m under.spot ≡ Some instr) (live : held (dead_at under.spot) ≡ false) (calls : CallsBody m (active top).body instr.op)
      (returns : ReturnsFrom (Body under ∷ rest)) (types : is_pointer m instr.ty ≡ false → x.origins ≡ []) where
    -- the value of the operand that was passed as argument k
    operand_value : (j k : ℕ) (argument : Value) → slice_get (call_in top).passed k ≡ Some argument → Has under.call.number j argument →
        (w : Written) × (y : Value) × (slice_get (operands instr.op) (suc k) ≡ Some w) × IsValueOf home under.values w.val y × Has under.call.number j y
    operand_value j k argument at_k has =
        let found = passed_value home under.values (call_in top).number 0 passed.written.args (call_in top).passed passed.args k argument at_k in
        let same : passed.instr ≡ instr = some_is (sym passed.stands ∙ at) in
        let call : call_of instr.op ≡ Some passed.written = subst (λ (i : Instr). call_of i.op ≡ Some passed.written) same passed.is_call in
        (found.0, found.2.value, argument_operand instr.op passed.written k found.0 call found.1, found.2.operand, back found.2.value found.2.is)
      where
        some_is : {a b : Instr} → Some a ≡ Some b → a ≡ b
        some_is e = cc

        back : (value : Value) → (argument ≡ value) ⊎ (argument ≡ marked (mark (call_in top).number (0 + k)) value) → Has under.call.number j value
        back value is =
            elim is [
              | inl same ↦ subst (Has under.call.number j) same has
              | inr marks ↦ elim (marked_back (mark (call_in top).number (0 + k)) value under.call.number j (subst (Has under.call.number j) marks has)) [
                | inl old ↦ old
                | inr new ↦ let same : (call_in top).number ≡ under.call.number = ap (λ (k : Mark). k.call) new in absurd (omega (arith, same, other))
              ]
            ]

    is_call : call_of instr.op ≡ Some passed.written
    is_call = subst (λ (i : Instr). call_of i.op ≡ Some passed.written) (some_is (sym passed.stands ∙ at)) passed.is_call
      where
        some_is : {a b : Instr} → Some a ≡ Some b → a ≡ b
        some_is e = cc

    used_result : (kind : UseFact) (r : ValueId) (j : ℕ) → Has under.call.number j x → instr.result ≡ Some r → CallResultUsed m held kind instr →
        held (used_so kind r.0) ≡ true
    used_result kind r j has result used = by (is_pointer m instr.ty) refl
      where
        by : (b : Bool) → is_pointer m instr.ty ≡ b → held (used_so kind r.0) ≡ true
        by true e = subst (λ found. MatchOption found ⊥ (λ r. held (used_so kind r.0) ≡ true)) result (used e)
        by false e = absurd (unmarked under.call.number j x.origins (types e) has)

    -- the result has the fact, at the level of each parameter whose mark it has
    pub result_owned : Released top → (r : ValueId) → instr.result ≡ Some r → (j : ℕ) (u : Bool) → IsSecret m held access under j u →
        Has under.call.number j x → Level held access u r.0
    result_owned released r result j u secret has =
        let low : IsSecret m held access under j false = (secret.0, secret.1, less u secret.2) in
        let came = returns [] under rest refl j low has in
        let sealed = (kept (top ∷ []) under rest refl j low).0.0 in
        elim (sealed.arguments came.at came.argument came.passed came.has) [
          | inl safe ↦ by_top top refl came safe
          | inr guarded ↦ absurd guarded
        ]
      where
        less : (u : Bool) → Level held access u secret.0.value.0 → Level held access false secret.0.value.0
        less u level = level_less held access u secret.0.value.0 level

        by_top : (frame : Frame) → top ≡ frame → (came : IsFrom (call_in top) under.call.number j x) → IsSafe m held access frame came.at →
            Level held access u r.0
        by_top (Outside f) e came safe =
            absurd ((subst Released e released) came.at safe (subst (λ f. Has (call_in f).number came.at x) e came.own))
        by_top (Body f) e came safe = by_level u own_use.2
          where
            passed_as : (w : Written) × (y : Value) × (slice_get (operands instr.op) (suc came.at) ≡ Some w) × IsValueOf home under.values w.val y ×
                Has under.call.number j y
            passed_as = operand_value j came.at came.argument came.passed came.has

            own_use : (v : ValueId) × (passed_as.0.val ≡ operand.Value v) × Level held access u v.0 ×
                ((kind : UseFact) → held (used_so kind v.0) ≡ true → Permits m held kind instr instr.op (suc came.at))
            own_use = own_permits m held is access under under.values own instr at live instr.op refl (call_is_plain instr.op passed.written is_call)
                (suc came.at) passed_as.0 passed_as.1 home passed_as.2 passed_as.3 j u secret passed_as.4

            inner : inner_callee m instr.op ≡ Some f.func
            inner = sym (subst (λ f. CallsBody m (active f).body instr.op) e calls).1

            -- the parameter to which it was passed, which lets it out by its result alone
            param : (kind : UseFact) → held (used_so kind own_use.0.0) ≡ true → (p : Param) × (param_of m f.func came.at ≡ Some p) ×
                ParamUsed m held kind instr p
            param kind fact =
                inner_argument m held kind instr came.at f.func inner
                (argument_permits m held kind instr instr.op passed.written came.at is_call (own_use.3 kind fact))

            let_go : IsSecret m held access f came.at true → ⊥
            let_go whole = (subst Released e released) came.at whole (subst (λ f. Has (call_in f).number came.at x) e came.own)

            one_param : (p q : Param) → param_of m f.func came.at ≡ Some p → param_of m f.func came.at ≡ Some q → p ≡ q
            one_param p q at_p at_q = cc

            used : held (used_so (kind_of access) own_use.0.0) ≡ true → held (used_so (kind_of access) r.0) ≡ true
            used fact =
                let goes = param (kind_of access) fact in
                let both = param_used m held access instr goes.0 goes.2 in
                elim both.1 [
                  | inl stays ↦ absurd (let_go (goes.0, goes.1, (both.0, stays)))
                  | inr result_used ↦ used_result (kind_of access) r j has result result_used
                ]

            unreturned : held (used_so (kind_of access) own_use.0.0) ≡ true → held (used_so NotReturned own_use.0.0) ≡ true →
                held (used_so NotReturned r.0) ≡ true
            unreturned fact none =
                let goes = param (kind_of access) fact in
                let first = param_used m held access instr goes.0 goes.2 in
                let more = param NotReturned none in
                elim more.2 [
                  | inl stays ↦
                      absurd (let_go (
                        goes.0,
                        goes.1,
                        (first.0, subst (λ (p : Param). held (used_so NotReturned p.value.0) ≡ true) (one_param more.0 goes.0 more.1 goes.1) stays),
                      ))
                  | inr result_used ↦ used_result NotReturned r j has result result_used
                ]

            by_level : (u : Bool) → Level held access u own_use.0.0 → Level held access u r.0
            by_level false level = used level
            by_level true level = (used level.0, unreturned level.0 level.1)
