-- What is kept of each frame: its values are as their words say, its arguments are those that were passed, and those of a body
-- are not null where the word of the entry says so.
use Rattle.std.proofs.Common.{◌≡◌, ℕ, zero, suc, ◌+◌, ◌||◌, Bool, true, false, if◌then◌else◌, List, [], ◌∷◌, slice_get, map}
use Rattle.std.proofs.Common.{Option, None, Some, refl, sym, ap, subst, ◌∙◌, ◌⊎◌, inl, inr, MatchOption, true≢false}
use Rattle.std.specs.List.{AllByRecursion}
use Rattle.std.specs.Option.{option_map_or, option_and_then}
use Rattle.std.proofs.lemmas.Option.{same_Some}
use Rattle.shelf.proofs.Every.{every_at}
use Rattle.attr_ids.specs.declared.ids.TypeId.{TypeId}
use Rattle.attr_ids.specs.declared.ids.FuncId.{FuncId}
use Rattle.ir_module.specs.declared.op.Call.{Call}
use Rattle.ir_module.specs.declared.op.Instr.{Instr}
use Rattle.ir_module.specs.declared.op.Written.{Written}
use Rattle.ir_module.specs.declared.module.Func.{Func}
use Rattle.ir_module.specs.declared.module.Param.{Param}
use Rattle.ir_module.specs.declared.module.Spot.{Spot}
use Rattle.ir_module.specs.declared.module.Module.{Module}
use Rattle.ir_module.specs.Places.{instr_at}
use Rattle.ir_module.specs.Calls.{call_of, direct_callee, inner_callee, callee_in, is_inner, is_open}
use Rattle.ir_module.specs.WellFormed.{IsParamAt}
use Rattle.facts.specs.Bodies.{param_in, param_of}
use Rattle.facts.specs.Kinds.{ValueFact, SameAs, NonNull, AlignedTo, HasBytes, NotTo, UsedSo, Argument, class_bit}
use Rattle.facts.specs.Kinds.{value_fact}
use Rattle.facts.specs.Facts.{Fact, at_entry, dead_at}
use Rattle.facts.specs.Known.{written_has}
use Rattle.facts.specs.Promises.{gives_nonnull, gives_align, may_poison}
use Rattle.facts.specs.Entry.{EachPassed, EntryHas}
use Rattle.ir_machine.specs.declared.choice.Datum.TheVariants as datum
use Rattle.ir_machine.specs.declared.choice.Value.{Value}
use Rattle.ir_machine.specs.Values.{marked}
use Rattle.ir_machine.specs.Memory.{Memory}
use Rattle.ir_machine.specs.Frames.{At, BodyFrame, Frame, Body, Outside, call_of as call_in, State}
use Rattle.ir_machine.specs.Moves.{Gives}
use Rattle.ir_machine.specs.Reading.{Here, is_pointer as is_ptr_type}
use Rattle.ir_machine.specs.Calls.{Passing, marked_at, marked_args, passed_to, params_in, params_of, acted_on, entered, bound, body_frame}
use Rattle.ir_machine.specs.Meanings.{IsNonnull, PointsTo}
use Rattle.ir_machine.specs.Valid.{Scope, AreBlocks, IsLater, IsAmongFirst, Known, IsSomeOf, HasAll}
use Rattle.ir_machine.proofs.Basics.{OnOutcome, on_with, given, put_at}
use Rattle.ir_machine.proofs.Instructions.{IsRead, AreRead, passing_at}
use Rattle.law_premises.specs.Premises.{JustifiesItself}
use Rattle.law_premises.specs.Indices.{HasIndices}
use Rattle.laws_pointer.proofs.Placed.{IsPlaced}
use Rattle.laws_pointer.proofs.Good.{SaysAlone, alone, alone_later}
use Rattle.laws_pointer.proofs.Good.{Says, IsGood, word_of, class_fact, in_class, good_later, HasHomes, AreGood}
use Rattle.laws_pointer.proofs.Rules.{value_rule, acted, acted_may, operand_good}

-- ---- arguments as they are passed

pub passed_from : (m : Module) (call k : ℕ) (tys : List TypeId) (xs : List Value) (i : ℕ) (x : Value) → slice_get (marked_args m call k tys xs) i ≡ Some x →
    (y : Value) × (slice_get xs i ≡ Some y) × (x.datum ≡ y.datum)
passed_from m call k [] xs i x e = absurd (cc)
passed_from m call k (ty ∷ tys) [] i x e = absurd (cc)
passed_from m call k (ty ∷ tys) (y ∷ xs) zero x e = (y, refl, by (is_ptr_type m ty) (same_Some (marked_at m call k ty y) x e))
  where
    by : (b : Bool) → (if b then marked (record { call = call; param = k }) y else y) ≡ x → x.datum ≡ y.datum
    by true is = ap (λ (v : Value). v.datum) (sym is)
    by false is = ap (λ (v : Value). v.datum) (sym is)
passed_from m call k (ty ∷ tys) (y ∷ xs) (suc i) x e = passed_from m call (k + 1) tys xs i x e

passed_there : (m : Module) (call k : ℕ) (tys : List TypeId) (xs : List Value) (i : ℕ) (ty : TypeId) (x : Value) → slice_get tys i ≡ Some ty →
    slice_get xs i ≡ Some x → (y : Value) × (slice_get (marked_args m call k tys xs) i ≡ Some y)
passed_there m call k [] xs i ty x at_t at_x = absurd (cc)
passed_there m call k (t ∷ tys) [] i ty x at_t at_x = absurd (cc)
passed_there m call k (t ∷ tys) (y ∷ xs) zero ty x at_t at_x = (marked_at m call k t y, refl)
passed_there m call k (t ∷ tys) (y ∷ xs) (suc i) ty x at_t at_x = passed_there m call (k + 1) tys xs i ty x at_t at_x

pub read_at : (m : Module) (here : Here) (ws : List Written) (xs : List Value) (i : ℕ) (x : Value) → AreRead m here ws xs → slice_get xs i ≡ Some x →
    (w : Written) × (slice_get ws i ≡ Some w) × IsRead m here w x
read_at m here [] [] i x are at = absurd (cc)
read_at m here [] (y ∷ xs) i x are at = absurd are
read_at m here (w ∷ ws) [] i x are at = absurd are
read_at m here (w ∷ ws) (y ∷ xs) zero x are at = (w, refl, subst (IsRead m here w) (same_Some y x at) are.0)
read_at m here (w ∷ ws) (y ∷ xs) (suc i) x are at = read_at m here ws xs i x are.1 at

reads_there : (m : Module) (here : Here) (ws : List Written) (xs : List Value) (i : ℕ) (w : Written) → AreRead m here ws xs → slice_get ws i ≡ Some w →
    (x : Value) × (slice_get xs i ≡ Some x)
reads_there m here [] xs i w are at = absurd (cc)
reads_there m here (v ∷ ws) [] i w are at = absurd are
reads_there m here (v ∷ ws) (y ∷ xs) zero w are at = (y, refl)
reads_there m here (v ∷ ws) (y ∷ xs) (suc i) w are at = reads_there m here ws xs i w are.1 at

mapped_at : (ws : List Written) (i : ℕ) (w : Written) → slice_get ws i ≡ Some w → slice_get (map (λ (w : Written). w.ty) ws) i ≡ Some w.ty
mapped_at [] i w e = absurd (cc)
mapped_at (v ∷ ws) zero w e = ap (λ (w : Written). Some w.ty) (same_Some v w e)
mapped_at (v ∷ ws) (suc i) w e = mapped_at ws i w e

-- each operand of a call is passed
pub all_passed : (m : Module) (t : State) (here : Here) (call : Call) (xs : List Value) (i : ℕ) (w : Written) → AreRead m here call.args xs →
    slice_get call.args i ≡ Some w → (y : Value) × (slice_get (passed_to m t (passing_at here call xs)) i ≡ Some y)
all_passed m t here call xs i w are at =
    let there = reads_there m here call.args xs i w are at in
    passed_there m t.next_call 0 (map (λ (w : Written). w.ty) call.args) xs i w.ty there.0 (mapped_at call.args i w at) there.1

-- ---- parameters after the entry rule

-- parameter number `at` is what the attributes there make of the argument
pub record IsEntered (mem : Memory) (params : List Param) (xs : List Value) (at : ℕ) (y : Value) : Type 0 where
  pub param : Param
  pub value : Value
  pub at_param : slice_get params at ≡ Some param
  pub at_value : slice_get xs at ≡ Some value
  pub acts : acted_on mem (param.attrs ∷ []) value ≡ Gives y

entered_given : (mem : Memory) (params : List Param) (xs : List Value) →
    OnOutcome (λ ys. (at : ℕ) (y : Value) → slice_get ys at ≡ Some y → IsEntered mem params xs at y) (entered mem params xs)
entered_given mem [] xs = λ at y e. absurd (cc)
entered_given mem (p ∷ params) [] = tt
entered_given mem (p ∷ params) (x ∷ xs) =
    on_with (λ ys. (at : ℕ) (y : Value) → slice_get ys at ≡ Some y → IsEntered mem (p ∷ params) (x ∷ xs) at y) (acted_on mem (p.attrs ∷ []) x) _
    (λ z acts. on_with (λ ys. (at : ℕ) (y : Value) → slice_get ys at ≡ Some y → IsEntered mem (p ∷ params) (x ∷ xs) at y) (entered mem params xs) _
    (λ ys rest. both z ys acts (given (λ ys. (at : ℕ) (y : Value) → slice_get ys at ≡ Some y → IsEntered mem params xs at y) (entered mem params xs) ys
    (entered_given mem params xs) rest)))
  where
    both : (z : Value) (ys : List Value) → acted_on mem (p.attrs ∷ []) x ≡ Gives z →
        ((at : ℕ) (y : Value) → slice_get ys at ≡ Some y → IsEntered mem params xs at y) →
        (at : ℕ) (y : Value) → slice_get (z ∷ ys) at ≡ Some y → IsEntered mem (p ∷ params) (x ∷ xs) at y
    both z ys acts more zero y e = record {
      param = p;
      value = x;
      at_param = refl;
      at_value = refl;
      acts = subst (λ y. acted_on mem (p.attrs ∷ []) x ≡ Gives y) (same_Some z y e) acts;
    }
    both z ys acts more (suc at) y e =
        let one = more at y e in record { param = one.param; value = one.value; at_param = one.at_param; at_value = one.at_value; acts = one.acts }

pub entered_at : (mem : Memory) (params : List Param) (xs ys : List Value) (at : ℕ) (y : Value) → entered mem params xs ≡ Gives ys → slice_get ys at ≡ Some y →
    IsEntered mem params xs at y
entered_at mem params xs ys at y e is =
    given (λ ys. (at : ℕ) (y : Value) → slice_get ys at ≡ Some y → IsEntered mem params xs at y) (entered mem params xs) ys
    (entered_given mem params xs) e at y is

there_given : (mem : Memory) (params : List Param) (xs : List Value) →
    OnOutcome (λ ys. (at : ℕ) (p : Param) → slice_get params at ≡ Some p → (y : Value) × (slice_get ys at ≡ Some y)) (entered mem params xs)
there_given mem [] xs = λ at p e. absurd (cc)
there_given mem (p ∷ params) [] = tt
there_given mem (p ∷ params) (x ∷ xs) =
    on_with (λ ys. (at : ℕ) (q : Param) → slice_get (p ∷ params) at ≡ Some q → (y : Value) × (slice_get ys at ≡ Some y)) (acted_on mem (p.attrs ∷ []) x) _
    (λ z acts. on_with (λ ys. (at : ℕ) (q : Param) → slice_get (p ∷ params) at ≡ Some q → (y : Value) × (slice_get ys at ≡ Some y)) (entered mem params xs) _
    (λ ys rest. both z ys (given (λ ys. (at : ℕ) (p : Param) → slice_get params at ≡ Some p → (y : Value) × (slice_get ys at ≡ Some y))
    (entered mem params xs) ys
    (there_given mem params xs) rest)))
  where
    both : (z : Value) (ys : List Value) → ((at : ℕ) (p : Param) → slice_get params at ≡ Some p → (y : Value) × (slice_get ys at ≡ Some y)) →
        (at : ℕ) (q : Param) → slice_get (p ∷ params) at ≡ Some q → (y : Value) × (slice_get (z ∷ ys) at ≡ Some y)
    both z ys more zero q e = (z, refl)
    both z ys more (suc at) q e = more at q e

-- each parameter has a value
pub entered_there : (mem : Memory) (params : List Param) (xs ys : List Value) (at : ℕ) (p : Param) → entered mem params xs ≡ Gives ys →
    slice_get params at ≡ Some p →
    (y : Value) × (slice_get ys at ≡ Some y)
entered_there mem params xs ys at p e is =
    given (λ ys. (at : ℕ) (p : Param) → slice_get params at ≡ Some p → (y : Value) × (slice_get ys at ≡ Some y)) (entered mem params xs) ys
    (there_given mem params xs) e at p is

-- a value of a body's frame as it begins is a parameter
bound_at : (params : List Param) (xs : List Value) (v : ℕ) (x : Value) → bound params xs v ≡ Some x →
    (at : ℕ) × (p : Param) × (slice_get params at ≡ Some p) × (p.value.0 ≡ v) × (slice_get xs at ≡ Some x)
bound_at [] xs v x e = absurd (cc)
bound_at (p ∷ params) [] v x e = absurd (cc)
bound_at (p ∷ params) (y ∷ xs) v x e =
    put_at (λ (found : Option Value). found ≡ Some x →
    (at : ℕ) × (q : Param) × (slice_get (p ∷ params) at ≡ Some q) × (q.value.0 ≡ v) × (slice_get (y ∷ xs) at ≡ Some x))
    p.value.0 (Some y) (bound params xs) v (λ here is. (0, p, refl, sym here, is))
    (λ other is. let rest = bound_at params xs v x is in (suc rest.0, rest.1, rest.2, rest.3, rest.4)) e

param_found : (m : Module) (f at : ℕ) (p : Param) → slice_get (params_of m f) at ≡ Some p →
    (func : Func) × (slice_get m.funcs f ≡ Some func) × (slice_get func.params at ≡ Some p)
param_found m f at p e = by (slice_get m.funcs f) refl e
  where
    by : (found : Option Func) → slice_get m.funcs f ≡ found → slice_get (params_in found) at ≡ Some p →
        (func : Func) × (slice_get m.funcs f ≡ Some func) × (slice_get func.params at ≡ Some p)
    by None is e = absurd (cc)
    by (Some func) is e = (func, is, e)

param_in_of : (m : Module) (f at : ℕ) (p : Param) → slice_get (params_of m f) at ≡ Some p → param_of m f at ≡ Some p
param_in_of m f at p e = let found = param_found m f at p e in ap (param_in at) found.1 ∙ found.2

pub params_at : (m : Module) (f at : ℕ) (p : Param) → param_of m f at ≡ Some p → slice_get (params_of m f) at ≡ Some p
params_at m f at p e = by (slice_get m.funcs f) refl e
  where
    by : (found : Option Func) → slice_get m.funcs f ≡ found → param_in at found ≡ Some p → slice_get (params_of m f) at ≡ Some p
    by None is e = absurd (cc)
    by (Some func) is e = ap (λ found. slice_get (params_in found) at) is ∙ e

-- ---- frames

module _ (m : Module) (held : Fact → Bool) (is : JustifiesItself m held) where
  -- an attribute may have made the argument poison
  abbrev pub MayPoison : Frame → ℕ → Type 0
  MayPoison (Body frame) at = (p : Param) × (param_of m frame.func at ≡ Some p) × (may_poison p.attrs ≡ true)
  MayPoison (Outside frame) at = ⊥

  -- the arguments as the call has them are those that were passed, but for poison
  abbrev pub KeepsArgs : Frame → Type 0
  KeepsArgs frame = (at : ℕ) (x : Value) → slice_get (call_in frame).args at ≡ Some x →
      (y : Value) × (slice_get (call_in frame).passed at ≡ Some y) × ((x.datum ≡ y.datum) ⊎ ((x.datum ≡ datum.Poison) × MayPoison frame at))

  -- each operand of the call instruction was passed, and the outside has all that was
  abbrev pub HasPassed : Frame → Type 0
  HasPassed frame = (s : Spot) (instr : Instr) (call : Call) (at : ℕ) (w : Written) → (call_in frame).made ≡ At s → instr_at m s ≡ Some instr →
      call_of instr.op ≡ Some call → slice_get call.args at ≡ Some w → (y : Value) × (slice_get (call_in frame).passed at ≡ Some y)

  -- what is kept of a body's frame
  pub record BodyIsGood (mem : Memory) (frame : BodyFrame) : Type 0 where
    pub values : AreGood m held mem frame.call frame.values
    pub entry : (at bit : ℕ) (kind : ValueFact) (x : Value) → slice_get frame.call.args at ≡ Some x → held (at_entry frame.func at bit) ≡ true →
        value_fact bit ≡ Some kind → SaysAlone m mem kind x.datum
    pub there : (at : ℕ) (p : Param) → param_of m frame.func at ≡ Some p → (x : Value) × (slice_get frame.call.args at ≡ Some x)

  abbrev KindIsGood : Memory → Frame → Type 0
  KindIsGood mem (Body frame) = BodyIsGood mem frame
  KindIsGood mem (Outside frame) = frame.call.args ≡ frame.call.passed

  pub record FrameIsGood (mem : Memory) (frame : Frame) : Type 0 where
    pub kind : KindIsGood mem frame
    pub args : KeepsArgs frame
    pub passed : HasPassed frame

  -- ---- a later memory

  frame_later : (mem later : Memory) → IsLater mem later → (s : Scope) → s.count ≡ mem.count → (frame : Frame) → HasAll (Known s) frame →
      FrameIsGood mem frame →
      FrameIsGood later frame
  frame_later mem later is_later s same (Outside frame) known good = record { kind = good.kind; args = good.args; passed = good.passed }
  frame_later mem later is_later s same (Body frame) known good = record {
    kind = record {
      values = λ v x at. good_later m mem later is_later frame.call (word_of held v) x.datum
          (subst (λ n. IsAmongFirst n x.datum) same (subst (IsSomeOf (Known s)) at (known.1 v)).0) (good.kind.values v x at);
      entry = λ at bit kind x at_x has e.
          alone_later m mem later is_later kind x.datum
          (subst (λ n. IsAmongFirst n x.datum) same (every_at (Known s) frame.call.args at x known.0.1 at_x).0)
          (good.kind.entry at bit kind x at_x has e);
      there = good.kind.there;
    };
    args = good.args;
    passed = good.passed;
  }

  pub frames_later : (mem later : Memory) → IsLater mem later → (s : Scope) → s.count ≡ mem.count → (stack : List Frame) →
      AllByRecursion (HasAll (Known s)) stack →
      AllByRecursion (FrameIsGood mem) stack → AllByRecursion (FrameIsGood later) stack
  frames_later mem later is_later s same [] known good = tt
  frames_later mem later is_later s same (frame ∷ below) known good =
      (frame_later mem later is_later s same frame known.0 good.0, frames_later mem later is_later s same below known.1 good.1)

  -- ---- a body's frame as it begins

  -- the rule of an entry for a bit
  entry_rule : (f at bit : ℕ) (kind : ValueFact) → held (at_entry f at bit) ≡ true → value_fact bit ≡ Some kind → EntryHas m held f at bit kind
  entry_rule f at bit kind has e = subst (λ found. MatchOption found ⊥ (EntryHas m held f at bit)) e (is (at_entry f at bit) has)

  module _ (t : State) (passing : Passing) (f : ℕ) (args : List Value) (enters : entered t.memory (params_of m f) (passed_to m t passing) ≡ Gives args)
      (closed : (at bit : ℕ) (kind : ValueFact) (p : Param) (y : Value) → is_open m f ≡ false → EachPassed m held f at bit → value_fact bit ≡ Some kind →
      slice_get (passed_to m t passing) at ≡ Some y → SaysAlone m t.memory kind y.datum)
      (passed : HasPassed (Body (body_frame m t passing f args))) where
    abbrev frame : BodyFrame
    frame = body_frame m t passing f args

    entry_nonnull : (at bit : ℕ) (x : Value) → slice_get args at ≡ Some x → held (at_entry f at bit) ≡ true → value_fact bit ≡ Some NonNull → IsNonnull x.datum
    entry_nonnull at bit x is_at has e =
        let one = entered_at t.memory (params_of m f) (passed_to m t passing) args at x enters is_at in
        let acts = acted t.memory (one.param.attrs ∷ []) one.value x one.acts in
        elim (entry_rule f at bit NonNull has e one.param (param_in_of m f at one.param one.at_param)) [
          | inl gives ↦ acts.nonnull (or_false (gives_nonnull one.param.attrs) gives)
          | inr passes ↦
              elim acts.same [
                | inl same ↦ subst IsNonnull (sym same) (closed at bit NonNull one.param one.value passes.closed passes.each e one.at_value)
                | inr poison ↦ subst IsNonnull (sym poison.0) tt
              ]
        ]
      where
        or_false : (b : Bool) → b ≡ true → (b || false) ≡ true
        or_false true e = refl
        or_false false e = absurd (true≢false (sym e))

    entry_aligned : (at bit n : ℕ) (x : Value) → slice_get args at ≡ Some x → held (at_entry f at bit) ≡ true → value_fact bit ≡ Some (AlignedTo n) →
        HasIndices m → IsPlaced t.memory n x.datum
    entry_aligned at bit n x is_at has e indices =
        let one = entered_at t.memory (params_of m f) (passed_to m t passing) args at x enters is_at in
        let acts = acted t.memory (one.param.attrs ∷ []) one.value x one.acts in
        elim (entry_rule f at bit (AlignedTo n) has e one.param (param_in_of m f at one.param one.at_param)) [
          | inl gives ↦ acts.aligned n (or_false (gives_align n one.param.attrs) gives)
          | inr passes ↦
              elim acts.same [
                | inl same ↦ subst (IsPlaced t.memory n) (sym same)
                    (closed at bit (AlignedTo n) one.param one.value passes.closed passes.each e one.at_value indices)
                | inr poison ↦ subst (IsPlaced t.memory n) (sym poison.0) tt
              ]
        ]
      where
        or_false : (b : Bool) → b ≡ true → (b || false) ≡ true
        or_false true e = refl
        or_false false e = absurd (true≢false (sym e))

    entry_says : (at bit : ℕ) (kind : ValueFact) (x : Value) → slice_get args at ≡ Some x → held (at_entry f at bit) ≡ true → value_fact bit ≡ Some kind →
        SaysAlone m t.memory kind x.datum
    entry_says at bit NonNull x is_at has e = entry_nonnull at bit x is_at has e
    entry_says at bit (AlignedTo n) x is_at has e = entry_aligned at bit n x is_at has e
    entry_says at bit (SameAs i) x is_at has e = tt
    entry_says at bit (HasBytes count) x is_at has e = tt
    entry_says at bit (NotTo class) x is_at has e = tt
    entry_says at bit (UsedSo kind) x is_at has e = tt

    param_good : (v : ℕ) (x : Value) (at : ℕ) (p : Param) → slice_get (params_of m f) at ≡ Some p → p.value.0 ≡ v → slice_get args at ≡ Some x →
        IsGood m t.memory frame.call (word_of held v) x.datum
    param_good v x at p at_p names at_x = record {
      bits = λ bit kind has e. by bit kind has e;
      classes = λ b o points alive.
          in_class t.memory frame.call (word_of held v) b Argument (at, x, at_x, subst (PointsTo b) (sym points) refl)
          (λ has. (value_rule m held is v (class_bit Argument) (NotTo Argument) has (class_fact Argument)).param f at is_param);
    }
      where
        is_param : IsParamAt m f at v
        is_param = let found = param_found m f at p at_p in (found.0, p, found.1, found.2, names)

        by : (bit : ℕ) (kind : ValueFact) → word_of held v bit ≡ true → value_fact bit ≡ Some kind → Says m t.memory frame.call (Some kind) x.datum
        by bit (SameAs i) has e = λ y at_y.
            let one : at ≡ i = (value_rule m held is v bit (SameAs i) has e).param f at is_param in
            ap (λ (z : Value). z.datum) (same_Some x y (sym at_x ∙ (ap (slice_get args) one ∙ at_y)))
        by bit NonNull has e = entry_nonnull at bit x at_x ((value_rule m held is v bit NonNull has e).param f at is_param) e
        by bit (AlignedTo bytes) has e = entry_aligned at bit bytes x at_x ((value_rule m held is v bit (AlignedTo bytes) has e).param f at is_param) e
        by bit (HasBytes count) has e = tt
        by bit (NotTo class) has e = tt
        by bit (UsedSo kind) has e = tt

    -- the frame that begins is as is kept of frames
    pub begins_good : FrameIsGood t.memory (Body frame)
    begins_good = record {
      kind = record {
        values = λ v x at. let found = bound_at (params_of m f) args v x at in param_good v x found.0 found.1 found.2 found.3 found.4;
        entry = entry_says;
        there = λ at p at_p. entered_there t.memory (params_of m f) (passed_to m t passing) args at p enters (params_at m f at p at_p);
      };
      args = λ at x at_x.
          let one = entered_at t.memory (params_of m f) (passed_to m t passing) args at x enters at_x in
          (one.value, one.at_value, kept at x one (acted_may t.memory one.param.attrs one.value x one.acts));
      passed = passed;
    }
      where
        kept : (at : ℕ) (x : Value) (one : IsEntered t.memory (params_of m f) (passed_to m t passing) at x) →
            ((x.datum ≡ one.value.datum) ⊎ ((x.datum ≡ datum.Poison) × (may_poison one.param.attrs ≡ true))) →
            (x.datum ≡ one.value.datum) ⊎ ((x.datum ≡ datum.Poison) × MayPoison (Body frame) at)
        kept at x one (inl same) = inl same
        kept at x one (inr (poison, may)) = inr (poison, (one.param, param_in_of m f at one.param one.at_param, may))

  -- ---- what is passed by a module frame

  module _ (here : Here) (sc : Scope) (blocks : AreBlocks here.state.memory sc) (homes : HasHomes m here.state.memory)
      (good : AreGood m held here.state.memory here.frame.call here.frame.values) (live : held (dead_at here.frame.spot) ≡ false)
      (at : instr_at m here.frame.spot ≡ Some here.instr) where
    -- an argument of an inner call is what each argument that is passed there is
    pub passed_says : (call : Call) (xs : List Value) (f at' bit : ℕ) (kind : ValueFact) (y : Value) → call_of here.instr.op ≡ Some call →
        AreRead m here call.args xs → inner_callee m here.instr.op ≡ Some f → EachPassed m held f at' bit → value_fact bit ≡ Some kind →
        slice_get (passed_to m here.state (passing_at here call xs)) at' ≡ Some y → SaysAlone m here.state.memory kind y.datum
    passed_says call xs f at' bit kind y is_call reads inner each e at_y =
        let from = passed_from m here.state.next_call 0 (map (λ (w : Written). w.ty) call.args) xs at' y at_y in
        let one = read_at m here call.args xs at' from.0 reads from.1 in
        let has = each here.frame.spot here.instr
        (record { at_spot = at; is_call = direct (direct_callee m here.instr.op) refl (is_inner m here.instr.op) inner; live = live }) in
        let word : written_has m held one.0 bit ≡ true = subst (λ found. option_map_or (λ w. written_has m held w bit) found false ≡ true)
        (ap (option_and_then (λ (call : Call). slice_get call.args at')) is_call ∙ one.1) has in
        subst (SaysAlone m here.state.memory kind) (sym from.2)
        (alone m here.state.memory here.frame.call kind from.0.datum
        ((operand_good m held is here sc blocks homes good 0 one.0 from.0 one.2).bits bit kind word e))
      where
        direct : (found : Option FuncId) → direct_callee m here.instr.op ≡ found → (b : Bool) → callee_in b found ≡ Some f →
            direct_callee m here.instr.op ≡ Some (record { 0 = f })
        direct None e true inner = absurd (cc)
        direct None e false inner = absurd (cc)
        direct (Some g) e false inner = absurd (cc)
        direct (Some g) e true inner = e ∙ ap (λ n. Some (record { 0 = n })) (same_Some g.0 f inner)
