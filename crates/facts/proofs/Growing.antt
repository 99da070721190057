-- What a set justifies, a larger one does: each rule asks that facts stand in the set, and deadness only frees from asking.
use Rattle.std.proofs.Common.{◌≡◌, ℕ, zero, suc, Bool, true, false, MatchOption, List, Option, None, Some, refl}
use Rattle.attr_ids.specs.declared.ids.TypeId.{TypeId}
use Rattle.ir_module.specs.declared.op.Operand.{Operand}
use Rattle.ir_module.specs.declared.op.Operand.TheVariants as operand
use Rattle.ir_module.specs.declared.op.Written.{Written}
use Rattle.ir_module.specs.declared.op.Arm.{Arm}
use Rattle.ir_module.specs.declared.op.Op.{Op}
use Rattle.ir_module.specs.declared.op.Op.TheVariants as op
use Rattle.ir_module.specs.declared.op.Instr.{Instr}
use Rattle.ir_module.specs.declared.edge.Way.{Way}
use Rattle.ir_module.specs.declared.edge.Way.TheVariants as way
use Rattle.ir_module.specs.declared.edge.Edge.{Edge}
use Rattle.ir_module.specs.declared.module.Param.{Param}
use Rattle.ir_module.specs.declared.module.Spot.{Spot}
use Rattle.ir_module.specs.declared.module.Module.{Module}
use Rattle.ir_module.specs.Places.{spot, instr_at}
use Rattle.ir_module.specs.Calls.{inner_callee}
use Rattle.facts.specs.declared.pos.Pos.{Pos}
use Rattle.facts.specs.declared.pos.Pos.TheVariants as pos
use Rattle.facts.specs.Kinds.{Access, Location, Default, Argmem, Inaccessible, FunctionFact, NoUnwind, NoReturn, NoFree, NoAccess, BlockClass, OwnAlloca}
use Rattle.facts.specs.Kinds.{Argument, Global, Unknown, UseFact, CapturedByReturnAlone, NotReturned, NotThrough, ValueFact, SameAs, NonNull, AlignedTo}
use Rattle.facts.specs.Kinds.{HasBytes, NotTo, UsedSo, class_bit, value_fact, function_fact}
use Rattle.facts.specs.Facts.{Fact, dead_at, of_function, of_value, of_return, at_entry, nofree_of, not_to, used_so, unreached_by}
use Rattle.facts.specs.Bodies.{rank, body_count, param_of}
use Rattle.facts.specs.Promises.{has_by, promises_fact, call_has}
use Rattle.facts.specs.Displacements.{Displacement, keeps_align, is_exact}
use Rattle.facts.specs.Known.{has_rung, moved_by, moved_has, operand_has, written_has, arg_at, arg_has, PointersHave}
use Rattle.facts.specs.DeadEdges.{takes_other, is_unused, is_never, is_dead_edge, ArmsHave}
use Rattle.facts.specs.Dead.{IsUncalled, IsDead}
use Rattle.facts.specs.Memory.{IsNotTo, AreNotTo, CallIsOff, IsOff, KeepsOff}
use Rattle.facts.specs.Functions.{KeepsNounwind, Keeps, EachKeeps, SegmentKeeps}
use Rattle.facts.specs.Reach.{PassesBy, OutsidePassesBy, IsPassedBy}
use Rattle.facts.specs.Same.{GivesBack, PromisesBack, CallIsSame, ResultIsSame, IsSame}
use Rattle.facts.specs.Pointer.{BytesStay, BothHave, ReturnsNotTo, InnerHas, OuterHas, CallHas, ResultHas, ParamHas, PointerHas}
use Rattle.facts.specs.Entry.{IsLiveCall, EachPassed, LastsAt, ArePassed, EntryHas}
use Rattle.facts.specs.Return.{Outlasts, RetHas, ReturnHas}
use Rattle.facts.specs.Uses.{ResultUsed, CallResultUsed, ParamUsed, PassedUsed, CallUses, SelectUses, GepUses, Permits, IsUsedSo}
use Rattle.facts.specs.Justified.{ValueHas, JustifiedAt, Justified, HasMore}
use Rattle.facts.proofs.Tools.{back, and_more, or_more, option_more, test_more, sum_more}

-- what is left by a getelementptr grows with what is known of the base
moved_more : (d : Displacement) (has had : ℕ → Bool) → ((bit : ℕ) → has bit ≡ true → had bit ≡ true) → (bit : ℕ) →
    moved_has d has bit ≡ true → moved_has d had bit ≡ true
moved_more d has had up bit e = by (value_fact bit) e
  where
    rung_more : (rung : Option ℕ) → has_rung has rung ≡ true → has_rung had rung ≡ true
    rung_more None e = e
    rung_more (Some rung) e = up _ e

    by : (kind : Option ValueFact) → moved_by d has bit kind ≡ true → moved_by d had bit kind ≡ true
    by (Some NonNull) e = and_more d.inbounds (has bit) d.inbounds (had bit) (λ x. x) (up bit) e
    by (Some (AlignedTo bytes)) e = and_more (keeps_align d bytes) (has bit) (keeps_align d bytes) (had bit) (λ x. x) (up bit) e
    by (Some (HasBytes count)) e = and_more (is_exact d) (has_rung has _) (is_exact d) (has_rung had _) (λ x. x) (rung_more _) e
    by (Some (NotTo class)) e = up bit e
    by (Some (SameAs i)) e = e
    by (Some (UsedSo kind)) e = e
    by None e = e

module _ (m : Module) (held other : Fact → Bool) (more : HasMore held other) where
  -- ---- operands, calls and edges

  operand_more : (ty : TypeId) (val : Operand) (bit : ℕ) → operand_has m held ty val bit ≡ true → operand_has m other ty val bit ≡ true
  operand_more ty (operand.Value v) bit e = more (of_value v.0 bit) refl e
  operand_more ty (operand.Int bits fits) bit e = e
  operand_more ty (operand.Truth truth) bit e = e
  operand_more ty operand.Zero bit e = e
  operand_more ty operand.Null bit e = e
  operand_more ty operand.Undef bit e = e
  operand_more ty operand.Poison bit e = e
  operand_more ty (operand.Global g) bit e = e
  operand_more ty (operand.Func f) bit e = e
  operand_more ty (operand.Offset base bytes inbounds wrap) bit e = e
  operand_more ty (operand.WrongOffset rule) bit e = e
  operand_more ty (operand.Parts shape first count) bit e = e
  operand_more ty (operand.AnyInt first count) bit e = e

  written_more : (w : Written) (bit : ℕ) → written_has m held w bit ≡ true → written_has m other w bit ≡ true
  written_more w bit e = operand_more w.ty w.val bit e

  arg_more : (o : Op) (at bit : ℕ) → arg_has m held o at bit ≡ true → arg_has m other o at bit ≡ true
  arg_more o at bit e = test_more (arg_at o at) (λ w. written_has m held w bit) (λ w. written_has m other w bit) (λ w. written_more w bit) e

  pointers_more : (o : Op) (bit : ℕ) → PointersHave m held o bit → PointersHave m other o bit
  pointers_more o bit have at w is pointer = written_more w bit (have at w is pointer)

  call_more : (kind : FunctionFact) (o : Op) → call_has m held kind o ≡ true → call_has m other kind o ≡ true
  call_more kind o e = by (inner_callee m o) e
    where
      by : (g : Option ℕ) → has_by held kind (promises_fact m kind o) g ≡ true → has_by other kind (promises_fact m kind o) g ≡ true
      by (Some g) e = more (of_function kind g) refl e
      by None e = e

  live : (s : Spot) → other (dead_at s) ≡ false → held (dead_at s) ≡ false
  live s e = back (held (dead_at s)) (other (dead_at s)) (more (dead_at s) refl) e

  unused_more : (o : Op) (w : Way) → is_unused m held o w ≡ true → is_unused m other o w ≡ true
  unused_more o way.Normal e = call_more NoReturn o e
  unused_more o way.Unwind e = call_more NoUnwind o e
  unused_more o way.Jump e = e
  unused_more o way.Yes e = e
  unused_more o way.No e = e
  unused_more o way.Other e = e
  unused_more o (way.Case w) e = e

  never_more : (w : Way) (found : Option Instr) → is_never m held w found ≡ true → is_never m other w found ≡ true
  never_more w None e = e
  never_more w (Some instr) e =
      or_more (takes_other m instr.op w) (is_unused m held instr.op w) (takes_other m instr.op w) (is_unused m other instr.op w)
      (λ x. x) (unused_more instr.op w) e

  edge_more : (t : Spot) (e : Edge) → is_dead_edge m held t e ≡ true → is_dead_edge m other t e ≡ true
  edge_more t e dead =
      or_more (held (dead_at t)) (is_never m held e.way (instr_at m t)) (other (dead_at t)) (is_never m other e.way (instr_at m t))
      (more (dead_at t) refl) (never_more e.way (instr_at m t)) dead

  edge_live : (t : Spot) (e : Edge) → is_dead_edge m other t e ≡ false → is_dead_edge m held t e ≡ false
  edge_live t e alive = back (is_dead_edge m held t e) (is_dead_edge m other t e) (edge_more t e) alive

  arms_more : (s : Spot) (arms : List Arm) (bit : ℕ) → ArmsHave m held s arms bit → ArmsHave m other s arms bit
  arms_more s arms bit have t n e k arm at by_edge alive = written_more arm.val bit (have t n e k arm at by_edge (edge_live t e alive))

  -- ---- segments

  uncalled_more : (f : ℕ) → IsUncalled m held f → IsUncalled m other f
  uncalled_more f is = record { closed = is.closed; callers = λ s instr at calls. more (dead_at s) refl (is.callers s instr at calls) }

  dead_more : (k : ℕ) → IsDead m held k → IsDead m other k
  dead_more k is = record {
    entry = λ f at. uncalled_more f (is.entry f at);
    start = λ i at t n e is_edge to. edge_more t e (is.start i at t n e is_edge to);
    later = λ s instr before at calls alive. call_more NoReturn instr.op (is.later s instr before at calls (live s alive));
  }

  -- ---- bodies

  nounwind_more : (o : Op) → KeepsNounwind m held o → KeepsNounwind m other o
  nounwind_more (op.Call call) keeps = call_more NoUnwind (op.Call call) keeps
  nounwind_more (op.Invoke call normal unwind) keeps = sum_more (λ all. all) (call_more NoUnwind (op.Invoke call normal unwind)) keeps
  nounwind_more (op.Resume val) keeps = keeps
  nounwind_more (op.Bin kind flagged a b) keeps = tt
  nounwind_more (op.Icmp pred flagged a b) keeps = tt
  nounwind_more (op.Cast kind flagged a) keeps = tt
  nounwind_more (op.Select c a b) keeps = tt
  nounwind_more (op.Freeze a) keeps = tt
  nounwind_more (op.Phi arms) keeps = tt
  nounwind_more (op.Alloca ty count align) keeps = tt
  nounwind_more (op.Load ptr align volatile) keeps = tt
  nounwind_more (op.Store val ptr align volatile) keeps = tt
  nounwind_more (op.Gep elem base indices inbounds wrap) keeps = tt
  nounwind_more (op.LandingPad catch_all clauses) keeps = tt
  nounwind_more (op.Ret val) keeps = tt
  nounwind_more (op.Jump to) keeps = tt
  nounwind_more (op.Branch c so otherwise) keeps = tt
  nounwind_more (op.Switch on other_target cases) keeps = tt
  nounwind_more op.Unreachable keeps = tt

  not_to_more : (class : BlockClass) (w : Written) → IsNotTo m held class w → IsNotTo m other class w
  not_to_more class w is = (written_more w (class_bit class) is.0, written_more w (class_bit Unknown) is.1)

  are_not_to_more : (class : BlockClass) (o : Op) → AreNotTo m held class o → AreNotTo m other class o
  are_not_to_more class o are = (pointers_more o (class_bit class) are.0, pointers_more o (class_bit Unknown) are.1)

  call_off_more : (a : Access) (class : BlockClass) (o : Op) → CallIsOff m held a class o → CallIsOff m other a class o
  call_off_more a class o is =
      (call_more (NoAccess a Default) o is.0, sum_more (call_more (NoAccess a Argmem) o) (are_not_to_more class o) is.1)

  off_more : (a : Access) (class : BlockClass) (o : Op) → IsOff m held a class o → IsOff m other a class o
  off_more a class o is = record {
    access = λ w at. not_to_more class w (is.access w at);
    call = λ calls. call_off_more a class o (is.call calls);
  }

  keeps_off_more : (a : Access) (location : Location) (o : Op) → KeepsOff m held a location o → KeepsOff m other a location o
  keeps_off_more a Argmem o is = off_more a Argument o is
  keeps_off_more a Default o is = off_more a Global o is
  keeps_off_more a Inaccessible o is = record { access = is.access; call = λ calls. call_more (NoAccess a Inaccessible) o (is.call calls) }

  keeps_more : (kind : FunctionFact) (o : Op) → Keeps m held kind o → Keeps m other kind o
  keeps_more NoUnwind o keeps = nounwind_more o keeps
  keeps_more NoReturn o keeps = keeps
  keeps_more NoFree o keeps = λ calls. call_more NoFree o (keeps calls)
  keeps_more (NoAccess a location) o keeps = keeps_off_more a location o keeps

  each_more : (f : ℕ) (kind : FunctionFact) → EachKeeps m held f kind → EachKeeps m other f kind
  each_more f kind keeps s instr within at alive = keeps_more kind instr.op (keeps s instr within at (live s alive))

  segment_more : (k : ℕ) (kind : FunctionFact) → SegmentKeeps m held k kind → SegmentKeeps m other k kind
  segment_more k kind keeps at instr is alive = keeps_more kind instr.op (keeps at instr is (live (spot k at) alive))

  -- ---- rows of bodies that are not reached

  passes_more : (t : ℕ) (o : Op) → PassesBy m held t o → PassesBy m other t o
  passes_more t o is = record {
    inner = λ h calls. ((is.inner h calls).0, more (unreached_by (rank m h) t) refl (is.inner h calls).1);
    outer = λ calls. sum_more (λ promised. promised) (more (unreached_by (body_count m) t) refl) (is.outer calls);
  }

  outside_more : (t : ℕ) → OutsidePassesBy m held t → OutsidePassesBy m other t
  outside_more t is = record { closed = is.closed; others = λ f opens. more (unreached_by (rank m f) t) refl (is.others f opens) }

  row_more : (r t : ℕ) → IsPassedBy m held r t → IsPassedBy m other r t
  row_more r t is = record {
    body = λ f number s instr within at alive. passes_more t instr.op (is.body f number s instr within at (live s alive));
    outside = λ last. outside_more t (is.outside last);
  }

  -- ---- values that are a parameter

  same_call_more : (i : ℕ) (o : Op) → CallIsSame m held i o → CallIsSame m other i o
  same_call_more i o is =
      option_more (inner_callee m o) (PromisesBack m held o i) (PromisesBack m other o i)
      (λ g. GivesBack m held o g i) (λ g. GivesBack m other o g i)
      (λ is. record { j = is.j; promised = is.promised; kept = is.kept; arg = arg_more o is.j i is.arg })
      (λ g is. record { j = is.j; deduced = is.deduced; kept = is.kept; back = more (of_return g is.j) refl is.back; arg = arg_more o is.j i is.arg })
      is

  same_result_more : (i : ℕ) (s : Spot) (o : Op) → ResultIsSame m held i s o → ResultIsSame m other i s o
  same_result_more i s (op.Phi arms) is = arms_more s arms i is
  same_result_more i s (op.Call call) is = same_call_more i (op.Call call) is
  same_result_more i s (op.Invoke call normal unwind) is = same_call_more i (op.Invoke call normal unwind) is
  same_result_more i s (op.Resume val) is = is
  same_result_more i s (op.Bin kind flagged a b) is = is
  same_result_more i s (op.Icmp pred flagged a b) is = is
  same_result_more i s (op.Cast kind flagged a) is = is
  same_result_more i s (op.Select c a b) is = is
  same_result_more i s (op.Freeze a) is = is
  same_result_more i s (op.Alloca ty count align) is = is
  same_result_more i s (op.Load ptr align volatile) is = is
  same_result_more i s (op.Store val ptr align volatile) is = is
  same_result_more i s (op.Gep elem base indices inbounds wrap) is = is
  same_result_more i s (op.LandingPad catch_all clauses) is = is
  same_result_more i s (op.Ret val) is = is
  same_result_more i s (op.Jump to) is = is
  same_result_more i s (op.Branch c so otherwise) is = is
  same_result_more i s (op.Switch on other_target cases) is = is
  same_result_more i s op.Unreachable is = is

  same_more : (v i : ℕ) → IsSame m held v i → IsSame m other v i
  same_more v i is = record { made = λ s instr at makes. same_result_more i s instr.op (is.made s instr at makes); param = is.param }

  -- ---- pointers

  stay_more : (f v : ℕ) → BytesStay m held f v → BytesStay m other f v
  stay_more f v is = record {
    unfreed = more (nofree_of f) refl is.unfreed;
    unmarked = λ scoped. (more (not_to OwnAlloca v) refl (is.unmarked scoped).0, more (not_to Unknown v) refl (is.unmarked scoped).1);
  }

  both_more : (a b : Written) (bit : ℕ) (kind : ValueFact) → BothHave m held a b bit kind → BothHave m other a b bit kind
  both_more a b bit (HasBytes count) is = is
  both_more a b bit (SameAs i) is = (written_more a bit is.0, written_more b bit is.1)
  both_more a b bit NonNull is = (written_more a bit is.0, written_more b bit is.1)
  both_more a b bit (AlignedTo bytes) is = (written_more a bit is.0, written_more b bit is.1)
  both_more a b bit (NotTo class) is = (written_more a bit is.0, written_more b bit is.1)
  both_more a b bit (UsedSo kind) is = (written_more a bit is.0, written_more b bit is.1)

  returns_more : (g : ℕ) (class : BlockClass) → ReturnsNotTo held g class → ReturnsNotTo other g class
  returns_more g Unknown is = more (of_return g (class_bit Unknown)) refl is
  returns_more g Global is = more (of_return g (class_bit Global)) refl is
  returns_more g OwnAlloca is = is
  returns_more g Argument is = is

  inner_more : (f v : ℕ) (o : Op) (bit g : ℕ) (kind : ValueFact) → InnerHas m held f v o bit g kind → InnerHas m other f v o bit g kind
  inner_more f v o bit g NonNull is = more (of_return g bit) refl is
  inner_more f v o bit g (AlignedTo bytes) is = more (of_return g bit) refl is
  inner_more f v o bit g (HasBytes count) is = (more (of_return g bit) refl is.0, stay_more f v is.1)
  inner_more f v o bit g (NotTo class) is =
      (returns_more g class is.0, sum_more (more (of_return g (class_bit Argument)) refl) (pointers_more o bit) is.1)
  inner_more f v o bit g (SameAs i) is = is
  inner_more f v o bit g (UsedSo kind) is = is

  outer_more : (f v : ℕ) (o : Op) (kind : ValueFact) → OuterHas m held f v o kind → OuterHas m other f v o kind
  outer_more f v o (HasBytes count) is = (is.0, stay_more f v is.1)
  outer_more f v o NonNull is = is
  outer_more f v o (AlignedTo bytes) is = is
  outer_more f v o (NotTo class) is = is
  outer_more f v o (SameAs i) is = is
  outer_more f v o (UsedSo kind) is = is

  call_result_more : (f v : ℕ) (o : Op) (bit : ℕ) (kind : ValueFact) → CallHas m held f v o bit kind → CallHas m other f v o bit kind
  call_result_more f v o bit kind is =
      option_more (inner_callee m o) (OuterHas m held f v o kind) (OuterHas m other f v o kind)
      (λ g. InnerHas m held f v o bit g kind) (λ g. InnerHas m other f v o bit g kind)
      (outer_more f v o kind) (λ g. inner_more f v o bit g kind) is

  result_more : (f v : ℕ) (s : Spot) (o : Op) (bit : ℕ) (kind : ValueFact) → ResultHas m held f v s o bit kind → ResultHas m other f v s o bit kind
  result_more f v s (op.Alloca ty count align) bit kind is = is
  result_more f v s (op.Select c a b) bit kind is = both_more a b bit kind is
  result_more f v s (op.Phi arms) bit kind is = arms_more s arms bit is
  result_more f v s (op.Gep elem base indices inbounds wrap) bit kind is =
      moved_more _ (written_has m held base) (written_has m other base) (written_more base) bit is
  result_more f v s (op.Call call) bit kind is = call_result_more f v (op.Call call) bit kind is
  result_more f v s (op.Invoke call normal unwind) bit kind is = call_result_more f v (op.Invoke call normal unwind) bit kind is
  result_more f v s (op.Resume val) bit kind is = is
  result_more f v s (op.Bin operation flagged a b) bit kind is = is
  result_more f v s (op.Icmp pred flagged a b) bit kind is = is
  result_more f v s (op.Cast conversion flagged a) bit kind is = is
  result_more f v s (op.Freeze a) bit kind is = is
  result_more f v s (op.Load ptr align volatile) bit kind is = is
  result_more f v s (op.Store val ptr align volatile) bit kind is = is
  result_more f v s (op.LandingPad catch_all clauses) bit kind is = is
  result_more f v s (op.Ret val) bit kind is = is
  result_more f v s (op.Jump to) bit kind is = is
  result_more f v s (op.Branch c so otherwise) bit kind is = is
  result_more f v s (op.Switch on other_target cases) bit kind is = is
  result_more f v s op.Unreachable bit kind is = is

  param_more : (f at bit : ℕ) (kind : ValueFact) → ParamHas held f at bit kind → ParamHas other f at bit kind
  param_more f at bit NonNull is = more (at_entry f at bit) refl is
  param_more f at bit (AlignedTo bytes) is = more (at_entry f at bit) refl is
  param_more f at bit (HasBytes count) is = (more (at_entry f at bit) refl is.0, more (nofree_of f) refl is.1)
  param_more f at bit (NotTo class) is = is
  param_more f at bit (SameAs i) is = is
  param_more f at bit (UsedSo kind) is = is

  pointer_more : (v bit : ℕ) (kind : ValueFact) → PointerHas m held v bit kind → PointerHas m other v bit kind
  pointer_more v bit kind is = record {
    made = λ f s instr within at makes. result_more f v s instr.op bit kind (is.made f s instr within at makes);
    param = λ f at param. param_more f at bit kind (is.param f at param);
  }

  -- ---- entries and returns

  live_call : (f : ℕ) (s : Spot) (instr : Instr) → IsLiveCall m other f s instr → IsLiveCall m held f s instr
  live_call f s instr is = record { at_spot = is.at_spot; is_call = is.is_call; live = live s is.live }

  passed_more : (f at bit : ℕ) → EachPassed m held f at bit → EachPassed m other f at bit
  passed_more f at bit each s instr calls = arg_more instr.op at bit (each s instr (live_call f s instr calls))

  lasts_more : (f at align : ℕ) (kind : ValueFact) → LastsAt m held f at align kind → LastsAt m other f at align kind
  lasts_more f at align (HasBytes count) is = record { known = is.known; each = λ k rung. passed_more f at _ (is.each k rung) }
  lasts_more f at align NonNull is = is
  lasts_more f at align (AlignedTo bytes) is = is
  lasts_more f at align (NotTo class) is = is
  lasts_more f at align (SameAs i) is = is
  lasts_more f at align (UsedSo kind) is = is

  are_passed_more : (f at bit : ℕ) (p : Param) (kind : ValueFact) → ArePassed m held f at bit p kind → ArePassed m other f at bit p kind
  are_passed_more f at bit p kind is = record {
    closed = is.closed;
    each = passed_more f at bit is.each;
    lasts = lasts_more f at p.attrs.align kind is.lasts;
  }

  entry_more : (f at bit : ℕ) (kind : ValueFact) → EntryHas m held f at bit kind → EntryHas m other f at bit kind
  entry_more f at bit kind has p is = sum_more (λ given. given) (are_passed_more f at bit p kind) (has p is)

  outlasts_more : (w : Written) (kind : ValueFact) → Outlasts m held w kind → Outlasts m other w kind
  outlasts_more w (HasBytes count) is = (written_more w (class_bit OwnAlloca) is.0, written_more w (class_bit Unknown) is.1)
  outlasts_more w NonNull is = is
  outlasts_more w (AlignedTo bytes) is = is
  outlasts_more w (NotTo class) is = is
  outlasts_more w (SameAs i) is = is
  outlasts_more w (UsedSo kind) is = is

  ret_more : (o : Op) (bit : ℕ) (kind : ValueFact) → RetHas m held o bit kind → RetHas m other o bit kind
  ret_more (op.Ret None) bit kind is = is
  ret_more (op.Ret (Some w)) bit kind is = (written_more w bit is.0, outlasts_more w kind is.1)
  ret_more (op.Alloca ty count align) bit kind is = is
  ret_more (op.Select c a b) bit kind is = is
  ret_more (op.Phi arms) bit kind is = is
  ret_more (op.Gep elem base indices inbounds wrap) bit kind is = is
  ret_more (op.Call call) bit kind is = is
  ret_more (op.Invoke call normal unwind) bit kind is = is
  ret_more (op.Resume val) bit kind is = is
  ret_more (op.Bin operation flagged a b) bit kind is = is
  ret_more (op.Icmp pred flagged a b) bit kind is = is
  ret_more (op.Cast conversion flagged a) bit kind is = is
  ret_more (op.Freeze a) bit kind is = is
  ret_more (op.Load ptr align volatile) bit kind is = is
  ret_more (op.Store val ptr align volatile) bit kind is = is
  ret_more (op.LandingPad catch_all clauses) bit kind is = is
  ret_more (op.Jump to) bit kind is = is
  ret_more (op.Branch c so otherwise) bit kind is = is
  ret_more (op.Switch on other_target cases) bit kind is = is
  ret_more op.Unreachable bit kind is = is

  return_more : (f bit : ℕ) (kind : ValueFact) → ReturnHas m held f bit kind → ReturnHas m other f bit kind
  return_more f bit kind has s instr within at alive = ret_more instr.op bit kind (has s instr within at (live s alive))

  -- ---- uses

  used_more : (kind : UseFact) (instr : Instr) → ResultUsed held kind instr → ResultUsed other kind instr
  used_more kind instr is =
      option_more instr.result ⊥ ⊥ (λ r. held (used_so kind r.0) ≡ true) (λ r. other (used_so kind r.0) ≡ true) (λ nothing. nothing)
      (λ r. more (used_so kind r.0) refl) is

  call_used_more : (kind : UseFact) (instr : Instr) → CallResultUsed m held kind instr → CallResultUsed m other kind instr
  call_used_more kind instr is pointer = used_more kind instr (is pointer)

  param_used_more : (kind : UseFact) (instr : Instr) (p : Param) → ParamUsed m held kind instr p → ParamUsed m other kind instr p
  param_used_more NotReturned instr p is = sum_more (more (used_so NotReturned p.value.0) refl) (call_used_more NotReturned instr) is
  param_used_more CapturedByReturnAlone instr p is = (
    more (used_so CapturedByReturnAlone p.value.0) refl is.0,
    sum_more (more (used_so NotReturned p.value.0) refl) (call_used_more CapturedByReturnAlone instr) is.1,
  )
  param_used_more (NotThrough a) instr p is = (
    more (used_so (NotThrough a) p.value.0) refl is.0,
    sum_more (more (used_so NotReturned p.value.0) refl) (call_used_more (NotThrough a) instr) is.1,
  )

  arg_used_more : (kind : UseFact) (instr : Instr) (at : ℕ) → PassedUsed m held kind instr at → PassedUsed m other kind instr at
  arg_used_more kind instr at is =
      option_more (inner_callee m instr.op) _ _ (λ g. MatchOption (param_of m g at) ⊥ (λ p. ParamUsed m held kind instr p))
      (λ g. MatchOption (param_of m g at) ⊥ (λ p. ParamUsed m other kind instr p)) (λ promised. promised)
      (λ g. option_more (param_of m g at) ⊥ ⊥ (λ p. ParamUsed m held kind instr p) (λ p. ParamUsed m other kind instr p) (λ nothing. nothing)
      (λ p. param_used_more kind instr p)) is

  call_uses_more : (kind : UseFact) (instr : Instr) (n : ℕ) → CallUses m held kind instr n → CallUses m other kind instr n
  call_uses_more kind instr zero is = is
  call_uses_more kind instr (suc at) is = arg_used_more kind instr at is

  select_uses_more : (kind : UseFact) (instr : Instr) (n : ℕ) → SelectUses held kind instr n → SelectUses other kind instr n
  select_uses_more kind instr zero is = is
  select_uses_more kind instr (suc n) is = used_more kind instr is

  gep_uses_more : (kind : UseFact) (instr : Instr) (n : ℕ) → GepUses held kind instr n → GepUses other kind instr n
  gep_uses_more kind instr zero is = used_more kind instr is
  gep_uses_more kind instr (suc n) is = is

  permits_more : (kind : UseFact) (instr : Instr) (o : Op) (n : ℕ) → Permits m held kind instr o n → Permits m other kind instr o n
  permits_more kind instr (op.Gep elem base indices inbounds wrap) n is = gep_uses_more kind instr n is
  permits_more kind instr (op.Select c a b) n is = select_uses_more kind instr n is
  permits_more kind instr (op.Freeze a) n is = used_more kind instr is
  permits_more kind instr (op.Call call) n is = call_uses_more kind instr n is
  permits_more kind instr (op.Invoke call normal unwind) n is = call_uses_more kind instr n is
  permits_more kind instr (op.Load ptr align volatile) n is = is
  permits_more kind instr (op.Store val ptr align volatile) n is = is
  permits_more kind instr (op.Icmp pred flagged a b) n is = is
  permits_more kind instr (op.Cast conversion flagged a) n is = is
  permits_more kind instr (op.Ret val) n is = is
  permits_more kind instr (op.Alloca ty count align) n is = is
  permits_more kind instr (op.Phi arms) n is = is
  permits_more kind instr (op.Resume val) n is = is
  permits_more kind instr (op.Bin operation flagged a b) n is = is
  permits_more kind instr (op.LandingPad catch_all clauses) n is = is
  permits_more kind instr (op.Jump to) n is = is
  permits_more kind instr (op.Branch c so otherwise) n is = is
  permits_more kind instr (op.Switch on other_target cases) n is = is
  permits_more kind instr op.Unreachable n is = is

  used_so_more : (v : ℕ) (kind : UseFact) → IsUsedSo m held v kind → IsUsedSo m other v kind
  used_so_more v kind is = record {
    plain = λ s instr n use_at alive. permits_more kind instr instr.op n (is.plain s instr n use_at (live s alive));
    arms = λ s instr arm t n e use_at by_edge alive. used_more kind instr (is.arms s instr arm t n e use_at by_edge (edge_live t e alive));
  }

  -- ---- all positions

  value_more : (v bit : ℕ) (kind : ValueFact) → ValueHas m held v bit kind → ValueHas m other v bit kind
  value_more v bit (SameAs i) is = same_more v i is
  value_more v bit (UsedSo kind) is = used_so_more v kind is
  value_more v bit NonNull is = pointer_more v bit NonNull is
  value_more v bit (AlignedTo bytes) is = pointer_more v bit (AlignedTo bytes) is
  value_more v bit (HasBytes count) is = pointer_more v bit (HasBytes count) is
  value_more v bit (NotTo class) is = pointer_more v bit (NotTo class) is

  -- what one set justifies at a position, the other does
  pub rule_more : (p : Pos) (bit : ℕ) → JustifiedAt m held p bit → JustifiedAt m other p bit
  rule_more (pos.Segment k) bit rule = (rule.0, dead_more k.0 rule.1)
  rule_more (pos.Function f) bit rule =
      option_more (function_fact bit) ⊥ ⊥ (EachKeeps m held f.0) (EachKeeps m other f.0) (λ nothing. nothing) (each_more f.0) rule
  rule_more (pos.Value v) bit rule =
      option_more (value_fact bit) ⊥ ⊥ (ValueHas m held v.0 bit) (ValueHas m other v.0 bit) (λ nothing. nothing) (value_more v.0 bit) rule
  rule_more (pos.Entry f at) bit rule =
      option_more (value_fact bit) ⊥ ⊥ (EntryHas m held f.0 at bit) (EntryHas m other f.0 at bit) (λ nothing. nothing) (entry_more f.0 at bit) rule
  rule_more (pos.Return f) bit rule =
      option_more (value_fact bit) ⊥ ⊥ (ReturnHas m held f.0 bit) (ReturnHas m other f.0 bit) (λ nothing. nothing) (return_more f.0 bit) rule
  rule_more (pos.Reach row k) bit rule = row_more row _ rule
  rule_more (pos.Effect k) bit rule =
      option_more (function_fact bit) ⊥ ⊥ (SegmentKeeps m held k.0) (SegmentKeeps m other k.0) (λ nothing. nothing) (segment_more k.0) rule

-- what a set justifies, a larger one does
pub justified_more : (m : Module) (held other : Fact → Bool) → HasMore held other → (x : Fact) → Justified m held x → Justified m other x
justified_more m held other more x rule = rule_more m held other more x.pos x.bit rule
