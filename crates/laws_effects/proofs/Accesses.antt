-- Down the stack: each call permits the access that the call above it permits.
use Rattle.std.proofs.Common.{◌≡◌, ◌≢◌, ℕ, suc, zero, ◌+◌, ◌<◌, ◌≤◌, Bool, true, false, List, [], ◌∷◌, slice_get, map, MatchOption, Option, None, Some, refl}
use Rattle.std.proofs.Common.{sym, ap, subst, ◌∙◌, ◌⊎◌, inl, inr, arith}
use Rattle.std.proofs.Common.{true≢false}
use Rattle.std.specs.List.{AllByRecursion}
use Rattle.std.specs.Option.{option_map_or, option_and_then}
use Rattle.ir_module.specs.declared.op.Call.{Call}
use Rattle.ir_module.specs.declared.op.Op.{Op}
use Rattle.ir_module.specs.declared.op.Symbol.{Symbol}
use Rattle.ir_module.specs.declared.op.Symbol.TheVariants as symbol
use Rattle.ir_module.specs.declared.op.Operand.{Operand}
use Rattle.ir_module.specs.declared.op.Operand.TheVariants as operand
use Rattle.ir_module.specs.declared.op.Instr.{Instr}
use Rattle.ir_module.specs.declared.op.Written.{Written}
use Rattle.attr_ids.specs.declared.ids.TypeId.{TypeId}
use Rattle.ir_module.specs.declared.module.GlobalVar.{GlobalVar}
use Rattle.ir_module.specs.declared.module.Func.{Func}
use Rattle.ir_module.specs.declared.module.Spot.{Spot}
use Rattle.ir_module.specs.declared.module.Module.{Module}
use Rattle.ir_module.specs.Places.{instr_at, IsIn}
use Rattle.ir_module.specs.Calls.{call_of, is_call}
use Rattle.facts.specs.Kinds.{FunctionFact, NoAccess, Access, Location, Default, Argmem, Inaccessible, BlockClass, OwnAlloca, Argument, Global, Unknown}
use Rattle.facts.specs.Kinds.{class_bit, NotTo}
use Rattle.facts.specs.Bodies.{is_pointer}
use Rattle.facts.specs.Facts.{Fact, dead_at, of_function, of_value}
use Rattle.facts.specs.Promises.{call_has}
use Rattle.facts.specs.Known.{global_has, func_has, symbol_has, symbol_bit, operand_has, written_has, arg_at, PointersHave}
use Rattle.facts.specs.Memory.{IsNotTo, AreNotTo, CallIsOff, IsOff, IsVisible}
use Rattle.ir_machine.specs.declared.choice.Datum.{Datum}
use Rattle.ir_machine.specs.declared.choice.Datum.TheVariants as datum
use Rattle.ir_machine.specs.declared.choice.Value.{Value}
use Rattle.ir_machine.specs.Values.{marked}
use Rattle.ir_machine.specs.Memory.{Memory, OfSymbol, OfAlloca, Dead}
use Rattle.ir_machine.specs.Frames.{At, Begun, Active, active, BodyFrame, Frame, Body, Outside, call_of as call_in}
use Rattle.ir_machine.specs.Arguments.{IsValueOf, IsPassed, ArePassed, IsPassedBy, ArgumentsAreOperands, Homes}
use Rattle.ir_machine.specs.Links.{BeginsAs, CallsBody, CallsBodyIn, AreLinked}
use Rattle.ir_machine.specs.Meanings.{IsArgumentBlock, PointsTo}
use Rattle.ir_machine.specs.Valid.{Scope, AreBlocks, AreOrdered}
use Rattle.fact_meanings.specs.Values.{IsOfClass, FrameIsRight}
use Rattle.law_premises.specs.Premises.{JustifiesItself, StandLive}
use Rattle.law_premises.specs.Types.{HasTypedAddresses}
use Rattle.laws_effects.proofs.Entering.{HasPlaces}
use Rattle.laws_effects.proofs.Permits.{decide, has, has_over, Permits, PermitsHidden, rule}

-- ---- classes of operands

-- a name's address is to a global or a function
symbol_is_global : (m : Module) (s : Symbol) → symbol_bit m s (class_bit Global) ≡ false
symbol_is_global m (symbol.Global g) = by (slice_get m.globals g.0)
  where
    by : (found : Option GlobalVar) → option_map_or (global_has m (NotTo Global)) found false ≡ false
    by None = refl
    by (Some global) = refl
symbol_is_global m (symbol.Func f) = by (slice_get m.funcs f.0)
  where
    by : (found : Option Func) → option_map_or (func_has (NotTo Global)) found false ≡ false
    by None = refl
    by (Some func) = refl

-- a class of the block that its word leaves
abbrev pub HasClass : Module → (Fact → Bool) → Memory → Begun → Written → ℕ → Type 0
HasClass m held mem call w b = (class : BlockClass) × (written_has m held w (class_bit class) ≡ false) × IsOfClass mem call class b

pub operand_class : (m : Module) (held : Fact → Bool) (mem : Memory) (s : Scope) → AreBlocks mem s → (frame : BodyFrame) → FrameIsRight held mem (Body frame) →
    (w : Written) (y : Value) (b o : ℕ) → IsValueOf mem.home frame.values w.val y → y.datum ≡ datum.Ptr b o → mem.life b ≢ Dead →
    HasClass m held mem frame.call w b
operand_class m held mem s blocks frame right w y b o is points alive = by w.val refl is
  where
    of_symbol : (name : Symbol) → mem.home name ≡ Some b → (ty : TypeId) (v : Operand) → operand_has m held ty v (class_bit Global) ≡ false →
        (class : BlockClass) × (operand_has m held ty v (class_bit class) ≡ false) × IsOfClass mem frame.call class b
    of_symbol name home ty v none = (Global, none, (name, (blocks.homes name b home).1))

    by : (v : Operand) → w.val ≡ v → IsValueOf mem.home frame.values v y → (class : BlockClass) × (operand_has m held w.ty w.val (class_bit class) ≡ false) ×
        IsOfClass mem frame.call class b
    by (operand.Value v) e is = subst (λ v. (class : BlockClass) × (operand_has m held w.ty v (class_bit class) ≡ false) ×
        IsOfClass mem frame.call class b) (sym e)
        ((right v.0 y is).classes b o points alive)
    by (operand.Global g) e is = subst (λ v. (class : BlockClass) × (operand_has m held w.ty v (class_bit class) ≡ false) ×
        IsOfClass mem frame.call class b) (sym e)
        (of_symbol (symbol.Global g) (is.block b o points) w.ty (operand.Global g) (symbol_is_global m (symbol.Global g)))
    by (operand.Func f) e is = subst (λ v. (class : BlockClass) × (operand_has m held w.ty v (class_bit class) ≡ false) ×
        IsOfClass mem frame.call class b) (sym e)
        (of_symbol (symbol.Func f) (is.block b o points) w.ty (operand.Func f) (symbol_is_global m (symbol.Func f)))
    by (operand.Offset base bytes inbounds wrap) e is =
        subst (λ v. (class : BlockClass) × (operand_has m held w.ty v (class_bit class) ≡ false) × IsOfClass mem frame.call class b) (sym e)
        (of_symbol base (is.block b o points) w.ty (operand.Offset base bytes inbounds wrap) (symbol_is_global m base))
    by (operand.Int bits here) e is = absurd (is.block b o points)
    by (operand.Truth t) e is = absurd (is.block b o points)
    by operand.Zero e is = absurd (is.block b o points)
    by operand.Null e is = absurd (is.block b o points)
    by operand.Undef e is = absurd (is.block b o points)
    by operand.Poison e is = absurd (is.block b o points)
    by (operand.WrongOffset rule) e is = absurd is
    by (operand.Parts shape first count) e is = absurd is
    by (operand.AnyInt first count) e is = absurd (is.block b o points)

passed_value : (home : Homes) (values : ℕ → Option Value) (call k : ℕ) (ws : List Written) (xs : List Value) → ArePassed home values call k ws xs →
    (i : ℕ) (x : Value) → slice_get xs i ≡ Some x → (w : Written) × (slice_get ws i ≡ Some w) × IsPassed home values call (k + i) w x
passed_value home values call k ws [] are i x at = absurd (cc)
passed_value home values call k [] (y ∷ xs) are i x at = absurd are
passed_value home values call k (w ∷ ws) (y ∷ xs) are zero x at =
    let same : y ≡ x = cc in
    (w, refl, subst (λ n. IsPassed home values call n w x) (omega arith) (subst (IsPassed home values call k w) same are.0))
passed_value home values call k (w ∷ ws) (y ∷ xs) are (suc i) x at =
    let later = passed_value home values call (k + 1) ws xs are.1 i x at in
    (later.0, later.1, subst (λ n. IsPassed home values call n later.0 x) (omega arith) later.2)

ptr_of : (d : Datum) (b : ℕ) → PointsTo b d → (o : ℕ) × (d ≡ datum.Ptr b o)
ptr_of (datum.Ptr block offset) b is = (offset, ap (λ n. datum.Ptr n offset) is)
ptr_of datum.Null b is = absurd is
ptr_of datum.Undef b is = absurd is
ptr_of datum.Poison b is = absurd is
ptr_of (datum.Int bits) b is = absurd is
ptr_of datum.Pair b is = absurd is

-- ---- a module frame and the call over it

stands_in : (m : Module) (frame : BodyFrame) (below : List Frame) → AreLinked m (Body frame) below → IsIn m frame.func frame.spot
stands_in m frame [] h = h.0.1
stands_in m frame (under ∷ below) h = h.0.1

found_instr : (m : Module) (top : Frame) (under : BodyFrame) (below : List Frame) → AreLinked m top (Body under ∷ below) →
    (instr : Instr) × (instr_at m under.spot ≡ Some instr)
found_instr m top under below h = by (instr_at m under.spot) refl (subst (BeginsAs m (active top).body) h.1 h.0.0)
  where
    by : (found : Option Instr) → instr_at m under.spot ≡ found → CallsBodyIn m (active top).body found → (instr : Instr) × (instr_at m under.spot ≡ Some instr)
    by None at made = absurd made
    by (Some instr) at made = (instr, at)

calls_over : (m : Module) (top : Frame) (under : BodyFrame) (below : List Frame) → AreLinked m top (Body under ∷ below) → (instr : Instr) →
    instr_at m under.spot ≡ Some instr → CallsBody m (active top).body instr.op
calls_over m top under below h instr at = subst (CallsBodyIn m (active top).body) at (subst (BeginsAs m (active top).body) h.1 h.0.0)

top_has : (m : Module) (held : Fact → Bool) (top : Frame) (under : BodyFrame) (below : List Frame) → AreLinked m top (Body under ∷ below) → (instr : Instr) →
    instr_at m under.spot ≡ Some instr → (kind : FunctionFact) → call_has m held kind instr.op ≡ has m held kind (active top)
top_has m held top under below h instr at kind =
    has_over m held kind under.spot (call_in top).made (active top).body instr at (calls_over m top under below h instr at) h.1

-- hidden accesses: each call of the stack permits what the one on top does
pub all_hidden : (m : Module) (held : Fact → Bool) → JustifiesItself m held → (acc : Access) (top : Frame) (below : List Frame) → AreLinked m top below →
    StandLive held (top ∷ below) → AllByRecursion (λ a. a.body ≡ None → PermitsHidden m held acc a) (map active (top ∷ below)) →
    PermitsHidden m held acc (active top) → AllByRecursion (PermitsHidden m held acc) (map active (top ∷ below))
all_hidden m held is acc top [] h live outer permits = (permits, tt)
all_hidden m held is acc top (Outside under ∷ below) h live outer permits =
    (permits, all_hidden m held is acc (Outside under) below h.2 live.1 outer.1 (outer.1.0 refl))
all_hidden m held is acc top (Body under ∷ below) h live outer permits = (permits, all_hidden m held is acc (Body under) below h.2 live.1 outer.1 hidden_under)
  where
    hidden_under : PermitsHidden m held acc (active (Body under))
    hidden_under =
        let found = found_instr m top under below h in
        decide (held (of_function (NoAccess acc Inaccessible) under.func))
        (λ quiet. absurd (true≢false (sym ((rule m held is (NoAccess acc Inaccessible) under.func quiet under.spot found.0 (stands_in m under below h.2) found.1
        live.1.0).call
        (calls_over m top under below h found.0 found.1).0) ∙
        (top_has m held top under below h found.0 found.1 (NoAccess acc Inaccessible) ∙ permits)))) (λ noisy. noisy)

module _ (m : Module) (held : Fact → Bool) (is : JustifiesItself m held) (mem : Memory) (s : Scope) (blocks : AreBlocks mem s) (acc : Access) (b : ℕ)
    (within : b < mem.count) (alive : mem.life b ≢ Dead) where
  -- a body permits an access through an operand, where its facts have refused none of the operand's classes
  pub body_permits : (frame : BodyFrame) (w : Written) → s.born frame.call.number ≡ frame.call.born → HasClass m held mem frame.call w b →
      (held (of_function (NoAccess acc Default) frame.func) ≡ true → IsNotTo m held Global w) →
      (held (of_function (NoAccess acc Argmem) frame.func) ≡ true → IsNotTo m held Argument w) → Permits m held acc b (active (Body frame))
  body_permits frame w born (class, open', of) off_default off_arg low =
      decide (held (of_function (NoAccess acc Default) frame.func))
      (λ e. by class open' of (off_default e))
      (λ noisy. inl noisy)
    where
      by : (class : BlockClass) → written_has m held w (class_bit class) ≡ false → IsOfClass mem frame.call class b → IsNotTo m held Global w →
          (held (of_function (NoAccess acc Default) frame.func) ≡ false) ⊎
          ((held (of_function (NoAccess acc Argmem) frame.func) ≡ false) × IsArgumentBlock frame.call b)
      by OwnAlloca e of off =
          let young = (blocks.allocas b frame.call.number of.0 within of.1).1 in absurd (omega (arith, young, low, born))
      by Argument e of off =
          inr (decide (held (of_function (NoAccess acc Argmem) frame.func)) (λ quiet. absurd (true≢false (sym (off_arg quiet).0 ∙ e))) (λ noisy. noisy), of)
      by Global e of off = absurd (true≢false (sym off.0 ∙ e))
      by Unknown e of off = absurd (true≢false (sym off.1 ∙ e))

  -- a module frame permits what the call over it permits
  module _ (top : Frame) (under : BodyFrame) (below : List Frame) (h : AreLinked m top (Body under ∷ below)) (live : held (dead_at under.spot) ≡ false)
      (instr : Instr) (at : instr_at m under.spot ≡ Some instr) where
    over : (kind : FunctionFact) → call_has m held kind instr.op ≡ has m held kind (active top)
    over kind = top_has m held top under below h instr at kind

    permits_under : (call_of_top : IsPassedBy m mem.home (call_in top) under) → HasPlaces top → HasTypedAddresses m top → FrameIsRight held mem (Body under) →
        s.born under.call.number ≡ under.call.born → under.call.born ≤ (call_in top).born → Permits m held acc b (active top) →
        Permits m held acc b (active (Body under))
    permits_under passed places typed right born older permits low =
        elim (permits (omega (arith, low, older))) [
          | inl noisy ↦ inl (decide (held (of_function (NoAccess acc Default) under.func))
              (λ quiet. absurd (true≢false (sym (default_off quiet).0 ∙ (over (NoAccess acc Default) ∙ noisy)))) (λ loud. loud))
          | inr (noisy, block) ↦
              let x = block.1 in
              let points = ptr_of x.datum b block.3 in
              let place = places block.0 x b points.0 block.2 points.1 in
              let same : passed.instr ≡ instr = some_is (sym passed.stands ∙ at) in
              let call : call_of instr.op ≡ Some passed.written = subst (λ (i : Instr). call_of i.op ≡ Some passed.written) same passed.is_call in
              let found = passed_value mem.home under.values (call_in top).number 0 passed.written.args (call_in top).passed passed.args block.0 place.0 place.1
              in
              let operand_at : arg_at instr.op block.0 ≡ Some found.0 =
              subst (λ c. option_and_then (λ (call : Call). slice_get call.args block.0) c ≡ Some found.0) (sym call) found.1 in
              let pointer : is_pointer m found.0.ty ≡ true =
              typed under.spot instr passed.written block.0 found.0 place.0 b points.0 h.1 at call found.1 place.1 place.2 in
              let class = operand_class m held mem s blocks under right found.0 found.2.value b points.0 found.2.operand
              (value_points found.2.value (0 + block.0) place.0 b points.0
              found.2.is place.2) alive in
              body_permits under found.0 born class
              (λ quiet. not_to Global found.0 block.0 operand_at pointer noisy (default_off quiet).1)
              (λ quiet. not_to Argument found.0 block.0 operand_at pointer noisy (arg_off quiet).1) low
        ]
      where
        some_is : {a b : Instr} → Some a ≡ Some b → a ≡ b
        some_is e = cc

        default_off : held (of_function (NoAccess acc Default) under.func) ≡ true → CallIsOff m held acc Global instr.op
        default_off quiet = (rule m held is (NoAccess acc Default) under.func quiet under.spot instr (stands_in m under below h.2) at live).call
            (calls_over m top under below h instr at).0

        arg_off : held (of_function (NoAccess acc Argmem) under.func) ≡ true → CallIsOff m held acc Argument instr.op
        arg_off quiet = (rule m held is (NoAccess acc Argmem) under.func quiet under.spot instr (stands_in m under below h.2) at live).call
            (calls_over m top under below h instr at).0

        value_points : (value : Value) (k : ℕ) (x : Value) (b o : ℕ) → (x ≡ value) ⊎ (x ≡ marked (record { call = (call_in top).number; param = k }) value) →
            x.datum ≡ datum.Ptr b o → value.datum ≡ datum.Ptr b o
        value_points value k x b o is points =
            elim is [
              | inl same ↦ subst (λ (x : Value). x.datum ≡ datum.Ptr b o) same points
              | inr marks ↦ subst (λ (x : Value). x.datum ≡ datum.Ptr b o) marks points
            ]

        not_to : (class : BlockClass) (w : Written) (k : ℕ) → arg_at instr.op k ≡ Some w → is_pointer m w.ty ≡ true →
            has m held (NoAccess acc Argmem) (active top) ≡ false →
            (call_has m held (NoAccess acc Argmem) instr.op ≡ true) ⊎ AreNotTo m held class instr.op → IsNotTo m held class w
        not_to class w k at_k pointer noisy is =
            elim is [
              | inl quiet ↦ absurd (true≢false (sym quiet ∙ (over (NoAccess acc Argmem) ∙ noisy)))
              | inr both ↦ (both.0 k w at_k pointer, both.1 k w at_k pointer)
            ]

  -- so each call of the stack permits what the one on top does
  pub all_permit : (next most : ℕ) (top : Frame) (below : List Frame) → AreLinked m top below → StandLive held (top ∷ below) →
      AreOrdered s.born next most (top ∷ below) → ArgumentsAreOperands m mem.home (top ∷ below) → AllByRecursion HasPlaces (top ∷ below) →
      AllByRecursion (HasTypedAddresses m) (top ∷ below) → AllByRecursion (FrameIsRight held mem) (top ∷ below) →
      AllByRecursion (λ a. a.body ≡ None → Permits m held acc b a) (map active (top ∷ below)) → Permits m held acc b (active top) →
      AllByRecursion (Permits m held acc b) (map active (top ∷ below))
  all_permit next most top [] h live order passed places typed right outer permits = (permits, tt)
  all_permit next most top (Outside under ∷ below) h live order passed places typed right outer permits = (
    permits,
    all_permit (call_in top).number (call_in top).born (Outside under) below h.2 live.1 order.3 passed.1 places.1 typed.1 right.1 outer.1
        (outer.1.0 refl),
  )
  all_permit next most top (Body under ∷ below) h live order passed places typed right outer permits =
      let found = found_instr m top under below h in (
        permits,
        all_permit (call_in top).number (call_in top).born (Body under) below h.2 live.1 order.3 passed.1 places.1 typed.1 right.1 outer.1
            (permits_under top under below h live.1.0 found.0 found.1 passed.0 places.0 typed.0 right.1.0 order.3.2 order.3.1 permits),
      )
