-- What comes back from a call is as the word of its result says.
use Rattle.std.proofs.Common.{◌≡◌, ◌≢◌, ℕ, zero, suc, ◌+◌, ◌==◌, ◌||◌, ◌<◌, not, nat_lt, Bool, true, false, if◌then◌else◌, List, [], ◌∷◌, slice_get}
use Rattle.std.proofs.Common.{slice_index, ◌-◌, map}
use Rattle.std.proofs.Common.{Option, None, Some, refl, sym, ap, subst, ◌∙◌, ◌⊎◌, inl, inr, MatchOption, true≢false, arith}
use Rattle.std.specs.List.{list_any}
use Rattle.std.specs.Option.{option_map_or, option_and_then}
use Rattle.std.proofs.lemmas.Bool.{and_parts, lt-ltb}
use Rattle.std.proofs.lemmas.Option.{same_Some}
use Rattle.lattice_words.specs.Ladders.{is_byte_bit, is_align_bit, byte_rungs, align_rungs}
use Rattle.lattice_words.specs.declared.value.TheConstants as value
use Rattle.attr_ids.specs.declared.ids.TypeId.{TypeId}
use Rattle.attr_ids.specs.declared.ids.ValueId.{ValueId}
use Rattle.ir_module.specs.declared.attrs.ParamAttrs.{ParamAttrs}
use Rattle.ir_module.specs.declared.attrs.CallAttrs.{CallAttrs}
use Rattle.ir_module.specs.declared.op.Call.{Call}
use Rattle.ir_module.specs.declared.op.Op.{Op}
use Rattle.ir_module.specs.declared.op.Op.TheVariants as op
use Rattle.ir_module.specs.declared.op.Operand.{Operand}
use Rattle.ir_module.specs.declared.op.Operand.TheVariants as operand
use Rattle.ir_module.specs.declared.op.Symbol.TheVariants as symbol
use Rattle.ir_module.specs.declared.op.Instr.{Instr}
use Rattle.ir_module.specs.declared.op.Written.{Written}
use Rattle.ir_module.specs.declared.module.Param.{Param}
use Rattle.ir_module.specs.declared.module.Spot.{Spot}
use Rattle.ir_module.specs.declared.module.Module.{Module}
use Rattle.ir_module.specs.Places.{instr_at}
use Rattle.ir_module.specs.Calls.{Returned, call_of, is_call, inner_callee, promising}
use Rattle.facts.specs.Bodies.{is_pointer, param_of}
use Rattle.facts.specs.Kinds.{ValueFact, SameAs, NonNull, AlignedTo, HasBytes, NotTo, UsedSo, CapturedByReturnAlone, NotReturned, NotThrough}
use Rattle.facts.specs.Kinds.{Read as Reads, Write as Writes, BlockClass, OwnAlloca, Argument, Global, Unknown, class_bit, value_fact}
use Rattle.facts.specs.Kinds.{class_fact as class_of_bit, use_fact}
use Rattle.facts.specs.Facts.{Fact, of_return}
use Rattle.facts.specs.Displacements.{constant_displacement}
use Rattle.facts.specs.Known.{symbol_has, symbol_bit, table_bit, null_has, undef_has, poison_has, moved_by, operand_has, written_has}
use Rattle.facts.specs.Known.{arg_at, arg_has}
use Rattle.facts.specs.Promises.{gives_nonnull, gives_align, may_poison}
use Rattle.facts.specs.Same.{GivesBack, PromisesBack, CallIsSame}
use Rattle.facts.specs.Pointer.{InnerHas, OuterHas, CallHas}
use Rattle.ir_machine.specs.declared.choice.Datum.{Datum}
use Rattle.ir_machine.specs.declared.choice.Datum.TheVariants as datum
use Rattle.ir_machine.specs.declared.choice.Value.{Value}
use Rattle.ir_machine.specs.Memory.{Memory, OfAlloca, Dead}
use Rattle.ir_machine.specs.Frames.{At, Begun, active, BodyFrame, Frame, call_of as call_in, Return, Event}
use Rattle.ir_machine.specs.Moves.{Gives}
use Rattle.ir_machine.specs.Reading.{Values}
use Rattle.ir_machine.specs.Calls.{acted_on}
use Rattle.ir_machine.specs.Arguments.{Homes, IsValueOf, IsPassed, ArePassed, IsPassedBy}
use Rattle.ir_machine.specs.Meanings.{IsBy, PointsTo}
use Rattle.ir_machine.specs.Honest.{IsFair, promised_to, promised_at, promised_in}
use Rattle.ir_machine.specs.Valid.{Scope, AreBlocks, IsLater, IsAmongFirst}
use Rattle.fact_meanings.specs.Values.{IsOfClass}
use Rattle.law_premises.specs.Premises.{JustifiesItself}
use Rattle.law_premises.specs.Types.{HasTypedAddresses}
use Rattle.laws_pointer.proofs.Good.{placed_later}
use Rattle.laws_pointer.proofs.Good.{Says, IsGood, word_of, class_fact, in_class, unknown_classes, class_later, AreGood, symbol_same, symbol_is_global}
use Rattle.laws_pointer.proofs.Rules.{RuleOf, HasRules, acted, acted_kept}
use Rattle.laws_pointer.proofs.Frames.{MayPoison, KeepsArgs, HasPassed}

-- ---- the bits of `same as parameter`

-- it says nothing of a parameter
abbrev NeverSame : Option ValueFact → Type 0
NeverSame (Some (SameAs i)) = ⊥
NeverSame _ = Unit {0}

never_if : (b : Bool) (k rest : Option ValueFact) → NeverSame k → NeverSame rest → NeverSame (if b then k else rest)
never_if true k rest at_k at_rest = at_k
never_if false k rest at_k at_rest = at_rest

use_never : (bit : ℕ) → NeverSame (use_fact bit)
use_never bit =
    never_if (bit == value.CAPTURED_BY_RETURN_ALONE) (Some (UsedSo CapturedByReturnAlone)) _ tt
    (never_if (bit == value.NOT_RETURNED) (Some (UsedSo NotReturned)) _ tt
    (never_if (bit == value.NOT_READ_THROUGH) (Some (UsedSo (NotThrough Reads))) _ tt
    (never_if (bit == value.NOT_WRITTEN_THROUGH) (Some (UsedSo (NotThrough Writes))) None tt tt)))

class_never : (bit : ℕ) → NeverSame (class_of_bit bit)
class_never bit =
    never_if (bit == value.NOT_OWN_ALLOCA) (Some (NotTo OwnAlloca)) _ tt
    (never_if (bit == value.NOT_ARGUMENT) (Some (NotTo Argument)) _ tt
    (never_if (bit == value.NOT_GLOBAL) (Some (NotTo Global)) _ tt
    (never_if (bit == value.NOT_UNKNOWN) (Some (NotTo Unknown)) (use_fact bit) tt (use_never bit))))

-- the bit that says so is the parameter's number
pub same_bit : (bit i : ℕ) → value_fact bit ≡ Some (SameAs i) → bit ≡ i
same_bit bit i e = by (nat_lt bit value.SAME_AS_PARAMETERS) e
  where
    by : (b : Bool) → (if b then Some (SameAs bit) else (
        if bit == value.NONNULL then Some NonNull else (
        if is_align_bit bit then Some (AlignedTo (slice_index align_rungs (bit - value.ALIGN_2))) else (
        if is_byte_bit bit then Some (HasBytes (slice_index byte_rungs (bit - value.BYTES_1))) else class_of_bit bit)))) ≡ Some (SameAs i) → bit ≡ i
    by true e = cc
    by false e = absurd (subst NeverSame e
        (never_if (bit == value.NONNULL) (Some NonNull) _ tt
        (never_if (is_align_bit bit) (Some (AlignedTo (slice_index align_rungs (bit - value.ALIGN_2)))) _ tt
        (never_if (is_byte_bit bit) (Some (HasBytes (slice_index byte_rungs (bit - value.BYTES_1)))) (class_of_bit bit) tt (class_never bit)))))

bit_same : (j : ℕ) → j < value.SAME_AS_PARAMETERS → value_fact j ≡ Some (SameAs j)
bit_same j low = by (nat_lt j value.SAME_AS_PARAMETERS) (lt-ltb j value.SAME_AS_PARAMETERS low)
  where
    by : (b : Bool) → b ≡ true → (if b then Some (SameAs j) else (
        if j == value.NONNULL then Some NonNull else (
        if is_align_bit j then Some (AlignedTo (slice_index align_rungs (j - value.ALIGN_2))) else (
        if is_byte_bit j then Some (HasBytes (slice_index byte_rungs (j - value.BYTES_1))) else class_of_bit j)))) ≡ Some (SameAs j)
    by true e = refl
    by false e = absurd (true≢false (sym e))

-- ---- operands of a call that stands

passed_value : (home : Homes) (values : Values) (call k : ℕ) (ws : List Written) (xs : List Value) → ArePassed home values call k ws xs →
    (i : ℕ) (x : Value) → slice_get xs i ≡ Some x → (w : Written) × (slice_get ws i ≡ Some w) × IsPassed home values call (k + i) w x
passed_value home values call k ws [] are i x at = absurd (cc)
passed_value home values call k [] (y ∷ xs) are i x at = absurd are
passed_value home values call k (w ∷ ws) (y ∷ xs) are zero x at =
    let same : y ≡ x = cc in
    (w, refl, subst (λ n. IsPassed home values call n w x) (omega arith) (subst (IsPassed home values call k w) same are.0))
passed_value home values call k (w ∷ ws) (y ∷ xs) are (suc i) x at =
    let later = passed_value home values call (k + 1) ws xs are.1 i x at in
    (later.0, later.1, subst (λ n. IsPassed home values call n later.0 x) (omega arith) later.2)

passed_datum : (home : Homes) (values : Values) (call k : ℕ) (w : Written) (x : Value) → (p : IsPassed home values call k w x) → x.datum ≡ p.value.datum
passed_datum home values call k w x p = elim p.is [
  | inl same ↦ ap (λ (v : Value). v.datum) same
  | inr marks ↦ ap (λ (v : Value). v.datum) marks
]

table_same : (has : ValueFact → Bool) (i : ℕ) → has (SameAs i) ≡ false → (bit : ℕ) → table_bit has bit ≡ true → value_fact bit ≡ Some (SameAs i) → ⊥
table_same has i none bit e is = true≢false (sym (subst (λ found. option_map_or has found false ≡ true) is e) ∙ none)

-- only a value can be the same as a parameter
same_operand : (m : Module) (held : Fact → Bool) (mem : Memory) (call : Begun) (values : Values) → AreGood m held mem call values →
    (home : Homes) (t : TypeId) (o : Operand)
    (z : Value) (i : ℕ) → IsValueOf home values o z → operand_has m held t o i ≡ true → value_fact i ≡ Some (SameAs i) →
    Says m mem call (Some (SameAs i)) z.datum
same_operand m held mem call values good home t (operand.Value v) z i is has e = (good v.0 z is).bits i (SameAs i) has e
same_operand m held mem call values good home t (operand.Int bits here) z i is has e = absurd (true≢false (sym has))
same_operand m held mem call values good home t (operand.Truth b) z i is has e = absurd (true≢false (sym has))
same_operand m held mem call values good home t operand.Zero z i is has e =
    absurd (table_same null_has i refl i (and_parts (is_pointer m t) (table_bit null_has i) has).1 e)
same_operand m held mem call values good home t operand.Null z i is has e = absurd (table_same null_has i refl i has e)
same_operand m held mem call values good home t operand.Undef z i is has e = absurd (table_same undef_has i refl i has e)
same_operand m held mem call values good home t operand.Poison z i is has e = absurd (table_same poison_has i refl i has e)
same_operand m held mem call values good home t (operand.Global g) z i is has e =
    absurd (table_same (symbol_has m (symbol.Global g)) i (symbol_same m (symbol.Global g) i) i has e)
same_operand m held mem call values good home t (operand.Func f) z i is has e =
    absurd (table_same (symbol_has m (symbol.Func f)) i (symbol_same m (symbol.Func f) i) i has e)
same_operand m held mem call values good home t (operand.Offset base bytes inbounds wrap) z i is has e =
    absurd (true≢false (sym (subst (λ found. moved_by (constant_displacement inbounds wrap bytes) (symbol_bit m base) i found ≡ true) e has)))
same_operand m held mem call values good home t (operand.WrongOffset rule) z i is has e = absurd is
same_operand m held mem call values good home t (operand.Parts shape first count) z i is has e = absurd is
same_operand m held mem call values good home t (operand.AnyInt first count) z i is has e = absurd (true≢false (sym has))

-- a class of the block of an operand that its word leaves
operand_class : (m : Module) (held : Fact → Bool) (mem : Memory) (s : Scope) → AreBlocks mem s → (call : Begun) (values : Values) →
    AreGood m held mem call values →
    (t : TypeId) (o : Operand) (y : Value) (b off : ℕ) → IsValueOf mem.home values o y → y.datum ≡ datum.Ptr b off → mem.life b ≢ Dead →
    (class : BlockClass) × (operand_has m held t o (class_bit class) ≡ false) × IsOfClass mem call class b
operand_class m held mem s blocks call values good t o y b off is points alive = by o is
  where
    by : (o : Operand) → IsValueOf mem.home values o y → (class : BlockClass) × (operand_has m held t o (class_bit class) ≡ false) × IsOfClass mem call class b
    by (operand.Value v) is = (good v.0 y is).classes b off points alive
    by (operand.Global g) is = (Global, symbol_is_global m (symbol.Global g), (symbol.Global g, (blocks.homes (symbol.Global g) b (is.block b off points)).1))
    by (operand.Func f) is = (Global, symbol_is_global m (symbol.Func f), (symbol.Func f, (blocks.homes (symbol.Func f) b (is.block b off points)).1))
    by (operand.Offset base bytes inbounds wrap) is = (Global, symbol_is_global m base, (base, (blocks.homes base b (is.block b off points)).1))
    by (operand.Int bits here) is = absurd (is.block b off points)
    by (operand.Truth t) is = absurd (is.block b off points)
    by operand.Zero is = absurd (is.block b off points)
    by operand.Null is = absurd (is.block b off points)
    by operand.Undef is = absurd (is.block b off points)
    by operand.Poison is = absurd (is.block b off points)
    by (operand.WrongOffset rule) is = absurd is
    by (operand.Parts shape first count) is = absurd is
    by (operand.AnyInt first count) is = absurd (is.block b off points)

points_ptr : (b : ℕ) (d : Datum) → PointsTo b d → (o : ℕ) × (d ≡ datum.Ptr b o)
points_ptr b (datum.Ptr c o) is = (o, ap (λ n. datum.Ptr n o) is)
points_ptr b datum.Null is = absurd is
points_ptr b datum.Undef is = absurd is
points_ptr b datum.Poison is = absurd is
points_ptr b (datum.Int bits) is = absurd is
points_ptr b datum.Pair is = absurd is

-- ---- the rules of a call's result

module _ (m : Module) (held : Fact → Bool) (is : JustifiesItself m held) where
  -- what the rule asks of a call
  abbrev CallRule : ℕ → ℕ → Op → ℕ → ValueFact → Type 0
  CallRule f v o bit (SameAs i) = CallIsSame m held i o
  CallRule f v o bit (UsedSo kind) = Unit {0}
  CallRule f v o bit NonNull = CallHas m held f v o bit NonNull
  CallRule f v o bit (AlignedTo bytes) = CallHas m held f v o bit (AlignedTo bytes)
  CallRule f v o bit (HasBytes count) = CallHas m held f v o bit (HasBytes count)
  CallRule f v o bit (NotTo class) = CallHas m held f v o bit (NotTo class)

  call_rule : (f v : ℕ) (s : Spot) (o : Op) (bit : ℕ) (kind : ValueFact) → is_call o ≡ true → RuleOf m held is f v s o bit kind → CallRule f v o bit kind
  call_rule f v s (op.Call call) bit (SameAs i) is_one rule = rule
  call_rule f v s (op.Call call) bit (UsedSo kind) is_one rule = tt
  call_rule f v s (op.Call call) bit NonNull is_one rule = rule
  call_rule f v s (op.Call call) bit (AlignedTo bytes) is_one rule = rule
  call_rule f v s (op.Call call) bit (HasBytes count) is_one rule = rule
  call_rule f v s (op.Call call) bit (NotTo class) is_one rule = rule
  call_rule f v s (op.Invoke call normal unwind) bit (SameAs i) is_one rule = rule
  call_rule f v s (op.Invoke call normal unwind) bit (UsedSo kind) is_one rule = tt
  call_rule f v s (op.Invoke call normal unwind) bit NonNull is_one rule = rule
  call_rule f v s (op.Invoke call normal unwind) bit (AlignedTo bytes) is_one rule = rule
  call_rule f v s (op.Invoke call normal unwind) bit (HasBytes count) is_one rule = rule
  call_rule f v s (op.Invoke call normal unwind) bit (NotTo class) is_one rule = rule
  call_rule f v s _ bit kind is_one rule = absurd (true≢false (sym is_one))

  -- the word of what a body returns
  abbrev pub return_word : ℕ → ℕ → Bool
  return_word g bit = held (of_return g bit)

  -- what is known of the frame under one that returns, and of the memory after that
  pub record ComesBack (mem later : Memory) (s : Scope) (top : Frame) (under : BodyFrame) (instr : Instr) (v : ValueId) : Type 0 where
    pub blocks : AreBlocks mem s
    pub is_later : IsLater mem later
    pub at : instr_at m under.spot ≡ Some instr
    pub made : (call_in top).made ≡ At under.spot
    pub is_one : is_call instr.op ≡ true
    pub inner : (active top).body ≡ inner_callee m instr.op
    pub passed : IsPassedBy m mem.home (call_in top) under
    pub typed : HasTypedAddresses m top
    pub args : KeepsArgs m held is top
    pub all : HasPassed m held is top
    pub values : AreGood m held mem under.call under.values
    pub rules : HasRules m held is under.func v.0 under.spot instr.op

  module _ (mem later : Memory) (s : Scope) (top : Frame) (under : BodyFrame) (instr : Instr) (v : ValueId) (c : ComesBack mem later s top under instr v) where
    rule : (bit : ℕ) (kind : ValueFact) → word_of held v.0 bit ≡ true → value_fact bit ≡ Some kind → CallRule under.func v.0 instr.op bit kind
    rule bit kind has e = call_rule under.func v.0 under.spot instr.op bit kind c.is_one (c.rules bit kind has e)

    -- the operand of an argument
    pub record IsOperandOf (at : ℕ) (y : Value) : Type 0 where
      pub call : Call
      pub written : Written
      pub value : Value
      pub is_call : call_of instr.op ≡ Some call
      pub at_written : slice_get call.args at ≡ Some written
      pub is_value : IsValueOf mem.home under.values written.val value
      pub datum : y.datum ≡ value.datum

    operand_of : (at : ℕ) (y : Value) → slice_get (call_in top).passed at ≡ Some y → IsOperandOf at y
    operand_of at y at_y =
        let found = passed_value mem.home under.values (call_in top).number 0 c.passed.written.args (call_in top).passed c.passed.args at y at_y in
        let one : c.passed.instr ≡ instr = same_Some c.passed.instr instr (sym c.passed.stands ∙ c.at) in record {
          call = c.passed.written;
          written = found.0;
          value = found.2.value;
          is_call = subst (λ (i : Instr). call_of i.op ≡ Some c.passed.written) one c.passed.is_call;
          at_written = found.1;
          is_value = found.2.operand;
          datum = passed_datum mem.home under.values (call_in top).number (0 + at) found.0 y found.2;
        }

    arg_word : (at bit : ℕ) (y : Value) (o : IsOperandOf at y) → arg_has m held instr.op at bit ≡ true → written_has m held o.written bit ≡ true
    arg_word at bit y o has =
        subst (λ found. option_map_or (λ w. written_has m held w bit) found false ≡ true)
        (ap (option_and_then (λ (call : Call). slice_get call.args at)) o.is_call ∙ o.at_written) has

    -- an argument that is the same as a parameter of the caller
    same_arg : (at i : ℕ) (y : Value) → slice_get (call_in top).passed at ≡ Some y → arg_has m held instr.op at i ≡ true → value_fact i ≡ Some (SameAs i) →
        Says m mem under.call (Some (SameAs i)) y.datum
    same_arg at i y at_y has e =
        let o = operand_of at y at_y in
        subst (Says m mem under.call (Some (SameAs i))) (sym o.datum)
        (same_operand m held mem under.call under.values c.values mem.home o.written.ty o.written.val o.value i o.is_value (arg_word at i y o has) e)

    -- ---- an inner call

    module _ (g : ℕ) (inner : inner_callee m instr.op ≡ Some g) (w : Value) (returned : IsGood m mem (call_in top) (return_word g) w.datum)
        (low : IsAmongFirst mem.count w.datum) (gone : (b n : ℕ) → (mem.shape b).kind ≡ OfAlloca (call_in top).number n → later.life b ≡ Dead)
        (there : (at : ℕ) (p : Param) → param_of m g at ≡ Some p → (x : Value) × (slice_get (call_in top).args at ≡ Some x))
        (kept : (at : ℕ) (p : Param) (x : Value) → param_of m g at ≡ Some p → may_poison p.attrs ≡ false → slice_get (call_in top).args at ≡ Some x →
        (y : Value) × (slice_get (call_in top).passed at ≡ Some y) × (x.datum ≡ y.datum)) where
      has_inner : (bit : ℕ) (kind : ValueFact) → CallHas m held under.func v.0 instr.op bit kind → InnerHas m held under.func v.0 instr.op bit g kind
      has_inner bit kind has = subst (λ found. MatchOption found (OuterHas m held under.func v.0 instr.op kind)
          (λ g. InnerHas m held under.func v.0 instr.op bit g kind)) inner has

      gives_back : (i : ℕ) → value_fact i ≡ Some (SameAs i) → GivesBack m held instr.op g i → Says m mem under.call (Some (SameAs i)) w.datum
      gives_back i e back x0 at_x0 =
          let param = found_param (param_of m g back.j) refl back.kept in
          let arg = there back.j param.0 param.1 in
          let from = kept back.j param.0 arg.0 param.1 param.2 arg.1 in
          returned.bits back.j (SameAs back.j) back.back (bit_same back.j back.deduced) arg.0 arg.1 ∙
          (from.2 ∙ same_arg back.j i from.0 from.1 back.arg e x0 at_x0)
        where
          off_true : (b : Bool) → not b ≡ true → b ≡ false
          off_true true e = absurd (true≢false (sym e))
          off_true false e = refl

          found_param : (found : Option Param) → param_of m g back.j ≡ found → option_map_or (λ (p : Param). not (may_poison p.attrs)) found false ≡ true →
              (p : Param) × (param_of m g back.j ≡ Some p) × (may_poison p.attrs ≡ false)
          found_param None e kept = absurd (true≢false (sym kept))
          found_param (Some p) e kept = (p, e, off_true (may_poison p.attrs) kept)

      inner_says : (bit : ℕ) (kind : ValueFact) → value_fact bit ≡ Some kind → CallRule under.func v.0 instr.op bit kind →
          Says m later under.call (Some kind) w.datum
      inner_says bit (SameAs i) e rule =
          let one : bit ≡ i = same_bit bit i e in
          gives_back i (subst (λ n. value_fact n ≡ Some (SameAs i)) one e)
          (subst (λ found. MatchOption found (PromisesBack m held instr.op i) (λ g. GivesBack m held instr.op g i)) inner rule)
      inner_says bit NonNull e rule = returned.bits bit NonNull (has_inner bit NonNull rule) e
      inner_says bit (AlignedTo bytes) e rule = λ indices.
          placed_later mem later c.is_later bytes w.datum low (returned.bits bit (AlignedTo bytes) (has_inner bit (AlignedTo bytes) rule) e indices)
      inner_says bit (HasBytes count) e rule = tt
      inner_says bit (NotTo class) e rule = tt
      inner_says bit (UsedSo kind) e rule = tt

      abbrev InClass : ℕ → Type 0
      InClass b = (class : BlockClass) × (word_of held v.0 (class_bit class) ≡ false) × IsOfClass later under.call class b

      class_rule : (class : BlockClass) → word_of held v.0 (class_bit class) ≡ true → InnerHas m held under.func v.0 instr.op (class_bit class) g (NotTo class)
      class_rule class has = has_inner (class_bit class) (NotTo class) (rule (class_bit class) (NotTo class) has (class_fact class))

      -- a block of an argument is one of the caller's, by the argument's operand
      argument_class : (b o k : ℕ) (x : Value) → b < mem.count → mem.life b ≢ Dead → held (of_return g (class_bit Argument)) ≡ false →
          slice_get (call_in top).args k ≡ Some x → x.datum ≡ datum.Ptr b o → InClass b
      argument_class b o k x within alive noisy at_x points =
          let from = c.args k x at_x in
          by from.0 from.1 (place from.0 from.2)
        where
          place : (y : Value) → ((x.datum ≡ y.datum) ⊎ ((x.datum ≡ datum.Poison) × MayPoison m held is top k)) → y.datum ≡ datum.Ptr b o
          place y (inl same) = sym same ∙ points
          place y (inr (poison, may)) = absurd (clash (sym poison ∙ points))
            where
              clash : datum.Poison ≡ datum.Ptr b o → ⊥
              clash e = cc

          by : (y : Value) → slice_get (call_in top).passed k ≡ Some y → y.datum ≡ datum.Ptr b o → InClass b
          by y at_y points_y =
              let found = operand_of k y at_y in
              let class = operand_class m held mem s c.blocks under.call under.values c.values found.written.ty found.written.val found.value b o found.is_value
              (sym found.datum ∙ points_y) alive in
              in_class later under.call (word_of held v.0) b class.0 (class_later mem later c.is_later under.call class.0 b within class.2)
              (λ has. elim (class_rule class.0 has).1 [
                | inl quiet ↦ true≢false (sym quiet ∙ noisy)
                | inr each ↦ true≢false (sym (each k found.written
                    (ap (option_and_then (λ (call : Call). slice_get call.args k)) found.is_call ∙ found.at_written)
                    (c.typed under.spot instr found.call k found.written y b o c.made c.at found.is_call found.at_written at_y points_y)) ∙ class.1)
              ])

      -- the result of an inner call is as its word says
      pub inner_good : IsGood m later under.call (word_of held v.0) w.datum
      inner_good = record {
        bits = λ bit kind has e. inner_says bit kind e (rule bit kind has e);
        classes = λ b o points alive.
            let within : b < mem.count = subst (IsAmongFirst mem.count) points low in
            let before : mem.life b ≢ Dead = λ dead. alive (c.is_later.dead b within dead) in
            let found = returned.classes b o points before in
            by b o within before alive found.0 found.1 found.2;
      }
        where
          by : (b o : ℕ) → b < mem.count → mem.life b ≢ Dead → later.life b ≢ Dead → (class : BlockClass) → held (of_return g (class_bit class)) ≡ false →
              IsOfClass mem (call_in top) class b → InClass b
          by b o within before alive Unknown noisy of =
              in_class later under.call (word_of held v.0) b Unknown tt (λ has. true≢false (sym (class_rule Unknown has).0 ∙ noisy))
          by b o within before alive Global noisy of =
              in_class later under.call (word_of held v.0) b Global (class_later mem later c.is_later under.call Global b within of)
              (λ has. true≢false (sym (class_rule Global has).0 ∙ noisy))
          by b o within before alive OwnAlloca noisy (n, kind) = absurd (alive (gone b n kind))
          by b o within before alive Argument noisy (k, x, at_x, points_x) =
              let place = points_ptr b x.datum points_x in argument_class b place.0 k x within before noisy at_x place.1

    -- ---- an outer call

    module _ (outer : inner_callee m instr.op ≡ None) (same : (call_in top).args ≡ (call_in top).passed) (e : Event) (fair : IsFair m e)
        (by_top : IsBy (active top) e)
        (w y : Value) (returns : e.what ≡ Return (Some w)) (no_body : (active top).body ≡ None)
        (acts : acted_on later (map (λ (attrs : CallAttrs). attrs.ret) (promising m instr.op)) w ≡ Gives y) where
      any_mapped : (test : ParamAttrs → Bool) (attrs : List CallAttrs) →
          list_any (λ (a : CallAttrs). test a.ret) attrs ≡ list_any test (map (λ (a : CallAttrs). a.ret) attrs)
      any_mapped test [] = refl
      any_mapped test (a ∷ attrs) = ap (λ b. test a.ret || b) (any_mapped test attrs)

      promises_back : (i : ℕ) → value_fact i ≡ Some (SameAs i) → PromisesBack m held instr.op i → Says m mem under.call (Some (SameAs i)) y.datum
      promises_back i e' back x0 at_x0 =
          let written = arg_there (arg_at instr.op back.j) refl back.arg in
          let arg = c.all under.spot instr written.0 back.j written.1 c.made c.at written.2 written.3 in
          acted_kept later (map (λ (attrs : CallAttrs). attrs.ret) (promising m instr.op)) w y
          (sym (any_mapped may_poison (promising m instr.op)) ∙ back.kept) acts ∙
          (honest arg.0 arg.1 ∙ same_arg back.j i arg.0 arg.1 back.arg e' x0 at_x0)
        where
          arg_there : (found : Option Written) → arg_at instr.op back.j ≡ found → option_map_or (λ w. written_has m held w i) found false ≡ true →
              (call : Call) × (u : Written) × (call_of instr.op ≡ Some call) × (slice_get call.args back.j ≡ Some u)
          arg_there None e has = absurd (true≢false (sym has))
          arg_there (Some u) e has = with_call (call_of instr.op) refl e
            where
              with_call : (found : Option Call) → call_of instr.op ≡ found →
                  option_and_then (λ (call : Call). slice_get call.args back.j) (call_of instr.op) ≡ Some u →
                  (call : Call) × (u : Written) × (call_of instr.op ≡ Some call) × (slice_get call.args back.j ≡ Some u)
              with_call None is e = absurd (none (ap (option_and_then (λ (call : Call). slice_get call.args back.j)) (sym is) ∙ e))
                where
                  none : None ≡ Some u → ⊥
                  none e = cc
              with_call (Some call) is e = (call, u, is, ap (option_and_then (λ (call : Call). slice_get call.args back.j)) (sym is) ∙ e)

          honest : (z : Value) → slice_get (call_in top).passed back.j ≡ Some z → w.datum ≡ z.datum
          honest z at_z =
              fair (Returned back.j) (active top)
              (subst (λ body. promised_to m (Returned back.j) (call_in top).made body ≡ true) (sym no_body)
              (subst (λ made. promised_at m (Returned back.j) made ≡ true) (sym c.made)
              (subst (λ found. promised_in m (Returned back.j) found ≡ true) (sym c.at) back.promised)))
              by_top w z returns (ap (λ xs. slice_get xs back.j) same ∙ at_z)

      has_outer : (kind : ValueFact) (bit : ℕ) → CallHas m held under.func v.0 instr.op bit kind → OuterHas m held under.func v.0 instr.op kind
      has_outer kind bit has = subst (λ found. MatchOption found (OuterHas m held under.func v.0 instr.op kind)
          (λ g. InnerHas m held under.func v.0 instr.op bit g kind)) outer has

      outer_says : (bit : ℕ) (kind : ValueFact) → value_fact bit ≡ Some kind → CallRule under.func v.0 instr.op bit kind →
          Says m later under.call (Some kind) y.datum
      outer_says bit (SameAs i) e' rule =
          let one : bit ≡ i = same_bit bit i e' in
          promises_back i (subst (λ n. value_fact n ≡ Some (SameAs i)) one e')
          (subst (λ found. MatchOption found (PromisesBack m held instr.op i) (λ g. GivesBack m held instr.op g i)) outer rule)
      outer_says bit NonNull e' rule =
          (acted later (map (λ (attrs : CallAttrs). attrs.ret) (promising m instr.op)) w y acts).nonnull
          (sym (any_mapped gives_nonnull (promising m instr.op)) ∙ has_outer NonNull bit rule)
      outer_says bit (AlignedTo bytes) e' rule = λ indices.
          (acted later (map (λ (attrs : CallAttrs). attrs.ret) (promising m instr.op)) w y acts).aligned bytes
          (sym (any_mapped (gives_align bytes) (promising m instr.op)) ∙ has_outer (AlignedTo bytes) bit rule)
      outer_says bit (HasBytes count) e' rule = tt
      outer_says bit (NotTo class) e' rule = tt
      outer_says bit (UsedSo kind) e' rule = tt

      -- the result of an outer call is as its word says
      pub outer_good : IsGood m later under.call (word_of held v.0) y.datum
      outer_good = record {
        bits = λ bit kind has e'. outer_says bit kind e' (rule bit kind has e');
        classes = unknown_classes later under.call (word_of held v.0) y.datum
            (λ has. has_outer (NotTo Unknown) (class_bit Unknown) (rule (class_bit Unknown) (NotTo Unknown) has (class_fact Unknown)));
      }
