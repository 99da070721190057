-- What an alloca makes is to a block of its frame's allocas: a set of facts that each module justifies, and what the law of pointers
-- says by it.
use Rattle.std.proofs.Common.{◌≡◌, ◌≢◌, ◌==◌, ◌&&◌, ◌||◌, ℕ, Bool, true, false, slice_get, Option, Some, refl, sym, ap, subst, ◌∙◌, true≢false}
use Rattle.std.specs.Option.{option_map_or, MatchOption}
use Rattle.std.proofs.lemmas.Bool.{and_parts, eqb-true}
use Rattle.lattice_words.specs.declared.value.TheConstants.{NOT_ARGUMENT, NOT_GLOBAL, NOT_UNKNOWN}
use Rattle.ir_module.specs.declared.op.Op.{Op}
use Rattle.ir_module.specs.declared.op.Op.TheVariants as op
use Rattle.ir_module.specs.declared.op.Instr.{Instr}
use Rattle.ir_module.specs.declared.module.Def.{Def}
use Rattle.ir_module.specs.declared.module.Def.TheVariants as def
use Rattle.ir_module.specs.declared.module.Spot.{Spot}
use Rattle.ir_module.specs.declared.module.ValueInfo.{ValueInfo}
use Rattle.ir_module.specs.declared.module.Module.{Module}
use Rattle.ir_module.specs.Places.{instr_at, IsIn}
use Rattle.ir_module.specs.WellFormed.{IsParamAt, IsWellFormed}
use Rattle.facts.specs.declared.pos.Pos.{Pos}
use Rattle.facts.specs.declared.pos.Pos.TheVariants as pos
use Rattle.facts.specs.Kinds.{NotTo, BlockClass, OwnAlloca, Argument, Global, Unknown, value_fact, class_bit}
use Rattle.facts.specs.Facts.{Fact, of_value}
use Rattle.facts.specs.Pointer.{IsNoAlloca, ResultHas}
use Rattle.facts.specs.Justified.{ValueHas, JustifiedAt}
use Rattle.ir_machine.specs.declared.choice.Datum.TheVariants as datum
use Rattle.ir_machine.specs.declared.choice.Value.{Value}
use Rattle.ir_machine.specs.Memory.{OfAlloca, Dead, Memory}
use Rattle.ir_machine.specs.Frames.{BodyFrame, Body}
use Rattle.ir_machine.specs.Calls.{is_alloca_op, is_alloca, is_alloca_def}
use Rattle.ir_machine.proofs.Linking.{formed_at}
use Rattle.fact_meanings.specs.Values.{IsOfClass, FrameIsRight}
use Rattle.law_premises.specs.Premises.{JustifiesItself}
use Rattle.laws_pointer.specs.Told.{but_numbers}

-- an alloca makes the value
abbrev pub is_alloca_value : Module → ℕ → Bool
is_alloca_value m v = option_map_or (λ info. is_alloca_def m info.def) (slice_get m.values v) false

-- the bit says that it is to no block of a class that is not that of the frame's allocas
abbrev is_other_class : ℕ → Bool
is_other_class bit = bit == NOT_ARGUMENT || (bit == NOT_GLOBAL || bit == NOT_UNKNOWN)

abbrev held_at : Module → Pos → ℕ → Bool
held_at m (pos.Value v) bit = is_alloca_value m v.0 && is_other_class bit
held_at m _ bit = false

-- what allocas make is to blocks of no other class
abbrev pub of_allocas : Module → Fact → Bool
of_allocas m x = held_at m x.pos x.bit

-- a class that is not that of the frame's allocas
record IsOther (bit : ℕ) : Type 0 where
  pub class : BlockClass
  pub says : value_fact bit ≡ Some (NotTo class)
  pub other : IsNoAlloca class

other_of : (bit : ℕ) → is_other_class bit ≡ true → IsOther bit
other_of bit is = by (bit == NOT_ARGUMENT) refl (bit == NOT_GLOBAL) refl (bit == NOT_UNKNOWN) refl is
  where
    by : (a : Bool) → (bit == NOT_ARGUMENT) ≡ a → (g : Bool) → (bit == NOT_GLOBAL) ≡ g → (u : Bool) → (bit == NOT_UNKNOWN) ≡ u →
        (a || (g || u)) ≡ true → IsOther bit
    by true a g at_g u at_u is =
        record { class = Argument; says = subst (λ n. value_fact n ≡ Some (NotTo Argument)) (sym (eqb-true bit NOT_ARGUMENT a)) refl; other = tt }
    by false a true g u at_u is =
        record { class = Global; says = subst (λ n. value_fact n ≡ Some (NotTo Global)) (sym (eqb-true bit NOT_GLOBAL g)) refl; other = tt }
    by false a false g true u is =
        record { class = Unknown; says = subst (λ n. value_fact n ≡ Some (NotTo Unknown)) (sym (eqb-true bit NOT_UNKNOWN u)) refl; other = tt }
    by false a false g false u is = absurd (true≢false (sym is))

-- an alloca is to no block of another class
alloca_has : (m : Module) (held : Fact → Bool) (f v : ℕ) (s : Spot) (o : Op) (bit : ℕ) (class : BlockClass) → is_alloca_op o ≡ true → IsNoAlloca class →
    ResultHas m held f v s o bit (NotTo class)
alloca_has m held f v s (op.Alloca ty count align) bit class is other = other
alloca_has m held f v s (op.Bin kind flagged a b) bit class is other = absurd (true≢false (sym is))
alloca_has m held f v s (op.Icmp pred flagged a b) bit class is other = absurd (true≢false (sym is))
alloca_has m held f v s (op.Cast kind flagged a) bit class is other = absurd (true≢false (sym is))
alloca_has m held f v s (op.Select c a b) bit class is other = absurd (true≢false (sym is))
alloca_has m held f v s (op.Freeze a) bit class is other = absurd (true≢false (sym is))
alloca_has m held f v s (op.Phi arms) bit class is other = absurd (true≢false (sym is))
alloca_has m held f v s (op.Load ptr align volatile) bit class is other = absurd (true≢false (sym is))
alloca_has m held f v s (op.Store val ptr align volatile) bit class is other = absurd (true≢false (sym is))
alloca_has m held f v s (op.Gep elem base indices inbounds wrap) bit class is other = absurd (true≢false (sym is))
alloca_has m held f v s (op.Call call) bit class is other = absurd (true≢false (sym is))
alloca_has m held f v s (op.Invoke call normal unwind) bit class is other = absurd (true≢false (sym is))
alloca_has m held f v s (op.LandingPad catch_all clauses) bit class is other = absurd (true≢false (sym is))
alloca_has m held f v s (op.Resume val) bit class is other = absurd (true≢false (sym is))
alloca_has m held f v s (op.Ret val) bit class is other = absurd (true≢false (sym is))
alloca_has m held f v s (op.Jump to) bit class is other = absurd (true≢false (sym is))
alloca_has m held f v s (op.Branch c so otherwise) bit class is other = absurd (true≢false (sym is))
alloca_has m held f v s (op.Switch on other_value cases) bit class is other = absurd (true≢false (sym is))
alloca_has m held f v s op.Unreachable bit class is other = absurd (true≢false (sym is))

module _ (m : Module) (formed : IsWellFormed m) where
  -- the value with this definition is an alloca's
  defined_by : (v : ℕ) (info : ValueInfo) (d : Def) → is_alloca_value m v ≡ true → slice_get m.values v ≡ Some info → info.def ≡ d → is_alloca_def m d ≡ true
  defined_by v info d is at same =
      subst (λ e. is_alloca_def m e ≡ true) same (subst (λ (o : Option ValueInfo). option_map_or (λ info. is_alloca_def m info.def) o false ≡ true) at is)

  made_there : (f v : ℕ) (s : Spot) (instr : Instr) → is_alloca_value m v ≡ true → IsIn m f s → instr_at m s ≡ Some instr →
      instr.result ≡ Some (record { 0 = v }) → is_alloca_op instr.op ≡ true
  made_there f v s instr is stands at result =
      let has = (formed_at m f s instr formed stands at).formed.result (record { 0 = v }) result in
      subst (λ o. is_alloca o ≡ true) at (defined_by v has.0 (def.Instr s) is has.1 has.2)

  never_param : (f at v : ℕ) → is_alloca_value m v ≡ true → IsParamAt m f at v → ⊥
  never_param f at v is (func, p, is_func, is_param, value) =
      let has = (formed.funcs f func is_func).params at p is_param in
      true≢false (sym (defined_by v has.0 (def.Param at) is (ap (slice_get m.values) (sym value) ∙ has.1) has.3))

  value_justified : (v bit : ℕ) → is_alloca_value m v ≡ true → (class : BlockClass) → IsNoAlloca class → ValueHas m (of_allocas m) v bit (NotTo class)
  value_justified v bit is class other = record {
    made = λ f s instr stands at result. alloca_has m (of_allocas m) f v s instr.op bit class (made_there f v s instr is stands at result) other;
    param = λ f at param. absurd (never_param f at v is param);
  }

  justified_at : (p : Pos) (bit : ℕ) → held_at m p bit ≡ true → JustifiedAt m (of_allocas m) p bit
  justified_at (pos.Value v) bit has =
      let parts = and_parts (is_alloca_value m v.0) (is_other_class bit) has in
      let is = other_of bit parts.1 in
      subst (λ o. MatchOption o ⊥ (ValueHas m (of_allocas m) v.0 bit)) (sym is.says) (value_justified v.0 bit parts.0 is.class is.other)
  justified_at (pos.Segment k) bit has = absurd (true≢false (sym has))
  justified_at (pos.Function f) bit has = absurd (true≢false (sym has))
  justified_at (pos.Entry f at) bit has = absurd (true≢false (sym has))
  justified_at (pos.Return f) bit has = absurd (true≢false (sym has))
  justified_at (pos.Reach row k) bit has = absurd (true≢false (sym has))
  justified_at (pos.Effect k) bit has = absurd (true≢false (sym has))

  -- each module justifies it
  pub allocas_justified : JustifiesItself m (of_allocas m)
  allocas_justified x has = justified_at x.pos x.bit has

  -- a value that an alloca made, and that is to a block that is not dead, is to one of the frame's allocas
  pub alloca_block : (mem : Memory) (frame : BodyFrame) → FrameIsRight (but_numbers (of_allocas m)) mem (Body frame) → (v : ℕ) (x : Value) →
      frame.values v ≡ Some x → is_alloca_value m v ≡ true → (b o : ℕ) → x.datum ≡ datum.Ptr b o → mem.life b ≢ Dead →
      (value : ℕ) × ((mem.shape b).kind ≡ OfAlloca frame.call.number value)
  alloca_block mem frame right v x at is b o points alive =
      let found = (right v x at).classes b o points alive in
      by found.0 found.1 found.2
    where
      by : (class : BlockClass) → but_numbers (of_allocas m) (of_value v (class_bit class)) ≡ false → IsOfClass mem frame.call class b →
          (value : ℕ) × ((mem.shape b).kind ≡ OfAlloca frame.call.number value)
      by OwnAlloca off of = of
      by Argument off of = absurd (true≢false (sym (ap (λ t. (t && true) && true) is) ∙ off))
      by Global off of = absurd (true≢false (sym (ap (λ t. (t && true) && true) is) ∙ off))
      by Unknown off of = absurd (true≢false (sym (ap (λ t. (t && true) && true) is) ∙ off))
