-- The rules of a value by its kinds of fact, and what instructions compute.
use Rattle.std.proofs.Common.{◌≡◌, ℕ, ◌==◌, ◌&&◌, ◌||◌, not, Bool, true, false, if◌then◌else◌, List, [], ◌∷◌}
use Rattle.std.proofs.Common.{Some, refl, sym, subst, ◌∙◌, ◌⊎◌, inl, inr, MatchOption, true≢false}
use Rattle.std.specs.List.{list_any, list_all}
use Rattle.std.proofs.Common.{◌%◌, ◌^◌, pos}
use Rattle.std.specs.Prelude.{◌+ℤ◌, unsigned_abs}
use Rattle.std.specs.Int.{◌∣◌}
use Rattle.std.proofs.Math.IntN.{+ℤ_idl}
use Rattle.std.proofs.lemmas.Nat.Gcd.{dvd_of_mod-eq-zero, mod-eq-zero_of_dvd, dvd_trans}
use Rattle.std.proofs.lemmas.Bool.{and_parts, or_cases, eqb-true}
use Rattle.attr_ids.specs.declared.ids.TypeId.{TypeId}
use Rattle.attr_ids.specs.declared.ids.ValueId.{ValueId}
use Rattle.ir_module.specs.declared.attrs.ParamAttrs.{ParamAttrs}
use Rattle.ir_module.specs.declared.op.Op.{Op}
use Rattle.ir_module.specs.declared.op.Op.TheVariants as op
use Rattle.ir_module.specs.declared.op.Written.{Written}
use Rattle.ir_module.specs.declared.op.Instr.{Instr}
use Rattle.ir_module.specs.declared.module.Spot.{Spot}
use Rattle.ir_module.specs.declared.module.Module.{Module}
use Rattle.ir_module.specs.Places.{instr_at, IsIn}
use Rattle.facts.specs.Kinds.{ValueFact, SameAs, NonNull, AlignedTo, HasBytes, NotTo, UsedSo, BlockClass, Unknown, class_bit}
use Rattle.facts.specs.Kinds.{value_fact}
use Rattle.facts.specs.Facts.{Fact, of_value}
use Rattle.ir_ops.specs.Residue.{residue}
use Rattle.facts.specs.Displacements.{Displacement, displacement, steps, fixed_part, keeps_align}
use Rattle.facts.specs.Known.{written_has, moved_has}
use Rattle.facts.specs.Promises.{gives_nonnull, gives_align, may_poison}
use Rattle.facts.specs.Same.{ResultIsSame}
use Rattle.facts.specs.Pointer.{ResultHas}
use Rattle.facts.specs.Justified.{ValueHas}
use Rattle.ir_machine.specs.declared.choice.Datum.{Datum}
use Rattle.ir_machine.specs.declared.choice.Datum.TheVariants as datum
use Rattle.ir_machine.specs.declared.choice.Value.{Value}
use Rattle.ir_machine.specs.Values.{plain, carried, is_null, is_undef}
use Rattle.ir_machine.specs.Memory.{Memory, address, is_aligned}
use Rattle.ir_machine.specs.Frames.{Begun}
use Rattle.ir_machine.specs.Moves.{Outcome, Gives, Undefined, Over}
use Rattle.ir_machine.specs.Reading.{Here, Picked, displaced, pick}
use Rattle.ir_machine.specs.Compute.{selected, walks, gep_result, way_of, Walk, computed}
use Rattle.ir_machine.specs.Calls.{is_misaligned, becomes_poison, is_dereferenceable, poisoned, acted_on}
use Rattle.ir_machine.specs.Meanings.{IsNonnull}
use Rattle.ir_machine.specs.Valid.{Scope, AreBlocks}
use Rattle.ir_machine.proofs.Basics.{OnOutcome, on_with, on_needs, on_if, given, outcome_mapped}
use Rattle.ir_machine.proofs.Instructions.{IsRead, on_reading}
use Rattle.law_premises.specs.Premises.{JustifiesItself}
use Rattle.laws_pointer.proofs.Good.{Says, IsGood, word_of, class_fact, fewer_classes, no_ptr_classes, unknown_classes, HasHomes, IsLedFrom, led_poison}
use Rattle.law_premises.specs.Indices.{AreIndices, HasIndices}
use Rattle.laws_pointer.proofs.Placed.{IsPlaced, from_residue, to_residue}
use Rattle.laws_pointer.proofs.Strides.{Keeps, walks_keep}
use Rattle.laws_pointer.proofs.Good.{displaced_led, displaced_placed, KeepsPlace, moved_good}
use Rattle.laws_pointer.proofs.Good.{AreGood, read_good}

-- ---- what written attributes make of a value

poisons_may : (mem : Memory) (attrs : ParamAttrs) (d : Datum) → becomes_poison mem (attrs ∷ []) d ≡ true → may_poison attrs ≡ true
poisons_may mem attrs d e = by attrs.nonnull refl (attrs.align == 0) refl d e
  where
    by : (n : Bool) → attrs.nonnull ≡ n → (z : Bool) → (attrs.align == 0) ≡ z → (d : Datum) → becomes_poison mem (attrs ∷ []) d ≡ true →
        may_poison attrs ≡ true
    by true is z at d e = subst (λ n. (n || not (attrs.align == 0)) ≡ true) (sym is) refl
    by false is false at d e = subst (λ z. (attrs.nonnull || not z) ≡ true) (sym at) (or_true attrs.nonnull)
      where
        or_true : (b : Bool) → (b || true) ≡ true
        or_true true = refl
        or_true false = refl
    by false is true at d e = absurd (none d (subst
        (λ n. (((n || false) && (is_null d || is_undef d)) || (is_misaligned mem attrs.align d || false)) ≡ true) is e))
      where
        none : (d : Datum) → (((false || false) && (is_null d || is_undef d)) || (is_misaligned mem attrs.align d || false)) ≡ true → ⊥
        none (datum.Ptr b o) e = true≢false (sym (subst (λ z. ((not z && not (is_aligned mem attrs.align b o)) || false) ≡ true) at e))
        none datum.Undef e = true≢false (sym (subst (λ z. (not z || false) ≡ true) at e))
        none datum.Null e = true≢false (sym e)
        none datum.Poison e = true≢false (sym e)
        none (datum.Int bits) e = true≢false (sym e)
        none datum.Pair e = true≢false (sym e)

-- `nonnull` or `dereferenceable` among them makes it not null
nonnull_or : (attrs : List ParamAttrs) → list_any gives_nonnull attrs ≡ true →
    (list_any (λ (a : ParamAttrs). a.nonnull) attrs ≡ true) ⊎ (list_any (λ (a : ParamAttrs). not (a.dereferenceable == 0)) attrs ≡ true)
nonnull_or [] e = absurd (cc)
nonnull_or (a ∷ attrs) e = by a.nonnull refl (not (a.dereferenceable == 0)) refl e (λ rest. nonnull_or attrs rest)
  where
    by : (n : Bool) → a.nonnull ≡ n → (r : Bool) → not (a.dereferenceable == 0) ≡ r → ((n || r) || list_any gives_nonnull attrs) ≡ true →
        (list_any gives_nonnull attrs ≡ true →
        (list_any (λ (a : ParamAttrs). a.nonnull) attrs ≡ true) ⊎ (list_any (λ (a : ParamAttrs). not (a.dereferenceable == 0)) attrs ≡ true)) →
        ((a.nonnull || list_any (λ (a : ParamAttrs). a.nonnull) attrs) ≡ true) ⊎
        ((not (a.dereferenceable == 0) || list_any (λ (a : ParamAttrs). not (a.dereferenceable == 0)) attrs) ≡ true)
    by true is r at e more = inl (subst (λ n. (n || list_any (λ (a : ParamAttrs). a.nonnull) attrs) ≡ true) (sym is) refl)
    by false is true at e more = inr (subst (λ r. (r || list_any (λ (a : ParamAttrs). not (a.dereferenceable == 0)) attrs) ≡ true) (sym at) refl)
    by false is false at e more =
        elim (more e) [
          | inl n ↦ inl (subst (λ b. (b || list_any (λ (a : ParamAttrs). a.nonnull) attrs) ≡ true) (sym is) n)
          | inr r ↦ inr (subst (λ b. (b || list_any (λ (a : ParamAttrs). not (a.dereferenceable == 0)) attrs) ≡ true) (sym at) r)
        ]

-- a `dereferenceable` that is met is met by a pointer to a block
met_nonnull : (mem : Memory) (attrs : List ParamAttrs) (d : Datum) → list_any (λ (a : ParamAttrs). not (a.dereferenceable == 0)) attrs ≡ true →
    list_all (λ (a : ParamAttrs). is_dereferenceable mem a.dereferenceable d) attrs ≡ true → IsNonnull d
met_nonnull mem [] d some all = absurd (cc)
met_nonnull mem (a ∷ attrs) d some all =
    elim (or_cases (not (a.dereferenceable == 0)) (list_any (λ (a : ParamAttrs). not (a.dereferenceable == 0)) attrs) some) [
      | inl here ↦ one d here (and_parts (is_dereferenceable mem a.dereferenceable d)
          (list_all (λ (a : ParamAttrs). is_dereferenceable mem a.dereferenceable d) attrs) all).0
      | inr later ↦ met_nonnull mem attrs d later
          (and_parts (is_dereferenceable mem a.dereferenceable d) (list_all (λ (a : ParamAttrs). is_dereferenceable mem a.dereferenceable d) attrs) all).1
    ]
  where
    clash : (b : Bool) → not b ≡ true → b ≡ true → ⊥
    clash true e is = true≢false (sym e)
    clash false e is = true≢false (sym is)

    one : (d : Datum) → not (a.dereferenceable == 0) ≡ true → is_dereferenceable mem a.dereferenceable d ≡ true → IsNonnull d
    one (datum.Ptr b o) here met = tt
    one datum.Null here met = clash (a.dereferenceable == 0) here met
    one datum.Undef here met = clash (a.dereferenceable == 0) here met
    one datum.Poison here met = tt
    one (datum.Int bits) here met = tt
    one datum.Pair here met = tt

not_null : (d : Datum) → (is_null d || is_undef d) ≡ false → IsNonnull d
not_null (datum.Ptr b o) e = tt
not_null datum.Null e = absurd (true≢false e)
not_null datum.Undef e = absurd (true≢false e)
not_null datum.Poison e = tt
not_null (datum.Int bits) e = tt
not_null datum.Pair e = tt

-- what is not misaligned by an `align` is a multiple of each of its divisors
aligned_by : (mem : Memory) (n : ℕ) (a : ParamAttrs) (d : Datum) → gives_align n a ≡ true → is_misaligned mem a.align d ≡ false → IsPlaced mem n d
aligned_by mem n a (datum.Ptr b o) gives is =
    let parts = and_parts (not (a.align == 0)) (a.align % n == 0) gives in
    let whole : is_aligned mem a.align b o ≡ true = is_so (not (a.align == 0)) (is_aligned mem a.align b o) parts.0 is in
    mod-eq-zero_of_dvd n {n = address mem b o} (dvd_trans n (dvd_of_mod-eq-zero n {n = a.align} (eqb-true (a.align % n) 0 parts.1))
    (dvd_of_mod-eq-zero a.align {n = address mem b o} (eqb-true (address mem b o % a.align) 0 whole)))
  where
    is_so : (written so : Bool) → written ≡ true → (written && not so) ≡ false → so ≡ true
    is_so true true w e = refl
    is_so true false w e = absurd (true≢false e)
    is_so false so w e = absurd (true≢false (sym w))
aligned_by mem n a datum.Undef gives is =
    absurd (true≢false (sym (and_parts (not (a.align == 0)) (a.align % n == 0) gives).0 ∙ is))
aligned_by mem n a datum.Null gives is = tt
aligned_by mem n a datum.Poison gives is = tt
aligned_by mem n a (datum.Int bits) gives is = tt
aligned_by mem n a datum.Pair gives is = tt

-- neither is true where one or the other is not
none_of : (a b : Bool) → (a || b) ≡ false → (a ≡ false) × (b ≡ false)
none_of true b e = absurd (true≢false e)
none_of false b e = (refl, e)

aligned_any : (mem : Memory) (n : ℕ) (attrs : List ParamAttrs) (d : Datum) → list_any (gives_align n) attrs ≡ true →
    list_any (λ (a : ParamAttrs). is_misaligned mem a.align d) attrs ≡ false → IsPlaced mem n d
aligned_any mem n [] d gives is = absurd (true≢false (sym gives))
aligned_any mem n (a ∷ attrs) d gives is =
    let two = none_of (is_misaligned mem a.align d) (list_any (λ (a : ParamAttrs). is_misaligned mem a.align d) attrs) is in
    elim (or_cases (gives_align n a) (list_any (gives_align n) attrs) gives) [
      | inl here ↦ aligned_by mem n a d here two.0
      | inr later ↦ aligned_any mem n attrs d later two.1
    ]

-- what attributes make of a value: the value, or poison with its origins; not null and aligned where they say so
pub record IsActed (mem : Memory) (attrs : List ParamAttrs) (x y : Value) : Type 0 where
  pub same : (y.datum ≡ x.datum) ⊎ ((y.datum ≡ datum.Poison) × (becomes_poison mem attrs x.datum ≡ true))
  pub nonnull : list_any gives_nonnull attrs ≡ true → IsNonnull y.datum
  pub aligned : (n : ℕ) → list_any (gives_align n) attrs ≡ true → IsPlaced mem n y.datum

acted_given : (mem : Memory) (attrs : List ParamAttrs) (x : Value) → OnOutcome (IsActed mem attrs x) (acted_on mem attrs x)
acted_given mem attrs x =
    on_needs (IsActed mem attrs x) (list_all (λ (a : ParamAttrs). is_dereferenceable mem a.dereferenceable (poisoned mem attrs x).datum) attrs)
    (Gives (poisoned mem attrs x))
    (λ met. record {
      same = by (becomes_poison mem attrs x.datum) refl;
      nonnull = λ gives. elim (nonnull_or attrs gives) [
        | inl named ↦ named_nonnull (becomes_poison mem attrs x.datum) refl named
        | inr some ↦ met_nonnull mem attrs (poisoned mem attrs x).datum some met
      ];
      aligned = λ n gives. placed n (becomes_poison mem attrs x.datum) refl gives;
    })
  where
    placed : (n : ℕ) (b : Bool) → becomes_poison mem attrs x.datum ≡ b → list_any (gives_align n) attrs ≡ true →
        IsPlaced mem n (if b then carried x datum.Poison else x).datum
    placed n true e gives = tt
    placed n false e gives =
        aligned_any mem n attrs x.datum gives (none_of (list_any (λ (a : ParamAttrs). a.nonnull) attrs && (is_null x.datum || is_undef x.datum))
        (list_any (λ (a : ParamAttrs). is_misaligned mem a.align x.datum) attrs) e).1

    by : (b : Bool) → becomes_poison mem attrs x.datum ≡ b →
        ((if b then carried x datum.Poison else x).datum ≡ x.datum) ⊎
        (((if b then carried x datum.Poison else x).datum ≡ datum.Poison) × (becomes_poison mem attrs x.datum ≡ true))
    by true e = inr (refl, e)
    by false e = inl refl

    off_null : (n : Bool) (more : Bool) (d : Datum) → n ≡ true → ((n && (is_null d || is_undef d)) || more) ≡ false → IsNonnull d
    off_null true more d is e = not_null d (first (is_null d || is_undef d) more e)
      where
        first : (a b : Bool) → ((true && a) || b) ≡ false → a ≡ false
        first true b e = absurd (true≢false e)
        first false b e = refl
    off_null false more d is e = absurd (true≢false (sym is))

    named_nonnull : (b : Bool) → becomes_poison mem attrs x.datum ≡ b → list_any (λ (a : ParamAttrs). a.nonnull) attrs ≡ true →
        IsNonnull (if b then carried x datum.Poison else x).datum
    named_nonnull true e named = tt
    named_nonnull false e named =
        off_null (list_any (λ (a : ParamAttrs). a.nonnull) attrs) (list_any (λ (a : ParamAttrs). is_misaligned mem a.align x.datum) attrs) x.datum named e

pub acted : (mem : Memory) (attrs : List ParamAttrs) (x y : Value) → acted_on mem attrs x ≡ Gives y → IsActed mem attrs x y
acted mem attrs x y e = given (IsActed mem attrs x) (acted_on mem attrs x) y (acted_given mem attrs x) e

pub acted_may : (mem : Memory) (attrs : ParamAttrs) (x y : Value) → acted_on mem (attrs ∷ []) x ≡ Gives y →
    (y.datum ≡ x.datum) ⊎ ((y.datum ≡ datum.Poison) × (may_poison attrs ≡ true))
acted_may mem attrs x y e = elim (acted mem (attrs ∷ []) x y e).same [
  | inl same ↦ inl same
  | inr (poison, becomes) ↦ inr (poison, poisons_may mem attrs x.datum becomes)
]

-- where none of them may poison, the datum is kept
pub acted_kept : (mem : Memory) (attrs : List ParamAttrs) (x y : Value) → list_any may_poison attrs ≡ false → acted_on mem attrs x ≡ Gives y → y.datum ≡ x.datum
acted_kept mem attrs x y none e = elim (acted mem attrs x y e).same [
  | inl same ↦ same
  | inr (poison, becomes) ↦ absurd (true≢false (sym becomes ∙ never attrs x.datum none))
]
  where
    parts : (a b : Bool) → (a || b) ≡ false → (a ≡ false) × (b ≡ false)
    parts true b e = absurd (true≢false e)
    parts false b e = (refl, e)

    no_name : (attrs : List ParamAttrs) → list_any may_poison attrs ≡ false → list_any (λ (a : ParamAttrs). a.nonnull) attrs ≡ false
    no_name [] none = refl
    no_name (a ∷ attrs) none =
        let two = parts (may_poison a) (list_any may_poison attrs) none in
        both a.nonnull (list_any (λ (a : ParamAttrs). a.nonnull) attrs) (parts a.nonnull (not (a.align == 0)) two.0).0 (no_name attrs two.1)
      where
        both : (a b : Bool) → a ≡ false → b ≡ false → (a || b) ≡ false
        both a b e f = subst (λ a. (a || b) ≡ false) (sym e) f

    aligned : (align : ℕ) (d : Datum) → not (align == 0) ≡ false → is_misaligned mem align d ≡ false
    aligned align (datum.Ptr b o) e = subst (λ z. (z && not (is_aligned mem align b o)) ≡ false) (sym e) refl
    aligned align datum.Undef e = e
    aligned align datum.Null e = refl
    aligned align datum.Poison e = refl
    aligned align (datum.Int bits) e = refl
    aligned align datum.Pair e = refl

    no_align : (attrs : List ParamAttrs) (d : Datum) → list_any may_poison attrs ≡ false →
        list_any (λ (a : ParamAttrs). is_misaligned mem a.align d) attrs ≡ false
    no_align [] d none = refl
    no_align (a ∷ attrs) d none =
        let two = parts (may_poison a) (list_any may_poison attrs) none in
        both (is_misaligned mem a.align d) (list_any (λ (a : ParamAttrs). is_misaligned mem a.align d) attrs)
        (aligned a.align d (parts a.nonnull (not (a.align == 0)) two.0).1) (no_align attrs d two.1)
      where
        both : (a b : Bool) → a ≡ false → b ≡ false → (a || b) ≡ false
        both a b e f = subst (λ a. (a || b) ≡ false) (sym e) f

    never : (attrs : List ParamAttrs) (d : Datum) → list_any may_poison attrs ≡ false → becomes_poison mem attrs d ≡ false
    never attrs d none = subst (λ n. ((n && (is_null d || is_undef d)) || list_any (λ (a : ParamAttrs). is_misaligned mem a.align d) attrs) ≡ false)
        (sym (no_name attrs none)) (no_align attrs d none)

-- ---- indices

-- a getelementptr has the indices that are asked for
abbrev pub IsIndexed : Module → Op → Type 0
IsIndexed m (op.Gep elem base indices inbounds wrap) = HasIndices m → AreIndices m elem.0 indices
IsIndexed m _ = Unit {0}

pub indexed_at : (m : Module) (s : Spot) (instr : Instr) → instr_at m s ≡ Some instr → IsIndexed m instr.op
indexed_at m s instr at = by instr.op refl
  where
    by : (o : Op) → instr.op ≡ o → IsIndexed m o
    by (op.Gep elem base indices inbounds wrap) is = λ has. has s instr elem base indices inbounds wrap at is
    by (op.Bin o flagged a b) is = tt
    by (op.Icmp pred flagged a b) is = tt
    by (op.Cast o flagged a) is = tt
    by (op.Freeze a) is = tt
    by (op.LandingPad catch_all clauses) is = tt
    by (op.Select c a b) is = tt
    by (op.Phi arms) is = tt
    by (op.Alloca ty n align) is = tt
    by (op.Load ptr align volatile) is = tt
    by (op.Store val ptr align volatile) is = tt
    by (op.Call call) is = tt
    by (op.Invoke call normal unwind) is = tt
    by (op.Resume val) is = tt
    by (op.Ret val) is = tt
    by (op.Jump to) is = tt
    by (op.Branch c so otherwise) is = tt
    by (op.Switch on other cases) is = tt
    by op.Unreachable is = tt

-- the walk before the first index
abbrev starts_at : ℕ → List ℕ → Walk
starts_at ty picks = record { bytes = pos 0; ty = ty; forward = true; poison = false; picks = picks }

-- ---- rules

module _ (m : Module) (held : Fact → Bool) (is : JustifiesItself m held) where
  -- the rule of a value for a bit
  pub value_rule : (v bit : ℕ) (kind : ValueFact) → held (of_value v bit) ≡ true → value_fact bit ≡ Some kind → ValueHas m held v bit kind
  value_rule v bit kind has e = subst (λ found. MatchOption found ⊥ (ValueHas m held v bit)) e (is (of_value v bit) has)

  -- what the rule asks of the instruction that makes the value
  abbrev pub RuleOf : ℕ → ℕ → Spot → Op → ℕ → ValueFact → Type 0
  RuleOf f v s o bit (SameAs i) = ResultIsSame m held i s o
  RuleOf f v s o bit (UsedSo kind) = Unit {0}
  RuleOf f v s o bit NonNull = ResultHas m held f v s o bit NonNull
  RuleOf f v s o bit (AlignedTo bytes) = ResultHas m held f v s o bit (AlignedTo bytes)
  RuleOf f v s o bit (HasBytes count) = ResultHas m held f v s o bit (HasBytes count)
  RuleOf f v s o bit (NotTo class) = ResultHas m held f v s o bit (NotTo class)

  -- each fact of the value has what its rule asks
  abbrev pub HasRules : ℕ → ℕ → Spot → Op → Type 0
  HasRules f v s o = (bit : ℕ) (kind : ValueFact) → held (of_value v bit) ≡ true → value_fact bit ≡ Some kind → RuleOf f v s o bit kind

  pub result_rules : (f : ℕ) (s : Spot) (instr : Instr) (v : ValueId) → IsIn m f s → instr_at m s ≡ Some instr → instr.result ≡ Some v →
      HasRules f v.0 s instr.op
  result_rules f s instr v stands at has bit kind fact e = by kind (value_rule v.0 bit kind fact e)
    where
      by : (kind : ValueFact) → ValueHas m held v.0 bit kind → RuleOf f v.0 s instr.op bit kind
      by (SameAs i) rule = rule.made s instr at has
      by (UsedSo kind) rule = tt
      by NonNull rule = rule.made f s instr stands at has
      by (AlignedTo bytes) rule = rule.made f s instr stands at has
      by (HasBytes count) rule = rule.made f s instr stands at has
      by (NotTo class) rule = rule.made f s instr stands at has

  -- a value of which no fact can be held is as its word says, whatever it is
  pub free_good : (mem : Memory) (call : Begun) (f v : ℕ) (s : Spot) (o : Op) (d : Datum) → HasRules f v s o →
      ((bit : ℕ) → RuleOf f v s o bit NonNull → ⊥) → ((bit i : ℕ) → RuleOf f v s o bit (SameAs i) → ⊥) →
      ((bit n : ℕ) → RuleOf f v s o bit (AlignedTo n) → ⊥) → ((bit : ℕ) → RuleOf f v s o bit (NotTo Unknown) → ⊥) →
      IsGood m mem call (word_of held v) d
  free_good mem call f v s o d rules no_null no_same no_align no_class = record {
    bits = λ bit kind has e. says bit kind (rules bit kind has e);
    classes = unknown_classes mem call (word_of held v) d
        (λ has. no_class (class_bit Unknown) (rules (class_bit Unknown) (NotTo Unknown) has (class_fact Unknown)));
  }
    where
      says : (bit : ℕ) (kind : ValueFact) → RuleOf f v s o bit kind → Says m mem call (Some kind) d
      says bit (SameAs i) rule = absurd (no_same bit i rule)
      says bit NonNull rule = absurd (no_null bit rule)
      says bit (AlignedTo bytes) rule = absurd (no_align bit bytes rule)
      says bit (HasBytes count) rule = tt
      says bit (NotTo class) rule = tt
      says bit (UsedSo kind) rule = tt

  -- a value that takes over what another has
  pub taken_good : (mem : Memory) (call : Begun) (f v : ℕ) (s : Spot) (o : Op) (d : Datum) (more : ℕ → Bool) → HasRules f v s o →
      ((bit : ℕ) → RuleOf f v s o bit NonNull → more bit ≡ true) →
      ((bit i : ℕ) → value_fact bit ≡ Some (SameAs i) → RuleOf f v s o bit (SameAs i) → more bit ≡ true) →
      ((bit n : ℕ) → RuleOf f v s o bit (AlignedTo n) → more bit ≡ true) →
      ((bit : ℕ) (c : BlockClass) → RuleOf f v s o bit (NotTo c) → more bit ≡ true) → IsGood m mem call more d → IsGood m mem call (word_of held v) d
  taken_good mem call f v s o d more rules null same align class good = record {
    bits = λ bit kind has e. says bit kind e (rules bit kind has e);
    classes = fewer_classes mem call (word_of held v) more d (λ c has. class (class_bit c) c (rules (class_bit c) (NotTo c) has (class_fact c))) good.classes;
  }
    where
      says : (bit : ℕ) (kind : ValueFact) → value_fact bit ≡ Some kind → RuleOf f v s o bit kind → Says m mem call (Some kind) d
      says bit (SameAs i) e rule = good.bits bit (SameAs i) (same bit i e rule) e
      says bit NonNull e rule = good.bits bit NonNull (null bit rule) e
      says bit (AlignedTo bytes) e rule = good.bits bit (AlignedTo bytes) (align bit bytes rule) e
      says bit (HasBytes count) e rule = tt
      says bit (NotTo class) e rule = tt
      says bit (UsedSo kind) e rule = tt

  -- ---- what instructions compute

  module _ (here : Here) (sc : Scope) (blocks : AreBlocks here.state.memory sc) (homes : HasHomes m here.state.memory)
      (good : AreGood m held here.state.memory here.frame.call here.frame.values) (v : ℕ) where
    abbrev Good : Value → Type 0
    Good x = IsGood m here.state.memory here.frame.call (word_of held v) x.datum

    pub operand_good : (w : Written) (x : Value) → IsRead m here w x → IsGood m here.state.memory here.frame.call (written_has m held w) x.datum
    operand_good w x (picks, rest, gives) = read_good m held here.state.memory sc blocks homes here.frame.call here.frame.values good w x picks rest gives

    anything : (Q : Value → Type 0) (o : Outcome Value) → ((x : Value) → Q x) → OnOutcome Q o
    anything Q (Gives x) each = each x
    anything Q Undefined each = tt
    anything Q Over each = tt

    module _ (f : ℕ) (s : Spot) where
      select_good : (c a b : Written) (d : Datum) (x y : Value) (picks : List ℕ) → HasRules f v s (op.Select c a b) →
          IsGood m here.state.memory here.frame.call (written_has m held a) x.datum → IsGood m here.state.memory here.frame.call (written_has m held
          b) y.datum →
          OnOutcome Good (selected d x y picks)
      select_good c a b d x y picks rules at_x at_y = by d
        where
          first : Good x
          first = taken_good here.state.memory here.frame.call f v s (op.Select c a b) x.datum (written_has m held a) rules (λ bit r. r.0)
              (λ bit i e r. absurd r) (λ bit n r. r.0)
              (λ bit c r. r.0) at_x

          second : Good y
          second = taken_good here.state.memory here.frame.call f v s (op.Select c a b) y.datum (written_has m held b) rules (λ bit r. r.1)
              (λ bit i e r. absurd r) (λ bit n r. r.1)
              (λ bit c r. r.1) at_y

          either : (z : Bool) (p q : Value) → Good p → Good q → Good (if z then p else q)
          either true p q at_p at_q = at_p
          either false p q at_p at_q = at_q

          poison_says : (bit : ℕ) (kind : ValueFact) → RuleOf f v s (op.Select c a b) bit kind →
              Says m here.state.memory here.frame.call (Some kind) datum.Poison
          poison_says bit (SameAs i) rule = absurd rule
          poison_says bit NonNull rule = tt
          poison_says bit (AlignedTo bytes) rule = λ indices. tt
          poison_says bit (HasBytes count) rule = tt
          poison_says bit (NotTo class) rule = tt
          poison_says bit (UsedSo kind) rule = tt

          by : (d : Datum) → OnOutcome Good (selected d x y picks)
          by (datum.Int bits) = either (bits == 0) y x second first
          by datum.Undef = either (pick picks == 0) x y first second
          by datum.Poison = record {
            bits = λ bit kind has e. poison_says bit kind (rules bit kind has e);
            classes = no_ptr_classes here.state.memory here.frame.call (word_of held v) datum.Poison tt;
          }
          by (datum.Ptr block offset) = tt
          by datum.Null = tt
          by datum.Pair = tt

      gep_good : (elem : TypeId) (base : Written) (indices : List Written) (inbounds wrap : Bool) (x y : Value) →
          HasRules f v s (op.Gep elem base indices inbounds wrap) → IsGood m here.state.memory here.frame.call (written_has m held base) x.datum →
          IsLedFrom x.datum y.datum → KeepsPlace m here.state.memory (displacement inbounds wrap (steps m elem.0 indices)) x.datum y.datum → Good y
      gep_good elem base indices inbounds wrap x y rules at_x led keeps =
          taken_good here.state.memory here.frame.call f v s (op.Gep elem base indices inbounds wrap) y.datum
          (moved_has (displacement inbounds wrap (steps m elem.0 indices)) (written_has m held base)) rules (λ bit r. r) (λ bit i e r. absurd r)
          (λ bit n r. r) (λ bit c r. r)
          (moved_good m here.state.memory here.frame.call (displacement inbounds wrap (steps m elem.0 indices))
          (written_has m held base) x.datum y.datum led keeps at_x)

      led_gep : (inbounds wrap : Bool) (x : Value) (walk : Walk) →
          OnOutcome (λ (y : Value). IsLedFrom x.datum y.datum) (gep_result here.state.memory inbounds wrap x walk)
      led_gep inbounds wrap x walk =
          on_if (λ (y : Value). IsLedFrom x.datum y.datum) walk.poison (Gives (carried x datum.Poison)) _ (λ _. led_poison x.datum)
          (λ _. on_with (λ (y : Value). IsLedFrom x.datum y.datum) (displaced here.state.memory (way_of inbounds wrap walk) x walk.picks) _
          (λ r gives. given (λ (r : Picked). IsLedFrom x.datum r.value.datum) (displaced here.state.memory (way_of inbounds wrap walk) x walk.picks) r
          (displaced_led here.state.memory (way_of inbounds wrap walk) x walk.picks) gives))

      -- what the indices leave of an alignment
      placed_gep : (inbounds wrap : Bool) (elem : TypeId) (indices : List Written) (x : Value) (walk : Walk) (picks : List ℕ) (n : ℕ) → n ∣ 2 ^ 64 →
          keeps_align (displacement inbounds wrap (steps m elem.0 indices)) n ≡ true → AreIndices m elem.0 indices →
          walks m here indices (starts_at elem.0 picks) ≡ Gives walk → IsPlaced here.state.memory n x.datum →
          OnOutcome (λ (y : Value). IsPlaced here.state.memory n y.datum) (gep_result here.state.memory inbounds wrap x walk)
      placed_gep inbounds wrap elem indices x walk picks n whole keeps are gives placed =
          let d = displacement inbounds wrap (steps m elem.0 indices) in
          let parts = and_parts (d.fixed % n == 0) (list_all (λ factor. factor % n == 0) d.factors) keeps in
          let fixed : n ∣ residue 64 (fixed_part (steps m elem.0 indices)) = dvd_of_mod-eq-zero n {n = d.fixed} (eqb-true (d.fixed % n) 0 parts.0) in
          let sum : n ∣ unsigned_abs (pos 0 +ℤ fixed_part (steps m elem.0 indices)) =
          subst (λ z. n ∣ unsigned_abs z) (sym (+ℤ_idl (fixed_part (steps m elem.0 indices)))) (from_residue n whole (fixed_part (steps m elem.0
          indices)) fixed) in
          let far : n ∣ unsigned_abs walk.bytes =
          given (Keeps m here n (pos 0) (steps m elem.0 indices)) (walks m here indices (starts_at elem.0 picks)) walk
          (walks_keep m here n indices (starts_at elem.0 picks) elem.0 refl are) gives parts.1 sum in
          on_if (λ (y : Value). IsPlaced here.state.memory n y.datum) walk.poison (Gives (carried x datum.Poison)) _ (λ _. tt)
          (λ _. on_with (λ (y : Value). IsPlaced here.state.memory n y.datum) (displaced here.state.memory (way_of inbounds wrap walk) x walk.picks) _
          (λ r at. given (λ (r : Picked). IsPlaced here.state.memory n r.value.datum) (displaced here.state.memory (way_of inbounds wrap walk) x walk.picks) r
          (displaced_placed here.state.memory (way_of inbounds wrap walk) x walk.picks n whole (to_residue n whole walk.bytes far) placed) at))

      -- led, and in the same place
      both_led : (d : Displacement) (x : Value) (o : Outcome Value) → OnOutcome (λ (y : Value). IsLedFrom x.datum y.datum) o →
          ((n : ℕ) → n ∣ 2 ^ 64 → keeps_align d n ≡ true → HasIndices m → IsPlaced here.state.memory n x.datum →
          OnOutcome (λ (y : Value). IsPlaced here.state.memory n y.datum) o) →
          OnOutcome (λ (y : Value). IsLedFrom x.datum y.datum × KeepsPlace m here.state.memory d x.datum y.datum) o
      both_led d x (Gives y) led placed = (led, placed)
      both_led d x Undefined led placed = tt
      both_led d x Over led placed = tt

      abbrev FreeRules : Op → Type 0
      FreeRules o = ((bit : ℕ) → RuleOf f v s o bit NonNull → ⊥) × (((bit i : ℕ) → RuleOf f v s o bit (SameAs i) → ⊥) ×
          (((bit n : ℕ) → RuleOf f v s o bit (AlignedTo n) → ⊥) × ((bit : ℕ) → RuleOf f v s o bit (NotTo Unknown) → ⊥)))

      free : (o : Op) → HasRules f v s o → FreeRules o → (x : Value) → Good x
      free o rules none x = free_good here.state.memory here.frame.call f v s o x.datum rules none.0 none.1.0 none.1.1.0 none.1.1.1

      computed_given : (picks : List ℕ) (o : Op) → IsIndexed m o → HasRules f v s o → OnOutcome Good (computed m here picks o)
      computed_given picks (op.Bin o flagged a b) indexed rules =
          anything Good (computed m here picks (op.Bin o flagged a b)) (free (op.Bin o flagged a b) rules (
            (λ bit r. r),
            (
              (λ bit i r. r),
              (
                (λ bit n
                    r. r),
                (λ bit r. r),
              ),
            ),
          ))
      computed_given picks (op.Icmp pred flagged a b) indexed rules =
          anything Good (computed m here picks (op.Icmp pred flagged a b))
          (free (op.Icmp pred flagged a b) rules ((λ bit r. r), ((λ bit i r. r), ((λ bit n r. r), (λ bit r. r)))))
      computed_given picks (op.Cast o flagged a) indexed rules =
          anything Good (computed m here picks (op.Cast o flagged a)) (free (op.Cast o flagged a) rules (
            (λ bit r. r),
            (
              (λ bit i r. r),
              (
                (λ bit n r.
                    r),
                (λ bit r. r),
              ),
            ),
          ))
      computed_given picks (op.Freeze a) indexed rules =
          anything Good (computed m here picks (op.Freeze a)) (free (op.Freeze a) rules ((λ bit r. r), ((λ bit i r. r), ((λ bit n r. r), (λ bit r. r)))))
      computed_given picks (op.LandingPad catch_all clauses) indexed rules =
          free (op.LandingPad catch_all clauses) rules ((λ bit r. r), ((λ bit i r. r), ((λ bit n r. r), (λ bit r. r)))) (plain datum.Pair)
      computed_given picks (op.Select c a b) indexed rules =
          on_reading Good m here c picks _ (λ z rest _. on_reading Good m here a rest _ (λ x rest at_a. on_reading Good m here b rest _ (λ y rest at_b.
          select_good c a b z.datum x y rest rules (operand_good a x at_a) (operand_good b y at_b))))
      computed_given picks (op.Gep elem base indices inbounds wrap) indexed rules =
          on_reading Good m here base picks _ (λ x rest at. on_with Good (walks m here indices (starts_at elem.0 rest)) _ (λ walk gives.
          let d = displacement inbounds wrap (steps m elem.0 indices) in
          outcome_mapped (λ (y : Value). IsLedFrom x.datum y.datum × KeepsPlace m here.state.memory d x.datum y.datum) Good
          (gep_result here.state.memory inbounds wrap x walk)
          (λ y led. gep_good elem base indices inbounds wrap x y rules (operand_good base x at) led.0 led.1)
          (both_led d x (gep_result here.state.memory inbounds wrap x walk) (led_gep inbounds wrap x walk)
          (λ n whole keeps has placed. placed_gep inbounds wrap elem indices x walk rest n whole keeps (indexed has) gives placed))))
      computed_given picks (op.Phi arms) indexed rules = tt
      computed_given picks (op.Alloca ty n align) indexed rules = tt
      computed_given picks (op.Load ptr align volatile) indexed rules = tt
      computed_given picks (op.Store val ptr align volatile) indexed rules = tt
      computed_given picks (op.Call call) indexed rules = tt
      computed_given picks (op.Invoke call normal unwind) indexed rules = tt
      computed_given picks (op.Resume val) indexed rules = tt
      computed_given picks (op.Ret val) indexed rules = tt
      computed_given picks (op.Jump to) indexed rules = tt
      computed_given picks (op.Branch c so otherwise) indexed rules = tt
      computed_given picks (op.Switch on other cases) indexed rules = tt
      computed_given picks op.Unreachable indexed rules = tt

      -- what an instruction computes is as the word of its result says
      pub computed_good : (picks : List ℕ) (o : Op) (x : Value) → IsIndexed m o → HasRules f v s o → computed m here picks o ≡ Gives x → Good x
      computed_good picks o x indexed rules gives = given Good (computed m here picks o) x (computed_given picks o indexed rules) gives
