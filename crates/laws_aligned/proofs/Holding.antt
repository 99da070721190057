-- Values, entries and returns are as their words say, but for bytes: what is a multiple where it is an address is aligned where it
-- is a pointer, and only pointers have facts of alignment.
use Rattle.std.proofs.Common.{◌≡◌, ℕ, zero, suc, ◌-◌, ◌==◌, ◌&&◌, not, nat_le, nat_lt, Bool, true, false, if◌then◌else◌, List, [], ◌∷◌, slice_get}
use Rattle.std.proofs.Common.{length, slice_index, All, Option, None, Some, refl, sym, ap, subst, ◌∙◌, true≢false, arith}
use Rattle.std.specs.List.{AllByRecursion}
use Rattle.std.proofs.lemmas.Bool.{and_parts, leb-true, ltb-true}
use Rattle.std.proofs.lemmas.Option.{none-some, same_Some}
use Rattle.std.proofs.lemmas.List.Elements.{recursion_from_All, All-from_recursion}
use Rattle.lattice_words.specs.Ladders.{is_byte_bit, is_align_bit, byte_rungs, align_rungs}
use Rattle.lattice_words.specs.declared.value.TheConstants as value
use Rattle.lattice_words.specs.declared.word.TheConstants.{FACT_BITS}
use Rattle.ir_module.specs.declared.op.Written.{Written}
use Rattle.ir_module.specs.declared.module.Func.{Func}
use Rattle.ir_module.specs.declared.module.Param.{Param}
use Rattle.ir_module.specs.declared.module.ValueInfo.{ValueInfo}
use Rattle.ir_module.specs.declared.module.Module.{Module}
use Rattle.ir_module.specs.WellFormed.{IsWellFormed}
use Rattle.facts.specs.Bodies.{is_body, is_pointer, is_void, param_of, param_count}
use Rattle.facts.specs.Masks.{is_pointer_param, is_bit_up_to, is_value_bit, is_return_bit}
use Rattle.facts.specs.Kinds.{ValueFact, SameAs, NonNull, AlignedTo, HasBytes, NotTo, UsedSo, OwnAlloca, Argument, Global, Unknown, class_bit}
use Rattle.facts.specs.Kinds.{value_fact, class_fact, use_fact}
use Rattle.facts.specs.Facts.{Fact, of_value, at_entry, of_return}
use Rattle.ir_machine.specs.declared.choice.Choice.{Choice}
use Rattle.ir_machine.specs.declared.choice.Datum.{Datum}
use Rattle.ir_machine.specs.declared.choice.Datum.TheVariants as datum
use Rattle.ir_machine.specs.declared.choice.Value.{Value}
use Rattle.ir_machine.specs.Memory.{Memory}
use Rattle.ir_machine.specs.Frames.{Begun, Active, active, BodyFrame, Frame, Body, Outside, State, Event}
use Rattle.ir_machine.specs.Calls.{params_of}
use Rattle.ir_machine.specs.Outside.{types_of}
use Rattle.ir_machine.specs.Runs.{Done, IsOpening, run}
use Rattle.ir_machine.specs.Meanings.{IsAligned}
use Rattle.ir_machine.specs.Honest.{IsHonest}
use Rattle.ir_machine.specs.Valid.{IsValid, IsLater}
use Rattle.ir_machine.proofs.Basics.{Shown}
use Rattle.ir_machine.proofs.Opening.{opening_valid}
use Rattle.ir_machine.proofs.Running.{IsValidStep, all_valid}
use Rattle.ir_machine.proofs.Instructions.{here_in}
use Rattle.fact_meanings.specs.Values.{IsInClasses, SaysOfValue, BitsHold, FrameIsRight, FramesAreRight}
use Rattle.fact_meanings.specs.Runs.{EntryHolds, ReturnHolds, IsReturnOf, ReturnsHold}
use Rattle.law_premises.specs.Premises.{JustifiesItself, IsControlled}
use Rattle.law_premises.specs.Types.{AreAlike, IsWrittenAs, HasTypes, IsPointerDatum, IsOf, HasType, FrameIsTyped, FramesAreTyped, PassesAddresses, HasItsBits}
use Rattle.law_premises.specs.Types.{typed, ReturnsType}
use Rattle.law_premises.specs.Indices.{HasIndices}
use Rattle.laws_types.proofs.Typing.{operand_typed}
use Rattle.laws_types.proofs.Passing.{AllTyped}
use Rattle.laws_types.proofs.Stepping.{ParamsTyped}
use Rattle.laws_types.proofs.Holding.{typed_before, typed_next, params_next, passes_addresses}
use Rattle.laws_pointer.proofs.Placed.{IsPlaced}
use Rattle.laws_pointer.proofs.Good.{Says, says_later}
use Rattle.laws_pointer.proofs.Frames.{params_at}
use Rattle.laws_pointer.proofs.Stepping.{Good, Inv}
use Rattle.laws_pointer.proofs.Returning.{Returns, ReturnsGood}
use Rattle.laws_pointer.proofs.Holding.{never_when, use_none, NoSame, no_same, not_true, shown, returned_all}
use Rattle.laws_aligned.specs.Aligned.{but_bytes}

-- ---- bits

abbrev NoBytes : Option ValueFact → Type 0
NoBytes (Some (HasBytes count)) = ⊥
NoBytes _ = Unit {0}

class_bytes : (bit : ℕ) → NoBytes (class_fact bit)
class_bytes bit =
    never_when NoBytes (bit == value.NOT_OWN_ALLOCA) (Some (NotTo OwnAlloca)) _ (λ _. tt)
    (never_when NoBytes (bit == value.NOT_ARGUMENT) (Some (NotTo Argument)) _ (λ _. tt)
    (never_when NoBytes (bit == value.NOT_GLOBAL) (Some (NotTo Global)) _ (λ _. tt)
    (never_when NoBytes (bit == value.NOT_UNKNOWN) (Some (NotTo Unknown)) (use_fact bit) (λ _. tt) (use_none NoBytes tt (λ kind. tt) bit))))

-- a bit that speaks of no bytes says nothing of any
no_bytes : (bit : ℕ) → is_byte_bit bit ≡ false → NoBytes (value_fact bit)
no_bytes bit off =
    never_when NoBytes (nat_lt bit value.SAME_AS_PARAMETERS) (Some (SameAs bit)) _ (λ _. tt)
    (never_when NoBytes (bit == value.NONNULL) (Some NonNull) _ (λ _. tt)
    (never_when NoBytes (is_align_bit bit) (Some (AlignedTo (slice_index align_rungs (bit - value.ALIGN_2)))) _ (λ _. tt)
    (never_when NoBytes (is_byte_bit bit) (Some (HasBytes (slice_index byte_rungs (bit - value.BYTES_1)))) (class_fact bit)
    (λ on. true≢false (sym on ∙ off)) (class_bytes bit))))

-- a bit of a parameter speaks of no alignment, and of nothing that is not of parameters
low_same : (bit : ℕ) → nat_lt bit value.SAME_AS_PARAMETERS ≡ true → value_fact bit ≡ Some (SameAs bit)
low_same bit low = by (nat_lt bit value.SAME_AS_PARAMETERS) low
  where
    by : (b : Bool) → b ≡ true → (if b then Some (SameAs bit) else (
        if bit == value.NONNULL then Some NonNull else (
        if is_align_bit bit then Some (AlignedTo (slice_index align_rungs (bit - value.ALIGN_2))) else (
        if is_byte_bit bit then Some (HasBytes (slice_index byte_rungs (bit - value.BYTES_1))) else class_fact bit)))) ≡ Some (SameAs bit)
    by true e = refl
    by false e = absurd (true≢false (sym e))

no_align : (bit n : ℕ) → nat_lt bit value.SAME_AS_PARAMETERS ≡ true → value_fact bit ≡ Some (AlignedTo n) → ⊥
no_align bit n low e = clash (sym (low_same bit low) ∙ e)
  where
    clash : Some (SameAs bit) ≡ Some (AlignedTo n) → ⊥
    clash e = cc

-- what has a bit of alignment is a pointer
aligned_pointer : (last : ℕ) (pointer : Bool) (params bit n : ℕ) → is_bit_up_to last pointer params bit ≡ true → value_fact bit ≡ Some (AlignedTo n) →
    pointer ≡ true
aligned_pointer last true params bit n mask e = refl
aligned_pointer last false params bit n mask e =
    absurd (no_align bit n (and_parts (nat_lt bit value.SAME_AS_PARAMETERS) (nat_lt bit params) mask).0 e)

-- ---- pointers

-- what is a multiple where it is an address is aligned where it is a pointer
aligned_of : (mem : Memory) (n : ℕ) (d : Datum) → IsPointerDatum d → IsPlaced mem n d → IsAligned mem n d
aligned_of mem n (datum.Ptr b o) pointer placed = placed
aligned_of mem n datum.Null pointer placed = tt
aligned_of mem n datum.Undef pointer placed = absurd placed
aligned_of mem n datum.Poison pointer placed = tt
aligned_of mem n (datum.Int bits) pointer placed = absurd pointer
aligned_of mem n datum.Pair pointer placed = absurd pointer

pointer_of : (kind : Bool) (x : Value) → kind ≡ true → IsOf kind x → IsPointerDatum x.datum
pointer_of true x is typed = typed
pointer_of false x is typed = absurd (true≢false (sym is))

-- ---- words without bytes

module _ (m : Module) (indices : HasIndices m) (held : Fact → Bool) where
  parts_of : (x : Fact) → but_bytes held x ≡ true → (held x ≡ true) × (is_byte_bit x.bit ≡ false)
  parts_of x has = let two = and_parts (held x) (not (is_byte_bit x.bit)) has in (two.0, not_true (is_byte_bit x.bit) two.1)

  classes_but : (mem : Memory) (call : Begun) (fact : ℕ → Fact) (d : Datum) → IsInClasses mem call (λ bit. held (fact bit)) d →
      IsInClasses mem call (λ bit. but_bytes held (fact bit)) d
  classes_but mem call fact d is b o e alive =
      let found = is b o e alive in
      (found.0, subst (λ h. (h && not (is_byte_bit (fact (class_bit found.0)).bit)) ≡ false) (sym found.1) refl, found.2)

  bits_but : (mem : Memory) (call : Begun) (fact : ℕ → Fact) → ((bit : ℕ) → (fact bit).bit ≡ bit) → (d : Datum) →
      ((bit : ℕ) (kind : ValueFact) → held (fact bit) ≡ true → value_fact bit ≡ Some kind → Says m mem call (Some kind) d) →
      ((bit n : ℕ) → held (fact bit) ≡ true → value_fact bit ≡ Some (AlignedTo n) → IsPointerDatum d) →
      BitsHold mem call (λ bit. but_bytes held (fact bit)) d
  bits_but mem call fact same d says pointer bit has =
      let two = parts_of (fact bit) has in by (value_fact bit) refl (no_bytes bit (subst (λ n. is_byte_bit n ≡ false) (same bit) two.1)) two.0
    where
      by : (found : Option ValueFact) → value_fact bit ≡ found → NoBytes found → held (fact bit) ≡ true → SaysOfValue mem call found d
      by None e none h = tt
      by (Some (SameAs i)) e none h = says bit (SameAs i) h e
      by (Some NonNull) e none h = says bit NonNull h e
      by (Some (AlignedTo n)) e none h = aligned_of mem n d (pointer bit n h e) (says bit (AlignedTo n) h e indices)
      by (Some (HasBytes count)) e none h = absurd none
      by (Some (NotTo class)) e none h = tt
      by (Some (UsedSo kind)) e none h = tt

  module _ (formed : IsWellFormed m) (is : JustifiesItself m held) (masks : HasItsBits m held) where
    -- ---- frames

    value_pointer : (v bit n : ℕ) (x : Value) (frame : BodyFrame) → FrameIsTyped m (Body frame) → frame.values v ≡ Some x → held (of_value v bit) ≡ true →
        value_fact bit ≡ Some (AlignedTo n) → IsPointerDatum x.datum
    value_pointer v bit n x frame types at has e = by (slice_get m.values v) refl (masks (of_value v bit) has)
      where
        by : (found : Option ValueInfo) → slice_get m.values v ≡ found → is_value_bit m bit found ≡ true → IsPointerDatum x.datum
        by None is mask = absurd (true≢false (sym mask))
        by (Some info) is mask =
            let up = (and_parts (is_body m info.func.0) (is_bit_up_to (FACT_BITS - 1) (is_pointer m info.ty) (param_count m info.func.0) bit) mask).1 in
            pointer_of (is_pointer m info.ty) x
            (aligned_pointer (FACT_BITS - 1) (is_pointer m info.ty) (param_count m info.func.0) bit n up e) (types v info x is at)

    frame_right : (mem : Memory) (frame : Frame) → Good m formed held is mem frame → FrameIsTyped m frame → FrameIsRight (but_bytes held) mem frame
    frame_right mem (Outside frame) good types = tt
    frame_right mem (Body frame) good types = λ v x at.
        let one = good.kind.values v x at in record {
          bits = bits_but mem frame.call (of_value v) (λ bit. refl) x.datum one.bits (λ bit n has e. value_pointer v bit n x frame types at has e);
          classes = classes_but mem frame.call (of_value v) x.datum one.classes;
        }

    frames_go : (mem : Memory) (stack : List Frame) → AllByRecursion (Good m formed held is mem) stack → AllByRecursion (FrameIsTyped m) stack →
        AllByRecursion (FrameIsRight (but_bytes held) mem) stack
    frames_go mem [] good types = tt
    frames_go mem (frame ∷ below) good types = (frame_right mem frame good.0 types.0, frames_go mem below good.1 types.1)

    -- ---- entries

    param_typed : (params : List Param) (xs : List Value) (at : ℕ) (p : Param) (x : Value) → AllTyped m (types_of params) xs → slice_get params at ≡ Some p →
        slice_get xs at ≡ Some x → HasType m p.ty x
    param_typed [] xs at p x all at_p at_x = absurd (none-some p at_p)
    param_typed (q ∷ params) [] at p x all at_p at_x = absurd (none-some x at_x)
    param_typed (q ∷ params) (y ∷ xs) zero p x all at_p at_x =
        subst (λ (q : Param). HasType m q.ty x) (same_Some q p at_p) (subst (λ y. HasType m q.ty y) (same_Some y x at_x) all.0)
    param_typed (q ∷ params) (y ∷ xs) (suc at) p x all at_p at_x = param_typed params xs at p x all.1 at_p at_x

    entry_masks : (f at bit : ℕ) → held (at_entry f at bit) ≡ true → (is_pointer_param m (param_of m f at) ≡ true) × (nat_lt bit
        value.SAME_AS_PARAMETERS ≡ true → ⊥)
    entry_masks f at bit has =
        let first = (and_parts (is_body m f) _ (masks (at_entry f at bit) has)).1 in
        let second = and_parts (is_pointer_param m (param_of m f at)) _ first in
        let le = leb-true value.NONNULL bit (and_parts (nat_le value.NONNULL bit) _ second.1).0 in
        (second.0, λ low. let lt = ltb-true bit value.SAME_AS_PARAMETERS low in omega (arith, le, lt))

    entry_holds : (f at : ℕ) (d : Done) → Inv m formed held is d.next → AllByRecursion (ParamsTyped m) d.next.stack → EntryHolds (but_bytes held) f at d
    entry_holds f at d inv params a x begins body at_x =
        by begins.frame begins.is (subst (AllByRecursion (Good m formed held is d.next.memory)) begins.stack inv.frames).0
        (subst (AllByRecursion (ParamsTyped m)) begins.stack params).0
      where
        none_body : None ≡ Some f → ⊥
        none_body e = cc

        by : (frame : Frame) → active frame ≡ a → Good m formed held is d.next.memory frame → ParamsTyped m frame →
            BitsHold d.next.memory a.call (λ bit. but_bytes held (at_entry f at bit)) x.datum
        by (Outside frame) same good types = absurd (none_body (ap (λ (a : Active). a.body) same ∙ body))
        by (Body frame) same good types =
            bits_but d.next.memory a.call (at_entry f at) (λ bit. refl) x.datum (λ bit kind has e. says bit kind has e)
            (λ bit n has e. pointer (param_of m f at) refl (entry_masks f at bit has).0)
          where
            func : frame.func ≡ f
            func = same_Some frame.func f (ap (λ (a : Active). a.body) same ∙ body)

            there : slice_get frame.call.args at ≡ Some x
            there = ap (λ (a : Active). slice_get a.call.args at) same ∙ at_x

            says : (bit : ℕ) (kind : ValueFact) → held (at_entry f at bit) ≡ true → value_fact bit ≡ Some kind → Says m d.next.memory a.call (Some kind) x.datum
            says bit (SameAs i) has e = absurd (subst NoSame e (no_same bit (entry_masks f at bit has).1))
            says bit NonNull has e = good.kind.entry at bit NonNull x there (subst (λ f. held (at_entry f at bit) ≡ true) (sym func) has) e
            says bit (AlignedTo n) has e = good.kind.entry at bit (AlignedTo n) x there (subst (λ f. held (at_entry f at bit) ≡ true) (sym func) has) e
            says bit (HasBytes count) has e = tt
            says bit (NotTo class) has e = tt
            says bit (UsedSo kind) has e = tt

            pointer : (found : Option Param) → param_of m f at ≡ found → is_pointer_param m found ≡ true → IsPointerDatum x.datum
            pointer None is_none mask = absurd (true≢false (sym mask))
            pointer (Some p) is_some mask =
                pointer_of (is_pointer m p.ty) x mask
                (param_typed (params_of m f) frame.call.args at p x (subst (λ f. AllTyped m (types_of (params_of m f)) frame.call.args) func types)
                (params_at m f at p is_some) there)

    -- ---- returns

    module _ (types : HasTypes m) where
      return_pointer : (t : State) (a : Active) (x : Value) (f bit n : ℕ) → Returns m formed held is t a x f → FramesAreTyped m t →
          held (of_return f bit) ≡ true → value_fact bit ≡ Some (AlignedTo n) → IsPointerDatum x.datum
      return_pointer t a x f bit n r typed' has e = by (slice_get m.funcs f) refl (masks (of_return f bit) has)
        where
          values : FrameIsTyped m (Body r.frame)
          values = (subst (AllByRecursion (FrameIsTyped m)) r.stack typed').0

          written : IsWrittenAs m r.written.ty r.written.val
          written = subst (λ o. (k : ℕ) (w : Written) → slice_get (typed o) k ≡ Some w → IsWrittenAs m w.ty w.val) r.is_ret
              (types.instrs r.frame.spot r.instr r.at).operands 0 r.written refl

          has_type : HasType m r.written.ty x
          has_type = operand_typed m (here_in t r.frame r.below r.instr) values r.written x written r.reads

          by : (found : Option Func) → slice_get m.funcs f ≡ found → is_return_bit m f bit found ≡ true → IsPointerDatum x.datum
          by None is_none mask = absurd (true≢false (sym mask))
          by (Some func) is_func mask =
              let second = (and_parts (is_body m f) _ mask).1 in
              let third = (and_parts (not (is_void m func.ret)) (is_bit_up_to value.NOT_UNKNOWN (is_pointer m func.ret) (length func.params) bit) second).1 in
              let returns : AreAlike m r.written.ty func.ret =
              subst (ReturnsType m func) r.is_ret
              (types.returns r.frame.func func r.frame.spot r.instr (ap (slice_get m.funcs) r.func ∙ is_func) r.stands r.at) in
              pointer_of (is_pointer m r.written.ty) x
              (returns ∙ aligned_pointer value.NOT_UNKNOWN (is_pointer m func.ret) (length func.params) bit n third e) has_type

      returns_go : (f : ℕ) (d : Done) (events : List Event) → IsLater d.before.memory d.next.memory → FramesAreTyped m d.before →
          AllByRecursion (ReturnsGood m formed held is d.before) events →
          AllByRecursion (λ e. (a : Active) (x : Value) → a.body ≡ Some f → IsReturnOf a x e → ReturnHolds (but_bytes held) f d a x) events
      returns_go f d [] later typed' all = tt
      returns_go f d (e ∷ events) later typed' all =
          (λ a x body returns. one a x (all.0 a x f body returns.0 returns.1), returns_go f d events later typed' all.1)
        where
          one : (a : Active) (x : Value) → Returns m formed held is d.before a x f → ReturnHolds (but_bytes held) f d a x
          one a x r = record {
            bits = bits_but d.next.memory a.call (of_return f) (λ bit. refl) x.datum
                (λ bit kind has e. says_later m d.before.memory d.next.memory later a.call kind x.datum r.low (r.good.bits bit kind has e))
                (λ bit n has e. return_pointer d.before a x f bit n r typed' has e);
            classes = classes_but d.before.memory a.call (of_return f) x.datum r.good.classes;
          }

      -- ---- runs

      module _ (opening : State) (opens : IsOpening m opening) (choices : List Choice) (honest : IsHonest m (run m opening choices))
          (controlled : All (IsControlled m held) (run m opening choices)) where
        abbrev steps : List Done
        steps = run m opening choices

        addresses : All (PassesAddresses m) steps
        addresses = passes_addresses m formed types opening opens choices

        both_go : {A : Type 0} (P Q R : A → Type 0) (xs : List A) → ((x : A) → P x → Q x → R x) → AllByRecursion P xs → AllByRecursion Q xs →
            AllByRecursion R xs
        both_go P Q R [] leads p q = tt
        both_go P Q R (x ∷ xs) leads p q = (leads x p.0 q.0, both_go P Q R xs leads p.1 q.1)

        abbrev Told : Done → Type 0
        Told d = Shown (λ t. IsValid t × Inv m formed held is t) (λ e. Unit {0}) d

        told : AllByRecursion Told steps
        told = shown m formed held is opening opens choices honest controlled addresses

        pub right_before : All (λ (d : Done). FramesAreRight (but_bytes held) d.before) steps
        right_before =
            All-from_recursion (λ (d : Done). FramesAreRight (but_bytes held) d.before) steps
            (both_go Told (λ (d : Done). FramesAreTyped m d.before) (λ (d : Done). FramesAreRight (but_bytes held) d.before) steps
            (λ d s types'. frames_go d.before.memory d.before.stack s.before.1.frames types') told
            (recursion_from_All (λ (d : Done). FramesAreTyped m d.before) steps (typed_before m formed types opening opens choices)))

        pub right_next : All (λ (d : Done). FramesAreRight (but_bytes held) d.next) steps
        right_next =
            All-from_recursion (λ (d : Done). FramesAreRight (but_bytes held) d.next) steps
            (both_go Told (λ (d : Done). FramesAreTyped m d.next) (λ (d : Done). FramesAreRight (but_bytes held) d.next) steps
            (λ d s types'. frames_go d.next.memory d.next.stack s.next.1.frames types') told
            (recursion_from_All (λ (d : Done). FramesAreTyped m d.next) steps (typed_next m formed types opening opens choices)))

        pub entries_of : (f at : ℕ) → All (EntryHolds (but_bytes held) f at) steps
        entries_of f at =
            All-from_recursion (EntryHolds (but_bytes held) f at) steps
            (both_go Told (λ (d : Done). AllByRecursion (ParamsTyped m) d.next.stack) (EntryHolds (but_bytes held) f at) steps
            (λ d s params. entry_holds f at d s.next.1 params) told
            (recursion_from_All (λ (d : Done). AllByRecursion (ParamsTyped m) d.next.stack) steps (params_next m formed types opening opens choices)))

        pub returns_of : (f : ℕ) → All (ReturnsHold (but_bytes held) f) steps
        returns_of f =
            All-from_recursion (ReturnsHold (but_bytes held) f) steps
            (both_go (λ (d : Done). IsValidStep d × AllByRecursion (ReturnsGood m formed held is d.before) d.events) (λ (d : Done). FramesAreTyped m d.before)
            (ReturnsHold (but_bytes held) f) steps
            (λ d two types'. All-from_recursion
            (λ e. (a : Active) (x : Value) → a.body ≡ Some f → IsReturnOf a x e → ReturnHolds (but_bytes held) f d a x) d.events
            (returns_go f d d.events two.0.later types' two.1))
            (both_go IsValidStep (λ (d : Done). AllByRecursion (ReturnsGood m formed held is d.before) d.events)
            (λ (d : Done). IsValidStep d × AllByRecursion (ReturnsGood m formed held is d.before) d.events) steps (λ d valid good. (valid, good))
            (all_valid m opening (opening_valid m opening opens) choices)
            (returned_all m formed held is opening opens choices honest controlled addresses))
            (recursion_from_All (λ (d : Done). FramesAreTyped m d.before) steps (typed_before m formed types opening opens choices)))
