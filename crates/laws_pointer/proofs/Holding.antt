-- From single steps to whole runs: values, entries and returns are as their words say, but for alignment and bytes.
use Rattle.std.proofs.Common.{◌≡◌, ℕ, ◌-◌, ◌==◌, ◌&&◌, ◌||◌, not, nat_le, nat_lt, Bool, true, false, if◌then◌else◌, List, slice_get}
use Rattle.std.proofs.Common.{slice_index, All}
use Rattle.std.proofs.Common.{Option, None, Some, refl, sym, ap, subst, ◌∙◌, true≢false, arith}
use Rattle.std.specs.List.{AllByRecursion}
use Rattle.std.proofs.lemmas.Bool.{and_parts, leb-true, ltb-true}
use Rattle.std.proofs.lemmas.Option.{none-some, same_Some}
use Rattle.std.proofs.lemmas.List.Elements.{recursion_from_All, All-from_recursion}
use Rattle.shelf.proofs.Every.{every_mapped}
use Rattle.lattice_words.specs.Ladders.{is_byte_bit, is_align_bit, byte_rungs, align_rungs}
use Rattle.lattice_words.specs.declared.value.TheConstants as value
use Rattle.ir_module.specs.declared.module.Linkage.{Linkage}
use Rattle.ir_module.specs.declared.module.Module.{Module}
use Rattle.ir_module.specs.declared.module.Spot.{Spot}
use Rattle.ir_module.specs.WellFormed.{IsWellFormed}
use Rattle.facts.specs.Bodies.{is_body, param_of}
use Rattle.facts.specs.Masks.{is_pointer_param, has_bit_of}
use Rattle.facts.specs.Kinds.{ValueFact, SameAs, NonNull, AlignedTo, HasBytes, NotTo, UsedSo, UseFact, CapturedByReturnAlone, NotReturned, NotThrough}
use Rattle.facts.specs.Kinds.{Read as Reads, Write as Writes, OwnAlloca, Argument, Global, Unknown, class_bit, value_fact, class_fact as class_of_bit, use_fact}
use Rattle.facts.specs.Facts.{Fact, of_value, at_entry, of_return}
use Rattle.ir_machine.specs.declared.choice.Choice.{Choice}
use Rattle.ir_machine.specs.declared.choice.Datum.{Datum}
use Rattle.ir_machine.specs.declared.choice.Value.{Value}
use Rattle.ir_machine.specs.Memory.{Memory, OfSymbol}
use Rattle.ir_machine.specs.Frames.{Lowest, At, Begun, Active, active, Frame, Body, Outside, State}
use Rattle.ir_machine.specs.Steps.{plan}
use Rattle.std.proofs.Common.{◌<◌}
use Rattle.ir_module.specs.declared.op.Symbol.{Symbol}
use Rattle.ir_machine.specs.Runs.{linkage_of, HasHome, IsShapeOf, Done, done, IsOpening, run, events_of}
use Rattle.ir_machine.specs.Honest.{IsFair, IsHonest}
use Rattle.ir_machine.specs.Valid.{IsValid}
use Rattle.ir_machine.proofs.Basics.{outcome_mapped, Along, Shown, of_steps}
use Rattle.ir_machine.proofs.Linked.{Linked, RunTheirCallees, all_linked}
use Rattle.ir_machine.proofs.Arguments.{Passed, all_passed}
use Rattle.ir_machine.proofs.Opening.{opening_valid}
use Rattle.ir_machine.proofs.Running.{valid_run}
use Rattle.fact_meanings.specs.Values.{IsInClasses, SaysOfValue, BitsHold, IsRight, FrameIsRight, FramesAreRight}
use Rattle.fact_meanings.specs.Runs.{EntryHolds, ReturnHolds, IsReturnOf, ReturnsHold}
use Rattle.law_premises.specs.Premises.{JustifiesItself, IsControlled}
use Rattle.law_premises.specs.Types.{PassesAddresses, HasItsBits}
use Rattle.laws_pointer.specs.Told.{is_number_bit, but_numbers}
use Rattle.laws_pointer.proofs.Good.{IsGood}
use Rattle.laws_pointer.proofs.Stepping.{Given, Good, Asked, Inv, law}
use Rattle.laws_pointer.proofs.Acting.{pointer_step}
use Rattle.laws_pointer.proofs.Quiet.{run_given, both_of, said_well, Says_well}
use Rattle.laws_pointer.proofs.Results.{return_word}
use Rattle.laws_pointer.proofs.Returning.{ReturnsGood, Known, returns_step}

-- ---- bits that speak of numbers

abbrev NoNumber : Option ValueFact → Type 0
NoNumber (Some (AlignedTo bytes)) = ⊥
NoNumber (Some (HasBytes count)) = ⊥
NoNumber _ = Unit {0}

pub never_when : (N : Option ValueFact → Type 0) (b : Bool) (k rest : Option ValueFact) → (b ≡ true → N k) → N rest → N (if b then k else rest)
never_when N true k rest at_k at_rest = at_k refl
never_when N false k rest at_k at_rest = at_rest

pub use_none : (N : Option ValueFact → Type 0) → N None → ((kind : UseFact) → N (Some (UsedSo kind))) → (bit : ℕ) → N (use_fact bit)
use_none N none uses bit =
    never_when N (bit == value.CAPTURED_BY_RETURN_ALONE) (Some (UsedSo CapturedByReturnAlone)) _ (λ _. uses CapturedByReturnAlone)
    (never_when N (bit == value.NOT_RETURNED) (Some (UsedSo NotReturned)) _ (λ _. uses NotReturned)
    (never_when N (bit == value.NOT_READ_THROUGH) (Some (UsedSo (NotThrough Reads))) _ (λ _. uses (NotThrough Reads))
    (never_when N (bit == value.NOT_WRITTEN_THROUGH) (Some (UsedSo (NotThrough Writes))) None (λ _. uses (NotThrough Writes)) none)))

class_none : (bit : ℕ) → NoNumber (class_of_bit bit)
class_none bit =
    never_when NoNumber (bit == value.NOT_OWN_ALLOCA) (Some (NotTo OwnAlloca)) _ (λ _. tt)
    (never_when NoNumber (bit == value.NOT_ARGUMENT) (Some (NotTo Argument)) _ (λ _. tt)
    (never_when NoNumber (bit == value.NOT_GLOBAL) (Some (NotTo Global)) _ (λ _. tt)
    (never_when NoNumber (bit == value.NOT_UNKNOWN) (Some (NotTo Unknown)) (use_fact bit) (λ _. tt) (use_none NoNumber tt (λ kind. tt) bit))))

-- a bit that speaks of no number says nothing of one
no_number : (bit : ℕ) → is_number_bit bit ≡ false → NoNumber (value_fact bit)
no_number bit off =
    never_when NoNumber (nat_lt bit value.SAME_AS_PARAMETERS) (Some (SameAs bit)) _ (λ _. tt)
    (never_when NoNumber (bit == value.NONNULL) (Some NonNull) _ (λ _. tt)
    (never_when NoNumber (is_align_bit bit) (Some (AlignedTo (slice_index align_rungs (bit - value.ALIGN_2)))) _
    (λ on. first (is_align_bit bit) (is_byte_bit bit) off on)
    (never_when NoNumber (is_byte_bit bit) (Some (HasBytes (slice_index byte_rungs (bit - value.BYTES_1)))) (class_of_bit bit)
    (λ on. second (is_align_bit bit) (is_byte_bit bit) off on) (class_none bit))))
  where
    first : (a b : Bool) → (a || b) ≡ false → a ≡ true → ⊥
    first true b off on = true≢false off
    first false b off on = true≢false (sym on)

    second : (a b : Bool) → (a || b) ≡ false → b ≡ true → ⊥
    second true b off on = true≢false off
    second false true off on = true≢false off
    second false false off on = true≢false (sym on)

abbrev pub NoSame : Option ValueFact → Type 0
NoSame (Some (SameAs i)) = ⊥
NoSame _ = Unit {0}

class_no_same : (bit : ℕ) → NoSame (class_of_bit bit)
class_no_same bit =
    never_when NoSame (bit == value.NOT_OWN_ALLOCA) (Some (NotTo OwnAlloca)) _ (λ _. tt)
    (never_when NoSame (bit == value.NOT_ARGUMENT) (Some (NotTo Argument)) _ (λ _. tt)
    (never_when NoSame (bit == value.NOT_GLOBAL) (Some (NotTo Global)) _ (λ _. tt)
    (never_when NoSame (bit == value.NOT_UNKNOWN) (Some (NotTo Unknown)) (use_fact bit) (λ _. tt) (use_none NoSame tt (λ kind. tt) bit))))

-- bits from that of `nonnull` on are no bits of parameters
pub no_same : (bit : ℕ) → (nat_lt bit value.SAME_AS_PARAMETERS ≡ true → ⊥) → NoSame (value_fact bit)
no_same bit high =
    never_when NoSame (nat_lt bit value.SAME_AS_PARAMETERS) (Some (SameAs bit)) _ high
    (never_when NoSame (bit == value.NONNULL) (Some NonNull) _ (λ _. tt)
    (never_when NoSame (is_align_bit bit) (Some (AlignedTo (slice_index align_rungs (bit - value.ALIGN_2)))) _ (λ _. tt)
    (never_when NoSame (is_byte_bit bit) (Some (HasBytes (slice_index byte_rungs (bit - value.BYTES_1)))) (class_of_bit bit) (λ _. tt) (class_no_same bit))))

pub not_true : (b : Bool) → not b ≡ true → b ≡ false
not_true true e = absurd (true≢false (sym e))
not_true false e = refl

-- ---- words without numbers

module _ (held : Fact → Bool) where
  -- what is held without numbers is held, and speaks of none
  parts_of : (x : Fact) → but_numbers held x ≡ true → (held x ≡ true) × (is_number_bit x.bit ≡ false)
  parts_of x has = let two = and_parts (held x) (not (is_number_bit x.bit)) has in (two.0, not_true (is_number_bit x.bit) two.1)

  classes_without : (mem : Memory) (call : Begun) (fact : ℕ → Fact) (d : Datum) → IsInClasses mem call (λ bit. held (fact bit)) d →
      IsInClasses mem call (λ bit. but_numbers held (fact bit)) d
  classes_without mem call fact d is b o e alive =
      let found = is b o e alive in
      (found.0, subst (λ h. (h && not (is_number_bit (fact (class_bit found.0)).bit)) ≡ false) (sym found.1) refl, found.2)

  bits_without : (m : Module) (mem other : Memory) (call : Begun) (fact : ℕ → Fact) → ((bit : ℕ) → (fact bit).bit ≡ bit) → (d : Datum) →
      IsGood m mem call (λ bit. held (fact bit)) d →
      BitsHold other call (λ bit. but_numbers held (fact bit)) d
  bits_without m mem other call fact same d good bit has =
      let two = parts_of (fact bit) has in
      by (value_fact bit) refl (no_number bit (subst (λ n. is_number_bit n ≡ false) (same bit) two.1)) two.0
    where
      by : (found : Option ValueFact) → value_fact bit ≡ found → NoNumber found → held (fact bit) ≡ true → SaysOfValue other call found d
      by None e none h = tt
      by (Some (SameAs i)) e none h = good.bits bit (SameAs i) h e
      by (Some NonNull) e none h = good.bits bit NonNull h e
      by (Some (AlignedTo bytes)) e none h = absurd none
      by (Some (HasBytes count)) e none h = absurd none
      by (Some (NotTo class)) e none h = tt
      by (Some (UsedSo kind)) e none h = tt

  right_without : (m : Module) (mem : Memory) (call : Begun) (fact : ℕ → Fact) → ((bit : ℕ) → (fact bit).bit ≡ bit) → (d : Datum) →
      IsGood m mem call (λ bit. held (fact bit)) d →
      IsRight mem call (λ bit. but_numbers held (fact bit)) d
  right_without m mem call fact same d good =
      record { bits = bits_without m mem mem call fact same d good; classes = classes_without mem call fact d good.classes }

module _ (m : Module) (formed : IsWellFormed m) (held : Fact → Bool) (is : JustifiesItself m held) where
  frame_right : (mem : Memory) (frame : Frame) → Good m formed held is mem frame → FrameIsRight (but_numbers held) mem frame
  frame_right mem (Outside frame) good = tt
  frame_right mem (Body frame) good = λ v x at. right_without held m mem frame.call (of_value v) (λ bit. refl) x.datum (good.kind.values v x at)

  frames_right : (t : State) → Inv m formed held is t → FramesAreRight (but_numbers held) t
  frames_right t inv = every_mapped (Good m formed held is t.memory) (FrameIsRight (but_numbers held) t.memory) t.stack (frame_right t.memory) inv.frames

  -- ---- entries

  entry_holds : HasItsBits m held → (f at : ℕ) (d : Done) → Inv m formed held is d.next → EntryHolds (but_numbers held) f at d
  entry_holds masks f at d inv a x begins body at_x bit has =
      let two = parts_of held (at_entry f at bit) has in
      by begins.frame begins.is (subst (AllByRecursion (Good m formed held is d.next.memory)) begins.stack inv.frames).0 (value_fact bit) refl
      (no_number bit two.1) (no_same bit (λ low. below_mask (masks (at_entry f at bit) two.0) low)) two.0
    where
      below_mask : has_bit_of m (at_entry f at bit).pos bit ≡ true → nat_lt bit value.SAME_AS_PARAMETERS ≡ true → ⊥
      below_mask mask low =
          let first = (and_parts (is_body m f) _ mask).1 in
          let second = (and_parts (is_pointer_param m (param_of m f at)) _ first).1 in
          let third = (and_parts (nat_le value.NONNULL bit) _ second).0 in
          let le = leb-true value.NONNULL bit third in
          let lt = ltb-true bit value.SAME_AS_PARAMETERS low in
          omega (arith, le, lt)

      by : (frame : Frame) → active frame ≡ a → Good m formed held is d.next.memory frame → (found : Option ValueFact) → value_fact bit ≡ found →
          NoNumber found →
          NoSame found → held (at_entry f at bit) ≡ true → SaysOfValue d.next.memory a.call found x.datum
      by frame same good None e none other h = tt
      by frame same good (Some (SameAs i)) e none other h = absurd other
      by frame same good (Some (AlignedTo bytes)) e none other h = absurd none
      by frame same good (Some (HasBytes count)) e none other h = absurd none
      by frame same good (Some (NotTo class)) e none other h = tt
      by frame same good (Some (UsedSo kind)) e none other h = tt
      by (Outside frame) same good (Some NonNull) e none other h = absurd (no_body (ap (λ (a : Active). a.body) same ∙ body))
        where
          no_body : None ≡ Some f → ⊥
          no_body e = cc
      by (Body frame) same good (Some NonNull) e none other h =
          let func : frame.func ≡ f = same_Some frame.func f (ap (λ (a : Active). a.body) same ∙ body) in
          good.kind.entry at bit NonNull x (ap (λ (a : Active). slice_get a.call.args at) same ∙ at_x) (subst (λ f. held (at_entry f at bit) ≡ true)
          (sym func) h) e

  -- ---- returns

  returns_hold : (f : ℕ) (d : Done) → AllByRecursion (ReturnsGood m formed held is d.before) d.events → ReturnsHold (but_numbers held) f d
  returns_hold f d all =
      All-from_recursion (λ e. (a : Active) (x : Value) → a.body ≡ Some f → IsReturnOf a x e → ReturnHolds (but_numbers held) f d a x) d.events
      (every_mapped (ReturnsGood m formed held is d.before)
      (λ e. (a : Active) (x : Value) → a.body ≡ Some f → IsReturnOf a x e → ReturnHolds (but_numbers held) f d a x) d.events
      (λ e good a x body returns. one a x (good a x f body returns.0 returns.1).good) all)
    where
      one : (a : Active) (x : Value) → IsGood m d.before.memory a.call (return_word m held is f) x.datum → ReturnHolds (but_numbers held) f d a x
      one a x good = record {
        bits = bits_without held m d.before.memory d.next.memory a.call (of_return f) (λ bit. refl) x.datum good;
        classes = classes_without held d.before.memory a.call (of_return f) x.datum good.classes;
      }

  -- ---- runs

  module _ (opening : State) (opens : IsOpening m opening) (choices : List Choice) (honest : IsHonest m (run m opening choices))
      (controlled : All (IsControlled m held) (run m opening choices)) (typed : All (PassesAddresses m) (run m opening choices)) where
    abbrev steps : List Done
    steps = run m opening choices

    opening_good : Inv m formed held is opening
    opening_good = record {
      frames = subst (AllByRecursion (Good m formed held is opening.memory)) (sym opens.stack)
          (record { kind = refl; args = λ at x e. absurd (cc); passed = λ s instr call at w made at_s is_call at_w. absurd (lowest s made) }, tt);
      homes = record {
        weak = λ s link e none. subst (HasHome opening.memory s link) none (opens.memory.homes s link e);
        shape = λ s b home. by_symbol s b home (linkage_of m s) refl;
      };
    }
      where
        lowest : (s : Spot) → Lowest ≡ At s → ⊥
        lowest s e = cc

        same_symbol : {a s : Symbol} → OfSymbol a ≡ OfSymbol s → a ≡ s
        same_symbol e = cc

        by_symbol : (s : Symbol) (b : ℕ) → opening.memory.home s ≡ Some b → (link : Option Linkage) → linkage_of m s ≡ link →
            IsShapeOf m (opening.memory.shape b) s
        by_symbol s b home None e = absurd (none-some b (sym (opens.memory.strangers s e) ∙ home))
        by_symbol s b home (Some link) e =
            let has : (b < opening.memory.count) × ((opening.memory.shape b).kind ≡ OfSymbol s) =
            subst (HasHome opening.memory s link) home (opens.memory.homes s link e) in
            let block = opens.memory.blocks b has.0 in
            subst (IsShapeOf m (opening.memory.shape b)) (same_symbol (sym block.kind ∙ has.1)) block.shape

    given_all : AllByRecursion (Given m held) steps
    given_all =
        both_of (λ d. Shown (Linked m formed) (RunTheirCallees m formed) d × Shown (Passed m) (λ e. Unit {0}) d)
        (λ d. (IsControlled m held d × PassesAddresses m d) × AllByRecursion (IsFair m) d.events) (Given m held) steps
        (λ d own taken. record {
          linked = own.0.before;
          passed = own.1.before;
          fair = taken.1;
          controlled = taken.0.0;
          typed = taken.0.1;
        })
        (both_of (Shown (Linked m formed) (RunTheirCallees m formed)) (Shown (Passed m) (λ e. Unit {0}))
        (λ d. Shown (Linked m formed) (RunTheirCallees m formed) d × Shown (Passed m) (λ e. Unit {0}) d) steps (λ d a b. (a, b))
        (all_linked m formed opening opens choices) (all_passed m opening opens choices))
        (both_of (λ d. IsControlled m held d × PassesAddresses m d) (λ (d : Done). AllByRecursion (IsFair m) d.events)
        (λ d. (IsControlled m held d × PassesAddresses m d) × AllByRecursion (IsFair m) d.events) steps (λ d a b. (a, b))
        (both_of (IsControlled m held) (PassesAddresses m) (λ d. IsControlled m held d × PassesAddresses m d) steps (λ d a b. (a, b))
        (recursion_from_All (IsControlled m held) steps controlled) (recursion_from_All (PassesAddresses m) steps typed))
        (of_steps (IsFair m) steps (recursion_from_All (IsFair m) (events_of steps) honest)))

    pub shown : AllByRecursion (Shown (λ t. IsValid t × Inv m formed held is t) (λ e. Unit {0})) steps
    shown =
        valid_run m (Inv m formed held is) (Given m held) (Asked m formed held is) (λ e. Unit {0}) (law m formed held is)
        (λ t choice valid inv. pointer_step m formed held is t valid inv choice) choices opening (opening_valid m opening opens) opening_good given_all

    known_all : AllByRecursion (Known m formed held is) steps
    known_all =
        both_of (Given m held) (Shown (λ t. IsValid t × Inv m formed held is t) (λ e. Unit {0})) (Known m formed held is) steps
        (λ d given s. record { given = given; valid = s.before.0; inv = s.before.1 }) given_all shown

    pub returned_all : AllByRecursion (λ (d : Done). AllByRecursion (ReturnsGood m formed held is d.before) d.events) steps
    returned_all =
        run_given m (Known m formed held is) (λ (d : Done). AllByRecursion (ReturnsGood m formed held is d.before) d.events)
        (λ t choice. outcome_mapped (λ moves. Known m formed held is (done t moves) → Along (Says_well (ReturnsGood m formed held is t)) t moves)
        (λ moves. Known m formed held is (done t moves) → AllByRecursion (ReturnsGood m formed held is t) (done t moves).events) (plan m t choice)
        (λ moves well known. said_well (ReturnsGood m formed held is t) t moves (well known)) (returns_step m formed held is t choice))
        choices opening known_all

    pub right_before : All (λ (d : Done). FramesAreRight (but_numbers held) d.before) steps
    right_before =
        All-from_recursion (λ (d : Done). FramesAreRight (but_numbers held) d.before) steps
        (every_mapped (Shown (λ t. IsValid t × Inv m formed held is t) (λ e. Unit {0})) (λ (d : Done). FramesAreRight (but_numbers held) d.before) steps
        (λ d s. frames_right d.before s.before.1) shown)

    pub right_next : All (λ (d : Done). FramesAreRight (but_numbers held) d.next) steps
    right_next =
        All-from_recursion (λ (d : Done). FramesAreRight (but_numbers held) d.next) steps
        (every_mapped (Shown (λ t. IsValid t × Inv m formed held is t) (λ e. Unit {0})) (λ (d : Done). FramesAreRight (but_numbers held) d.next) steps
        (λ d s. frames_right d.next s.next.1) shown)

    pub entries_of : HasItsBits m held → (f at : ℕ) → All (EntryHolds (but_numbers held) f at) steps
    entries_of masks f at =
        All-from_recursion (EntryHolds (but_numbers held) f at) steps
        (every_mapped (Shown (λ t. IsValid t × Inv m formed held is t) (λ e. Unit {0})) (EntryHolds (but_numbers held) f at) steps
        (λ d s. entry_holds masks f at d s.next.1) shown)

    pub returns_of : (f : ℕ) → All (ReturnsHold (but_numbers held) f) steps
    returns_of f =
        All-from_recursion (ReturnsHold (but_numbers held) f) steps
        (every_mapped (λ (d : Done). AllByRecursion (ReturnsGood m formed held is d.before) d.events) (ReturnsHold (but_numbers held) f) steps
        (λ d all. returns_hold f d all) returned_all)
