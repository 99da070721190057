-- The laws of the single kinds, each given what the others show.
use Rattle.std.proofs.Common.{◌≡◌, ℕ, ◌&&◌, not, Bool, true, false, List, [], ◌∷◌, All, Some, refl, sym, subst, ◌∙◌, true≢false}
use Rattle.std.specs.List.{AllByRecursion}
use Rattle.std.proofs.lemmas.List.Elements.{recursion_from_All, All-from_recursion}
use Rattle.shelf.proofs.Every.{every_mapped}
use Rattle.ir_module.specs.Calls.{Nounwind, Noreturn, Nofree}
use Rattle.ir_module.specs.declared.module.Module.{Module}
use Rattle.ir_module.specs.WellFormed.{IsWellFormed}
use Rattle.facts.specs.Kinds.{NoUnwind, NoReturn, NoFree, class_bit}
use Rattle.facts.specs.Facts.{Fact, of_value, at_entry, of_return}
use Rattle.ir_machine.specs.declared.choice.Choice.{Choice}
use Rattle.ir_machine.specs.declared.choice.Datum.{Datum}
use Rattle.ir_machine.specs.declared.choice.Value.{Value}
use Rattle.ir_machine.specs.Memory.{Memory}
use Rattle.ir_machine.specs.Frames.{Begun, Active, Frame, Body, Outside, State, Event}
use Rattle.ir_machine.specs.Runs.{Done, IsOpening, run}
use Rattle.ir_machine.specs.Meanings.{nounwind, noreturn, nofree}
use Rattle.ir_machine.specs.Honest.{IsHonest}
use Rattle.fact_meanings.specs.Values.{IsInClasses, BitsHold, FrameIsRight, FramesAreRight}
use Rattle.fact_meanings.specs.Runs.{BodyHolds, EntryHolds, ReturnHolds, IsReturnOf, ReturnsHold, FactsHold}
use Rattle.law_premises.specs.Premises.{JustifiesItself, IsControlled}
use Rattle.law_premises.specs.Types.{HasTypes, PassesAddresses, HasItsBits}
use Rattle.laws_pointer.specs.Told.{is_number_bit}
use Rattle.laws_of_control.proofs.Holding.{all_controlled, never_done, body_holds, nounwind_kept, noreturn_kept, nofree_kept}
use Rattle.laws_types.proofs.Holding.{keeps_types, passes_addresses}
use Rattle.laws_pointer.proofs.Holding.{right_before, right_next, entries_of, returns_of}
use Rattle.laws_effects.proofs.Holding.{memory_of_body}
use Rattle.laws_effects.proofs.Reaching.{rows_of}
use Rattle.laws_uses.proofs.Holding.{uses_of}
use Rattle.law_premises.specs.Indices.{HasIndices}
use Rattle.lattice_words.specs.Ladders.{is_byte_bit}
use Rattle.laws_aligned.proofs.Holding.{right_before as aligned_before, right_next as aligned_next, entries_of as aligned_entries}
use Rattle.laws_aligned.proofs.Holding.{returns_of as aligned_returns}
use Rattle.joined_laws.specs.Numbers.{HasNoNumbers, HasNoBytes}

-- what holds of each element in two ways, in a third
both_all : {A : Type 0} (P Q R : A → Type 0) (xs : List A) → ((x : A) → P x → Q x → R x) → All P xs → All Q xs → All R xs
both_all P Q R xs leads p q = All-from_recursion R xs (go xs (recursion_from_All P xs p) (recursion_from_All Q xs q))
  where
    go : (ys : List _) → AllByRecursion P ys → AllByRecursion Q ys → AllByRecursion R ys
    go [] p q = tt
    go (y ∷ ys) p q = (leads y p.0 q.0, go ys p.1 q.1)

mapped_all : {A : Type 0} (P Q : A → Type 0) (xs : List A) → ((x : A) → P x → Q x) → All P xs → All Q xs
mapped_all P Q xs leads p = All-from_recursion Q xs (every_mapped P Q xs leads (recursion_from_All P xs p))

-- ---- words without some bits

module _ (test : ℕ → Bool) (held : Fact → Bool) where
  -- the set without the facts of these bits
  abbrev but : Fact → Bool
  but x = held x && not (test x.bit)

  -- no value, entry or return has a fact of these bits
  record HasNone : Type 0 where
    values : (v bit : ℕ) → held (of_value v bit) ≡ true → test bit ≡ false
    entries : (f at bit : ℕ) → held (at_entry f at bit) ≡ true → test bit ≡ false
    returns : (f bit : ℕ) → held (of_return f bit) ≡ true → test bit ≡ false

  -- where the word has none of these bits, what is held is held without them
  still_held : (x : Fact) → (held x ≡ true → test x.bit ≡ false) → held x ≡ true → but x ≡ true
  still_held x none has =
      subst (λ h. (h && not (test x.bit)) ≡ true) (sym has) (subst (λ n. (true && not n) ≡ true) (sym (none has)) refl)

  never_held : (x : Fact) → (held x ≡ true → test x.bit ≡ false) → but x ≡ false → held x ≡ false
  never_held x none e = by (held x) refl
    where
      by : (h : Bool) → held x ≡ h → h ≡ false
      by false is = refl
      by true is = absurd (true≢false (sym (still_held x none is) ∙ e))

  module _ (fact : ℕ → Fact) (none : (bit : ℕ) → held (fact bit) ≡ true → test (fact bit).bit ≡ false) where
    bits_back : (mem : Memory) (call : Begun) (d : Datum) → BitsHold mem call (λ bit. but (fact bit)) d →
        BitsHold mem call (λ bit. held (fact bit)) d
    bits_back mem call d bits bit has = bits bit (still_held (fact bit) (none bit) has)

    classes_back : (mem : Memory) (call : Begun) (d : Datum) → IsInClasses mem call (λ bit. but (fact bit)) d →
        IsInClasses mem call (λ bit. held (fact bit)) d
    classes_back mem call d classes b o points alive =
        let found = classes b o points alive in
        (found.0, never_held (fact (class_bit found.0)) (none (class_bit found.0)) found.1, found.2)

  frame_back : HasNone → (mem : Memory) (frame : Frame) → FrameIsRight (but) mem frame → FrameIsRight held mem frame
  frame_back none mem (Outside frame) right = tt
  frame_back none mem (Body frame) right = λ v x at.
      let one = right v x at in record {
        bits = bits_back (of_value v) (λ bit has. none.values v bit has) mem frame.call x.datum one.bits;
        classes = classes_back (of_value v) (λ bit has. none.values v bit has) mem frame.call x.datum one.classes;
      }

  frames_back : HasNone → (t : State) → FramesAreRight (but) t → FramesAreRight held t
  frames_back none t right = every_mapped (FrameIsRight (but) t.memory) (FrameIsRight held t.memory) t.stack (frame_back none t.memory) right

  entry_back : HasNone → (f at : ℕ) (d : Done) → EntryHolds (but) f at d → EntryHolds held f at d
  entry_back none f at d holds a x begins body at_x =
      bits_back (at_entry f at) (λ bit has. none.entries f at bit has) d.next.memory a.call x.datum (holds a x begins body at_x)

  returns_back : HasNone → (f : ℕ) (d : Done) → ReturnsHold (but) f d → ReturnsHold held f d
  returns_back none f d all =
      mapped_all (λ (e : Event). (a : Active) (x : Value) → a.body ≡ Some f → IsReturnOf a x e → ReturnHolds (but) f d a x)
      (λ (e : Event). (a : Active) (x : Value) → a.body ≡ Some f → IsReturnOf a x e → ReturnHolds held f d a x) d.events
      (λ e holds a x body returns. one a x (holds a x body returns)) all
    where
      one : (a : Active) (x : Value) → ReturnHolds (but) f d a x → ReturnHolds held f d a x
      one a x holds = record {
        bits = bits_back (of_return f) (λ bit has. none.returns f bit has) d.next.memory a.call x.datum holds.bits;
        classes = classes_back (of_return f) (λ bit has. none.returns f bit has) d.before.memory a.call x.datum holds.classes;
      }

-- ---- the whole

module _ (m : Module) (formed : IsWellFormed m) (held : Fact → Bool) (is : JustifiesItself m held) (opening : State) (opens : IsOpening m opening)
    (choices : List Choice) (honest : IsHonest m (run m opening choices)) (types : HasTypes m) (masks : HasItsBits m held) where
  abbrev steps : List Done
  steps = run m opening choices

  controlled : All (IsControlled m held) steps
  controlled = all_controlled m formed held is opening opens choices honest

  addresses : All (PassesAddresses m) steps
  addresses = passes_addresses m formed types opening opens choices

  -- what the laws of values show, whether bits are left out or not
  record ValuesHold (told : Fact → Bool) : Type 0 where
    before : All (λ (d : Done). FramesAreRight told d.before) steps
    next : All (λ (d : Done). FramesAreRight told d.next) steps
    entries : (f at : ℕ) → All (EntryHolds told f at) steps
    returns : (f : ℕ) → All (ReturnsHold told f) steps

  all_back : (test : ℕ → Bool) → HasNone test held → ValuesHold (but test held) → ValuesHold held
  all_back test none holds = record {
    before =
        mapped_all (λ (d : Done). FramesAreRight (but test held) d.before) (λ (d : Done). FramesAreRight held d.before) steps
        (λ d right. frames_back test held none d.before right) holds.before;
    next =
        mapped_all (λ (d : Done). FramesAreRight (but test held) d.next) (λ (d : Done). FramesAreRight held d.next) steps
        (λ d right. frames_back test held none d.next right) holds.next;
    entries = λ f at.
        mapped_all (EntryHolds (but test held) f at) (EntryHolds held f at) steps (λ d entry. entry_back test held none f at d entry) (holds.entries f at);
    returns = λ f.
        mapped_all (ReturnsHold (but test held) f) (ReturnsHold held f) steps (λ d all. returns_back test held none f d all) (holds.returns f);
  }

  bodies : ValuesHold held → (f : ℕ) → BodyHolds held f steps
  bodies values f = record {
    nounwind = λ has. body_holds m formed held is opening opens choices honest NoUnwind Nounwind nounwind
        (nounwind_kept m formed held is opening opens choices honest) f has;
    noreturn = λ has. body_holds m formed held is opening opens choices honest NoReturn Noreturn noreturn
        (noreturn_kept m formed held is opening opens choices honest) f has;
    nofree = λ has. body_holds m formed held is opening opens choices honest NoFree Nofree nofree
        (nofree_kept m formed held is opening opens choices honest) f has;
    memory = memory_of_body m held is formed opening opens choices honest controlled values.before addresses f;
  }

  all_of : ValuesHold held → FactsHold m held steps
  all_of values = record {
    dead = never_done m formed held is opening opens choices honest;
    bodies = bodies values;
    rows = rows_of m held is formed opening opens choices honest controlled;
    values =
        both_all (λ (d : Done). FramesAreRight held d.before) (λ (d : Done). FramesAreRight held d.next)
        (λ (d : Done). FramesAreRight held d.before × FramesAreRight held d.next) steps (λ d b n. (b, n)) values.before values.next;
    entries = values.entries;
    returns = values.returns;
    uses = λ f at v param.
        uses_of m formed held is opening opens choices honest controlled (keeps_types m formed types opening opens choices) f at v param;
  }

  -- each fact of the set says what it says, where none is of a number
  pub all_hold : HasNoNumbers held → FactsHold m held steps
  all_hold none =
      all_of (all_back is_number_bit (record {
        values = λ v bit has. none (of_value v bit) has;
        entries = λ f at bit has. none (at_entry f at bit) has;
        returns = λ f bit has. none (of_return f bit) has;
      }) (record {
        before = right_before m formed held is opening opens choices honest controlled addresses;
        next = right_next m formed held is opening opens choices honest controlled addresses;
        entries = λ f at. entries_of m formed held is opening opens choices honest controlled addresses masks f at;
        returns = λ f. returns_of m formed held is opening opens choices honest controlled addresses f;
      }))

  -- or none of bytes
  pub all_but_bytes : HasIndices m → HasNoBytes held → FactsHold m held steps
  all_but_bytes indices none =
      all_of (all_back is_byte_bit (record {
        values = λ v bit has. none (of_value v bit) has;
        entries = λ f at bit has. none (at_entry f at bit) has;
        returns = λ f bit has. none (of_return f bit) has;
      }) (record {
        before = aligned_before m indices held formed is masks types opening opens choices honest controlled;
        next = aligned_next m indices held formed is masks types opening opens choices honest controlled;
        entries = λ f at. aligned_entries m indices held formed is masks types opening opens choices honest controlled f at;
        returns = λ f. aligned_returns m indices held formed is masks types opening opens choices honest controlled f;
      }))
