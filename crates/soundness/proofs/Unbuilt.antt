-- What a set of facts says of which those of control and of reach alone are built: all else says nothing, for no such set has
-- another fact.
use Rattle.std.proofs.Common.{◌≡◌, ◌+◌, ◌||◌, ℕ, Bool, true, false, if◌then◌else◌, List, Some, All, refl, sym}
use Rattle.std.proofs.Common.{ap, ◌∙◌, inl, true≢false}
use Rattle.std.proofs.lemmas.List.Elements.{All-from_recursion}
use Rattle.shelf.proofs.Every.{every_always}
use Rattle.ir_module.specs.declared.module.Module.{Module}
use Rattle.facts.specs.declared.pos.Pos.{Pos}
use Rattle.facts.specs.Kinds.{Access, Read as Reads, Write as Writes, Location, Default, Argmem, Inaccessible, NoUnwind, NoReturn, NoFree, NoAccess, UseFact}
use Rattle.facts.specs.Kinds.{CapturedByReturnAlone, NotReturned, NotThrough, use_bit, class_bit, Unknown}
use Rattle.facts.specs.Facts.{Fact, fact, function, value, entry, returned, dead, of_function}
use Rattle.facts.specs.Masks.{is_built}
use Rattle.facts.specs.Justified.{SupportsItself}
use Rattle.facts.proofs.Unbuilt.{unbuilt}
use Rattle.ir_machine.specs.declared.choice.Datum.{Datum}
use Rattle.ir_machine.specs.declared.choice.Value.{Value}
use Rattle.ir_machine.specs.Memory.{Memory}
use Rattle.ir_machine.specs.Frames.{Begun, Frame, Body, Outside, Active, State, What, Enter, Read, Write, HiddenRead, HiddenWrite, Free, Capture, Return}
use Rattle.ir_machine.specs.Frames.{Unwind, Event}
use Rattle.ir_machine.specs.Runs.{Done, events_of}
use Rattle.ir_machine.specs.Meanings.{Keeps, nounwind, noreturn, nofree, memory, MeetsMemory, HoldsOfBody, allows_reads, allows_writes}
use Rattle.fact_meanings.specs.Values.{IsInClasses, FrameIsRight, FramesAreRight}
use Rattle.fact_meanings.specs.Runs.{left, allowed, memory_of, IsNeverDone, RowHolds, EntryHolds, IsReturnOf, ReturnHolds, ReturnsHold, UsesHold, ParamUsesHold}
use Rattle.fact_meanings.specs.Runs.{StaysClean, has_use, is_unstored, FactsHold}

module _ (m : Module) (held : Fact → Bool) (is : SupportsItself m held) where
  -- no fact of a kind that is not built is in the set
  none : (p : Pos) (bit : ℕ) → is_built p bit ≡ false → held (fact p bit) ≡ false
  none p bit off = unbuilt m held is (fact p bit) off

  never : (p : Pos) (bit : ℕ) → is_built p bit ≡ false → held (fact p bit) ≡ true → ⊥
  never p bit off has = true≢false (sym has ∙ none p bit off)

  -- ---- memory: every access is left possible

  no_access : (f : ℕ) (access : Access) (location : Location) → held (of_function (NoAccess access location) f) ≡ false
  no_access f Reads Default = none (function f) _ refl
  no_access f Writes Default = none (function f) _ refl
  no_access f Reads Argmem = none (function f) _ refl
  no_access f Writes Argmem = none (function f) _ refl
  no_access f Reads Inaccessible = none (function f) _ refl
  no_access f Writes Inaccessible = none (function f) _ refl

  all_left : (f : ℕ) (location : Location) (access : Access) (bit : ℕ) → left held f location access bit ≡ bit
  all_left f location access bit = ap (λ b. if b then 0 else bit) (no_access f access location)

  all_allowed : (f : ℕ) (location : Location) → allowed held f location ≡ 3
  all_allowed f location = ap (λ n. n + left held f location Writes 2) (all_left f location Reads 1) ∙ ap (λ n. 1 + n) (all_left f location Writes 2)

  reads_allowed : (f : ℕ) (location : Location) → allows_reads (allowed held f location) ≡ true
  reads_allowed f location = ap allows_reads (all_allowed f location)

  writes_allowed : (f : ℕ) (location : Location) → allows_writes (allowed held f location) ≡ true
  writes_allowed f location = ap allows_writes (all_allowed f location)

  meets : (f : ℕ) (call : Begun) (w : What) → MeetsMemory (memory_of held f) call w
  meets f call (Read block origins) = λ born. inl (reads_allowed f Default)
  meets f call (Write block origins) = λ born. inl (writes_allowed f Default)
  meets f call HiddenRead = reads_allowed f Inaccessible
  meets f call HiddenWrite = writes_allowed f Inaccessible
  meets f call (Enter g) = tt
  meets f call (Free block) = tt
  meets f call (Capture origins) = tt
  meets f call (Return x) = tt
  meets f call Unwind = tt

  memory_holds : (f : ℕ) (steps : List Done) → HoldsOfBody (memory (memory_of held f)) f steps
  memory_holds f steps a of =
      All-from_recursion (Keeps (memory (memory_of held f)) a) (events_of steps) (every_always (Keeps (memory (memory_of held f)) a) (events_of steps)
      (λ e during. meets f a.call e.what))

  -- ---- values: a pointer may be to any block

  in_classes : (p : Pos) → is_built p (class_bit Unknown) ≡ false → (mem : Memory) (call : Begun) (d : Datum) →
      IsInClasses mem call (λ bit. held (fact p bit)) d
  in_classes p off mem call d = λ b o to alive. (Unknown, none p (class_bit Unknown) off, tt)

  frame_right : (mem : Memory) (frame : Frame) → FrameIsRight held mem frame
  frame_right mem (Body frame) = λ v x at. record {
    bits = λ bit has. absurd (never (value v) bit refl has);
    classes = in_classes (value v) refl mem frame.call x.datum;
  }
  frame_right mem (Outside frame) = tt

  frames_right : (t : State) → FramesAreRight held t
  frames_right t = every_always (FrameIsRight held t.memory) t.stack (frame_right t.memory)

  -- ---- uses

  unused : (v : ℕ) (kind : UseFact) → has_use held v kind ≡ false
  unused v kind = none (value v) (use_bit kind) refl

  stored : (v : ℕ) → is_unstored held v ≡ false
  stored v =
      ap (λ b. b || has_use held v (NotThrough Reads) || has_use held v (NotThrough Writes)) (unused v CapturedByReturnAlone) ∙
      (ap (λ b. b || has_use held v (NotThrough Writes)) (unused v (NotThrough Reads)) ∙ unused v (NotThrough Writes))

  uses_hold : (v : ℕ) (a : Active) (at : ℕ) (e : Event) → UsesHold held v a at e
  uses_hold v a at e = record {
    captured = λ has. absurd (true≢false (sym has ∙ unused v CapturedByReturnAlone));
    returned = λ has. absurd (true≢false (sym has ∙ unused v NotReturned));
    read = λ has. absurd (true≢false (sym has ∙ unused v (NotThrough Reads)));
    written = λ has. absurd (true≢false (sym has ∙ unused v (NotThrough Writes)));
  }

  clean : (v : ℕ) (a : Active) (at : ℕ) (d : Done) → StaysClean held v a at d
  clean v a at d has = absurd (true≢false (sym has ∙ stored v))

  always : {X : Type 0} (P : X → Type 0) (xs : List X) → ((x : X) → P x) → All P xs
  always P xs all = All-from_recursion P xs (every_always P xs all)

  param_uses_hold : (f at v : ℕ) (steps : List Done) → ParamUsesHold m held f at v steps
  param_uses_hold f at v steps = record {
    events = λ a of. always (UsesHold held v a at) (events_of steps) (uses_hold v a at);
    clean = λ a of. always (StaysClean held v a at) steps (clean v a at);
  }

  -- ---- the whole

  entry_holds : (f at : ℕ) (d : Done) → EntryHolds held f at d
  entry_holds f at d a x begins of arg = λ bit has. absurd (never (entry f at) bit refl has)

  returns_hold : (f : ℕ) (d : Done) → ReturnsHold held f d
  returns_hold f d =
      let each : (e : Event) (a : Active) (x : Value) → a.body ≡ Some f → IsReturnOf a x e → ReturnHolds held f d a x = λ e a x of is_return. record {
        bits = λ bit has. absurd (never (returned f) bit refl has);
        classes = in_classes (returned f) refl d.before.memory a.call x.datum;
      } in
      always (λ e. (a : Active) (x : Value) → a.body ≡ Some f → IsReturnOf a x e → ReturnHolds held f d a x) d.events each

  pub facts_hold : (steps : List Done) → ((k : ℕ) → held (dead k) ≡ true → IsNeverDone k steps) →
      ((f : ℕ) → held (of_function NoUnwind f) ≡ true → HoldsOfBody nounwind f steps) →
      ((f : ℕ) → held (of_function NoReturn f) ≡ true → HoldsOfBody noreturn f steps) →
      ((f : ℕ) → held (of_function NoFree f) ≡ true → HoldsOfBody nofree f steps) → ((r t : ℕ) → RowHolds m held r t steps) → FactsHold m held steps
  facts_hold steps dead unwinding returning freeing rows = record {
    dead = dead;
    bodies = λ f. record {
      nounwind = unwinding f;
      noreturn = returning f;
      nofree = freeing f;
      memory = memory_holds f steps;
    };
    rows = rows;
    values = always (λ d. FramesAreRight held d.before × FramesAreRight held d.next) steps (λ d. (frames_right d.before, frames_right d.next));
    entries = λ f at. always (EntryHolds held f at) steps (entry_holds f at);
    returns = λ f. always (ReturnsHold held f) steps (returns_hold f);
    uses = λ f at v of. param_uses_hold f at v steps;
  }
