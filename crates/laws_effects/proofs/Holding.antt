-- From single steps to whole runs: what the facts of memory say holds in every honest run.
use Rattle.std.proofs.Common.{◌≡◌, ℕ, zero, suc, ◌+◌, ◌%◌, ◌/◌, ◌==◌, ◌<◌, Bool, true, false, if◌then◌else◌, List, [], ◌∷◌, slice_get, map, All, Option, None}
use Rattle.std.proofs.Common.{Some, refl, sym, ap, subst, ◌∙◌, ◌⊎◌, inl, inr}
use Rattle.shelf.proofs.Every.{every_at}
use Rattle.std.specs.List.{AllByRecursion}
use Rattle.std.proofs.lemmas.List.Elements.{recursion_from_All, All-from_recursion}
use Rattle.ir_module.specs.declared.module.Module.{Module}
use Rattle.ir_module.specs.WellFormed.{IsWellFormed}
use Rattle.facts.specs.Kinds.{NoAccess, Access, Read as Reads, Write as Writes, Location, Default, Argmem, Inaccessible}
use Rattle.facts.specs.Facts.{Fact, of_function}
use Rattle.ir_machine.specs.declared.choice.Choice.{Choice}
use Rattle.ir_machine.specs.Frames.{Active, active, State, What, Enter, Read, Write, HiddenRead, HiddenWrite, Free, Capture, Return, Unwind, Event}
use Rattle.ir_machine.specs.Moves.{Move}
use Rattle.ir_machine.specs.Runs.{Done, done, IsOpening, run, events_of}
use Rattle.ir_machine.specs.Steps.{plan}
use Rattle.ir_machine.specs.Meanings.{IsArgumentBlock, MeetsMemory, Keeps, memory, HoldsOfBody, allows_reads, allows_writes}
use Rattle.ir_machine.specs.Honest.{IsFair, IsHonest}
use Rattle.ir_machine.proofs.Basics.{OnOutcome, outcome_mapped, Along, Shown, of_events, of_steps}
use Rattle.ir_machine.proofs.Linked.{Linked, RunTheirCallees, all_linked}
use Rattle.ir_machine.proofs.Arguments.{Passed, all_passed}
use Rattle.ir_machine.proofs.Opening.{opening_valid}
use Rattle.ir_machine.proofs.Running.{IsValidStep, all_valid}
use Rattle.fact_meanings.specs.Values.{FramesAreRight}
use Rattle.fact_meanings.specs.Runs.{left, allowed, memory_of}
use Rattle.law_premises.specs.Premises.{JustifiesItself, IsControlled}
use Rattle.law_premises.specs.Types.{PassesAddresses}
use Rattle.laws_effects.proofs.Entering.{Placed, all_placed}
use Rattle.laws_effects.proofs.Quiet.{run_given, both_of, Says_well}
use Rattle.laws_effects.proofs.Permits.{has_as, has, Permits, PermitsHidden}
use Rattle.laws_effects.proofs.Steps.{Given, IsPermitted, Permitted, effects_step, permitted_said}

-- an access that no fact rules out is allowed by the `memory(..)` that the facts make
allows_read : (r w : Bool) → r ≡ false → allows_reads ((if r then 0 else 1) + (if w then 0 else 2)) ≡ true
allows_read false true e = refl
allows_read false false e = refl
allows_read true w e = absurd (cc)

allows_write : (r w : Bool) → w ≡ false → allows_writes ((if r then 0 else 1) + (if w then 0 else 2)) ≡ true
allows_write true false e = refl
allows_write false false e = refl
allows_write r true e = absurd (cc)

module _ (m : Module) (held : Fact → Bool) (is : JustifiesItself m held) where
  read_allowed : (f : ℕ) (l : Location) → held (of_function (NoAccess Reads l) f) ≡ false → allows_reads (allowed held f l) ≡ true
  read_allowed f l e = allows_read (held (of_function (NoAccess Reads l) f)) (held (of_function (NoAccess Writes l) f)) e

  write_allowed : (f : ℕ) (l : Location) → held (of_function (NoAccess Writes l) f) ≡ false → allows_writes (allowed held f l) ≡ true
  write_allowed f l e = allows_write (held (of_function (NoAccess Reads l) f)) (held (of_function (NoAccess Writes l) f)) e

  -- what a call of the body permits is what the word says
  meets : (f : ℕ) (a : Active) → a.body ≡ Some f → (calls : List Active) (k : ℕ) → slice_get calls k ≡ Some a → (what : What) → Permitted m held is calls what →
      MeetsMemory (memory_of held f) a.call what
  meets f a body calls k at (Read b origins) permitted =
      λ low. elim (every_at (Permits m held Reads b) calls k a permitted at low) [
        | inl noisy ↦ inl (read_allowed f Default (subst (λ body. has_as m held (NoAccess Reads Default) a.call.made body ≡ false) body noisy))
        | inr (noisy, block) ↦
            inr (read_allowed f Argmem (subst (λ body. has_as m held (NoAccess Reads Argmem) a.call.made body ≡ false) body noisy), block)
      ]
  meets f a body calls k at (Write b origins) permitted =
      λ low. elim (every_at (Permits m held Writes b) calls k a permitted at low) [
        | inl noisy ↦ inl (write_allowed f Default (subst (λ body. has_as m held (NoAccess Writes Default) a.call.made body ≡ false) body noisy))
        | inr (noisy, block) ↦
            inr (write_allowed f Argmem (subst (λ body. has_as m held (NoAccess Writes Argmem) a.call.made body ≡ false) body noisy), block)
      ]
  meets f a body calls k at HiddenRead permitted =
      read_allowed f Inaccessible (subst (λ body. has_as m held (NoAccess Reads Inaccessible) a.call.made body ≡ false) body
      (every_at (PermitsHidden m held Reads) calls k a permitted at))
  meets f a body calls k at HiddenWrite permitted =
      write_allowed f Inaccessible (subst (λ body. has_as m held (NoAccess Writes Inaccessible) a.call.made body ≡ false) body
      (every_at (PermitsHidden m held Writes) calls k a permitted at))
  meets f a body calls k at (Enter g) permitted = tt
  meets f a body calls k at (Free b) permitted = tt
  meets f a body calls k at (Capture origins) permitted = tt
  meets f a body calls k at (Return x) permitted = tt
  meets f a body calls k at Unwind permitted = tt

  module _ (formed : IsWellFormed m) (opening : State) (opens : IsOpening m opening) (choices : List Choice) (honest : IsHonest m (run m opening choices))
      (controlled : All (IsControlled m held) (run m opening choices)) (right : All (λ (d : Done). FramesAreRight held d.before) (run m opening choices))
      (typed : All (PassesAddresses m) (run m opening choices)) where
    abbrev steps : List Done
    steps = run m opening choices

    abbrev Own : Done → Type 0
    Own d = (Shown (Linked m formed) (RunTheirCallees m formed) d × Shown (Passed m) (λ e. Unit {0}) d) × (Shown (Placed m) (λ e. Unit {0}) d × IsValidStep d)

    abbrev Taken : Done → Type 0
    Taken d = (IsControlled m held d × FramesAreRight held d.before) × (PassesAddresses m d × AllByRecursion (IsFair m) d.events)

    given_all : AllByRecursion (Given m held) steps
    given_all =
        both_of Own Taken (Given m held) steps
        (λ d own taken. record {
          valid = own.1.1.before;
          linked = own.0.0.before;
          passed = own.0.1.before;
          places = own.1.0.before;
          fair = taken.1.1;
          controlled = taken.0.0;
          right = taken.0.1;
          typed = taken.1.0;
        })
        (both_of (λ d. Shown (Linked m formed) (RunTheirCallees m formed) d × Shown (Passed m) (λ e. Unit {0}) d) (λ d. Shown (Placed m) (λ e. Unit {0}) d ×
        IsValidStep d)
        Own steps (λ d a b. (a, b))
        (both_of (Shown (Linked m formed) (RunTheirCallees m formed)) (Shown (Passed m) (λ e. Unit {0}))
        (λ d. Shown (Linked m formed) (RunTheirCallees m formed) d × Shown (Passed m) (λ e. Unit {0}) d) steps (λ d a b. (a, b))
        (all_linked m formed opening opens choices) (all_passed m opening opens choices))
        (both_of (Shown (Placed m) (λ e. Unit {0})) IsValidStep (λ d. Shown (Placed m) (λ e. Unit {0}) d × IsValidStep d) steps (λ d a b. (a, b))
        (all_placed m opening opens choices) (all_valid m opening (opening_valid m opening opens) choices)))
        (both_of (λ d. IsControlled m held d × FramesAreRight held d.before) (λ d. PassesAddresses m d ×
        AllByRecursion (IsFair m) d.events) Taken steps (λ d a b. (a, b))
        (both_of (IsControlled m held) (λ (d : Done). FramesAreRight held d.before) (λ d. IsControlled m held d ×
        FramesAreRight held d.before) steps (λ d a b. (a, b))
        (recursion_from_All (IsControlled m held) steps controlled) (recursion_from_All (λ (d : Done). FramesAreRight held d.before) steps right))
        (both_of (PassesAddresses m) (λ (d : Done). AllByRecursion (IsFair m) d.events) (λ d. PassesAddresses m d × AllByRecursion (IsFair m) d.events) steps
        (λ d a b. (a, b)) (recursion_from_All (PassesAddresses m) steps typed)
        (of_steps (IsFair m) steps (recursion_from_All (IsFair m) (events_of steps) honest))))

    all_permitted : AllByRecursion (IsPermitted m held is) (events_of steps)
    all_permitted =
        of_events (IsPermitted m held is) steps
        (run_given m (Given m held) (λ (d : Done). AllByRecursion (IsPermitted m held is) d.events)
        (λ t choice. outcome_mapped (λ moves. Given m held (done t moves) → Along (Says_well (IsPermitted m held is)) t moves)
        (λ moves. Given m held (done t moves) → AllByRecursion (IsPermitted m held is) (done t moves).events) (plan m t choice)
        (λ moves well g. permitted_said m held is t moves (well g)) (effects_step m held is t choice))
        choices opening given_all)

    pub memory_of_body : (f : ℕ) → HoldsOfBody (memory (memory_of held f)) f steps
    memory_of_body f a body =
        All-from_recursion (Keeps (memory (memory_of held f)) a) (events_of steps)
        (both_of (IsPermitted m held is) (IsPermitted m held is) (Keeps (memory (memory_of held f)) a) (events_of steps)
        (λ e permitted _ during. meets f a body e.calls during.0 during.1 e.what permitted) all_permitted all_permitted)
