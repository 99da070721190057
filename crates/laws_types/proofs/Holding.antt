-- From single steps to whole runs: values have their types, and pointers keep theirs.
use Rattle.std.proofs.Common.{◌≡◌, ℕ, Bool, true, false, List, [], All, refl}
use Rattle.std.specs.List.{AllByRecursion}
use Rattle.std.proofs.lemmas.List.Elements.{All-from_recursion}
use Rattle.shelf.proofs.Every.{every_mapped}
use Rattle.ir_module.specs.declared.module.Module.{Module}
use Rattle.ir_module.specs.WellFormed.{IsWellFormed}
use Rattle.facts.specs.Bodies.{is_pointer}
use Rattle.ir_machine.specs.declared.choice.Choice.{Choice}
use Rattle.ir_machine.specs.declared.choice.Datum.TheVariants as datum
use Rattle.ir_machine.specs.declared.choice.Value.{Value}
use Rattle.ir_machine.specs.Frames.{Frame, State, Event}
use Rattle.ir_machine.specs.Runs.{Done, IsOpening, run}
use Rattle.ir_machine.proofs.Basics.{Shown}
use Rattle.ir_machine.proofs.Linked.{Linked, RunTheirCallees, all_linked}
use Rattle.law_premises.specs.Premises.{PassesPointers, ReturnsPointers, KeepsTypes}
use Rattle.law_premises.specs.Types.{HasTypes, IsOf, FrameIsTyped, FramesAreTyped, HasTypedAddresses, PassesAddresses}
use Rattle.laws_types.proofs.Passing.{typed_at}
use Rattle.laws_types.proofs.Stepping.{ParamsTyped, IsWell, Inv, HasReturnType, all_typed}

-- a value of another type has no origins
bare_origins : (kind : Bool) (x : Value) → kind ≡ false → IsOf kind x → x.origins ≡ []
bare_origins true x e is = absurd (cc)
bare_origins false x e is = is.origins

-- what points to a block is a pointer
address_kind : (kind : Bool) (x : Value) (b o : ℕ) → x.datum ≡ datum.Ptr b o → IsOf kind x → kind ≡ true
address_kind true x b o e is = refl
address_kind false x b o e is = absurd (is.block b o e)

module _ (m : Module) where
  frames_typed : (t : State) → Inv m t → FramesAreTyped m t
  frames_typed t inv = every_mapped (IsWell m) (FrameIsTyped m) t.stack (λ frame well. well.0) inv.frames

  passes_pointers : (frame : Frame) → IsWell m frame → PassesPointers m frame
  passes_pointers frame well s instr call k w x made at is_call at_w at_x none =
      bare_origins (is_pointer m w.ty) x none (typed_at m call.args _ k w x (well.1.0 s instr call made at is_call) at_w at_x)

  typed_addresses : (frame : Frame) → IsWell m frame → HasTypedAddresses m frame
  typed_addresses frame well s instr call k w x b o made at is_call at_w at_x is =
      address_kind (is_pointer m w.ty) x b o is (typed_at m call.args _ k w x (well.1.0 s instr call made at is_call) at_w at_x)

  returns_pointers : (e : Event) → HasReturnType m e → ReturnsPointers m e
  returns_pointers e has a s instr x by what made at none = bare_origins (is_pointer m instr.ty) x none (has a s instr x by what made at)

  module _ (formed : IsWellFormed m) (types : HasTypes m) (opening : State) (opens : IsOpening m opening) (choices : List Choice) where
    shown : AllByRecursion (Shown (Inv m) (HasReturnType m)) (run m opening choices)
    shown =
        all_typed m formed types opening opens choices
        (every_mapped (Shown (Linked m formed) (RunTheirCallees m formed)) (λ (d : Done). Linked m formed d.before) (run m opening choices) (λ d s. s.before)
        (all_linked m formed opening opens choices))

    pub typed_before : All (λ (d : Done). FramesAreTyped m d.before) (run m opening choices)
    typed_before =
        All-from_recursion (λ (d : Done). FramesAreTyped m d.before) (run m opening choices)
        (every_mapped (Shown (Inv m) (HasReturnType m)) (λ (d : Done). FramesAreTyped m d.before) (run m opening choices)
        (λ d s. frames_typed d.before s.before) shown)

    pub typed_next : All (λ (d : Done). FramesAreTyped m d.next) (run m opening choices)
    typed_next =
        All-from_recursion (λ (d : Done). FramesAreTyped m d.next) (run m opening choices)
        (every_mapped (Shown (Inv m) (HasReturnType m)) (λ (d : Done). FramesAreTyped m d.next) (run m opening choices)
        (λ d s. frames_typed d.next s.next) shown)

    -- the parameters of each call of a body have their types
    pub params_next : All (λ (d : Done). AllByRecursion (ParamsTyped m) d.next.stack) (run m opening choices)
    params_next =
        All-from_recursion (λ (d : Done). AllByRecursion (ParamsTyped m) d.next.stack) (run m opening choices)
        (every_mapped (Shown (Inv m) (HasReturnType m)) (λ (d : Done). AllByRecursion (ParamsTyped m) d.next.stack) (run m opening choices)
        (λ d s. every_mapped (IsWell m) (ParamsTyped m) d.next.stack (λ frame well. well.1.1) s.next.frames) shown)

    pub keeps_types : All (KeepsTypes m) (run m opening choices)
    keeps_types =
        All-from_recursion (KeepsTypes m) (run m opening choices)
        (every_mapped (Shown (Inv m) (HasReturnType m)) (KeepsTypes m) (run m opening choices) (λ d s. record {
          args = every_mapped (IsWell m) (PassesPointers m) d.next.stack passes_pointers s.next.frames;
          returns = every_mapped (HasReturnType m) (ReturnsPointers m) d.events returns_pointers s.events;
        }) shown)

    pub passes_addresses : All (PassesAddresses m) (run m opening choices)
    passes_addresses =
        All-from_recursion (PassesAddresses m) (run m opening choices)
        (every_mapped (Shown (Inv m) (HasReturnType m)) (PassesAddresses m) (run m opening choices)
        (λ d s. every_mapped (IsWell m) (HasTypedAddresses m) d.before.stack typed_addresses s.before.frames) shown)
