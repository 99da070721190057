-- From single steps to whole runs: the blocks of globals and functions are live in every honest run, and constants are as their table says.
use Rattle.std.proofs.Common.{List, [], ◌∷◌, All, subst}
use Rattle.std.specs.List.{AllByRecursion}
use Rattle.std.proofs.lemmas.List.Elements.{recursion_from_All, All-from_recursion}
use Rattle.shelf.proofs.Every.{every_mapped}
use Rattle.ir_module.specs.declared.module.Module.{Module}
use Rattle.ir_module.specs.WellFormed.{IsWellFormed}
use Rattle.facts.specs.Kinds.{value_fact}
use Rattle.ir_machine.specs.declared.choice.Choice.{Choice}
use Rattle.ir_machine.specs.Frames.{State}
use Rattle.ir_machine.specs.Runs.{Done, IsOpening, run}
use Rattle.ir_machine.specs.Honest.{IsHonest}
use Rattle.ir_machine.specs.Valid.{IsValid}
use Rattle.ir_machine.proofs.Basics.{Shown}
use Rattle.fact_meanings.specs.Values.{SaysOfValue, FramesAreRight}
use Rattle.law_premises.specs.Premises.{StandLive, TakesLiveEdges, IsControlled}
use Rattle.law_premises.specs.Types.{HasTypes}
use Rattle.laws_of_control.proofs.Holding.{live_before, live_edges}
use Rattle.laws_types.proofs.Holding.{passes_addresses}
use Rattle.laws_pointer.specs.Told.{but_numbers}
use Rattle.laws_pointer.proofs.Holding.{right_before}
use Rattle.laws_blocks.specs.Blocks.{HaveBlocks, AreLive, ConstantsHold}
use Rattle.laws_blocks.proofs.Kept.{Kept, all_kept}
use Rattle.laws_blocks.proofs.Constants.{constant_says}
use Rattle.laws_blocks.proofs.Passing.{ArgsAreRead, all_read}
use Rattle.laws_blocks.proofs.Allocas.{of_allocas, allocas_justified}
use Rattle.laws_blocks.proofs.Turning.{Inv, all_live}

module _ (m : Module) (formed : IsWellFormed m) (types : HasTypes m) (opening : State) (opens : IsOpening m opening) (choices : List Choice)
    (honest : IsHonest m (run m opening choices)) where
  abbrev steps : List Done
  steps = run m opening choices

  controlled : All (IsControlled m (of_allocas m)) steps
  controlled =
      All-from_recursion (IsControlled m (of_allocas m)) steps (go steps
      (recursion_from_All (λ (d : Done). StandLive (of_allocas m) d.before.stack) steps
      (live_before m formed (of_allocas m) (allocas_justified m formed) opening opens choices honest))
      (recursion_from_All (TakesLiveEdges m (of_allocas m)) steps
      (live_edges m formed (of_allocas m) (allocas_justified m formed) opening opens choices honest)))
    where
      go : (ds : List Done) → AllByRecursion (λ (d : Done). StandLive (of_allocas m) d.before.stack) ds → AllByRecursion (TakesLiveEdges m (of_allocas m)) ds →
          AllByRecursion (IsControlled m (of_allocas m)) ds
      go [] live edges = tt
      go (d ∷ ds) live edges = (record { live = live.0; edges = edges.0 }, go ds live.1 edges.1)

  pub shown_live : AllByRecursion (Shown (λ t. IsValid t × Inv m formed t) (λ e. Unit {0})) steps
  shown_live =
      all_live m formed opening opens choices (recursion_from_All (λ (d : Done). FramesAreRight (but_numbers (of_allocas m)) d.before) steps
      (right_before m formed (of_allocas m) (allocas_justified m formed) opening opens choices honest controlled
      (passes_addresses m formed types opening opens choices)))

  pub live_in_before : All (λ (d : Done). AreLive d.before.memory) steps
  live_in_before =
      All-from_recursion (λ (d : Done). AreLive d.before.memory) steps
      (every_mapped (Shown (λ t. IsValid t × Inv m formed t) (λ e. Unit {0})) (λ (d : Done). AreLive d.before.memory) steps (λ d shown.
      shown.before.1.1) shown_live)

  pub live_in_next : All (λ (d : Done). AreLive d.next.memory) steps
  live_in_next =
      All-from_recursion (λ (d : Done). AreLive d.next.memory) steps
      (every_mapped (Shown (λ t. IsValid t × Inv m formed t) (λ e. Unit {0})) (λ (d : Done). AreLive d.next.memory) steps (λ d shown. shown.next.1.1)
      shown_live)

  all_have : AllByRecursion (λ (d : Done). HaveBlocks m d.next.memory) steps
  all_have =
      every_mapped (Shown (λ (t : State). IsValid t × Kept m t) (λ e. Unit {0})) (λ (d : Done). HaveBlocks m d.next.memory) steps
      (λ d shown. shown.next.1) (all_kept m opening opens choices)

  -- a constant that is passed was read in the memory after the step, in which the blocks of globals and functions are there and live
  pub constants_are : All (ConstantsHold m) steps
  constants_are =
      All-from_recursion (ConstantsHold m) steps
      (go steps (recursion_from_All (ArgsAreRead m) steps (all_read m opening opens choices)) all_have
      (recursion_from_All (λ (d : Done). AreLive d.next.memory) steps live_in_next))
    where
      one : (d : Done) → ArgsAreRead m d → HaveBlocks m d.next.memory → AreLive d.next.memory → ConstantsHold m d
      one d are have live held a s instr call at w x begins made stands is_call is_arg constant pointer passed bit has =
          let is = are a s instr call at w x begins made stands is_call is_arg passed in
          subst (SaysOfValue d.next.memory a.call (value_fact bit)) is.datum
          (constant_says m d.next.memory have live a.call held w.ty w.val is.values is.picks is.rest is.value constant pointer is.is bit has)

      go : (ds : List Done) → AllByRecursion (ArgsAreRead m) ds → AllByRecursion (λ (d : Done). HaveBlocks m d.next.memory) ds →
          AllByRecursion (λ (d : Done). AreLive d.next.memory) ds → AllByRecursion (ConstantsHold m) ds
      go [] are have live = tt
      go (d ∷ ds) are have live = (one d are.0 have.0 live.0, go ds are.1 have.1 live.1)
