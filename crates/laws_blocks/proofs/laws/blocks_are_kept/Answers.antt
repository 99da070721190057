use Rattle.std.proofs.lemmas.List.Elements.{All-from_recursion}
use Rattle.shelf.proofs.Every.{every_mapped}
use Rattle.ir_machine.specs.Frames.{State}
use Rattle.ir_machine.specs.Runs.{Done, run}
use Rattle.ir_machine.specs.Valid.{IsValid}
use Rattle.ir_machine.proofs.Basics.{Shown}
use Rattle.laws_blocks.specs.Blocks.{HaveBlocks}
use Rattle.laws_blocks.proofs.Kept.{Kept, all_kept}
use Rattle.laws_blocks.proofs.laws.blocks_are_kept.Goals as goal

pub returns : goal.returns
returns c = record {
  before = λ m opening is choices.
      All-from_recursion (λ (d : Done). HaveBlocks m d.before.memory) (run m opening choices)
      (every_mapped (Shown (λ (t : State). IsValid t × Kept m t) (λ e. Unit {0})) (λ (d : Done). HaveBlocks m d.before.memory) (run m opening choices)
      (λ d shown. shown.before.1) (all_kept m opening is choices));
  next = λ m opening is choices.
      All-from_recursion (λ (d : Done). HaveBlocks m d.next.memory) (run m opening choices)
      (every_mapped (Shown (λ (t : State). IsValid t × Kept m t) (λ e. Unit {0})) (λ (d : Done). HaveBlocks m d.next.memory) (run m opening choices)
      (λ d shown. shown.next.1) (all_kept m opening is choices));
}
