use Rattle.std.proofs.lemmas.List.Elements.{All-from_recursion}
use Rattle.shelf.proofs.Every.{every_mapped}
use Rattle.ir_machine.specs.Runs.{Done, run}
use Rattle.ir_machine.specs.Valid.{scope_of, AreBlocks}
use Rattle.ir_machine.proofs.Opening.{opening_valid}
use Rattle.ir_machine.proofs.Running.{IsValidStep, all_valid}
use Rattle.ir_machine.proofs.laws.blocks_do_not_overlap.Goals as goal

abbrev AreBlocksBefore : Done → Type 0
AreBlocksBefore d = AreBlocks d.before.memory (scope_of d.before)

abbrev AreBlocksNext : Done → Type 0
AreBlocksNext d = AreBlocks d.next.memory (scope_of d.next)

pub returns : goal.returns
returns c = record {
  before = λ m opening is choices.
      All-from_recursion AreBlocksBefore (run m opening choices) (every_mapped IsValidStep AreBlocksBefore (run m opening choices)
      (λ d valid. valid.before.blocks)
      (all_valid m opening (opening_valid m opening is) choices));
  next = λ m opening is choices.
      All-from_recursion AreBlocksNext (run m opening choices) (every_mapped IsValidStep AreBlocksNext (run m opening choices) (λ d valid. valid.next.blocks)
      (all_valid m opening (opening_valid m opening is) choices));
}
