use Rattle.std.proofs.lemmas.List.Elements.{All-from_recursion}
use Rattle.shelf.proofs.Every.{every_mapped}
use Rattle.ir_machine.specs.Frames.{Event}
use Rattle.ir_machine.specs.Runs.{Done, run}
use Rattle.ir_machine.specs.Arguments.{ArgumentsAreOperands}
use Rattle.ir_machine.proofs.Basics.{Shown}
use Rattle.ir_machine.proofs.Arguments.{Passed, all_passed}
use Rattle.ir_machine.proofs.laws.arguments_are_operands.Goals as goal

pub returns : goal.returns
returns c = record {
  before = λ m opening is choices.
      All-from_recursion (λ (d : Done). ArgumentsAreOperands m d.before.memory.home d.before.stack) (run m opening choices)
      (every_mapped (Shown (Passed m) (λ (e : Event). Unit {0})) (λ (d : Done). ArgumentsAreOperands m d.before.memory.home d.before.stack)
      (run m opening choices)
      (λ d shown. shown.before) (all_passed m opening is choices));
  next = λ m opening is choices.
      All-from_recursion (λ (d : Done). ArgumentsAreOperands m d.next.memory.home d.next.stack) (run m opening choices)
      (every_mapped (Shown (Passed m) (λ (e : Event). Unit {0})) (λ (d : Done). ArgumentsAreOperands m d.next.memory.home d.next.stack) (run m opening choices)
      (λ d shown. shown.next) (all_passed m opening is choices));
}
