use Rattle.std.proofs.lemmas.List.Elements.{All-from_recursion}
use Rattle.shelf.proofs.Every.{every_mapped}
use Rattle.ir_machine.specs.Runs.{Done, run}
use Rattle.ir_machine.specs.Valid.{AreOrdered}
use Rattle.ir_machine.proofs.Opening.{opening_valid}
use Rattle.ir_machine.proofs.Running.{IsValidStep, all_valid}
use Rattle.ir_machine.proofs.laws.numbers_are_never_used_again.Goals as goal

abbrev IsOrderedBefore : Done → Type 0
IsOrderedBefore d = AreOrdered d.before.born d.before.next_call d.before.memory.count d.before.stack

abbrev IsOrderedNext : Done → Type 0
IsOrderedNext d = AreOrdered d.next.born d.next.next_call d.next.memory.count d.next.stack

pub returns : goal.returns
returns c = record {
  before = λ m opening is choices.
      All-from_recursion IsOrderedBefore (run m opening choices) (every_mapped IsValidStep IsOrderedBefore (run m opening choices)
      (λ d valid. valid.before.order)
      (all_valid m opening (opening_valid m opening is) choices));
  next = λ m opening is choices.
      All-from_recursion IsOrderedNext (run m opening choices) (every_mapped IsValidStep IsOrderedNext (run m opening choices) (λ d valid. valid.next.order)
      (all_valid m opening (opening_valid m opening is) choices));
}
