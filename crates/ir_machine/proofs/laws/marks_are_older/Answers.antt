use Rattle.std.proofs.lemmas.List.Elements.{All-from_recursion}
use Rattle.shelf.proofs.Every.{every_mapped}
use Rattle.ir_machine.specs.Runs.{Done, run}
use Rattle.ir_machine.specs.Valid.{scope_of, Known, AllAre}
use Rattle.ir_machine.proofs.Opening.{opening_valid}
use Rattle.ir_machine.proofs.Running.{IsValidStep, all_valid}
use Rattle.ir_machine.proofs.laws.marks_are_older.Goals as goal

abbrev AreKnownBefore : Done → Type 0
AreKnownBefore d = AllAre (Known (scope_of d.before)) d.before

abbrev AreKnownNext : Done → Type 0
AreKnownNext d = AllAre (Known (scope_of d.next)) d.next

pub returns : goal.returns
returns c = record {
  before = λ m opening is choices.
      All-from_recursion AreKnownBefore (run m opening choices) (every_mapped IsValidStep AreKnownBefore (run m opening choices) (λ d valid. valid.before.known)
      (all_valid m opening (opening_valid m opening is) choices));
  next = λ m opening is choices.
      All-from_recursion AreKnownNext (run m opening choices) (every_mapped IsValidStep AreKnownNext (run m opening choices) (λ d valid. valid.next.known)
      (all_valid m opening (opening_valid m opening is) choices));
}
