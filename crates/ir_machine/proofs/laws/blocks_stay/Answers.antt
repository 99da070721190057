use Rattle.std.proofs.lemmas.List.Elements.{All-from_recursion}
use Rattle.shelf.proofs.Every.{every_mapped}
use Rattle.ir_machine.specs.Runs.{Done, run}
use Rattle.ir_machine.specs.Valid.{IsLater}
use Rattle.ir_machine.proofs.Opening.{opening_valid}
use Rattle.ir_machine.proofs.Running.{IsValidStep, all_valid}
use Rattle.ir_machine.proofs.laws.blocks_stay.Goals as goal

abbrev IsLaterStep : Done → Type 0
IsLaterStep d = IsLater d.before.memory d.next.memory

pub returns : goal.returns
returns c = λ m opening is choices.
    All-from_recursion IsLaterStep (run m opening choices) (every_mapped IsValidStep IsLaterStep (run m opening choices) (λ d valid. valid.later)
    (all_valid m opening (opening_valid m opening is) choices))
