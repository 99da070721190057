use Rattle.std.proofs.lemmas.List.Elements.{All-from_recursion}
use Rattle.ir_machine.specs.Runs.{Done, run}
use Rattle.ir_machine.specs.Stays.{FramesStay}
use Rattle.ir_machine.proofs.Stays.{all_stay}
use Rattle.ir_machine.proofs.laws.frames_below_stay.Goals as goal

pub returns : goal.returns
returns c = λ m opening choices.
    All-from_recursion (λ (d : Done). FramesStay d.before.stack d.next.stack) (run m opening choices) (all_stay m opening choices)
