use Rattle.std.proofs.lemmas.List.Elements.{All-from_recursion}
use Rattle.shelf.proofs.Every.{every_mapped}
use Rattle.ir_machine.specs.Runs.{Done, run}
use Rattle.ir_machine.specs.Links.{IsLinked}
use Rattle.ir_machine.proofs.Basics.{Shown}
use Rattle.ir_machine.proofs.Linked.{Linked, RunTheirCallees, all_linked}
use Rattle.ir_machine.proofs.laws.frames_are_linked.Goals as goal

pub returns : goal.returns
returns c = record {
  before = λ m formed opening is choices.
      All-from_recursion (λ (d : Done). IsLinked m d.before.stack) (run m opening choices)
      (every_mapped (Shown (Linked m formed) (RunTheirCallees m formed)) (λ (d : Done). IsLinked m d.before.stack) (run m opening choices)
      (λ d shown. shown.before)
      (all_linked m formed opening is choices));
  next = λ m formed opening is choices.
      All-from_recursion (λ (d : Done). IsLinked m d.next.stack) (run m opening choices)
      (every_mapped (Shown (Linked m formed) (RunTheirCallees m formed)) (λ (d : Done). IsLinked m d.next.stack) (run m opening choices) (λ d shown. shown.next)
      (all_linked m formed opening is choices));
}
