use Rattle.std.proofs.Common.{All}
use Rattle.std.specs.List.{AllByRecursion}
use Rattle.std.proofs.lemmas.List.Elements.{All-from_recursion}
use Rattle.shelf.proofs.Every.{every_mapped}
use Rattle.ir_machine.specs.Frames.{Event}
use Rattle.ir_machine.specs.Runs.{Done, run, events_of}
use Rattle.ir_machine.specs.Links.{RunsItsCallee}
use Rattle.ir_machine.proofs.Basics.{Shown, of_events}
use Rattle.ir_machine.proofs.Linked.{Linked, RunTheirCallees, all_linked}
use Rattle.ir_machine.proofs.laws.calls_run_their_callees.Goals as goal

pub returns : goal.returns
returns c = λ m formed opening is choices.
    All-from_recursion (λ (e : Event). All (RunsItsCallee m) e.calls) (events_of (run m opening choices))
    (every_mapped (RunTheirCallees m formed) (λ (e : Event). All (RunsItsCallee m) e.calls) (events_of (run m opening choices))
    (λ e all. All-from_recursion (RunsItsCallee m) e.calls all) (of_events (RunTheirCallees m formed) (run m opening choices)
    (every_mapped (Shown (Linked m formed) (RunTheirCallees m formed)) (λ (d : Done). AllByRecursion (RunTheirCallees m formed) d.events)
    (run m opening choices)
    (λ d shown. shown.events) (all_linked m formed opening is choices))))
