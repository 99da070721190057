-- What a set of facts says of all honest runs of a module.
use Rattle.std.specs.Prelude.{Bool, List}
use Rattle.ir_module.specs.declared.module.Module.{Module}
use Rattle.ir_machine.specs.declared.choice.Choice.{Choice}
use Rattle.ir_machine.specs.Frames.{State}
use Rattle.ir_machine.specs.Runs.{Done, IsOpening, run}
use Rattle.ir_machine.specs.Meanings.{nounwind, noreturn, nofree}
use Rattle.ir_machine.specs.Honest.{IsHonest}
use Rattle.facts.specs.Kinds.{NoUnwind, NoReturn, NoFree}
use Rattle.facts.specs.Facts.{Fact}
use Rattle.fact_meanings.specs.Runs.{FactsHold}
use Rattle.laws_of_control.specs.Control.{HoldsAtCalls}

-- each fact of the set holds in the run, and each of three attributes holds of the calls whose callee has it or promises it
pub record AllHold (m : Module) (held : Fact → Bool) (steps : List Done) : Type 0 where
  pub facts : FactsHold m held steps
  pub unwinding : HoldsAtCalls m held NoUnwind nounwind steps
  pub returning : HoldsAtCalls m held NoReturn noreturn steps
  pub freeing : HoldsAtCalls m held NoFree nofree steps

-- in every honest run, from every opening state and by every list of choices
abbrev pub IsSound : Module → (Fact → Bool) → Type 0
IsSound m held = (opening : State) → IsOpening m opening → (choices : List Choice) → IsHonest m (run m opening choices) → AllHold m held (run m opening choices)
