-- All that is added for a set whose facts hold in a run holds in that run.
use Rattle.std.proofs.Common.{Bool, List, length, slice_get, All, refl}
use Rattle.std.proofs.lemmas.List.Elements.{All-from_recursion}
use Rattle.ir_module.specs.declared.module.Module.{Module}
use Rattle.ir_module.specs.WellFormed.{IsWellFormed}
use Rattle.facts.specs.Facts.{Fact}
use Rattle.ir_machine.specs.declared.choice.Choice.{Choice}
use Rattle.ir_machine.specs.Frames.{State}
use Rattle.ir_machine.specs.Runs.{IsOpening, run}
use Rattle.fact_meanings.specs.Runs.{FactsHold}
use Rattle.manifest.specs.Additions.{func_additions, additions_of}
use Rattle.laws_printed.specs.Printed.{AdditionHolds, AdditionsHold, ConstantsAreRight}
use Rattle.laws_printed.proofs.Lists.{every_joined}
use Rattle.laws_printed.proofs.Places.{func_holds}

pub all_holds : (m : Module) → IsWellFormed m → (held : Fact → Bool) → (opening : State) → IsOpening m opening → (choices : List Choice) →
    FactsHold m held (run m opening choices) → All (ConstantsAreRight m held) (run m opening choices) → AdditionsHold m held (run m opening choices)
unfolding additions_of
all_holds m formed held opening opens choices holds constants =
    All-from_recursion (AdditionHolds m (run m opening choices)) (additions_of m held)
    (every_joined (AdditionHolds m (run m opening choices)) (λ f. func_additions m held f (slice_get m.funcs f)) (length m.funcs) (λ f within.
    func_holds m formed held opening opens choices holds constants f (slice_get m.funcs f) refl))
