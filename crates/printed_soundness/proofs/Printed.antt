-- What holds by the law of all facts, printed.
use Rattle.std.proofs.Common.{Bool}
use Rattle.ir_module.specs.declared.module.Module.{Module}
use Rattle.ir_module.specs.WellFormed.{IsWellFormed}
use Rattle.facts.specs.Facts.{Fact}
use Rattle.facts.specs.Justified.{SupportsItself}
use Rattle.ir_machine.specs.Runs.{run}
use Rattle.soundness.proofs.Sound.{sound}
use Rattle.laws_printed.specs.Printed.{ArePrintedHolding}
use Rattle.laws_printed.proofs.Printed.{all_holds}
use Rattle.printed_soundness.proofs.Constants.{constants_right}

-- in every honest run of a well formed module all holds that is printed for a set that supports itself
pub printed : (m : Module) → IsWellFormed m → (held : Fact → Bool) → SupportsItself m held → ArePrintedHolding m held
printed m formed held is opening opens choices honest =
    all_holds m formed held opening opens choices (sound m formed held is opening opens choices honest).facts (constants_right m held (run m opening choices))
