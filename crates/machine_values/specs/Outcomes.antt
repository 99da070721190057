-- What the code answers, as outcomes of the machine.
use Rattle.std.specs.Prelude.{◌≡◌, ℕ, List, Result, Ok, Err}
use Rattle.machine_values.specs.declared.choosing.Index as index
use Rattle.ir_machine.specs.declared.choice.Value.{Value}
use Rattle.ir_machine.specs.Reading.{Picked}
use Rattle.ir_machine.specs.Compute.{Index}
use Rattle.machine_values.specs.declared.outcome.Stop.{Stop}
use Rattle.machine_values.specs.declared.outcome.Stop.TheVariants as stop
use Rattle.machine_values.specs.declared.outcome.Halt.{Halt}
use Rattle.machine_values.specs.declared.outcome.Halt.TheVariants as halt
use Rattle.ir_machine.specs.Moves.{Outcome, Gives, Undefined, Over}

-- an answer without memory is an outcome
abbrev pub outcome : {A : Type 0} → Result A Stop → Outcome A
outcome (Ok x) = Gives x
outcome (Err stop.Undefined) = Undefined
outcome (Err stop.Over) = Over

-- the answer is this outcome, or memory was lacking
abbrev pub Is : {A : Type 0} → Result A Halt → Outcome A → Type 0
Is (Ok x) o = o ≡ Gives x
Is (Err (halt.Stopped why)) o = o ≡ outcome (Err why)
Is (Err halt.NoMemory) o = Unit {0}

-- an answer with the picks that are left
abbrev pub picked : List ℕ → Result Value Stop → Outcome Picked
picked picks (Ok x) = Gives (record { value = x; picks = picks })
picked picks (Err why) = outcome (Err why)

-- an index with the picks that are left
abbrev pub indexed : List ℕ → Result index.Index Stop → Outcome Index
indexed picks (Ok i) = Gives (record { bits = i.bits; poison = i.poison; picks = picks })
indexed picks (Err why) = outcome (Err why)
