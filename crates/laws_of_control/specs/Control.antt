-- What the facts of control say of the calls that instructions make.
use Rattle.std.specs.Prelude.{◌≡◌, Bool, true, List, Some}
use Rattle.ir_module.specs.declared.op.Instr.{Instr}
use Rattle.ir_module.specs.declared.module.Spot.{Spot}
use Rattle.ir_module.specs.declared.module.Module.{Module}
use Rattle.ir_module.specs.Places.{instr_at}
use Rattle.ir_module.specs.Calls.{is_call}
use Rattle.facts.specs.Kinds.{FunctionFact}
use Rattle.facts.specs.Facts.{Fact}
use Rattle.facts.specs.Promises.{call_has}
use Rattle.ir_machine.specs.Runs.{Done}
use Rattle.ir_machine.specs.Meanings.{Attribute, HoldsAtCall}

-- the attribute holds of every call that is made at an instruction which has the fact: by its callee in the set, or by a promise
abbrev pub HoldsAtCalls : Module → (Fact → Bool) → FunctionFact → Attribute → List Done → Type 0
HoldsAtCalls m held kind attribute steps = (s : Spot) (instr : Instr) → instr_at m s ≡ Some instr → is_call instr.op ≡ true →
    call_has m held kind instr.op ≡ true → HoldsAtCall attribute s steps
