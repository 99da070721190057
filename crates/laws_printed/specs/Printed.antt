-- What the attributes that are added to a module say of its runs.
use Rattle.std.specs.Prelude.{◌≡◌, ℕ, Bool, true, false, List, slice_get, Some, All}
use Rattle.ir_module.specs.declared.op.Operand.{Operand}
use Rattle.ir_module.specs.declared.op.Operand.TheVariants as operand
use Rattle.ir_module.specs.declared.op.Written.{Written}
use Rattle.ir_module.specs.declared.op.Call.{Call}
use Rattle.ir_module.specs.declared.op.Instr.{Instr}
use Rattle.ir_module.specs.declared.module.Spot.{Spot}
use Rattle.ir_module.specs.declared.module.Module.{Module}
use Rattle.ir_module.specs.Places.{instr_at}
use Rattle.ir_module.specs.Calls.{call_of}
use Rattle.facts.specs.Bodies.{is_pointer}
use Rattle.facts.specs.Facts.{Fact}
use Rattle.ir_machine.specs.declared.choice.Choice.{Choice}
use Rattle.ir_machine.specs.declared.choice.Value.{Value}
use Rattle.ir_machine.specs.Frames.{At, Active, State}
use Rattle.ir_machine.specs.Runs.{Done, IsOpening, run}
use Rattle.ir_machine.specs.Meanings.{Attribute, nounwind, noreturn, nofree, norecurse, memory, nocapture, readnone, readonly, writeonly, returned}
use Rattle.ir_machine.specs.Meanings.{ValueAttribute, nonnull, align, dereferenceable, Argument, Parameter, Result, BeginsIn}
use Rattle.ir_machine.specs.Meanings.{HoldsOfBody, HoldsAtCall, HoldsOfBodyValue, HoldsAtCallValue}
use Rattle.ir_machine.specs.Honest.{IsHonest}
use Rattle.fact_meanings.specs.Values.{BitsHold}
use Rattle.manifest.specs.Attrs.{Attr, Nofree, Norecurse, Noreturn, Nounwind, Memory, Align, Dereferenceable, Nocapture, Nonnull, Readnone, Readonly}
use Rattle.manifest.specs.Attrs.{Writeonly, Returned}
use Rattle.manifest.specs.Added.{Subject, OfBody, OfParam, OfCall, OfArg, Added}
use Rattle.manifest.specs.Argument.{of_operand}
use Rattle.manifest.specs.Additions.{additions_of}

-- what an attribute says: some speak of calls, those of arguments of the one at this place, and some of values
abbrev pub Says : (Attribute → Type 0) → (ValueAttribute → Type 0) → ℕ → Attr → Type 0
Says of_calls of_values at Nofree = of_calls nofree
Says of_calls of_values at Norecurse = of_calls norecurse
Says of_calls of_values at Noreturn = of_calls noreturn
Says of_calls of_values at Nounwind = of_calls nounwind
Says of_calls of_values at (Memory access) = of_calls (memory access)
Says of_calls of_values at (Align bytes) = of_values (align bytes)
Says of_calls of_values at (Dereferenceable bytes) = of_values (dereferenceable bytes)
Says of_calls of_values at Nocapture = of_calls (nocapture at)
Says of_calls of_values at Nonnull = of_values nonnull
Says of_calls of_values at Readnone = of_calls (readnone at)
Says of_calls of_values at Readonly = of_calls (readonly at)
Says of_calls of_values at Writeonly = of_calls (writeonly at)
Says of_calls of_values at Returned = of_calls (returned at)

-- The attribute holds of its subject in the run: at a body of every call of it and of what that returns, at a parameter of what every
-- call of the body gets there; at a call instruction of every call that is made there, at an argument of what every such call is passed.
abbrev pub HoldsOfSubject : Module → List Done → Subject → Attr → Type 0
HoldsOfSubject m steps (OfBody f) attr = Says (λ a. HoldsOfBody a f steps) (λ a. HoldsOfBodyValue m a Result f steps) 0 attr
HoldsOfSubject m steps (OfParam f at) attr = Says (λ a. HoldsOfBody a f steps) (λ a. HoldsOfBodyValue m a (Parameter at) f steps) at attr
HoldsOfSubject m steps (OfCall s) attr = Says (λ a. HoldsAtCall a s steps) (λ a. HoldsAtCallValue m a Result s steps) 0 attr
HoldsOfSubject m steps (OfArg s at) attr = Says (λ a. HoldsAtCall a s steps) (λ a. HoldsAtCallValue m a (Argument at) s steps) at attr

-- each of the attributes that are added at a place holds
abbrev pub AdditionHolds : Module → List Done → Added → Type 0
AdditionHolds m steps a = All (HoldsOfSubject m steps a.subject) a.attrs

-- so does all that is added for the set
abbrev pub AdditionsHold : Module → (Fact → Bool) → List Done → Type 0
AdditionsHold m held steps = All (AdditionHolds m steps) (additions_of m held)

-- in every honest run, from every opening state and by every list of choices, all holds that is printed for the set
abbrev pub ArePrintedHolding : Module → (Fact → Bool) → Type 0
ArePrintedHolding m held = (opening : State) → IsOpening m opening → (choices : List Choice) → IsHonest m (run m opening choices) →
    AdditionsHold m held (run m opening choices)

-- ---- constants

-- the operand names no value of the body
abbrev pub is_constant : Operand → Bool
is_constant (operand.Value v) = false
is_constant _ = true

-- where a call begins in this step, each pointer argument that is a constant is as is known of it, by the kinds of fact that are built of values
abbrev pub ConstantsAreRight : Module → (Fact → Bool) → Done → Type 0
ConstantsAreRight m held d = (a : Active) (s : Spot) (instr : Instr) (call : Call) (at : ℕ) (w : Written) (x : Value) → BeginsIn d a → a.call.made ≡ At s →
    instr_at m s ≡ Some instr → call_of instr.op ≡ Some call → slice_get call.args at ≡ Some w → is_constant w.val ≡ true →
    is_pointer m w.ty ≡ true → slice_get a.call.passed at ≡ Some x → BitsHold d.next.memory a.call (of_operand m held w) x.datum
