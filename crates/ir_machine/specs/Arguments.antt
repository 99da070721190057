-- What the arguments of a call are to the frame that made it.
use Rattle.std.specs.Prelude.{◌≡◌, ◌⊎◌, ℕ, ◌+◌, List, [], ◌∷◌, Option, Some}
use Rattle.ir_module.specs.declared.op.Symbol.{Symbol}
use Rattle.ir_module.specs.declared.op.Symbol.TheVariants as symbol
use Rattle.ir_module.specs.declared.op.Operand.{Operand}
use Rattle.ir_module.specs.declared.op.Operand.TheVariants as operand
use Rattle.ir_module.specs.declared.op.Written.{Written}
use Rattle.ir_module.specs.declared.op.Call.{Call}
use Rattle.ir_module.specs.declared.op.Instr.{Instr}
use Rattle.ir_module.specs.declared.module.Module.{Module}
use Rattle.ir_module.specs.Places.{instr_at}
use Rattle.ir_module.specs.Calls.{call_of}
use Rattle.ir_machine.specs.declared.choice.Datum.TheVariants as datum
use Rattle.ir_machine.specs.declared.choice.Value.{Value}
use Rattle.ir_machine.specs.Values.{marked}
use Rattle.ir_machine.specs.Frames.{Begun, BodyFrame, Frame, Body, Outside, call_of as call_in}
use Rattle.ir_machine.specs.Reading.{Values}

-- where the block of each global and function is in a run
abbrev pub Homes : Type 0
Homes = Symbol → Option ℕ

-- a value without origins which, if it is a pointer to a block, is to that of this global or function
pub record IsAddressOf (home : Homes) (s : Symbol) (y : Value) : Type 0 where
  pub origins : y.origins ≡ []
  pub block : (b o : ℕ) → y.datum ≡ datum.Ptr b o → home s ≡ Some b

-- a value without origins that is no pointer to a block
pub record IsNoAddress (y : Value) : Type 0 where
  pub origins : y.origins ≡ []
  pub block : (b o : ℕ) → y.datum ≡ datum.Ptr b o → ⊥

-- what an operand is, for a frame with these values: a value of the frame, an address of a symbol, or no address
abbrev pub IsValueOf : Homes → Values → Operand → Value → Type 0
IsValueOf home values (operand.Value v) y = values v.0 ≡ Some y
IsValueOf home values (operand.Global g) y = IsAddressOf home (symbol.Global g) y
IsValueOf home values (operand.Func f) y = IsAddressOf home (symbol.Func f) y
IsValueOf home values (operand.Offset base bytes inbounds wrap) y = IsAddressOf home base y
IsValueOf home values (operand.Int bits here) y = IsNoAddress y
IsValueOf home values (operand.Truth b) y = IsNoAddress y
IsValueOf home values operand.Zero y = IsNoAddress y
IsValueOf home values operand.Null y = IsNoAddress y
IsValueOf home values operand.Undef y = IsNoAddress y
IsValueOf home values operand.Poison y = IsNoAddress y
IsValueOf home values (operand.WrongOffset rule) y = ⊥
IsValueOf home values (operand.Parts shape first count) y = ⊥
IsValueOf home values (operand.AnyInt first count) y = IsNoAddress y

-- argument number k of a call is the value of its operand, with the mark of the call and its place where it is a pointer
pub record IsPassed (home : Homes) (values : Values) (call k : ℕ) (w : Written) (x : Value) : Type 0 where
  pub value : Value
  pub operand : IsValueOf home values w.val value
  pub is : (x ≡ value) ⊎ (x ≡ marked (record { call = call; param = k }) value)

-- the arguments of a call as passed, from number k on, are the values of these operands
abbrev pub ArePassed : Homes → Values → ℕ → ℕ → List Written → List Value → Type 0
ArePassed home values call k (w ∷ ws) (x ∷ xs) = IsPassed home values call k w x × ArePassed home values call (k + 1) ws xs
ArePassed home values call k _ [] = Unit {0}
ArePassed home values call k [] (x ∷ xs) = ⊥

-- the frame stands at a call with these operands, as which the arguments of `call` were passed
pub record IsPassedBy (m : Module) (home : Homes) (call : Begun) (under : BodyFrame) : Type 0 where
  pub instr : Instr
  pub written : Call
  pub stands : instr_at m under.spot ≡ Some instr
  pub is_call : call_of instr.op ≡ Some written
  pub args : ArePassed home under.values call.number 0 written.args call.passed

-- so where the call was made by a module frame
abbrev pub ArgumentsCome : Module → Homes → Begun → List Frame → Type 0
ArgumentsCome m home call [] = Unit {0}
ArgumentsCome m home call (Body under ∷ below) = IsPassedBy m home call under
ArgumentsCome m home call (Outside under ∷ below) = Unit {0}

-- the arguments of each call that stands are the values of its operands in the frame under it
abbrev pub ArgumentsAreOperands : Module → Homes → List Frame → Type 0
ArgumentsAreOperands m home [] = Unit {0}
ArgumentsAreOperands m home (top ∷ below) = ArgumentsCome m home (call_in top) below × ArgumentsAreOperands m home below
