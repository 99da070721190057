-- Values that are the same as a parameter of their body.
use Rattle.std.specs.Prelude.{◌≡◌, ◌⊎◌, ◌<◌, not, ℕ, Bool, true, false, MatchOption, Some}
use Rattle.std.specs.Option.{option_map_or}
use Rattle.lattice_words.specs.declared.value.TheConstants.{SAME_AS_PARAMETERS}
use Rattle.ir_module.specs.declared.op.Op.{Op}
use Rattle.ir_module.specs.declared.op.Op.TheVariants as op
use Rattle.ir_module.specs.declared.op.Instr.{Instr}
use Rattle.ir_module.specs.declared.module.Spot.{Spot}
use Rattle.ir_module.specs.declared.module.Module.{Module}
use Rattle.ir_module.specs.Places.{instr_at}
use Rattle.ir_module.specs.Calls.{Returned, inner_callee, is_promised}
use Rattle.ir_module.specs.WellFormed.{IsParamAt}
use Rattle.facts.specs.Bodies.{param_of}
use Rattle.facts.specs.Facts.{Fact, of_return}
use Rattle.facts.specs.Promises.{may_poison, returns_promised}
use Rattle.facts.specs.Known.{arg_has, ArgSpeaks}
use Rattle.facts.specs.DeadEdges.{ArmsHave, ArmsSpeak}

-- function g has such a parameter, one that gets what is passed: neither `nonnull` nor `align` is written at it
abbrev pub keeps_param : Module → ℕ → ℕ → Bool
keeps_param m g j = option_map_or (λ p. not (may_poison p.attrs)) (param_of m g j) false

-- the inner call returns its parameter j, at which the argument is the same as parameter i
pub record GivesBack (m : Module) (held : Fact → Bool) (o : Op) (g i : ℕ) : Type 0 where
  pub j : ℕ
  pub deduced : j < SAME_AS_PARAMETERS
  pub kept : keeps_param m g j ≡ true
  pub back : held (of_return g j) ≡ true
  pub arg : arg_has m held o j i ≡ true

-- the outer call promises to return its argument j, which is the same as parameter i, and nothing there makes it poison
pub record PromisesBack (m : Module) (held : Fact → Bool) (o : Op) (i : ℕ) : Type 0 where
  pub j : ℕ
  pub promised : is_promised m (Returned j) o ≡ true
  pub kept : returns_promised m may_poison o ≡ false
  pub arg : arg_has m held o j i ≡ true

-- the result of a call is the same as parameter i
abbrev pub CallIsSame : Module → (Fact → Bool) → ℕ → Op → Type 0
CallIsSame m held i o = MatchOption (inner_callee m o) (PromisesBack m held o i) (λ g. GivesBack m held o g i)

-- the result of an instruction is the same as parameter i
abbrev pub ResultIsSame : Module → (Fact → Bool) → ℕ → Spot → Op → Type 0
ResultIsSame m held i s (op.Phi arms) = ArmsHave m held s arms i
ResultIsSame m held i s (op.Call call) = CallIsSame m held i (op.Call call)
ResultIsSame m held i s (op.Invoke call normal unwind) = CallIsSame m held i (op.Invoke call normal unwind)
ResultIsSame m held i s _ = ⊥

-- value v is the same as parameter i of its body: as a result, or as the parameter itself
pub record IsSame (m : Module) (held : Fact → Bool) (v i : ℕ) : Type 0 where
  pub made : (s : Spot) (instr : Instr) → instr_at m s ≡ Some instr → instr.result ≡ Some (record { 0 = v }) → ResultIsSame m held i s instr.op
  pub param : (f at : ℕ) → IsParamAt m f at v → at ≡ i

-- ---- what the rule speaks of

-- an inner call speaks of what its callee returns, and of the arguments at parameters that may be returned
abbrev pub BackSpeaks : Module → Op → ℕ → ℕ → Fact → Type 0
BackSpeaks m o g i y = (j : ℕ) × (j < SAME_AS_PARAMETERS) × (keeps_param m g j ≡ true) × ((y ≡ of_return g j) ⊎ ArgSpeaks o j i y)

-- an outer call speaks of the arguments that it promises to return
abbrev pub PromisedSpeaks : Module → Op → ℕ → Fact → Type 0
PromisedSpeaks m o i y = (j : ℕ) × (is_promised m (Returned j) o ≡ true) × ArgSpeaks o j i y

-- the result of a call speaks as its callee is
abbrev pub CallSameSpeaks : Module → ℕ → Op → Fact → Type 0
CallSameSpeaks m i o y = MatchOption (inner_callee m o) (PromisedSpeaks m o i y) (λ g. BackSpeaks m o g i y)

-- a phi speaks of its arms, and a call of what may be given back
abbrev pub ResultSameSpeaks : Module → ℕ → Spot → Op → Fact → Type 0
ResultSameSpeaks m i s (op.Phi arms) y = ArmsSpeak m s arms i y
ResultSameSpeaks m i s (op.Call call) y = CallSameSpeaks m i (op.Call call) y
ResultSameSpeaks m i s (op.Invoke call normal unwind) y = CallSameSpeaks m i (op.Invoke call normal unwind) y
ResultSameSpeaks m i s _ y = ⊥

-- the rule speaks of arms, of returns and of arguments
abbrev pub SameSpeaks : Module → ℕ → ℕ → Fact → Type 0
SameSpeaks m v i y = (s : Spot) × (instr : Instr) × (instr_at m s ≡ Some instr) × (instr.result ≡ Some (record { 0 = v })) × ResultSameSpeaks m i s instr.op y
