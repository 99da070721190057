-- What the uses of a pointer do with it (LangRef, "Pointer Capture", `nocapture`, `returned`, `readonly`, `writeonly`).
use Rattle.std.specs.Prelude.{◌≡◌, ◌⊎◌, ◌||◌, ℕ, zero, suc, Bool, true, false, List, MatchOption, slice_get, Some}
use Rattle.attr_ids.specs.declared.ids.ValueId.{ValueId}
use Rattle.ir_ops.specs.declared.conversion.CastOp.{CastOp}
use Rattle.ir_ops.specs.declared.conversion.CastOp.TheVariants as cast
use Rattle.ir_module.specs.declared.op.Operand.TheVariants as operand
use Rattle.ir_module.specs.declared.op.Written.{Written}
use Rattle.ir_module.specs.declared.op.Arm.{Arm}
use Rattle.ir_module.specs.declared.op.Op.{Op}
use Rattle.ir_module.specs.declared.op.Op.TheVariants as op
use Rattle.ir_module.specs.declared.op.Instr.{Instr}
use Rattle.ir_module.specs.declared.edge.Edge.{Edge}
use Rattle.ir_module.specs.declared.module.Param.{Param}
use Rattle.ir_module.specs.declared.module.Spot.{Spot}
use Rattle.ir_module.specs.declared.module.Module.{Module}
use Rattle.ir_module.specs.Places.{instr_at}
use Rattle.ir_module.specs.Operands.{operands}
use Rattle.ir_module.specs.Calls.{Nocapture, Readnone, Readonly, Writeonly, inner_callee, is_promised}
use Rattle.facts.specs.Kinds.{Access, Read, Write, Argmem, UseFact, CapturedByReturnAlone, NotReturned, NotThrough}
use Rattle.facts.specs.Bodies.{is_pointer, param_of}
use Rattle.facts.specs.Facts.{Fact, dead_at, used_so}
use Rattle.facts.specs.Promises.{promises_no_access}
use Rattle.facts.specs.DeadEdges.{IsArmBy, is_dead_edge, EdgeSpeaks}

-- ---- what is asked of other values

-- the result of the instruction has it
abbrev pub ResultUsed : (Fact → Bool) → UseFact → Instr → Type 0
ResultUsed held kind instr = MatchOption instr.result ⊥ (λ r. held (used_so kind r.0) ≡ true)

-- the result of a call has it, or is no pointer
abbrev pub CallResultUsed : Module → (Fact → Bool) → UseFact → Instr → Type 0
CallResultUsed m held kind instr = is_pointer m instr.ty ≡ true → ResultUsed held kind instr

-- parameter p of the callee has it, and the pointer is not returned or the result has it
abbrev pub ParamUsed : Module → (Fact → Bool) → UseFact → Instr → Param → Type 0
ParamUsed m held NotReturned instr p = (held (used_so NotReturned p.value.0) ≡ true) ⊎ CallResultUsed m held NotReturned instr
ParamUsed m held kind instr p = (held (used_so kind p.value.0) ≡ true) ×
    ((held (used_so NotReturned p.value.0) ≡ true) ⊎ CallResultUsed m held kind instr)

-- the attributes of an argument, or one `memory(..)`, permit no such access through it
abbrev pub promises_untouched : Module → Access → ℕ → Op → Bool
promises_untouched m Read at o = is_promised m (Readnone at) o || is_promised m (Writeonly at) o || promises_no_access m Read Argmem o
promises_untouched m Write at o = is_promised m (Readnone at) o || is_promised m (Readonly at) o || promises_no_access m Write Argmem o

-- an outer call promises it of its argument `at`
abbrev pub ArgUsed : Module → UseFact → ℕ → Op → Type 0
ArgUsed m (NotThrough a) at o = (is_promised m (Nocapture at) o ≡ true) × (promises_untouched m a at o ≡ true)
ArgUsed m kind at o = is_promised m (Nocapture at) o ≡ true

-- argument `at` of a call; an inner call has nothing to say of one past the parameters
abbrev pub PassedUsed : Module → (Fact → Bool) → UseFact → Instr → ℕ → Type 0
PassedUsed m held kind instr at = MatchOption (inner_callee m instr.op) (ArgUsed m kind at instr.op)
    (λ g. MatchOption (param_of m g at) ⊥ (λ p. ParamUsed m held kind instr p))

-- operand n of a call: the callee, and then the arguments
abbrev pub CallUses : Module → (Fact → Bool) → UseFact → Instr → ℕ → Type 0
CallUses m held kind instr zero = ⊥
CallUses m held kind instr (suc at) = PassedUsed m held kind instr at

-- ---- what each instruction does with an operand

-- the address of a load; a volatile access captures it
abbrev pub LoadUses : UseFact → Bool → Type 0
LoadUses CapturedByReturnAlone volatile = volatile ≡ false
LoadUses NotReturned volatile = Unit {0}
LoadUses (NotThrough Read) volatile = ⊥
LoadUses (NotThrough Write) volatile = Unit {0}

-- operand n of a store: the value, and the address
abbrev pub StoreUses : UseFact → Bool → ℕ → Type 0
StoreUses kind volatile zero = ⊥
StoreUses CapturedByReturnAlone volatile (suc n) = volatile ≡ false
StoreUses NotReturned volatile (suc n) = Unit {0}
StoreUses (NotThrough Read) volatile (suc n) = Unit {0}
StoreUses (NotThrough Write) volatile (suc n) = ⊥

-- what tells something of the address
abbrev pub TellUses : UseFact → Type 0
TellUses CapturedByReturnAlone = ⊥
TellUses _ = Unit {0}

-- a conversion to an integer tells the address
abbrev pub CastUses : CastOp → UseFact → Type 0
CastUses cast.PtrToInt kind = TellUses kind
CastUses _ kind = ⊥

-- a `ret` returns its operand, and does nothing else with it
abbrev pub RetUses : UseFact → Type 0
RetUses NotReturned = ⊥
RetUses _ = Unit {0}

-- operand n of a select: the condition, and the arms
abbrev pub SelectUses : (Fact → Bool) → UseFact → Instr → ℕ → Type 0
SelectUses held kind instr zero = ⊥
SelectUses held kind instr (suc n) = ResultUsed held kind instr

-- operand n of a getelementptr: the base, and the indices
abbrev pub GepUses : (Fact → Bool) → UseFact → Instr → ℕ → Type 0
GepUses held kind instr zero = ResultUsed held kind instr
GepUses held kind instr (suc n) = ⊥

-- the use as operand n of an instruction that is no phi permits it
abbrev pub Permits : Module → (Fact → Bool) → UseFact → Instr → Op → ℕ → Type 0
Permits m held kind instr (op.Load ptr align volatile) n = LoadUses kind volatile
Permits m held kind instr (op.Store val ptr align volatile) n = StoreUses kind volatile n
Permits m held kind instr (op.Icmp pred flagged a b) n = TellUses kind
Permits m held kind instr (op.Cast conversion flagged a) n = CastUses conversion kind
Permits m held kind instr (op.Gep elem base indices inbounds wrap) n = GepUses held kind instr n
Permits m held kind instr (op.Select c a b) n = SelectUses held kind instr n
Permits m held kind instr (op.Freeze a) n = ResultUsed held kind instr
Permits m held kind instr (op.Ret val) n = RetUses kind
Permits m held kind instr (op.Call call) n = CallUses m held kind instr n
Permits m held kind instr (op.Invoke call normal unwind) n = CallUses m held kind instr n
Permits m held kind instr _ n = ⊥

-- ---- the rule

-- the instruction is a phi
abbrev pub is_phi : Op → Bool
is_phi (op.Phi arms) = true
is_phi _ = false

-- value v is operand n of the instruction at spot s, which is no phi
pub record IsPlainUse (m : Module) (v : ℕ) (s : Spot) (instr : Instr) (n : ℕ) : Type 0 where
  pub written : Written
  pub at_spot : instr_at m s ≡ Some instr
  pub is_operand : slice_get (operands instr.op) n ≡ Some written
  pub is_value : written.val ≡ operand.Value (record { 0 = v })
  pub plain : is_phi instr.op ≡ false

-- value v is an arm of the phi at spot s
pub record IsArmUse (m : Module) (v : ℕ) (s : Spot) (instr : Instr) (arm : Arm) : Type 0 where
  pub arms : List Arm
  pub k : ℕ
  pub at_spot : instr_at m s ≡ Some instr
  pub is_phi : instr.op ≡ op.Phi arms
  pub is_arm : slice_get arms k ≡ Some arm
  pub is_value : arm.val.val ≡ operand.Value (record { 0 = v })

-- Each use of pointer v permits it that is not dead; a use by a phi is not where an edge of its arm is not.
pub record IsUsedSo (m : Module) (held : Fact → Bool) (v : ℕ) (kind : UseFact) : Type 0 where
  pub plain : (s : Spot) (instr : Instr) (n : ℕ) → IsPlainUse m v s instr n → held (dead_at s) ≡ false → Permits m held kind instr instr.op n
  pub arms : (s : Spot) (instr : Instr) (arm : Arm) (t : Spot) (n : ℕ) (e : Edge) → IsArmUse m v s instr arm → IsArmBy m s t n e arm →
      is_dead_edge m held t e ≡ false → ResultUsed held kind instr

-- ---- what the rule speaks of

-- of that fact of the result
abbrev pub ResultUseSpeaks : UseFact → Instr → Fact → Type 0
ResultUseSpeaks kind instr y = (r : ValueId) × (instr.result ≡ Some r) × (y ≡ used_so kind r.0)

-- an argument of an inner call speaks of the callee's parameter and of the result
abbrev pub PassedUseSpeaks : Module → UseFact → Instr → ℕ → Fact → Type 0
PassedUseSpeaks m kind instr at y = (g : ℕ) × (p : Param) × (inner_callee m instr.op ≡ Some g) × (param_of m g at ≡ Some p) ×
    ((y ≡ used_so kind p.value.0) ⊎ ((y ≡ used_so NotReturned p.value.0) ⊎ ResultUseSpeaks kind instr y))

-- operand n of a call
abbrev pub CallUseSpeaks : Module → UseFact → Instr → ℕ → Fact → Type 0
CallUseSpeaks m kind instr zero y = ⊥
CallUseSpeaks m kind instr (suc at) y = PassedUseSpeaks m kind instr at y

-- operand n of a select
abbrev pub SelectUseSpeaks : UseFact → Instr → ℕ → Fact → Type 0
SelectUseSpeaks kind instr zero y = ⊥
SelectUseSpeaks kind instr (suc n) y = ResultUseSpeaks kind instr y

-- operand n of a getelementptr
abbrev pub GepUseSpeaks : UseFact → Instr → ℕ → Fact → Type 0
GepUseSpeaks kind instr zero y = ResultUseSpeaks kind instr y
GepUseSpeaks kind instr (suc n) y = ⊥

-- a use speaks of the result where the pointer goes into it, and at a call of the callee's parameter
abbrev pub PermitSpeaks : Module → UseFact → Instr → Op → ℕ → Fact → Type 0
PermitSpeaks m kind instr (op.Gep elem base indices inbounds wrap) n y = GepUseSpeaks kind instr n y
PermitSpeaks m kind instr (op.Select c a b) n y = SelectUseSpeaks kind instr n y
PermitSpeaks m kind instr (op.Freeze a) n y = ResultUseSpeaks kind instr y
PermitSpeaks m kind instr (op.Call call) n y = CallUseSpeaks m kind instr n y
PermitSpeaks m kind instr (op.Invoke call normal unwind) n y = CallUseSpeaks m kind instr n y
PermitSpeaks m kind instr _ n y = ⊥

-- a use speaks of its segment, and of what it asks of other values
abbrev pub PlainSpeaks : Module → ℕ → UseFact → Fact → Type 0
PlainSpeaks m v kind y = (s : Spot) × (instr : Instr) × (n : ℕ) × IsPlainUse m v s instr n × ((y ≡ dead_at s) ⊎ PermitSpeaks m kind instr instr.op n y)

-- the edges of the arm, and the phi's result
abbrev pub ArmUseSpeaks : Module → ℕ → UseFact → Fact → Type 0
ArmUseSpeaks m v kind y = (s : Spot) × (instr : Instr) × (arm : Arm) × (t : Spot) × (n : ℕ) × (e : Edge) × IsArmUse m v s instr arm × IsArmBy m s t n e arm ×
    (EdgeSpeaks m t e y ⊎ ResultUseSpeaks kind instr y)

-- each use of the pointer speaks
abbrev pub UseSpeaks : Module → ℕ → UseFact → Fact → Type 0
UseSpeaks m v kind y = PlainSpeaks m v kind y ⊎ ArmUseSpeaks m v kind y
