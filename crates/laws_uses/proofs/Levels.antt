-- What the rules say of uses, for one kind of fact: not captured, not read through or not written through, alone or beside
-- `not returned`.
use Rattle.std.proofs.Common.{◌≡◌, ℕ, suc, Bool, true, false, slice_get, Option, None, Some, MatchOption, subst, ◌⊎◌}
use Rattle.attr_ids.specs.declared.ids.ValueId.{ValueId}
use Rattle.ir_module.specs.declared.op.Op.{Op}
use Rattle.ir_module.specs.declared.op.Instr.{Instr}
use Rattle.ir_module.specs.declared.op.Written.{Written}
use Rattle.ir_module.specs.declared.op.Operand.TheVariants as operand
use Rattle.ir_module.specs.declared.module.Param.{Param}
use Rattle.ir_module.specs.declared.module.Spot.{Spot}
use Rattle.ir_module.specs.declared.module.Module.{Module}
use Rattle.ir_module.specs.Places.{instr_at}
use Rattle.ir_module.specs.Operands.{operands}
use Rattle.ir_module.specs.Calls.{Nocapture, is_promised}
use Rattle.facts.specs.Kinds.{Access, Read, Write, UseFact, CapturedByReturnAlone, NotReturned, NotThrough, use_bit}
use Rattle.facts.specs.Facts.{Fact, dead_at, used_so}
use Rattle.facts.specs.Justified.{ValueHas}
use Rattle.facts.specs.Uses.{CallResultUsed, ParamUsed, ArgUsed, LoadUses, StoreUses, TellUses, Permits, is_phi, IsUsedSo}
use Rattle.facts.proofs.Bits.{use_fact_of}
use Rattle.law_premises.specs.Premises.{JustifiesItself}

-- the kind of fact: of an access through the pointer, or of its capture
abbrev pub kind_of : Option Access → UseFact
kind_of None = CapturedByReturnAlone
kind_of (Some a) = NotThrough a

-- a claim about captures is one where the kind is about them
abbrev pub OnCapture : Option Access → Type 0 → Type 0
OnCapture None P = P
OnCapture (Some a) P = Unit {0}

-- a claim about reads
abbrev pub OnRead : Option Access → Type 0 → Type 0
OnRead None P = Unit {0}
OnRead (Some Read) P = P
OnRead (Some Write) P = Unit {0}

-- a claim about writes
abbrev pub OnWrite : Option Access → Type 0 → Type 0
OnWrite None P = Unit {0}
OnWrite (Some Read) P = Unit {0}
OnWrite (Some Write) P = P

module _ (held : Fact → Bool) (access : Option Access) where
  -- the value has the fact, and where more is asked it is not returned either
  abbrev pub Level : Bool → ℕ → Type 0
  Level false v = held (used_so (kind_of access) v) ≡ true
  Level true v = (held (used_so (kind_of access) v) ≡ true) × (held (used_so NotReturned v) ≡ true)

  pub level_less : (u : Bool) (v : ℕ) → Level u v → Level false v
  level_less false v has = has
  level_less true v has = has.0

-- ---- the rule

-- a fact of uses that is held is so by its rule
pub rule : (m : Module) (held : Fact → Bool) → JustifiesItself m held → (kind : UseFact) (v : ℕ) → held (used_so kind v) ≡ true → IsUsedSo m held v kind
rule m held is kind v has = subst (λ found. MatchOption found ⊥ (ValueHas m held v (use_bit kind))) (use_fact_of kind) (is (used_so kind v) has)

-- a use of a value that has the fact permits it
pub permitted : (m : Module) (held : Fact → Bool) → JustifiesItself m held → (kind : UseFact) (v : ValueId) (s : Spot) (instr : Instr) (n : ℕ) (w : Written) →
    held (used_so kind v.0) ≡ true → instr_at m s ≡ Some instr → slice_get (operands instr.op) n ≡ Some w → w.val ≡ operand.Value v →
    is_phi instr.op ≡ false → held (dead_at s) ≡ false → Permits m held kind instr instr.op n
permitted m held is kind v s instr n w has at is_operand is_value plain live =
    (rule m held is kind v.0 has).plain s instr n
    (record { written = w; at_spot = at; is_operand = is_operand; is_value = is_value; plain = plain }) live

-- ---- what the kinds share

pub load_reads : (access : Option Access) (volatile : Bool) → LoadUses (kind_of access) volatile → OnRead access ⊥
load_reads None volatile uses = tt
load_reads (Some Read) volatile uses = uses
load_reads (Some Write) volatile uses = tt

pub load_tells : (access : Option Access) → LoadUses (kind_of access) true → OnCapture access ⊥
load_tells None uses = absurd (cc)
load_tells (Some a) uses = tt

pub store_writes : (access : Option Access) (volatile : Bool) (n : ℕ) → StoreUses (kind_of access) volatile (suc n) → OnWrite access ⊥
store_writes None volatile n uses = tt
store_writes (Some Read) volatile n uses = tt
store_writes (Some Write) volatile n uses = uses

pub store_tells : (access : Option Access) (n : ℕ) → StoreUses (kind_of access) true (suc n) → OnCapture access ⊥
store_tells None n uses = absurd (cc)
store_tells (Some a) n uses = tt

pub tells : (access : Option Access) → TellUses (kind_of access) → OnCapture access ⊥
tells None uses = uses
tells (Some a) uses = tt

-- a parameter that is used so, where the pointer is not returned or the result is used so
pub param_used : (m : Module) (held : Fact → Bool) (access : Option Access) (instr : Instr) (p : Param) → ParamUsed m held (kind_of access) instr p →
    (held (used_so (kind_of access) p.value.0) ≡ true) ×
    ((held (used_so NotReturned p.value.0) ≡ true) ⊎ CallResultUsed m held (kind_of access) instr)
param_used m held None instr p uses = uses
param_used m held (Some a) instr p uses = uses

-- an outer call promises `nocapture` of what it is given
pub arg_uncaptured : (m : Module) (access : Option Access) (at : ℕ) (o : Op) → ArgUsed m (kind_of access) at o → is_promised m (Nocapture at) o ≡ true
arg_uncaptured m None at o uses = uses
arg_uncaptured m (Some a) at o uses = uses.0
