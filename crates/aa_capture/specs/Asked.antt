-- What is asked, and what is spoken of, for one use of a pointer, for one instruction, one segment, and all of them.
use Rattle.std.specs.Prelude.{◌≡◌, ◌⊎◌, ◌==◌, not, ℕ, Bool, true, false, List, [], Some}
use Rattle.attr_ids.specs.declared.ids.ValueId.{ValueId}
use Rattle.ir_module.specs.declared.op.Operand.TheVariants as operand
use Rattle.ir_module.specs.declared.op.Written.{Written}
use Rattle.ir_module.specs.declared.op.Arm.{Arm}
use Rattle.ir_module.specs.declared.op.Op.{Op}
use Rattle.ir_module.specs.declared.op.Op.TheVariants as op
use Rattle.ir_module.specs.declared.op.Instr.{Instr}
use Rattle.ir_module.specs.declared.edge.Edge.{Edge}
use Rattle.ir_module.specs.declared.module.Seg.{Seg}
use Rattle.ir_module.specs.declared.module.Spot.{Spot}
use Rattle.ir_module.specs.declared.module.Module.{Module}
use Rattle.ir_module.specs.Operands.{operands}
use Rattle.ir_module.specs.Places.{spot}
use Rattle.facts.specs.declared.pos.Pos.{Pos}
use Rattle.facts.specs.Kinds.{UseFact, use_bit}
use Rattle.facts.specs.Facts.{Fact, value, dead}
use Rattle.facts.specs.Masks.{is_bit}
use Rattle.facts.specs.DeadEdges.{IsArmBy, is_dead_edge, EdgeSpeaks}
use Rattle.facts.specs.Uses.{ResultUsed, LoadUses, StoreUses, TellUses, CastUses, RetUses, Permits, is_phi, ResultUseSpeaks, PermitSpeaks}
use Rattle.positions.specs.Numbering.{Numbered, IsListed}
use Rattle.rule_says.specs.Listing.{AskAll, SpeakAny}

-- ---- what has a position

-- the result of the instruction has a position
abbrev pub IsResultKnown : Numbered → Instr → Type 0
IsResultKnown ps i = (v : ValueId) → i.result ≡ Some v → IsListed ps (value v.0)

-- ---- terms: of each bit what its fact asks

-- what is asked of each fact is asked of its bit
abbrev pub AsksEach : (UseFact → (Fact → Bool) → Type 0) → (Fact → Bool) → ℕ → Type 0
AsksEach asks held bit = (kind : UseFact) → bit ≡ use_bit kind → asks kind held

-- what is spoken of for one of the facts
abbrev pub SpeaksEach : (UseFact → Fact → Type 0) → Fact → Type 0
SpeaksEach speaks y = (kind : UseFact) × speaks kind y

-- the operand goes into the result of an instruction that is no phi and no call
abbrev pub goes_over : Op → ℕ → Bool
goes_over (op.Gep elem base indices inbounds wrap) n = n == 0
goes_over (op.Select c a b) n = not (n == 0)
goes_over (op.Freeze a) n = true
goes_over _ n = false

-- what an instruction permits by itself as a use
abbrev pub RowPermits : UseFact → Op → ℕ → Type 0
RowPermits kind (op.Load ptr align volatile) n = LoadUses kind volatile
RowPermits kind (op.Store val ptr align volatile) n = StoreUses kind volatile n
RowPermits kind (op.Icmp pred flagged a b) n = TellUses kind
RowPermits kind (op.Cast conversion flagged a) n = CastUses conversion kind
RowPermits kind (op.Ret val) n = RetUses kind
RowPermits kind _ n = ⊥

-- ---- one use

-- the value that is operand n of the instruction of segment k has a fact of uses only if this use permits it, or the segment is dead
abbrev pub AsksUse : Module → ℕ → Instr → ℕ → Written → (Fact → Bool) → Pos → ℕ → Type 0
AsksUse m k i n w held p bit = (kind : UseFact) (v : ℕ) → w.val ≡ operand.Value (record { 0 = v }) → p ≡ value v → bit ≡ use_bit kind →
    is_bit m p bit ≡ true → held (dead k) ≡ false → Permits m held kind i i.op n

abbrev pub SpeaksUse : Module → ℕ → Instr → ℕ → Written → Pos → Fact → Type 0
SpeaksUse m k i n w p y = (kind : UseFact) × (v : ℕ) × (w.val ≡ operand.Value (record { 0 = v })) × (p ≡ value v) × (is_bit m p (use_bit kind) ≡ true) ×
    ((y ≡ dead k) ⊎ PermitSpeaks m kind i i.op n y)

-- each operand of an instruction that is no phi
abbrev pub AsksPlain : Module → ℕ → Instr → (Fact → Bool) → Pos → ℕ → Type 0
AsksPlain m k i held p bit = is_phi i.op ≡ false → AskAll (operands i.op) (λ n w. AsksUse m k i n w) held p bit

abbrev pub SpeaksPlain : Module → ℕ → Instr → Pos → Fact → Type 0
SpeaksPlain m k i p y = (is_phi i.op ≡ false) × SpeakAny (operands i.op) (λ n w. SpeaksUse m k i n w) p y

-- ---- one arm of a phi

-- the arms of a phi
abbrev pub arms_of : Op → List Arm
arms_of (op.Phi arms) = arms
arms_of _ = []

-- the value that is the arm has a fact of uses only if the phi has it, or each edge of the arm is dead
abbrev pub AsksArm : Module → ℕ → Instr → Arm → (Fact → Bool) → Pos → ℕ → Type 0
AsksArm m k i arm held p bit = (kind : UseFact) (v : ℕ) (t : Spot) (n : ℕ) (e : Edge) → arm.val.val ≡ operand.Value (record { 0 = v }) → p ≡ value v →
    bit ≡ use_bit kind → is_bit m p bit ≡ true → IsArmBy m (spot k 0) t n e arm → is_dead_edge m held t e ≡ false → ResultUsed held kind i

abbrev pub SpeaksArm : Module → ℕ → Instr → Arm → Pos → Fact → Type 0
SpeaksArm m k i arm p y = (kind : UseFact) × (v : ℕ) × (t : Spot) × (n : ℕ) × (e : Edge) × (arm.val.val ≡ operand.Value (record { 0 = v })) ×
    (p ≡ value v) × (is_bit m p (use_bit kind) ≡ true) × IsArmBy m (spot k 0) t n e arm × (EdgeSpeaks m t e y ⊎ ResultUseSpeaks kind i y)

-- each arm
abbrev pub AsksArms : Module → ℕ → Instr → (Fact → Bool) → Pos → ℕ → Type 0
AsksArms m k i = AskAll (arms_of i.op) (λ j arm. AsksArm m k i arm)

abbrev pub SpeaksArms : Module → ℕ → Instr → Pos → Fact → Type 0
SpeaksArms m k i = SpeakAny (arms_of i.op) (λ j arm. SpeaksArm m k i arm)

-- ---- all together

-- one instruction
abbrev pub AsksInstr : Module → ℕ → Instr → (Fact → Bool) → Pos → ℕ → Type 0
AsksInstr m k i held p bit = AsksPlain m k i held p bit × AsksArms m k i held p bit

abbrev pub SpeaksInstr : Module → ℕ → Instr → Pos → Fact → Type 0
SpeaksInstr m k i p y = SpeaksPlain m k i p y ⊎ SpeaksArms m k i p y

-- each instruction of segment k
abbrev pub AsksSeg : Module → ℕ → Seg → (Fact → Bool) → Pos → ℕ → Type 0
AsksSeg m k seg = AskAll seg.instrs (λ at i. AsksInstr m k i)

abbrev pub SpeaksSeg : Module → ℕ → Seg → Pos → Fact → Type 0
SpeaksSeg m k seg = SpeakAny seg.instrs (λ at i. SpeaksInstr m k i)

-- each segment
abbrev pub AsksUses : Module → (Fact → Bool) → Pos → ℕ → Type 0
AsksUses m = AskAll m.segs (λ k seg. AsksSeg m k seg)

abbrev pub SpeaksUses : Module → Pos → Fact → Type 0
SpeaksUses m = SpeakAny m.segs (λ k seg. SpeaksSeg m k seg)
