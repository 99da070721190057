-- Which edges no run takes, as far as a set of facts says.
use Rattle.std.specs.Prelude.{◌≡◌, ◌⊎◌, ◌==◌, ◌||◌, not, ℕ, Bool, true, false, List, slice_get, Option, None, Some}
use Rattle.std.specs.Option.{option_map_or}
use Rattle.std.specs.List.{list_any}
use Rattle.ir_module.specs.declared.op.Written.{Written}
use Rattle.ir_module.specs.declared.op.Case.{Case}
use Rattle.ir_module.specs.declared.op.Arm.{Arm}
use Rattle.ir_module.specs.declared.op.Op.{Op}
use Rattle.ir_module.specs.declared.op.Op.TheVariants as op
use Rattle.ir_module.specs.declared.op.Instr.{Instr}
use Rattle.ir_module.specs.declared.edge.Way.{Way}
use Rattle.ir_module.specs.declared.edge.Way.TheVariants as way
use Rattle.ir_module.specs.declared.edge.Edge.{Edge}
use Rattle.ir_module.specs.declared.module.Spot.{Spot}
use Rattle.ir_module.specs.declared.module.Module.{Module}
use Rattle.ir_module.specs.Places.{instr_at, IsSegInBlock}
use Rattle.ir_module.specs.Edges.{IsEdgeAt}
use Rattle.ir_module.specs.Operands.{literal}
use Rattle.facts.specs.Kinds.{NoUnwind, NoReturn}
use Rattle.facts.specs.Facts.{Fact, dead_at}
use Rattle.facts.specs.Promises.{call_has, CallSpeaks}
use Rattle.facts.specs.Known.{written_has, OperandSpeaks}

-- a written literal is this number
abbrev pub is_number : Module → ℕ → Written → Bool
is_number m n w = option_map_or (λ k. k == n) (literal m w) false

-- a written literal is another number
abbrev pub is_other_number : Module → ℕ → Written → Bool
is_other_number m n w = option_map_or (λ k. not (k == n)) (literal m w) false

-- the terminator is a `br` or a `switch` on a literal, and takes another edge
abbrev pub takes_other : Module → Op → Way → Bool
takes_other m (op.Branch c so otherwise) way.Yes = is_number m 0 c
takes_other m (op.Branch c so otherwise) way.No = is_other_number m 0 c
takes_other m (op.Switch on other cases) (way.Case w) = option_map_or (λ n. is_other_number m n w) (literal m on) false
takes_other m (op.Switch on other cases) way.Other = option_map_or (λ n. list_any (λ (case : Case). is_number m n case.val) cases) (literal m on) false
takes_other m _ _ = false

-- the edge is that of an `invoke` for a return, and its call does not return, or that for an unwinding, and it does not unwind
abbrev pub is_unused : Module → (Fact → Bool) → Op → Way → Bool
is_unused m held o way.Normal = call_has m held NoReturn o
is_unused m held o way.Unwind = call_has m held NoUnwind o
is_unused m held o _ = false

-- what stands at the terminator keeps the edge from being taken
abbrev pub is_never : Module → (Fact → Bool) → Way → Option Instr → Bool
is_never m held e None = false
is_never m held e (Some instr) = takes_other m instr.op e || is_unused m held instr.op e

-- the edge of the terminator at this spot is dead
abbrev pub is_dead_edge : Module → (Fact → Bool) → Spot → Edge → Bool
is_dead_edge m held t e = held (dead_at t) || is_never m held e.way (instr_at m t)

-- an edge of an `invoke` speaks of the fact of its callee that keeps it from being taken
abbrev pub WaySpeaks : Module → Way → Option Instr → Fact → Type 0
WaySpeaks m way.Normal (Some instr) y = CallSpeaks m NoReturn instr.op y
WaySpeaks m way.Unwind (Some instr) y = CallSpeaks m NoUnwind instr.op y
WaySpeaks m _ _ y = ⊥

-- whether the edge is dead speaks of the deadness of its terminator, and at an `invoke` of the callee's fact
abbrev pub EdgeSpeaks : Module → Spot → Edge → Fact → Type 0
EdgeSpeaks m t e y = (y ≡ dead_at t) ⊎ WaySpeaks m e.way (instr_at m t) y

-- ---- arms of phis

-- by edge e, number n of the terminator at spot t, the phi at spot s takes the arm
pub record IsArmBy (m : Module) (s t : Spot) (n : ℕ) (e : Edge) (arm : Arm) : Type 0 where
  pub edge : IsEdgeAt m t n e
  pub to : IsSegInBlock m e.to.0 s.seg.0
  pub from : IsSegInBlock m arm.from.0 t.seg.0

-- each arm of the phi at spot s that is taken by an edge that is not dead has the bit
abbrev pub ArmsHave : Module → (Fact → Bool) → Spot → List Arm → ℕ → Type 0
ArmsHave m held s arms bit = (t : Spot) (n : ℕ) (e : Edge) (k : ℕ) (arm : Arm) → slice_get arms k ≡ Some arm → IsArmBy m s t n e arm →
    is_dead_edge m held t e ≡ false → written_has m held arm.val bit ≡ true

-- it speaks of each arm, and of whether its edges are dead
abbrev pub ArmsSpeak : Module → Spot → List Arm → ℕ → Fact → Type 0
ArmsSpeak m s arms bit y = (t : Spot) × (n : ℕ) × (e : Edge) × (k : ℕ) × (arm : Arm) × (slice_get arms k ≡ Some arm) × IsArmBy m s t n e arm ×
    (EdgeSpeaks m t e y ⊎ OperandSpeaks arm.val bit y)
