-- Which bodies are not reached by calls.
use Rattle.std.specs.Prelude.{◌≡◌, ◌≢◌, ◌⊎◌, ℕ, Bool, true, false, Some}
use Rattle.ir_module.specs.declared.op.Op.{Op}
use Rattle.ir_module.specs.declared.op.Instr.{Instr}
use Rattle.ir_module.specs.declared.module.Spot.{Spot}
use Rattle.ir_module.specs.declared.module.Module.{Module}
use Rattle.ir_module.specs.Places.{instr_at, IsIn}
use Rattle.ir_module.specs.Calls.{Nocallback, is_call, is_outer, inner_callee, is_promised, is_open}
use Rattle.facts.specs.Bodies.{rank, body_count, IsBodyNumber}
use Rattle.facts.specs.Facts.{Fact, dead_at, unreached_by}

-- The call does not lead to body number t: an inner one is of another body, which does not reach it; an outer one promises
-- `nocallback`, or the outside does not reach it.
pub record PassesBy (m : Module) (held : Fact → Bool) (t : ℕ) (o : Op) : Type 0 where
  pub inner : (h : ℕ) → inner_callee m o ≡ Some h → (rank m h ≢ t) × (held (unreached_by (rank m h) t) ≡ true)
  pub outer : is_outer m o ≡ true → (is_promised m Nocallback o ≡ true) ⊎ (held (unreached_by (body_count m) t) ≡ true)

-- each call of body f that is not dead passes by body number t
abbrev pub BodyPassesBy : Module → (Fact → Bool) → ℕ → ℕ → Type 0
BodyPassesBy m held t f = (s : Spot) (instr : Instr) → IsIn m f s → instr_at m s ≡ Some instr → held (dead_at s) ≡ false → PassesBy m held t instr.op

-- the outside does not enter body number t, nor any open body that reaches it
pub record OutsidePassesBy (m : Module) (held : Fact → Bool) (t : ℕ) : Type 0 where
  pub closed : (g : ℕ) → IsBodyNumber m t g → is_open m g ≡ false
  pub others : (f : ℕ) → is_open m f ≡ true → held (unreached_by (rank m f) t) ≡ true

-- row r does not reach body number t: the row of a body, or the last one, that of the outside
pub record IsPassedBy (m : Module) (held : Fact → Bool) (r t : ℕ) : Type 0 where
  pub body : (f : ℕ) → IsBodyNumber m r f → BodyPassesBy m held t f
  pub outside : r ≡ body_count m → OutsidePassesBy m held t

-- ---- what the rule speaks of

-- a call speaks of its segment, and of the row of its callee or of the outside
abbrev pub PassingSpeaks : Module → ℕ → Spot → Op → Fact → Type 0
PassingSpeaks m t s o y = (y ≡ dead_at s) ⊎ (((h : ℕ) × (inner_callee m o ≡ Some h) × (y ≡ unreached_by (rank m h) t)) ⊎
    ((is_outer m o ≡ true) × (y ≡ unreached_by (body_count m) t)))

-- each call of the body speaks
abbrev pub BodySpeaks : Module → ℕ → ℕ → Fact → Type 0
BodySpeaks m t f y = (s : Spot) × (instr : Instr) × IsIn m f s × (instr_at m s ≡ Some instr) × (is_call instr.op ≡ true) × PassingSpeaks m t s instr.op y

-- the row of a body speaks of the calls of the body, and that of the outside of the rows of open bodies
abbrev pub ReachSpeaks : Module → ℕ → ℕ → Fact → Type 0
ReachSpeaks m r t y = ((f : ℕ) × IsBodyNumber m r f × BodySpeaks m t f y) ⊎
    ((r ≡ body_count m) × (f : ℕ) × (is_open m f ≡ true) × (y ≡ unreached_by (rank m f) t))
