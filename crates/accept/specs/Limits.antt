-- The limits of a module, and what is counted for them.
use Rattle.std.specs.Prelude.{◌≡◌, ◌≤◌, ◌⊎◌, ℕ, List, map, length, sum, slice_get, Some}
use Rattle.ir_module.specs.declared.op.Call.{Call}
use Rattle.ir_module.specs.declared.op.Instr.{Instr}
use Rattle.ir_module.specs.declared.module.Func.{Func}
use Rattle.ir_module.specs.declared.module.Seg.{Seg}
use Rattle.ir_module.specs.declared.module.Spot.{Spot}
use Rattle.ir_module.specs.declared.module.Module.{Module}
use Rattle.ir_module.specs.Calls.{call_of}
use Rattle.ir_module.specs.Places.{instr_at}
use Rattle.facts.specs.declared.pos.Pos.{Pos}
use Rattle.facts.specs.Names.{AreNamed}
use Rattle.positions.specs.Order.{positions_of}
use Rattle.positions.specs.declared.positions.TheConstants.{WORD_LIMIT}
use Rattle.dep_graph.specs.declared.invert.TheConstants.{EDGE_LIMIT}
use Rattle.accept.specs.declared.refusal.TheConstants.{FUNCTION_LIMIT, PARAMETER_LIMIT, INSTRUCTION_LIMIT}

-- a function of the module, declared or defined, has n parameters
abbrev pub HasParams : Module → ℕ → Type 0
HasParams m n = (f : ℕ) × (func : Func) × (slice_get m.funcs f ≡ Some func) × (length func.params ≡ n)

-- a call in the module has n arguments
abbrev pub HasArgs : Module → ℕ → Type 0
HasArgs m n = (s : Spot) × (instr : Instr) × (call : Call) × (instr_at m s ≡ Some instr) × (call_of instr.op ≡ Some call) × (length call.args ≡ n)

abbrev pub HasArity : Module → ℕ → Type 0
HasArity m n = HasParams m n ⊎ HasArgs m n

-- the greatest number of parameters of one function, or of arguments of one call
pub record IsGreatestArity (m : Module) (n : ℕ) : Type 0 where
  pub all : (k : ℕ) → HasArity m k → k ≤ n
  pub reached : (n ≡ 0) ⊎ HasArity m n

-- the instructions of all its bodies
abbrev pub instruction_count : Module → ℕ
instruction_count m = sum (map (λ (seg : Seg). length seg.instrs) m.segs)

-- there are so many pairs of a position and one that it names
abbrev pub HasEdges : Module → ℕ → Type 0
HasEdges m n = (pairs : List (Pos × Pos)) × AreNamed m pairs × (length pairs ≡ n)

-- the functions, the parameters and the instructions are few enough
pub record IsOfSize (m : Module) : Type 0 where
  pub functions : length m.funcs ≤ FUNCTION_LIMIT
  pub parameters : (n : ℕ) → HasArity m n → n ≤ PARAMETER_LIMIT
  pub instructions : instruction_count m ≤ INSTRUCTION_LIMIT

-- so are the positions, effects among them, and the pairs of a position and one that it names
pub record KeepsLimits (m : Module) : Type 0 where
  pub sizes : IsOfSize m
  pub words : length (positions_of m) ≤ WORD_LIMIT
  pub edges : (n : ℕ) → HasEdges m n → n ≤ EDGE_LIMIT
