-- Edges between blocks, with the phis of the block that is entered (LangRef, "Terminator Instructions", "'phi' Instruction").
use Rattle.std.specs.Prelude.{ℕ, ◌+◌, ◌==◌, Bool, true, false, if◌then◌else◌, List, [], ◌∷◌, slice_get, Option, None, Some}
use Rattle.std.specs.List.{find}
use Rattle.std.specs.Option.{option_map}
use Rattle.attr_ids.specs.declared.ids.BlockId.{BlockId}
use Rattle.attr_ids.specs.declared.ids.ValueId.{ValueId}
use Rattle.ir_module.specs.declared.op.Arm.{Arm}
use Rattle.ir_module.specs.declared.op.Case.{Case}
use Rattle.ir_module.specs.declared.op.Op.{Op}
use Rattle.ir_module.specs.declared.op.Op.TheVariants as op
use Rattle.ir_module.specs.declared.op.Instr.{Instr}
use Rattle.ir_module.specs.declared.op.Written.{Written}
use Rattle.ir_module.specs.declared.module.Seg.{Seg}
use Rattle.ir_module.specs.declared.module.Spot.{Spot}
use Rattle.ir_module.specs.declared.module.Module.{Module}
use Rattle.ir_module.specs.Places.{spot, first_seg_of}
use Rattle.ir_machine.specs.declared.choice.Datum.{Datum}
use Rattle.ir_machine.specs.declared.choice.Datum.TheVariants as datum
use Rattle.ir_machine.specs.declared.choice.Value.{Value}
use Rattle.ir_machine.specs.Memory.{Memory}
use Rattle.ir_machine.specs.Frames.{BodyFrame}
use Rattle.ir_machine.specs.Moves.{Move, Sets, Goes, Outcome, Gives, Undefined, Over, Plan, with, found}
use Rattle.ir_machine.specs.Reading.{Values, read, Here, reading, read_all}

-- ---- the block that is entered

-- the instructions of a segment
abbrev pub instrs_in : Option Seg → List Instr
instrs_in None = []
instrs_in (Some seg) = seg.instrs

-- the block of a segment
abbrev pub block_in : Option Seg → ℕ
block_in None = 0
block_in (Some seg) = seg.block.0

-- the block in which a spot lies
abbrev pub block_of : Module → Spot → ℕ
block_of m s = block_in (slice_get m.segs s.seg.0)

-- the instructions of a block's first segment
abbrev pub first_instrs : Module → ℕ → List Instr
first_instrs m block = instrs_in (slice_get m.segs (first_seg_of m block))

-- the operation is a phi
abbrev pub is_phi : Op → Bool
is_phi (op.Phi arms) = true
is_phi _ = false

-- how many phis stand before the other instructions
abbrev pub phi_count : List Instr → ℕ
phi_count [] = 0
phi_count (instr ∷ instrs) = if is_phi instr.op then phi_count instrs + 1 else 0

-- where a block goes on behind its phis
abbrev pub behind_phis : Module → ℕ → Spot
behind_phis m block = spot (first_seg_of m block) (phi_count (first_instrs m block))

-- ---- phis

-- an edge between two blocks, and the memory and the values of the frame as it takes the edge
pub record Crossing : Type 0 where
  pub memory : Memory
  pub values : Values
  pub source : ℕ
  pub target : ℕ

-- the value of a phi for an edge from this block
abbrev pub arm_from : ℕ → List Arm → Option Written
arm_from block arms = option_map (λ arm. arm.val) (find (λ arm. arm.from.0 == block) arms)

-- a phi that reads its arm before the moves of what follows it
abbrev pub phi_set : Module → Crossing → List Arm → Option ValueId → List ℕ → (List ℕ → Outcome (List Move)) → Outcome (List Move)
phi_set m way arms result picks rest =
    with (found (arm_from way.source arms)) (λ w. with (read m way.memory way.values w picks) (λ r. with (found result) (λ v.
    with (rest r.picks) (λ moves. Gives (Sets v.0 r.value ∷ moves)))))

-- a phi is one of those that stand first, every other instruction ends them
abbrev pub phi_or_end : Module → Crossing → Instr → Op → List ℕ → (List ℕ → Outcome (List Move)) → Outcome (List Move)
phi_or_end m way instr (op.Phi arms) picks rest = phi_set m way arms instr.result picks rest
phi_or_end m way instr _ picks rest = Gives (Goes (behind_phis m way.target) ∷ [])

-- the phis that stand first: all read in the values of before, and then the frame goes on behind them
abbrev pub phi_moves : Module → Crossing → List Instr → List ℕ → Outcome (List Move)
phi_moves m way [] picks = Gives (Goes (behind_phis m way.target) ∷ [])
phi_moves m way (instr ∷ instrs) picks = phi_or_end m way instr instr.op picks (λ picks. phi_moves m way instrs picks)

-- the moves of an edge: all phis of the block at once, and then the frame stands behind them
abbrev pub crosses : Module → Crossing → List ℕ → Outcome (List Move)
crosses m way picks = phi_moves m way (first_instrs m way.target) picks

-- the edge from where a frame stands to a block
abbrev pub crossing : Module → Memory → BodyFrame → Values → ℕ → Crossing
crossing m mem frame values to = record { memory = mem; values = values; source = block_of m frame.spot; target = to }

-- ---- branches

-- the frame takes the edge from its block to this one
abbrev pub branches : Module → Here → ℕ → List ℕ → Plan
branches m here to picks = crosses m (crossing m here.state.memory here.frame here.frame.values to) picks

-- a condition that is undef or poison is undefined
abbrev pub condition : Datum → Outcome ℕ
condition (datum.Int bits) = Gives bits
condition datum.Undef = Undefined
condition datum.Poison = Undefined
condition _ = Over

-- a `br` on a condition
abbrev pub branches_on : Module → Here → List ℕ → Written → BlockId → BlockId → Plan
branches_on m here picks c so otherwise =
    reading m here c picks (λ x picks. with (condition x.datum) (λ bits. branches m here (if bits == 0 then otherwise.0 else so.0) picks))

-- the datum is this integer
abbrev pub is_int_of : ℕ → Datum → Bool
is_int_of n (datum.Int bits) = bits == n
is_int_of n _ = false

-- the block of the first case that has this number, the default block where none has
abbrev pub case_target : ℕ → BlockId → List Case → List Value → BlockId
case_target n other (case ∷ cases) (x ∷ xs) = if is_int_of n x.datum then case.to else case_target n other cases xs
case_target n other _ _ = other

-- the values of the cases of a `switch`
abbrev pub case_values : List Case → List Written
case_values [] = []
case_values (case ∷ cases) = case.val ∷ case_values cases

-- a `switch`
abbrev pub switches : Module → Here → List ℕ → Written → BlockId → List Case → Plan
switches m here picks on other cases =
    reading m here on picks (λ x picks. with (read_all m here (case_values cases) picks) (λ all. with (condition x.datum) (λ bits.
    branches m here (case_target bits other cases all.values).0 all.picks)))
