-- Where an instruction stands.
use Rattle.std.proofs.Common.{◌≡◌, ◌<◌, length, slice_get, Option, None, Some, refl}
use Rattle.std.proofs.lemmas.Option.{slice_get_within}
use Rattle.shelf.proofs.Shelf.{get_there}
use Rattle.ir_module.specs.declared.op.Instr.{Instr}
use Rattle.ir_module.specs.declared.module.Seg.{Seg}
use Rattle.ir_module.specs.declared.module.Block.{Block}
use Rattle.ir_module.specs.declared.module.Module.{Module}
use Rattle.ir_module.specs.declared.module.Spot.{Spot}
use Rattle.ir_module.specs.Places.{in_seg, instr_at}
use Rattle.ir_module.specs.Formed.{IsInstrIn, IsPlaced}
use Rattle.ir_module.specs.WellFormed.{HasResult, IsWellFormed}

-- the segment of an instruction
pub record StandsIn (m : Module) (s : Spot) (instr : Instr) : Type 0 where
  pub seg : Seg
  pub at_seg : slice_get m.segs s.seg.0 ≡ Some seg
  pub at_place : slice_get seg.instrs s.at ≡ Some instr
  pub within : s.at < length seg.instrs

stands_by : (m : Module) (s : Spot) (instr : Instr) (o : Option Seg) → slice_get m.segs s.seg.0 ≡ o → in_seg s.at o ≡ Some instr → StandsIn m s instr
stands_by m s instr None e h = cc
stands_by m s instr (Some seg) e h = record { seg = seg; at_seg = e; at_place = h; within = slice_get_within seg.instrs s.at instr h }

pub stands : (m : Module) (s : Spot) (instr : Instr) → instr_at m s ≡ Some instr → StandsIn m s instr
unfolding instr_at
stands m s instr h = stands_by m s instr (slice_get m.segs s.seg.0) refl h

-- an instruction of a segment is at its spot
pub at_spot : (m : Module) (s : Spot) (seg : Seg) (instr : Instr) → slice_get m.segs s.seg.0 ≡ Some seg
    → slice_get seg.instrs s.at ≡ Some instr → instr_at m s ≡ Some instr
unfolding instr_at
at_spot m s seg instr e h = rw e h

pub is_there : (m : Module) (s : Spot) (seg : Seg) → slice_get m.segs s.seg.0 ≡ Some seg → s.at < length seg.instrs
    → (instr : Instr) × (instr_at m s ≡ Some instr)
is_there m s seg e l = let q = get_there seg.instrs s.at l in (q.0, at_spot m s seg q.0 e q.1)

-- the block of an instruction, and what its module's form says of it
pub record IsFormedAt (m : Module) (s : Spot) (instr : Instr) : Type 0 where
  pub block : Block
  pub stands : StandsIn m s instr
  pub at_block : slice_get m.blocks stands.seg.block.0 ≡ Some block
  pub in_func : IsInstrIn m block.func.0 instr
  pub result : HasResult m s.seg.0 s.at instr
  pub placed : IsPlaced block s.seg.0 (length stands.seg.instrs) s.at instr.op

pub formed_at : (m : Module) (s : Spot) (instr : Instr) → IsWellFormed m → instr_at m s ≡ Some instr → IsFormedAt m s instr
formed_at m s instr w h =
    let q = stands m s instr h in
    let p = w.segs s.seg.0 q.seg q.at_seg in
    let i = p.2.instrs s.at instr q.at_place in
    record { block = p.0; stands = q; at_block = p.1; in_func = i.names; result = i.result; placed = i.placed }
