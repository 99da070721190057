-- What the verifier passes at an instruction: all rules, at its place in its block and its function.
use Rattle.std.proofs.Common.{◌≡◌, ℕ, List, slice_get, Option, None, Some, refl, sym, ap, ◌∙◌}
use Rattle.std.proofs.lemmas.Option.{none-some, same_Some}
use Rattle.ir_module.specs.declared.op.Instr.{Instr}
use Rattle.ir_module.specs.declared.module.Seg.{Seg}
use Rattle.ir_module.specs.declared.module.Block.{Block}
use Rattle.ir_module.specs.declared.module.Func.{Func}
use Rattle.ir_module.specs.declared.module.Spot.{Spot}
use Rattle.ir_module.specs.declared.module.Module.{Module}
use Rattle.ir_module.specs.Places.{in_seg, instr_at, IsIn}
use Rattle.ir_module.specs.WellFormed.{IsWellFormed}
use Rattle.ir_verify.specs.Demands.{OfInstr}
use Rattle.ir_verify.specs.Judging.{Keeps}
use Rattle.ir_verify.specs.Verified.{placed, KeepsOthers}

-- a segment with the instruction at the spot
found_in : (o : Option Seg) (at : ℕ) (instr : Instr) → in_seg at o ≡ Some instr → (seg : Seg) × (o ≡ Some seg) × (slice_get seg.instrs at ≡ Some instr)
found_in None at instr is = absurd (none-some instr is)
found_in (Some seg) at instr is = (seg, refl, is)

seg_of : (m : Module) (s : Spot) (instr : Instr) → instr_at m s ≡ Some instr →
    (seg : Seg) × (slice_get m.segs s.seg.0 ≡ Some seg) × (slice_get seg.instrs s.at ≡ Some instr)
unfolding instr_at
seg_of m s instr is = found_in (slice_get m.segs s.seg.0) s.at instr is

-- the instruction keeps all rules, in a block and in the function of that
pub record IsKept (m : Module) (numbers : List ℕ) (s : Spot) (instr : Instr) : Type 0 where
  pub seg : Seg
  pub block : Block
  pub func : Func
  pub at_seg : slice_get m.segs s.seg.0 ≡ Some seg
  pub at_block : slice_get m.blocks seg.block.0 ≡ Some block
  pub at_func : slice_get m.funcs block.func.0 ≡ Some func
  pub keeps : Keeps (OfInstr m numbers (placed func block s.seg.0 seg s.at instr))

module _ (m : Module) (formed : IsWellFormed m) (numbers : List ℕ) (others : KeepsOthers m numbers) where
  pub kept : (s : Spot) (instr : Instr) → instr_at m s ≡ Some instr → IsKept m numbers s instr
  kept s instr is =
      let found = seg_of m s instr is in
      let in_block = formed.segs s.seg.0 found.0 found.1 in
      let home = (formed.blocks found.0.block.0 in_block.0 in_block.1).home in record {
        seg = found.0;
        block = in_block.0;
        func = home.0;
        at_seg = found.1;
        at_block = in_block.1;
        at_func = home.1;
        keeps = others.segs s.seg.0 found.0 found.1 in_block.0 home.0 (record { at_block = in_block.1; at_func = home.1 }) s.at instr found.2;
      }

  -- it stands in the function in which the spot lies
  pub its_func : (s : Spot) (instr : Instr) (k : IsKept m numbers s instr) (f : ℕ) (func : Func) → slice_get m.funcs f ≡ Some func → IsIn m f s → k.func ≡ func
  its_func s instr k f func is_func stands =
      let seg : k.seg ≡ stands.seg = same_Some k.seg stands.seg (sym k.at_seg ∙ stands.at_seg) in
      let block : k.block ≡ stands.block =
      same_Some k.block stands.block (sym k.at_block ∙ (ap (λ (g : Seg). slice_get m.blocks g.block.0) seg ∙ stands.at_block)) in
      same_Some k.func func
      (sym k.at_func ∙ (ap (λ (b : Block). slice_get m.funcs b.func.0) block ∙ (ap (slice_get m.funcs) stands.in_func ∙ is_func)))
