-- Segments: the block and the function in which one stands are told by it.
use Rattle.std.proofs.Common.{◌≡◌, ℕ, ◌<◌, ◌≤◌, List, Option, Some, length, slice_get, sym, ap, subst, ◌∙◌}
use Rattle.std.proofs.lemmas.Option.{slice_get_within}
use Rattle.ir_module.specs.declared.op.Instr.{Instr}
use Rattle.ir_module.specs.declared.module.Seg.{Seg}
use Rattle.ir_module.specs.declared.module.Block.{Block}
use Rattle.ir_module.specs.declared.module.Func.{Func}
use Rattle.ir_module.specs.declared.module.Module.{Module}
use Rattle.ir_module.specs.WellFormed.{IsWellFormed}
use Rattle.ir_rules.specs.Named.{HasNames}
use Rattle.ir_verify.specs.declared.broken.Broken.{Broken}
use Rattle.ir_verify.specs.Judging.{Judged, IsOf, Keeps, Breaks}
use Rattle.ir_verify.specs.Demands.{OfInstr}
use Rattle.ir_verify.specs.Verified.{IsHomeOf, placed, SegKeeps, SegBreaks}
use Rattle.ir_module.proofs.Each.{EachOf}
use Rattle.ir_verify.proofs.Judged.{OneOf, turned, all_done}

some_same : {X : Type 0} (o : Option X) (x y : X) → o ≡ Some x → o ≡ Some y → x ≡ y
some_same o x y a b = let both : Some x ≡ Some y = sym a ∙ b in (cc)

-- what is said of a segment, its block and its function, is said of those that were read
pub at_home : (m : Module) (k : ℕ) (P : Func → Block → Seg → Type 0) (func other_func : Func) (block other_block : Block) (seg other_seg : Seg)
    → slice_get m.segs k ≡ Some seg → IsHomeOf m seg block func → slice_get m.segs k ≡ Some other_seg → IsHomeOf m other_seg other_block other_func
    → P func block seg → P other_func other_block other_seg
at_home m k P func other_func block other_block seg other_seg at home other_at other_home p =
    let same_seg : seg ≡ other_seg = some_same (slice_get m.segs k) seg other_seg at other_at in
    let same_block : block ≡ other_block = some_same (slice_get m.blocks other_seg.block.0) block other_block
    (subst (λ (s : Seg). slice_get m.blocks s.block.0 ≡ Some block) same_seg home.at_block) other_home.at_block in
    let same_func : func ≡ other_func = some_same (slice_get m.funcs other_block.func.0) func other_func
    (subst (λ (b : Block). slice_get m.funcs b.func.0 ≡ Some func) same_block home.at_func) other_home.at_func in
    subst (λ (s : Seg). P other_func other_block s) same_seg
    (subst (λ (b : Block). P other_func b seg) same_block (subst (λ (f : Func). P f block seg) same_func p))

-- each segment has them
pub home_there : (m : Module) (k : ℕ) (seg : Seg) → IsWellFormed m → slice_get m.segs k ≡ Some seg → (block : Block) × (func : Func) × IsHomeOf m seg block func
home_there m k seg w at =
    let b = w.segs k seg at in
    let h = (w.blocks seg.block.0 b.0 b.1).home in
    (b.0, h.0, record { at_block = b.1; at_func = h.1 })

-- all instructions of a segment were judged
pub seg_judged : (m : Module) (numbers : List ℕ) (k n : ℕ) (seg : Seg) (found : Option Broken) → IsWellFormed m → slice_get m.segs k ≡ Some seg
    → length seg.instrs ≤ n
    → ((func : Func) (block : Block) (s : Seg) → slice_get m.segs k ≡ Some s → IsHomeOf m s block func
    → Judged (EachOf n s.instrs (λ i instr. Keeps (OfInstr m numbers (placed func block k s i instr))))
    (OneOf n s.instrs (λ i instr. Breaks instr.span.from (OfInstr m numbers (placed func block k s i instr)))) found)
    → Judged (SegKeeps m numbers k seg) (SegBreaks m numbers k seg) found
seg_judged m numbers k n seg found w at past judged =
    let home = home_there m k seg w at in
    let block = home.0 in let func = home.1 in
    let keeps = λ (i : ℕ) (instr : Instr). Keeps (OfInstr m numbers (placed func block k seg i instr)) in
    let fails = λ (i : ℕ) (instr : Instr). Breaks instr.span.from (OfInstr m numbers (placed func block k seg i instr)) in
    let all = all_done n seg.instrs keeps fails found past (judged func block seg at home.2) in
    turned ((i : ℕ) (instr : Instr) → slice_get seg.instrs i ≡ Some instr → keeps i instr) (SegKeeps m numbers k seg) (IsOf seg.instrs fails)
    (SegBreaks m numbers k seg) found all
    (λ h other_block other_func other_home.
    at_home m k (λ (f : Func) (b : Block) (s : Seg). (i : ℕ) (instr : Instr) → slice_get s.instrs i ≡ Some instr
    → Keeps (OfInstr m numbers (placed f b k s i instr))) func other_func block other_block seg seg at home.2 at other_home h)
    (λ b f. (block, func, home.2, f))
    (λ b f. at_home m k (λ (g : Func) (c : Block) (s : Seg). IsOf s.instrs (λ i instr. Breaks instr.span.from (OfInstr m numbers (placed g c k s i instr))) b)
    f.1 func f.0 block seg seg at f.2 at home.2 f.3)

-- what a segment's list is, as it was read
pub slice_of : (m : Module) (k : ℕ) (seg other : Seg) (slice : List Instr) → slice_get m.segs k ≡ Some seg → slice_get m.segs k ≡ Some other
    → slice ≡ seg.instrs → slice ≡ other.instrs
slice_of m k seg other slice at other_at e = e ∙ ap (λ (s : Seg). s.instrs) (some_same (slice_get m.segs k) seg other at other_at)

-- what an instruction of a segment names is there
pub names_of : (m : Module) (k i : ℕ) (seg : Seg) (instr : Instr) → IsWellFormed m → slice_get m.segs k ≡ Some seg → slice_get seg.instrs i ≡ Some instr
    → HasNames m instr
names_of m k i seg instr w at here = let b = w.segs k seg at in (b.0.func.0, (b.2.instrs i instr here).names)

-- a segment's block is there, and so is a block's function
pub block_within : (m : Module) (k : ℕ) (seg : Seg) → IsWellFormed m → slice_get m.segs k ≡ Some seg → seg.block.0 < length m.blocks
block_within m k seg w at = let b = w.segs k seg at in slice_get_within m.blocks seg.block.0 b.0 b.1

pub func_within : (m : Module) (b : ℕ) (block : Block) → IsWellFormed m → slice_get m.blocks b ≡ Some block → block.func.0 < length m.funcs
func_within m b block w at = let h = (w.blocks b block at).home in slice_get_within m.funcs block.func.0 h.0 h.1
