use Rattle.std.proofs.Common.{◌≡◌, Some, slice_get}
use Rattle.ir_module.specs.declared.module.Block.{Block}
use Rattle.ir_module.specs.declared.module.Func.{Func}
use Rattle.ir_module.specs.declared.module.Seg.{Seg}
use Rattle.ir_module.proofs.Each.{EachOf}
use Rattle.ir_verify.specs.Judging.{Judged, Keeps, Breaks}
use Rattle.ir_verify.proofs.Judged.{OneOf}
use Rattle.ir_verify.specs.Demands.{OfInstr}
use Rattle.ir_verify.specs.Verified.{IsHomeOf, placed}
use Rattle.ir_verify.proofs.instrs.of_seg.Given as goal

abbrev pub invariant-loop-i : goal.invariant-loop-i
invariant-loop-i l = (func : Func) (block : Block) (seg : Seg) → slice_get l.m.segs l.s.0 ≡ Some seg → IsHomeOf l.m seg block func
    → Judged (EachOf l.i seg.instrs (λ i instr. Keeps (OfInstr l.m l.numbers (placed func block l.s.0 seg i instr))))
    (OneOf l.i seg.instrs (λ i instr. Breaks instr.span.from (OfInstr l.m l.numbers (placed func block l.s.0 seg i instr)))) l.found
