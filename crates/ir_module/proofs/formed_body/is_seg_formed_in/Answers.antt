use Rattle.std.proofs.Common.{List, length, subst, sym}
use Rattle.ir_module.specs.declared.op.Instr.{Instr}
use Rattle.ir_module.specs.WellFormed.{Each, IsInstrFormed}
use Rattle.ir_module.proofs.formed_body.is_seg_formed_in.Goals as goal
use Rattle.ir_module.proofs.formed_body.is_seg_formed_in.Goals.{then-is_seg_of, else-is_seg_of}

pub returns-then-has_instrs : goal.returns-then-has_instrs
returns-then-has_instrs c =
    let formed : List Instr → Type 0 = λ xs. Each xs (IsInstrFormed c.args.m.now c.args.block.now c.args.k (length xs)) in (
      λ t. elim c.if-is_seg_of.branch [
        | then-is_seg_of w ↦ record {
          place = c.is_seg_of.ensures.0 w.if-is_seg_of.true;
          nonempty = w.has_instrs.ensures.0 cc;
          instrs = subst formed c.as_slice.ensures (c.are_instrs_formed.ensures.0 t);
        }
        | else-is_seg_of w ↦ (let no : ⊥ = cc in absurd no)
      ],
      λ h. c.are_instrs_formed.ensures.1 (subst formed (sym c.as_slice.ensures) h.instrs),
    )
