use Rattle.std.proofs.Common.{arith, ◌||◌, take, sym, ap, ◌∙◌}
use Rattle.std.specs.List.{list_any}
use Rattle.std.proofs.lemmas.List.{take_all}
use Rattle.std.proofs.lemmas.List.Folds.{list_any_more}
use Rattle.ir_module.specs.declared.op.Instr.{Instr}
use Rattle.ir_module.specs.Edges.{is_catch_all}
use Rattle.aa_control.proofs.pads.has_pad.Goals as goal

pub loop-instr-preserved : goal.loop-instr-preserved
loop-instr-preserved c =
    c.or-found.ensures ∙ (ap (λ b. b || c.is_pad.result) c.loop-instr.invariant
    ∙ (ap (λ b. list_any (λ (i : Instr). is_catch_all i.op) (take c.loop-instr.instr-index c.args.instrs.now) || b) (c.is_pad.ensures ∙
    ap (λ (x : Instr). is_catch_all x.op) c.instr-item.is)
    ∙ sym (list_any_more (λ (i : Instr). is_catch_all i.op) c.args.instrs.now c.loop-instr.instr-index c.instr-item.result c.loop-instr-test.true)))

pub returns : goal.returns
returns c =
    c.loop-instr.invariant ∙ ap (list_any (λ (i : Instr). is_catch_all i.op)) (take_all c.loop-instr.instr-index c.args.instrs.now (omega (
      arith,
      c.loop-instr-test.false,
    )))
