use Rattle.std.proofs.Common.{[], ◌∷◌}
use Rattle.ir_instrs.specs.Reading.{reading}
use Rattle.ir_instrs.specs.Uses.Use.{Typed, Label}
use Rattle.ir_instrs.proofs.Taking.{takes_both}
use Rattle.ir_instrs.proofs.ops.arm_of.Goals as goal

pub returns-clause-takes : goal.returns-clause-takes
returns-clause-takes c =
    takes_both (reading c.args.src.now) (Typed c.args.ty c.args.arm.now.value ∷ []) (Label c.args.arm.now.from ∷ []) c.args.notes.now c.written.new.notes
    c.label-from.new.notes c.in_ok-val.ensures.takes c.label-from.ensures.takes
