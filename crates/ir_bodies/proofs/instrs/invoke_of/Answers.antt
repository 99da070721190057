use Rattle.std.proofs.Common.{[], ◌∷◌}
use Rattle.ir_instrs.specs.Reading.{reading}
use Rattle.ir_instrs.specs.Uses.Use.{Label}
use Rattle.ir_instrs.proofs.Taking.{takes_both}
use Rattle.ir_bodies.specs.Calls.{call_uses}
use Rattle.ir_bodies.proofs.instrs.invoke_of.Goals as goal

pub returns-clause-takes : goal.returns-clause-takes
returns-clause-takes c =
    let r = reading c.args.scene.now.source in
    let x = c.args.x.now in
    takes_both r (call_uses r x.called) (Label x.normal ∷ Label x.unwind ∷ []) c.args.notes.now c.call_of.new.notes c.label-unwind.new.notes
    c.in_ok-call.ensures.takes
    (takes_both r (Label x.normal ∷ []) (Label x.unwind ∷ []) c.call_of.new.notes c.label-normal.new.notes c.label-unwind.new.notes
    c.label-normal.ensures.takes c.label-unwind.ensures.takes)
