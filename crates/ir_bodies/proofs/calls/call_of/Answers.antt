use Rattle.std.proofs.Common.{subst}
use Rattle.ir_instrs.specs.Reading.{reading}
use Rattle.ir_instrs.specs.Uses.{Takes}
use Rattle.ir_instrs.proofs.Taking.{takes_both}
use Rattle.ir_bodies.specs.Calls.{callee_uses, args_uses}
use Rattle.ir_bodies.proofs.calls.call_of.Goals as goal

pub returns-clause-takes : goal.returns-clause-takes
returns-clause-takes c =
    let r = reading c.args.scene.now.source in
    takes_both r (callee_uses c.args.called.now) (args_uses r c.args.called.now.arguments.args) c.args.notes.now c.written.new.notes c.args_of.new.notes
    c.in_ok-callee.ensures.takes
    (subst (λ xs. Takes r (args_uses r xs) c.written.new.notes c.args_of.new.notes) c.as_slice.ensures c.in_ok-args.ensures.takes)
