use Rattle.ir_uses.proofs.Calling.{all_calls}
use Rattle.ir_uses.proofs.callers.callers.Goals as goal

pub returns : goal.returns
returns c = all_calls c.args.m.now c.note_module.new.lists c.in_ok-note_module.ensures
