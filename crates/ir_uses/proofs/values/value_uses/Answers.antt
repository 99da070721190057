use Rattle.ir_uses.proofs.Listing.{all_uses}
use Rattle.ir_uses.proofs.values.value_uses.Goals as goal

pub returns : goal.returns
returns c = all_uses c.args.m.now c.note_module.new.lists c.in_ok-note_module.ensures
