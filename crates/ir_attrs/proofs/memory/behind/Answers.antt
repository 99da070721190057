use Rattle.ir_attrs.proofs.Pieces.{behind_is}
use Rattle.ir_attrs.proofs.memory.behind.Goals as goal

pub returns : goal.returns
returns c = behind_is c.args.inside.now c.args.comma
