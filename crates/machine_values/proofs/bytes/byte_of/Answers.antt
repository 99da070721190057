use Rattle.machine_values.proofs.Lists.{byte_is}
use Rattle.machine_values.proofs.bytes.byte_of.Goals as goal

pub returns : goal.returns
returns c = byte_is c.args.bits c.args.k c.requires
