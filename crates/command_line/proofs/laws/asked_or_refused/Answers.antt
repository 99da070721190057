use Rattle.command_line.proofs.OneCommand.{not_refused}
use Rattle.command_line.proofs.laws.asked_or_refused.Goals as goal

pub returns : goal.returns
returns c = not_refused
