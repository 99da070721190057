use Rattle.command_line.proofs.OneCommand.{asks_one}
use Rattle.command_line.proofs.laws.one_command.Goals as goal

pub returns : goal.returns
returns c = asks_one
