use Rattle.ir_token.proofs.Exists.{some_reading}
use Rattle.ir_token.proofs.laws.some_reading.Goals as goal

pub returns : goal.returns
returns c = some_reading
