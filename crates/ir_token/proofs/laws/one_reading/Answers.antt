use Rattle.ir_token.proofs.Unique.{same_reading}
use Rattle.ir_token.proofs.laws.one_reading.Goals as goal

pub returns : goal.returns
returns c = same_reading
