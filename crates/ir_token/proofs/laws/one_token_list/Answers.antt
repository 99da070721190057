use Rattle.ir_token.proofs.Unique.{one_list}
use Rattle.ir_token.proofs.laws.one_token_list.Goals as goal

pub returns : goal.returns
returns c = one_list
