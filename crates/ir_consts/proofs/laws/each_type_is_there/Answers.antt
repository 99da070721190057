use Rattle.ir_consts.proofs.There.{there}
use Rattle.ir_consts.proofs.laws.each_type_is_there.Goals as goal

pub returns : goal.returns
returns c = λ t es is ty. there t es is ty
