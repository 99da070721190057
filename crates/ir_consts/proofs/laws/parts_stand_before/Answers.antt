use Rattle.ir_consts.proofs.Below.{const_sits}
use Rattle.ir_consts.proofs.laws.parts_stand_before.Goals as goal

pub returns : goal.returns
returns c = λ r k ty parts below. const_sits r k ty parts below
