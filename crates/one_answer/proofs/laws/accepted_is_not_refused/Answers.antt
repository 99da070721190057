use Rattle.one_answer.proofs.Refusing.{not_refused}
use Rattle.one_answer.proofs.laws.accepted_is_not_refused.Goals as goal

pub returns : goal.returns
returns c = λ b m accepted why is. not_refused b m accepted why is
