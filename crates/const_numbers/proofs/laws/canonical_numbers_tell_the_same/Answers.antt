use Rattle.const_numbers.proofs.Alike.{same_either}
use Rattle.const_numbers.proofs.laws.canonical_numbers_tell_the_same.Goals as goal

pub returns : goal.returns
returns c = λ types a b one other t u laid. same_either types a b one other t u laid
