use Rattle.const_numbers.proofs.Constants.{const_same, faults_same}
use Rattle.const_numbers.proofs.laws.constants_do_not_depend_on_numbers.Goals as goal

pub returns-clause-constants : goal.returns-clause-constants
returns-clause-constants c = λ r a b laid one other. const_same r a b laid one other

pub returns-clause-faults : goal.returns-clause-faults
returns-clause-faults c = λ r a b. faults_same r a b
