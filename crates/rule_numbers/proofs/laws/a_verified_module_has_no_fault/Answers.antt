use Rattle.rule_numbers.proofs.Modules.{no_fault}
use Rattle.rule_numbers.proofs.laws.a_verified_module_has_no_fault.Goals as goal

pub returns : goal.returns
returns c = λ m formed layouts verified f is. no_fault m formed layouts verified f is
