use Rattle.rule_numbers.proofs.Modules.{by_any}
use Rattle.rule_numbers.proofs.laws.verified_by_any_numbers.Goals as goal

pub returns : goal.returns
returns c = λ m layouts verified numbers canonical. by_any m layouts verified numbers canonical
