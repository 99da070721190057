use Rattle.ir_consts.proofs.Broken.{rule_is_first, rules_are_kept}
use Rattle.ir_consts.proofs.laws.the_first_broken_rule_is_found.Goals as goal

pub returns-clause-broken : goal.returns-clause-broken
returns-clause-broken c = λ types numbers site parts elem operands r below inside e. rule_is_first types numbers parts elem below site operands inside r e

pub returns-clause-kept : goal.returns-clause-kept
returns-clause-kept c = λ types numbers site parts elem operands below inside e. rules_are_kept types numbers parts elem below site operands inside e
