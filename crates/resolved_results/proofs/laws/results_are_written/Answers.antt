use Rattle.resolved_results.proofs.Whole.{results_written}
use Rattle.resolved_results.proofs.laws.results_are_written.Goals as goal

pub returns : goal.returns
returns c = λ b toks tree m resolved. results_written b toks tree m resolved
