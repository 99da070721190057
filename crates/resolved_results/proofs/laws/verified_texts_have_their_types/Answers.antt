use Rattle.verified_types.proofs.Typed.{has_types}
use Rattle.resolved_results.proofs.Whole.{results_written}
use Rattle.resolved_results.proofs.laws.verified_texts_have_their_types.Goals as goal

pub returns : goal.returns
returns c = λ b toks tree m resolved formed verified. has_types m formed verified (results_written b toks tree m resolved)
