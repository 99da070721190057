use Rattle.why_check.proofs.Passes.{verdict_one}
use Rattle.why_check.proofs.laws.a_verdict_is_one.Goals as goal

pub returns : goal.returns
returns c = verdict_one
