use Rattle.why_check.proofs.Removed.{none_supported}
use Rattle.why_check.proofs.laws.no_removed_fact_is_supported.Goals as goal

pub returns : goal.returns
returns c = none_supported
