use Rattle.std.proofs.Common.{sym}
use Rattle.weave.proofs.Steps.{woven_from-nil}
use Rattle.weave.proofs.laws.no_insertion_changes_nothing.Goals as goal

pub returns : goal.returns
returns c = λ text. sym (woven_from-nil text text 0)
