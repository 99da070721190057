use Rattle.fix_core.proofs.Joining.{join_kept}
use Rattle.fix_core.proofs.laws.a_join_keeps_the_core.Goals as goal

pub returns : goal.returns
returns c = λ s graph workers few state u first w other apart here there idle. join_kept s graph workers few state u first w other apart here there idle
