use Rattle.one_annotation.proofs.Once.{one_text}
use Rattle.one_annotation.proofs.laws.one_annotation.Goals as goal

pub returns : goal.returns
returns c = one_text
