use Rattle.manifest.proofs.Proper.{all_proper}
use Rattle.manifest.proofs.Told as told
use Rattle.manifest.proofs.laws.words_tell_attributes.Goals as goal

pub returns-clause-one_spelling : goal.returns-clause-one_spelling
returns-clause-one_spelling c = told.one_spelling

pub returns-clause-proper : goal.returns-clause-proper
returns-clause-proper c = all_proper
