use Rattle.facts.proofs.Rules.{resume_unwinds}
use Rattle.facts.proofs.laws.a_resume_unwinds.Goals as goal

pub returns : goal.returns
returns c = resume_unwinds
