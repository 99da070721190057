use Rattle.std.proofs.Common.{ap, inr, Err}
use Rattle.attrib.proofs.Refused.{want_of_memory}
use Rattle.attrib.proofs.annotation.annotate.Goals as goal

pub returns-clause-accepted : goal.returns-clause-accepted
returns-clause-accepted g c = λ is. inr (ap Err (want_of_memory c.args.text.now is c.in-Err.refusal c.in-Err.ensures.refused))
