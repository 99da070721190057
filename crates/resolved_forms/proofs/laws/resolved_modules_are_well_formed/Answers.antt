use Rattle.resolved_forms.proofs.Resolved.{resolved_formed}
use Rattle.resolved_forms.proofs.laws.resolved_modules_are_well_formed.Goals as goal

pub returns : goal.returns
returns c = λ b toks tree m resolved few. resolved_formed b toks tree m resolved few
