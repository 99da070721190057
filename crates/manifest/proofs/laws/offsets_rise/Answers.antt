use Rattle.manifest.proofs.Rising.{in_order, within}
use Rattle.manifest.proofs.laws.offsets_rise.Goals as goal

pub returns-clause-rise : goal.returns-clause-rise
returns-clause-rise c = in_order

pub returns-clause-within : goal.returns-clause-within
returns-clause-within c = within
