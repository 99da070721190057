use Rattle.std.proofs.Common.{◌∙◌}
use Rattle.manifest.proofs.held.Held.holds.Goals as goal

pub returns : goal.returns
returns c = c.has.ensures ∙ c.word.ensures c.args.bit
