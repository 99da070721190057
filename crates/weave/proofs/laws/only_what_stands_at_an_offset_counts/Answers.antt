use Rattle.std.proofs.Common.{◌∙◌}
use Rattle.weave.proofs.Steps.{woven_from-same}
use Rattle.weave.proofs.laws.only_what_stands_at_an_offset_counts.Goals as goal

pub returns : goal.returns
returns c = λ text out insertions others same woven. woven ∙ woven_from-same text insertions others text 0 same
