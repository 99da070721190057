use Rattle.std.proofs.Common.{ap, length, arith}
use Rattle.weave.proofs.Steps.{length-woven_from}
use Rattle.weave.proofs.laws.woven_is_as_long_as_its_parts.Goals as goal

pub returns : goal.returns
returns c = λ text out insertions rise within woven. omega (
  arith,
  ap length woven,
  length-woven_from insertions text 0 (omega arith) rise (λ k d l. omega arith) within,
)
