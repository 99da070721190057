use Rattle.verified_types.proofs.Typed.{has_types}
use Rattle.verified_types.proofs.laws.verified_modules_have_their_types.Goals as goal

pub returns : goal.returns
returns c = λ m formed verified written. has_types m formed verified written
