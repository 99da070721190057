use Rattle.printed_soundness.proofs.Printed.{printed}
use Rattle.printed_soundness.proofs.laws.what_is_printed_holds.Goals as goal

pub returns : goal.returns
returns c = printed
