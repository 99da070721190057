use Rattle.laws_printed.proofs.Printed.{all_holds}
use Rattle.laws_printed.proofs.laws.printed_attributes_hold.Goals as goal

pub returns : goal.returns
returns c = λ m formed held opening opens choices holds constants. all_holds m formed held opening opens choices holds constants
