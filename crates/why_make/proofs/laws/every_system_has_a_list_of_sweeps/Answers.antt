use Rattle.why_make.proofs.Listing.{list_exists}
use Rattle.why_make.proofs.laws.every_system_has_a_list_of_sweeps.Goals as goal

pub returns : goal.returns
returns c = list_exists
