use Rattle.why_make.proofs.Listing.{list_one}
use Rattle.why_make.proofs.laws.a_list_of_sweeps_is_one.Goals as goal

pub returns : goal.returns
returns c = list_one
