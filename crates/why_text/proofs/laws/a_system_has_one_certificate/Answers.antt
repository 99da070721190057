use Rattle.why_make.proofs.Listing.{list_one}
use Rattle.why_text.proofs.laws.a_system_has_one_certificate.Goals as goal

pub returns : goal.returns
returns c = λ s entries others certificate other. list_one s entries others certificate.list other.list
