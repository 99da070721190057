use Rattle.attr_list.proofs.Named.{names_count}
use Rattle.attr_list.proofs.laws.lines_count_attributes.Goals as goal

pub returns : goal.returns
returns c = names_count
