use Rattle.ir_attrs.proofs.Spelling.{list_is_read}
use Rattle.ir_attrs.proofs.laws.a_list_of_accesses_is_read.Goals as goal

pub returns : goal.returns
returns c = list_is_read
