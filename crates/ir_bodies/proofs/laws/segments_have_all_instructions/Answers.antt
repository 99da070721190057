use Rattle.ir_segments.specs.Segments.{ends}
use Rattle.ir_segments.proofs.Cutting.{cut_all}
use Rattle.ir_bodies.proofs.Numbered.{all_there}
use Rattle.ir_bodies.proofs.laws.segments_have_all_instructions.Goals as goal

pub returns : goal.returns
returns c = all_there (cut_all ends)
