use Rattle.ir_segments.specs.Segments.{ends}
use Rattle.ir_segments.proofs.Cutting.{cut_all, cut_runs}
use Rattle.ir_segments.proofs.laws.segments_end_in_calls.Goals as goal

pub returns-clause-whole : goal.returns-clause-whole
returns-clause-whole c = cut_all ends

pub returns-clause-runs : goal.returns-clause-runs
returns-clause-runs c = cut_runs ends
