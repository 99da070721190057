use Rattle.std.proofs.Common.{◌+◌, arith, rules}
use Rattle.ir_graphs.specs.Distances.{distance}
use Rattle.ir_graphs.proofs.Lowered.{lowered_upper}
use Rattle.ir_graphs.proofs.distances.lower.Goals as goal

pub returns-clause-upper : goal.returns-clause-upper
returns-clause-upper c = λ g b goes upper.
    lowered_upper g c.args.cut b c.args.ds.now c.args.x c.args.j c.args.w _ c.requires (search rules) (omega arith) (search rules) goes upper
