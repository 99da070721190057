use Rattle.std.proofs.Common.{◌≡◌, get_or, sym, refl, arith}
use Rattle.ir_graphs.proofs.Nearing.{goes_from}
use Rattle.ir_graphs.proofs.distances.lower_at.Goals as goal

pub returns : goal.returns
returns c = record {
  upper = λ b. c.lower.ensures.upper c.args.g.now b
      (goes_from c.args.g.now c.args.x c.args.j _ c.get-ends.result.now c.get-ends.ensures (omega arith) refl);
}
