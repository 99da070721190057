use Rattle.std.proofs.Common.{◌≤◌, arith}
use Rattle.fix_core.proofs.Joining.{join_counted}
use Rattle.fix_core.proofs.counts.a_join_keeps_the_counts.Goals as goal

pub returns : goal.returns
returns c = λ s graph state u first w other apart here there idle. join_counted s graph 16 (let few : 16 ≤ 16 = omega arith in
    few) state u first w other apart here there idle
