use Rattle.std.proofs.Common.{arith}
use Rattle.positions.proofs.Sums.{all_counted}
use Rattle.positions.proofs.counting.count_all.Goals as goal

pub returns : goal.returns
returns c =
    let all = all_counted c.args.m.now c.args.bodies c.requires.bodies c.requires.number in
    omega (arith, all, c.len.ensures, c.count_values.ensures, c.count_entries.ensures.count)
