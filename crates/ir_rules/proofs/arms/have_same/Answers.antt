use Rattle.ir_rules.proofs.Sorting.{told_same}
use Rattle.ir_rules.proofs.arms.have_same.Goals as goal

pub returns : goal.returns
returns c =
    told_same c.args.xs.now c.args.ys.now c.in_ok-xs.xs.items c.in_ok-ys.ys.items c.eq.result c.in_ok-xs.ensures.permutation c.in_ok-ys.ensures.permutation
    c.in_ok-xs.ensures.rising c.in_ok-ys.ensures.rising c.eq.ensures
