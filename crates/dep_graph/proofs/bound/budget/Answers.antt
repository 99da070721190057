use Rattle.std.proofs.Common.{◌≡◌, ◌+◌, ◌*◌, ◌≤◌, length, count_ones, get_or, ap, ◌∙◌, arith}
use Rattle.dep_graph.specs.Graph.{row_at, retaken}
use Rattle.dep_graph.proofs.Cost.{cost_below, cost_more, cost_whole, edges_more, edges_within, retaken-le}
use Rattle.dep_graph.proofs.bound.budget.Goals.{After-of}
use Rattle.dep_graph.proofs.bound.budget.Goals as goal

-- what this position adds, and a bound on it
cost_is : (c : After-of) → count_ones c.mask.result * length c.of.result.now ≡ retaken (get_or c.args.s.now.masks c.loop-p.p 0) (row_at c.args.g.now c.loop-p.p)
cost_is c =
    ap (λ mask. count_ones mask * length c.of.result.now) c.mask.ensures.mask ∙
    ap (λ n. count_ones (get_or c.args.s.now.masks c.loop-p.p 0) * n) (ap length c.of.ensures)

cost_le : (c : After-of) → retaken (get_or c.args.s.now.masks c.loop-p.p 0) (row_at c.args.g.now c.loop-p.p) ≤ 64 * length
    (row_at c.args.g.now c.loop-p.p).dependents
cost_le c = retaken-le _ (row_at c.args.g.now c.loop-p.p) (omega (arith, c.mask.ensures.mask, c.mask.type_inv))

pub overflow_mul-budget : goal.overflow_mul-budget
overflow_mul-budget c =
    let within = edges_within c.args.s.now.masks c.args.g.now c.loop-p.p (omega arith) c.requires.long in
    omega (arith, cost_is c, cost_le c, within, c.requires.few)

pub overflow_add-budget : goal.overflow_add-budget
overflow_add-budget c =
    let loop = c.loop-p.invariant in
    let within = edges_within c.args.s.now.masks c.args.g.now c.loop-p.p (omega arith) c.requires.long in
    omega (arith, cost_is c, cost_le c, within, c.requires.few, loop.budget, loop.small)

pub loop-p-preserved : goal.loop-p-preserved
loop-p-preserved c =
    let loop = c.loop-p.invariant in
    let cost = cost_more c.args.s.now.masks c.args.g.now c.loop-p.p (omega arith) c.requires.long in
    let edges = edges_more c.args.s.now.masks c.args.g.now c.loop-p.p (omega arith) c.requires.long in
    record {
      budget = omega (arith, cost, cost_is c, loop.budget);
      small = omega (arith, cost, edges, cost_le c, loop.small);
    }

-- the loop ends past the last position
pub returns : goal.returns
returns c =
    let s = c.args.s.now in
    let graph = c.args.g.now in
    let last : c.loop-p.p ≡ length s.masks = omega arith in
    c.loop-p.invariant.budget ∙ ap (λ p. length s.masks + cost_below s.masks graph p) last ∙
    ap (λ n. length s.masks + n) (cost_whole s.masks graph c.requires.long)
