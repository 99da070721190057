use Rattle.std.proofs.Common.{arith, ap, sym, ◌∙◌}
use Rattle.ir_literals.proofs.Components.{found_step, found_end, split_is}
use Rattle.ir_literals.proofs.layouts.are_taken.Goals as goal

pub loop-part-preserved : goal.loop-part-preserved
loop-part-preserved c =
    found_step c.loop-part.found.taken c.loop-part.found.aligned _ _ c.in-Some.part.now c.next.new.self c.loop-part.part-iterator _
    c.with_part-found.ensures.taken c.with_part-found.ensures.aligned c.in-Some.ensures.steps c.loop-part.invariant

pub returns : goal.returns
returns c =
    c.is_enough.ensures
    ∙ found_end c.loop-part.found.taken c.loop-part.found.aligned c.loop-part.part-iterator c.into_iter-part-iterator.result c.in-None.ensures.steps.0
    c.loop-part.invariant
    ∙ split_is c.args.layout.now c.into_iter-part-iterator.result (c.into_iter-part-iterator.ensures.into_iter_gives ∙ c.split_str-part-items.ensures.value)
