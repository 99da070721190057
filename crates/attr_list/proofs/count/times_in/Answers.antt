use Rattle.std.proofs.Common.{arith, ◌≡◌, if◌then◌else◌, length, ap, subst, ◌∙◌}
use Rattle.attr_list.specs.Summed.{count_of, stands_at}
use Rattle.attr_list.proofs.Counting.{none_yet, one_more, few, one_at_most}
use Rattle.attr_list.proofs.count.times_in.Goals as goal

pub loop-k-init : goal.loop-k-init
loop-k-init c = none_yet (stands_at c.args.name.now c.args.insertion.now.words)

pub overflow_add-count : goal.overflow_add-count
overflow_add-count c =
    let less = few (stands_at c.args.name.now c.args.insertion.now.words) c.loop-k.k in
    let one = one_at_most (stands_at c.args.name.now c.as_slice-words.result.now c.loop-k.k) in
    omega (arith, less, one, c.loop-k.invariant, c.one_at-count.ensures, c.loop-k-test.true)

pub loop-k-preserved : goal.loop-k-preserved
loop-k-preserved c =
    one_more (stands_at c.args.name.now c.args.insertion.now.words) c.loop-k.k c.loop-k.count c.one_at-count.result c.loop-k.invariant
    (c.one_at-count.ensures ∙ ap (λ words. if stands_at c.args.name.now words c.loop-k.k then 1 else 0) c.as_slice-words.ensures)

pub returns : goal.returns
returns c =
    let end : c.loop-k.k ≡ length c.args.insertion.now.words =
    omega (arith, c.loop-k-test.false, c.loop-k.auto.k-end, ap length c.as_slice-words.ensures) in
    subst (λ n. c.loop-k.count ≡ count_of (stands_at c.args.name.now c.args.insertion.now.words) n) end c.loop-k.invariant
