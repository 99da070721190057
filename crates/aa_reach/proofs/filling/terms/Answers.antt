use Rattle.std.proofs.Common.{arith, ◌+◌, ◌/◌, length, refl}
use Rattle.std.proofs.lemmas.Result.{on_ok_weaker}
use Rattle.aa_reach.proofs.Listed.{last_row, rank_small, all_met, words_enough}
use Rattle.aa_reach.proofs.filling.terms.Goals as goal

pub overflow_add-words : goal.overflow_add-words
overflow_add-words c =
    let few = c.requires.formed.few.funcs in
    let small = rank_small c.args.m.now (length c.args.m.now.funcs) (omega arith) in
    let are = last_row c.args.m.now c.in_ok-ranks.ranks.items c.as_slice.result.now c.len.result c.row-bodies.result c.in_ok-ranks.ensures
    c.as_slice.ensures.value c.len.ensures c.row-bodies.ensures in
    omega (arith, few, small, are)

pub returns : goal.returns
returns c =
    on_ok_weaker c.outside.result (λ met. all_met c.args.m.now c.args.p.now ((c.row-bodies.result + 46) / 47)
    (λ k l. let are = last_row c.args.m.now c.in_ok-ranks.ranks.items c.as_slice.result.now c.len.result c.row-bodies.result c.in_ok-ranks.ensures
    c.as_slice.ensures.value c.len.ensures c.row-bodies.ensures in words_enough c.row-bodies.result ((c.row-bodies.result + 46) / 47) k refl
    (omega (arith, are, l)))
    c.args.s.now c.rows.new.s c.outside.new.s c.in_ok-rows.ensures met) c.outside.ensures
