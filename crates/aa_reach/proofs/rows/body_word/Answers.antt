use Rattle.std.proofs.Common.{arith, length, ap, ◌∙◌}
use Rattle.std.proofs.lemmas.Option.{slice_get_within}
use Rattle.rule_says.proofs.Firsts.{first_more}
use Rattle.aa_reach.proofs.Segs.{AsksOne, SpeaksOne, run_none, run_one, run_all}
use Rattle.aa_reach.proofs.Listed.{ranked, rank_within, row_low}
use Rattle.aa_reach.proofs.rows.body_word.Goals as goal

pub row-own-requires : goal.row-own-requires
row-own-requires c = let within = c.requires.there in rank_within c.args.m.now c.args.ranks.now c.requires.ranks c.args.f.0 (omega (arith, within))

pub pass_last-requires-clause-row : goal.pass_last-requires-clause-row
pass_last-requires-clause-row c =
    let l = c.requires.there in
    let own = ranked c.args.m.now c.args.ranks.now c.requires.ranks c.args.f.0 c.row-own.result (omega (arith, l)) c.row-own.ensures in
    let low = row_low c.args.m.now c.args.f.0 (omega (arith, l)) in
    omega (arith, own, low)

pub pass_last-requires-clause-there : goal.pass_last-requires-clause-there
pass_last-requires-clause-there c =
    let within = (c.segs_of_func-segs.ensures c.loop-q.q).1 (c.loop-q.auto.q, c.loop-q-test.true) in
    slice_get_within c.args.m.now.segs c.loop-q.q within.seg within.at_seg

pub pass_last-requires-clause-long : goal.pass_last-requires-clause-long
pass_last-requires-clause-long c = ap length c.loop-q.invariant.masks ∙ c.requires.long

pub loop-q-init : goal.loop-q-init
loop-q-init c = run_none c.args.m.now c.args.ps.now c.args.f.0 c.args.k c.segs_of_func-segs.result.start c.segs_of_func-segs.result.end
    c.segs_of_func-segs.ensures c.args.s.now

pub loop-q-preserved : goal.loop-q-preserved
loop-q-preserved c =
    let own = ranked c.args.m.now c.args.ranks.now c.requires.ranks c.args.f.0 c.row-own.result
    (let l = c.requires.there in omega (arith, l)) c.row-own.ensures in
    let within = (c.segs_of_func-segs.ensures c.loop-q.q).1 (c.loop-q.auto.q, c.loop-q-test.true) in
    first_more c.args.m.now c.args.ps.now c.args.m.now.segs (AsksOne c.args.m.now c.args.ps.now c.args.f.0 c.args.k c.segs_of_func-segs.result.start
    c.segs_of_func-segs.result.end c.segs_of_func-segs.ensures)
    (SpeaksOne c.args.m.now c.args.ps.now c.args.f.0 c.args.k c.segs_of_func-segs.result.start c.segs_of_func-segs.result.end c.segs_of_func-segs.ensures)
    c.args.s.now c.loop-q.s c.pass_last.new.s c.loop-q.q within.seg within.at_seg c.loop-q.invariant
    (run_one c.args.m.now c.args.ps.now c.args.f.0 c.args.k c.segs_of_func-segs.result.start c.segs_of_func-segs.result.end c.segs_of_func-segs.ensures
    c.loop-q.s c.pass_last.new.s c.loop-q.q c.row-own.result within.seg c.loop-q.auto.q c.loop-q-test.true own c.in_ok-pass_last.ensures)

pub returns : goal.returns
returns c =
    run_all c.args.m.now c.args.ps.now c.args.f.0 c.args.k c.segs_of_func-segs.result.start c.segs_of_func-segs.result.end
    c.segs_of_func-segs.ensures c.args.s.now c.loop-q.s c.loop-q.q
    (omega (arith, c.loop-q-test.false)) c.loop-q.invariant
