use Rattle.ir_instrs.specs.Reading.{reading}
use Rattle.ir_instrs.specs.Operands.{tconst, tconst_uses}
use Rattle.ir_instrs.proofs.Making.{makes_none}
use Rattle.ir_headers.specs.Headers.{extra_in}
use Rattle.ir_headers.proofs.Making.{makes_next, makes_whole}
use Rattle.ir_headers.proofs.extras.extras_of.Goals as goal

pub loop-tail-init : goal.loop-tail-init
loop-tail-init c =
    let r = reading c.args.src.now in
    makes_none r (tconst r) (tconst_uses r) c.args.notes.now c.new-extras.result c.new-extras.ensures c.requires.below

pub loop-tail-preserved : goal.loop-tail-preserved
loop-tail-preserved c =
    let r = reading c.args.src.now in
    makes_next r (tconst r) (tconst_uses r) extra_in c.args.tails.now c.loop-tail.tail-index c.tail-item.result c.args.notes.now c.loop-tail.notes
    c.push_extra.new.notes c.loop-tail.extras c.push_extra.new.extras c.loop-tail-test.true c.tail-item.is c.loop-tail.invariant
    c.in_ok-push_extra.ensures.value c.in_ok-push_extra.ensures.takes

pub returns-clause-value : goal.returns-clause-value
returns-clause-value c =
    let r = reading c.args.src.now in
    (makes_whole r (tconst r) (tconst_uses r) extra_in c.args.tails.now c.loop-tail.tail-index c.args.notes.now c.loop-tail.notes c.loop-tail.extras
    c.loop-tail-test.false c.loop-tail.invariant).are

pub returns-clause-takes : goal.returns-clause-takes
returns-clause-takes c =
    let r = reading c.args.src.now in
    (makes_whole r (tconst r) (tconst_uses r) extra_in c.args.tails.now c.loop-tail.tail-index c.args.notes.now c.loop-tail.notes c.loop-tail.extras
    c.loop-tail-test.false c.loop-tail.invariant).takes
