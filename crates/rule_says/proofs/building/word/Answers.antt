use Rattle.rule_says.proofs.Built.{word_none, word_some}
use Rattle.rule_says.proofs.building.word.Goals as goal

pub returns-then-mask-asked-eq0 : goal.returns-then-mask-asked-eq0
returns-then-mask-asked-eq0 c =
    word_none c.args.ps.now c.args.p c.number-number.result c.mask.result c.number-number.ensures c.mask.ensures c.args.asked c.bits.result
    c.if-mask-asked-eq0.true c.bits.ensures

pub returns-else-mask-asked-eq0 : goal.returns-else-mask-asked-eq0
returns-else-mask-asked-eq0 c =
    word_some c.args.ps.now c.args.p c.number-number.result c.mask.result c.number-number.ensures c.mask.ensures c.args.asked c.read.result
    c.if-mask-asked-eq0.false c.read.ensures
