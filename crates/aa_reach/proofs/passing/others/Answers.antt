use Rattle.std.proofs.Common.{◌≢◌, ◌+◌, ◌*◌, ◌↔◌, bit_and, subst, sym}
use Rattle.std.specs.Int.{bit_not, w64}
use Rattle.lattice_words.specs.declared.word.TheConstants.{FACTS}
use Rattle.rule_says.specs.Saying.{IsSet}
use Rattle.aa_reach.proofs.Ranked.{others_here, others_elsewhere}
use Rattle.aa_reach.proofs.passing.others.Goals as goal

pub returns-then-h-k : goal.returns-then-h-k
returns-then-h-k c bit low =
    subst (λ w. IsSet (bit_and FACTS (bit_not w64 w)) bit ↔ (c.args.h ≢ c.args.k * 47 + bit)) (sym c.bit_of.ensures)
    (others_here c.args.k c.args.h bit c.if-h-k.true low)

pub returns-else-h-k : goal.returns-else-h-k
returns-else-h-k c bit low = others_elsewhere c.args.k c.args.h bit c.if-h-k.false low
