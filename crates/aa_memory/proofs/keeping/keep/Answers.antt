use Rattle.std.proofs.Common.{arith}
use Rattle.facts.specs.declared.pos.Pos.TheVariants as pos
use Rattle.rule_says.proofs.Built.{unless_over}
use Rattle.aa_memory.proofs.keeping.keep.Goals as goal

pub meet-requires-clause-over : goal.meet-requires-clause-over
meet-requires-clause-over c = unless_over c.args.ps.now c.in_ok-term.term (pos.Segment c.args.k) 0 c.args.term (omega arith) c.in_ok-term.ensures
    c.requires.over
