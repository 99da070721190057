use Rattle.rule_terms.proofs.Noting.{noted_one}
use Rattle.rule_terms.proofs.reads.note.Goals as goal

pub returns-clause-noted : goal.returns-clause-noted
returns-clause-noted c = noted_one c.args.reads.now c.args.input c.args.bits c.requires
