use Rattle.aa_capture.proofs.Words.{result_says, no_result_says}
use Rattle.aa_capture.proofs.results.result_uses.Goals as goal

pub returns-in-Some : goal.returns-in-Some
returns-in-Some c m is = result_says m c.args.ps.now is c.args.instr.now c.word.result c.in-Some.r c.in-Some.is c.word.ensures

pub returns-in-None : goal.returns-in-None
returns-in-None c m is = no_result_says m c.args.ps.now is c.args.instr.now c.bits.result c.in-None.is c.bits.ensures
