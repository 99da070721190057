use Rattle.std.proofs.Common.{sym}
use Rattle.machine_values.proofs.Lists.{unlike}
use Rattle.machine_values.proofs.value.are_same_marks.Goals as goal

pub returns-then-xs-ys : goal.returns-then-xs-ys
returns-then-xs-ys c = sym (unlike c.args.xs.now c.args.ys.now c.if-xs-ys.true)
