use Rattle.std.proofs.Common.{◌-◌}
use Rattle.ir_token.proofs.Rows.{row_read}
use Rattle.ir_token.proofs.left_out.row.Goals as goal

pub returns : goal.returns
returns c = row_read c.args.rows.now (c.args.letter - 97) _ c.requires.high
