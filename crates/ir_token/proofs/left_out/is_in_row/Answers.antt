use Rattle.std.proofs.Common.{◌∙◌, ap}
use Rattle.ir_token.specs.LeftOut.{is_among, left_rows}
use Rattle.ir_token.proofs.left_out.is_in_row.Goals as goal

pub returns-then-may_be_in_row : goal.returns-then-may_be_in_row
unfolding left_rows
returns-then-may_be_in_row c = c.is_among.ensures ∙ ap (λ words. is_among words c.args.word.now) c.row.ensures
