use Rattle.std.proofs.Common.{◌-◌, arith}
use Rattle.std.proofs.lemmas.Bool.Decides.{nat_tests}
use Rattle.ir_token.proofs.Rows.{in_row_fits}
use Rattle.ir_token.proofs.left_out.may_be_in_row.Goals as goal

pub returns-then-length-lt32 : goal.returns-then-length-lt32
returns-then-length-lt32 c among =
    let fits = in_row_fits c.args.word.now (c.args.letter - 97) among in
    grind (arith, nat_tests, fits)

pub returns-else-length-lt32 : goal.returns-else-length-lt32
returns-else-length-lt32 c among =
    let fits = in_row_fits c.args.word.now (c.args.letter - 97) among in
    grind (arith, nat_tests, fits)
