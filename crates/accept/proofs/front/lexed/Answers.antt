use Rattle.std.proofs.Common.{sym, subst}
use Rattle.accept.specs.Causes.{IsCause}
use Rattle.accept.proofs.Told.{lexed_by}
use Rattle.accept.proofs.front.lexed.Goals as goal

pub returns-in-Err-clause-refused : goal.returns-in-Err-clause-refused
returns-in-Err-clause-refused c =
    let all = c.tokens.ensures in
    subst (IsCause c.args.text.now) (sym c.unlexed.ensures) (lexed_by c.args.text.now c.tokens.result c.requires all.bad_byte all.open_string all.left_out
    all.too_many c.in-Err.why c.in-Err.is)
