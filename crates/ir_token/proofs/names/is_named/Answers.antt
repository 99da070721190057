use Rattle.std.proofs.Common.{◌∙◌, sym}
use Rattle.ir_token.proofs.Escapes.{named_end}
use Rattle.ir_token.proofs.names.is_named.Goals as goal

pub returns : goal.returns
returns c = named_end c.args.quoted c.args.inside.now c.args.name.now c.loop-c.at c.loop-c.c-index c.loop-c.invariant.1 c.loop-c-test.false
    ∙ sym c.loop-c.invariant.0
