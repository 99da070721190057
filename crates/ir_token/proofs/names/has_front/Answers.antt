use Rattle.std.proofs.Common.{◌∙◌, sym, ap, drop, arith}
use Rattle.ir_token.specs.LeftOut.{begins_with}
use Rattle.ir_token.proofs.Escapes.{read_end, front_past}
use Rattle.ir_token.proofs.names.has_front.Goals as goal

pub returns-then-at-inside : goal.returns-then-at-inside
returns-then-at-inside c =
    sym (c.loop-c.invariant.0 ∙ ap
    (λ x. begins_with x (drop c.loop-c.c-index c.args.front.now)) (read_end c.args.quoted c.args.inside.now c.loop-c.at (omega arith))
    ∙ front_past c.args.front.now c.loop-c.c-index c.loop-c-test.true)
