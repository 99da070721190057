use Rattle.std.proofs.Common.{◌≡◌, ◌≤◌, ◌+◌, max, drop, subst, sym, arith}
use Rattle.ir_token.specs.declared.token.Kind.TheVariants.{Word}
use Rattle.ir_token.specs.Nesting.{deepest, then_open}
use Rattle.ir_token.proofs.Depth.{depth_more, depth_above}
use Rattle.ir_token.proofs.brackets.nesting.Goals as goal
use Rattle.ir_token.proofs.brackets.nesting.Goals.{then-most-open, else-most-open}

pub loop-token-preserved : goal.loop-token-preserved
loop-token-preserved c =
    let more : deepest c.args.text.now c.loop-token.open (drop c.loop-token.token-index c.args.toks.now) ≡ max c.loop-token.open
    (deepest c.args.text.now (then_open c.loop-token.open c.mark.result) (drop (c.loop-token.token-index + 1) c.args.toks.now)) =
    depth_more c.args.text.now c.loop-token.open c.args.toks.now c.as_slice-token-items.result.now c.loop-token.token-index c.mark.result
    (record { kind = Word; span = record { from = 0; to = 0 } }) c.as_slice-token-items.ensures c.loop-token-test.true c.mark.ensures in
    let more' : deepest c.args.text.now c.loop-token.open (drop c.loop-token.token-index c.args.toks.now) ≡ max c.loop-token.open
    (deepest c.args.text.now c.then_open-open.result (drop (c.loop-token.token-index + 1) c.args.toks.now)) =
    subst (λ o. deepest c.args.text.now c.loop-token.open (drop c.loop-token.token-index c.args.toks.now) ≡ max c.loop-token.open
    (deepest c.args.text.now o (drop (c.loop-token.token-index + 1) c.args.toks.now))) (sym c.then_open-open.ensures) more in
    let above : c.then_open-open.result ≤ deepest c.args.text.now c.then_open-open.result
    (drop (c.loop-token.token-index + 1) c.args.toks.now) = depth_above c.args.text.now c.then_open-open.result
    (drop (c.loop-token.token-index + 1) c.args.toks.now) in
    let small : c.then_open-open.result ≤ c.loop-token.open + 1 = grind (arith, c.then_open-open.ensures) in
    elim c.if-most-open.branch [ then-most-open w ↦ (omega arith, omega arith, omega arith) | else-most-open w ↦ (omega arith, omega arith, omega arith) ]
