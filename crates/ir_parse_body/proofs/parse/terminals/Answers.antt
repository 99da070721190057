use Rattle.std.proofs.Common.{◌≤◌, length, ap, ◌∙◌, arith}
use Rattle.std.proofs.lemmas.List.{take_all}
use Rattle.ir_tree.specs.Terminals.{terminals}
use Rattle.ir_parse_body.proofs.parse.terminals.Goals as goal

pub returns : goal.returns
returns c =
    let past : length c.args.toks.now ≤ c.loop-token.token-index = omega (arith, c.loop-token-test.false, ap length c.as_slice-token-items.ensures) in
    c.loop-token.invariant ∙ ap (terminals c.args.text.now) (take_all c.loop-token.token-index c.args.toks.now past)
