use Rattle.std.proofs.Common.{◌≡◌, take}
use Rattle.ir_tree.specs.Terminals.{terminals}
use Rattle.ir_parse_body.proofs.parse.terminals.Given as goal

abbrev pub invariant-loop-token : goal.invariant-loop-token
invariant-loop-token l = l.found.items ≡ terminals l.text (take l.token-index l.toks)
