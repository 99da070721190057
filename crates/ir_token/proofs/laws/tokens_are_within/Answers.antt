use Rattle.std.proofs.Common.{length}
use Rattle.ir_token.proofs.Chains.{spans_within}
use Rattle.ir_token.proofs.laws.tokens_are_within.Goals as goal

pub returns : goal.returns
returns c = λ b ts h. spans_within b ts 0 (length b) h
