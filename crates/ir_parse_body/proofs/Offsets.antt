-- How many tokens a text has, and where they stand.
use Rattle.std.proofs.Common.{ℕ, ◌+◌, ◌≤◌, List, [], ◌∷◌, length, arith}
use Rattle.ir_token.specs.declared.token.Token.{Token}
use Rattle.ir_token.specs.Bytes.{Bytes}
use Rattle.ir_token.specs.Lists.{Reaches, AreTokens}
use Rattle.ir_token.proofs.Unique.{token_moves}

-- each token takes a byte
reaches_count : (b : Bytes) (ts : List Token) (at to : ℕ) → Reaches b at ts to → at + length ts ≤ to
reaches_count b [] at to h = omega (arith, h)
reaches_count b (t ∷ ts) at to h =
    let moves = token_moves b t.span.from t.kind t.span.to h.1 in
    let rest = reaches_count b ts t.span.to to h.3 in
    omega (arith, h.0, moves, rest)

-- a text has no more tokens than bytes
pub tokens_count : (b : Bytes) (ts : List Token) → AreTokens b ts → length ts ≤ length b
tokens_count b ts h = omega (arith, reaches_count b ts 0 (length b) h)
