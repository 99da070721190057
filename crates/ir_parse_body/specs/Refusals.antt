-- Why a body is refused.
use Rattle.std.specs.Prelude.{◌≡◌, ℕ, List, Option, None, Some, length, slice_get}
use Rattle.ir_token.specs.Bytes.{Bytes}
use Rattle.ir_token.specs.declared.token.Token.{Token}
use Rattle.ir_tree.specs.Steps.{Longest}
use Rattle.ir_tree.specs.Terminals.{terminals}
use Rattle.ir_tree.specs.Blocks.{body}
use Rattle.ir_parse_body.specs.declared.refusal.SyntaxRefusal.{SyntaxRefusal}
use Rattle.ir_parse_body.specs.declared.refusal.SyntaxRefusal.TheVariants.{Syntax, NoMemory}

-- where a token begins, and behind the last one where the text ends
abbrev pub begin : Bytes → Option Token → ℕ
begin b (Some t) = t.span.from
begin b None = length b

-- where the token of this number begins, and behind the last token where the text ends
abbrev pub offset : Bytes → List Token → ℕ → ℕ
offset b ts at = begin b (slice_get ts at)

-- no body fits from this token, which begins at the byte that is named
abbrev pub IsReason : Bytes → List Token → ℕ → SyntaxRefusal → Type 0
IsReason b ts at (Syntax byte) = Longest (body (terminals b ts)) at None × (byte ≡ offset b ts at)
IsReason b ts at NoMemory = Unit {0}
