-- The text of a leaf. A leaf that is no token of the list has no bytes.
use Rattle.std.specs.Prelude.{ℕ, List, [], slice_get, slice_range, Option, None, Some}
use Rattle.ir_token.specs.Bytes.{Bytes}
use Rattle.ir_token.specs.declared.token.Token.{Token}

abbrev pub text_of : Bytes → Option Token → Bytes
text_of b None = []
text_of b (Some t) = slice_range b t.span.from t.span.to

-- the bytes of a leaf
abbrev pub leaf_text : Bytes → List Token → ℕ → Bytes
leaf_text b toks leaf = text_of b (slice_get toks leaf)

abbrev pub from_of : Option Token → ℕ
from_of None = 0
from_of (Some t) = t.span.from

abbrev pub to_of : Option Token → ℕ
to_of None = 0
to_of (Some t) = t.span.to

-- the offset of a leaf, and the offset behind it
abbrev pub leaf_from : List Token → ℕ → ℕ
leaf_from toks leaf = from_of (slice_get toks leaf)

abbrev pub leaf_to : List Token → ℕ → ℕ
leaf_to toks leaf = to_of (slice_get toks leaf)
