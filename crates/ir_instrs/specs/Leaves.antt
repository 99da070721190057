-- The text and the place of a leaf. A leaf that is no token of the list has no bytes and the offset 0.
use Rattle.std.specs.Prelude.{ℕ, List, [], slice_get, slice_range, Option, None, Some}
use Rattle.ir_token.specs.declared.token.Token.{Token}

abbrev pub text_in : List ℕ → Option Token → List ℕ
text_in b None = []
text_in b (Some t) = slice_range b t.span.from t.span.to

-- the bytes of a leaf
abbrev pub leaf_text : List ℕ → List Token → ℕ → List ℕ
leaf_text b toks leaf = text_in b (slice_get toks leaf)

abbrev pub from_in : Option Token → ℕ
from_in None = 0
from_in (Some t) = t.span.from

-- the offset of a leaf
abbrev pub leaf_from : List Token → ℕ → ℕ
leaf_from toks leaf = from_in (slice_get toks leaf)
