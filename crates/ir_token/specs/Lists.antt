-- The token list of a text, and what a text is read as: its list, or the first place at which it is refused.
use Rattle.std.specs.Prelude.{◌≡◌, ℕ, ◌<◌, ◌≤◌, List, [], ◌∷◌, length, Result, Ok, Err}
use Rattle.ir_token.specs.declared.token.Kind.{Kind}
use Rattle.ir_token.specs.declared.token.Token.{Token}
use Rattle.ir_token.specs.declared.token.LexRefusal.{LexRefusal}
use Rattle.ir_token.specs.declared.token.LexRefusal.TheVariants.{BadByte, OpenString, LeftOut, TooMany, NoMemory}
use Rattle.ir_token.specs.declared.TheConstants.{MAX_TOKENS}
use Rattle.ir_token.specs.Bytes.{Bytes}
use Rattle.ir_token.specs.Texts.{IsToken, IsOpen, IsBad}
use Rattle.ir_token.specs.LeftOut.{past_gap, IsLeft}

-- these tokens stand from `at` on, each behind blanks and comments alone and none of them left out; `to` is the first place behind
-- them that is in no blank and no comment
abbrev pub Reaches : Bytes → ℕ → List Token → ℕ → Type 0
Reaches b at [] to = to ≡ past_gap b at
Reaches b at (t ∷ ts) to = (t.span.from ≡ past_gap b at) × IsToken b t.span.from t.kind t.span.to × (IsLeft b t.span.from t.kind t.span.to → ⊥) ×
    Reaches b t.span.to ts to

-- the tokens of the whole text
abbrev pub AreTokens : Bytes → List Token → Type 0
AreTokens b ts = Reaches b 0 ts (length b)

-- the token has a byte, and ends in the text
abbrev pub IsWithin : Bytes → Token → Type 0
IsWithin b t = (t.span.from < t.span.to) × (t.span.to ≤ length b)

-- every byte before `at` is in a token that is not left out, in a blank or in a comment, and the next token would begin at `at`
abbrev pub IsReached : Bytes → ℕ → Type 0
IsReached b at = (ts : List Token) × Reaches b 0 ts at

-- what a text is read as
pub data Reading : Type 0 where
  Listed : (ts : List Token) → Reading
  BadAt : (at : ℕ) → Reading
  OpenAt : (at : ℕ) → Reading
  LeftAt : (at : ℕ) (to : ℕ) → Reading

abbrev pub Reads : Bytes → Reading → Type 0
Reads b (Listed ts) = AreTokens b ts
Reads b (BadAt at) = IsReached b at × IsBad b at
Reads b (OpenAt at) = IsReached b at × IsOpen b at
Reads b (LeftAt at to) = IsReached b at × ((k : Kind) × (IsToken b at k to × IsLeft b at k to))

-- the answer that tells a reading
abbrev pub Tells : Result (List Token) LexRefusal → Reading → Type 0
Tells (Ok us) (Listed ts) = (us ≡ ts) × (length ts ≤ MAX_TOKENS)
Tells (Err (TooMany count)) (Listed ts) = (count ≡ length ts) × (MAX_TOKENS < count)
Tells (Err (BadByte at)) (BadAt i) = at ≡ i
Tells (Err (OpenString at)) (OpenAt i) = at ≡ i
Tells (Err (LeftOut word)) (LeftAt i e) = (word.from ≡ i) × (word.to ≡ e)
Tells (Err NoMemory) x = Unit {0}
Tells (Ok us) x = ⊥
Tells (Err refusal) x = ⊥
