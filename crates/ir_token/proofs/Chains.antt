-- The tokens that are read so far, and one more.
use Rattle.std.proofs.Common.{◌≡◌, ℕ, ◌+◌, ◌<◌, ◌≤◌, List, [], ◌∷◌, ◌++◌, length, refl, sym, ap, ◌∙◌, arith, length-append}
use Rattle.ir_token.specs.declared.token.Kind.{Kind}
use Rattle.ir_token.specs.declared.token.Token.{Token}
use Rattle.ir_token.specs.Bytes.{Bytes, is_label}
use Rattle.ir_token.specs.Texts.{IsToken}
use Rattle.ir_token.specs.LeftOut.{past_gap, IsLeft}
use Rattle.ir_token.specs.Ends.{past}
use Rattle.ir_token.specs.Lists.{Reaches, IsWithin}
use Rattle.std.specs.List.{All}
use Rattle.std.proofs.lemmas.List.Elements.{All-nil, All-cons}
use Rattle.ir_token.proofs.Unique.{token_moves}
use Rattle.ir_token.proofs.Past.{past_later}

-- the tokens up to a place, how many there are, and the list of them where that is no more than the limit
pub record IsScanned (limit : ℕ) (b : Bytes) (items : List Token) (count at : ℕ) : Type 0 where
  pub tokens : List Token
  pub chain : Reaches b 0 tokens at
  pub counted : length tokens ≡ count
  pub kept : count ≤ limit → items ≡ tokens

abbrev pub make : Kind → ℕ → ℕ → Token
make k i e = record { kind = k; span = record { from = i; to = e } }

pub reaches_push : (b : Bytes) (ts : List Token) (from at : ℕ) (k : Kind) (e : ℕ) → Reaches b from ts at → IsToken b at k e → (IsLeft b at k e → ⊥)
    → Reaches b from (ts ++ make k at e ∷ []) (past_gap b e)
reaches_push b [] from at k e reach token kept = (reach, token, kept, refl)
reaches_push b (t ∷ ts) from at k e reach token kept = (reach.0, reach.1, reach.2, reaches_push b ts t.span.to at k e reach.3 token kept)

pub scanned_none : (limit : ℕ) (b : Bytes) (at : ℕ) → at ≡ past_gap b 0 → IsScanned limit b [] 0 at
scanned_none limit b at start = record { tokens = []; chain = start; counted = refl; kept = λ _. refl }

-- one more token, which is kept where there is room
pub scanned_kept : (limit : ℕ) (b : Bytes) (items : List Token) (count at : ℕ) (k : Kind) (e : ℕ) → IsScanned limit b items count at → IsToken b at k e
    → (IsLeft b at k e → ⊥)
    → IsScanned limit b (items ++ make k at e ∷ []) (count + 1) (past_gap b e)
scanned_kept limit b items count at k e h token kept = record {
  tokens = h.tokens ++ make k at e ∷ [];
  chain = reaches_push b h.tokens 0 at k e h.chain token kept;
  counted = length-append h.tokens (make k at e ∷ []) ∙ ap (λ n. n + 1) h.counted;
  kept = λ small. ap (λ xs. xs ++ make k at e ∷ []) (h.kept (omega arith));
}

pub scanned_counted : (limit : ℕ) (b : Bytes) (items : List Token) (count at : ℕ) (k : Kind) (e : ℕ) → limit ≤ count → IsScanned limit b items count at
    → IsToken b at k e → (IsLeft b at k e → ⊥)
    → IsScanned limit b items (count + 1) (past_gap b e)
scanned_counted limit b items count at k e full h token kept = record {
  tokens = h.tokens ++ make k at e ∷ [];
  chain = reaches_push b h.tokens 0 at k e h.chain token kept;
  counted = length-append h.tokens (make k at e ∷ []) ∙ ap (λ n. n + 1) h.counted;
  kept = λ small. absurd (omega arith);
}

-- the run of label bytes at a place is that of each later place within it
pub run_stays : (b : Bytes) (at later run : ℕ) → at ≤ later → run ≡ past is_label b at → run ≤ length b → later < run → past is_label b later ≡ run
run_stays b at later run from is within inside = past_later is_label b at later from (omega arith) (omega arith) ∙ sym is

-- each token is a stretch of the text that is not empty
pub spans_within : (b : Bytes) (ts : List Token) (at to : ℕ) → Reaches b at ts to → All (IsWithin b) ts
spans_within b [] at to h = All-nil (IsWithin b)
spans_within b (t ∷ ts) at to h = All-cons (IsWithin b) t ts (token_moves b t.span.from t.kind t.span.to h.1, h.1.longest.within)
    (spans_within b ts t.span.to to h.3)
