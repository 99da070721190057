-- What the layers below refuse is told by its cause.
use Rattle.std.proofs.Common.{arith, ◌≡◌, ◌≤◌, ◌<◌, ℕ, List, length, Result, Ok, Err, sym, subst}
use Rattle.std.specs.Result.{IfErr, IsErrAnd}
use Rattle.attr_ids.specs.declared.insertion.Span.{Span}
use Rattle.ir_token.specs.declared.TheConstants.{MAX_BYTES, MAX_TOKENS}
use Rattle.ir_token.specs.declared.token.Token.{Token}
use Rattle.ir_token.specs.declared.token.LexRefusal.{LexRefusal}
use Rattle.ir_token.specs.declared.token.LexRefusal.TheVariants as lex
use Rattle.ir_token.specs.Lists.{AreTokens, Reads, BadAt, OpenAt, LeftAt}
use Rattle.ir_module.specs.declared.module.Module.{Module}
use Rattle.positions.specs.Order.{positions_of}
use Rattle.positions.specs.declared.positions.TheConstants.{WORD_LIMIT}
use Rattle.rule_terms.specs.System.{System}
use Rattle.dep_graph.specs.Graph.{edges_of}
use Rattle.accept.specs.declared.refusal.Limit.TheVariants as limit
use Rattle.accept.specs.declared.refusal.Refusal.{Refusal}
use Rattle.accept.specs.declared.refusal.Refusal.TheVariants as refusal
use Rattle.accept.specs.Accepted.{IsChecked}
use Rattle.accept.specs.Limits.{IsOfSize, HasEdges}
use Rattle.accept.specs.Causes.{IsCause}
use Rattle.accept.specs.Following.{told, IsOfGraph}

-- a refusal that is handed on as it is
pub handed : {T : Type 0} (r : Result T Refusal) (why : Refusal) (P : Refusal → Type 0) → IsErrAnd r (λ e. e ≡ why) → P why → IfErr r P
handed (Ok x) why P is p = tt
handed (Err e) why P is p = subst P (sym is) p

-- no list of tokens, or one that is too long
pub lexed_by : (b : List ℕ) (r : Result (List Token) LexRefusal) → length b ≤ MAX_BYTES →
    ((at : ℕ) → r ≡ Err (lex.BadByte at) → Reads b (BadAt at)) → ((at : ℕ) → r ≡ Err (lex.OpenString at) → Reads b (OpenAt at)) →
    ((word : Span) → r ≡ Err (lex.LeftOut word) → Reads b (LeftAt word.from word.to)) →
    ((count : ℕ) → r ≡ Err (lex.TooMany count) → (ts : List Token) × (AreTokens b ts × (length ts ≡ count) × (MAX_TOKENS < count))) →
    (why : LexRefusal) → r ≡ Err why → IsCause b (told why)
lexed_by b r small bad unclosed left many (lex.BadByte at) is = (small, bad at is)
lexed_by b r small bad unclosed left many (lex.OpenString at) is = (small, unclosed at is)
lexed_by b r small bad unclosed left many (lex.LeftOut word) is = (small, left word is)
lexed_by b r small bad unclosed left many (lex.TooMany count) is = let h = many count is in (h.0, small, h.1.0, sym h.1.1, h.1.2)
lexed_by b r small bad unclosed left many lex.NoMemory is = tt

-- too many edges
pub edges_by : (b : List ℕ) (m : Module) (s : System) → IsChecked b m → IsOfSize m → length (positions_of m) ≤ WORD_LIMIT →
    ((count : ℕ) → count ≡ edges_of s → HasEdges m count) → (why : Refusal) → IsOfGraph s why → IsCause b why
edges_by b m s checked size words has (refusal.Lex why) h = absurd h
edges_by b m s checked size words has (refusal.Syntax at) h = absurd h
edges_by b m s checked size words has (refusal.Name why) h = absurd h
edges_by b m s checked size words has (refusal.Verify fault) h = absurd h
edges_by b m s checked size words has (refusal.TooLarge limit.Bytes count) h = absurd h
edges_by b m s checked size words has (refusal.TooLarge limit.Tokens count) h = absurd h
edges_by b m s checked size words has (refusal.TooLarge limit.Nesting count) h = absurd h
edges_by b m s checked size words has (refusal.TooLarge limit.TypeNesting count) h = absurd h
edges_by b m s checked size words has (refusal.TooLarge limit.TypeBytes count) h = absurd h
edges_by b m s checked size words has (refusal.TooLarge limit.Functions count) h = absurd h
edges_by b m s checked size words has (refusal.TooLarge limit.Parameters count) h = absurd h
edges_by b m s checked size words has (refusal.TooLarge limit.Instructions count) h = absurd h
edges_by b m s checked size words has (refusal.TooLarge limit.Words count) h = absurd h
edges_by b m s checked size words has (refusal.TooLarge limit.Edges count) h = (m, checked, size, words, has count h.0, h.1)
edges_by b m s checked size words has refusal.NoMemory h = tt

-- what is not above a limit is within it
pub within : (n most : ℕ) → (most < n → ⊥) → n ≤ most
within n most never = grind (arith, never)
