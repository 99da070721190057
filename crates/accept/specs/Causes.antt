-- Why a text is refused. Each cause asks that those before it do not hold.
use Rattle.std.specs.Prelude.{◌≡◌, ◌<◌, ◌≤◌, ℕ, List, length}
use Rattle.ir_token.specs.declared.TheConstants.{MAX_BYTES, MAX_TOKENS}
use Rattle.ir_token.specs.declared.token.Token.{Token}
use Rattle.ir_token.specs.declared.token.LexRefusal.{LexRefusal}
use Rattle.ir_token.specs.declared.token.LexRefusal.TheVariants as lex
use Rattle.ir_token.specs.Lists.{AreTokens, Reads, BadAt, OpenAt, LeftAt}
use Rattle.ir_token.specs.Nesting.{nesting_of}
use Rattle.ir_tree.specs.declared.entities.Tree.{Tree}
use Rattle.ir_parse_top.specs.Refusals.{StopsAt}
use Rattle.ir_module.specs.declared.module.Module.{Module}
use Rattle.ir_module.specs.WellFormed.{IsWellFormed}
use Rattle.ir_scopes.specs.declared.faults.Cause.{Cause}
use Rattle.ir_scopes.specs.declared.faults.Cause.TheVariants as cause
use Rattle.ir_resolve.specs.declared.refusal.NameRefusal.{NameRefusal}
use Rattle.ir_resolve.specs.declared.refusal.NameRefusal.TheVariants as name
use Rattle.ir_resolve.specs.Modules.{IsFirstFault, fault, span_at, offset_at}
use Rattle.ir_verify.specs.declared.verify_module.Fault.{Fault}
use Rattle.ir_verify.specs.declared.verify_module.Fault.TheVariants as verify
use Rattle.ir_verify.specs.Verified.{IsFault}
use Rattle.positions.specs.Order.{positions_of}
use Rattle.positions.specs.declared.positions.TheConstants.{WORD_LIMIT}
use Rattle.dep_graph.specs.declared.invert.TheConstants.{EDGE_LIMIT}
use Rattle.accept.specs.declared.refusal.TheConstants.{NESTING_LIMIT, FUNCTION_LIMIT, PARAMETER_LIMIT, INSTRUCTION_LIMIT}
use Rattle.accept.specs.declared.refusal.Limit.{Limit}
use Rattle.accept.specs.declared.refusal.Limit.TheVariants as limit
use Rattle.accept.specs.declared.refusal.Refusal.{Refusal}
use Rattle.accept.specs.declared.refusal.Refusal.TheVariants as refusal
use Rattle.accept.specs.Limits.{IsGreatestArity, instruction_count, HasEdges, IsOfSize}
use Rattle.accept.specs.Accepted.{AreFewTokens, IsRead, IsParsed, IsModuleOf, IsChecked}

-- ---- tokens and names

-- the text has no list of tokens
abbrev pub IsLexed : List ℕ → LexRefusal → Type 0
IsLexed b (lex.BadByte at) = Reads b (BadAt at)
IsLexed b (lex.OpenString at) = Reads b (OpenAt at)
IsLexed b (lex.LeftOut word) = Reads b (LeftAt word.from word.to)
IsLexed b _ = ⊥

-- the first fault among the names of the tree is of this cause, at a token
abbrev pub IsFaultAt : List ℕ → List Token → Tree → Cause → ℕ → Type 0
IsFaultAt b toks tree why at = IsFirstFault b toks tree (fault why at)

-- the tree has no module
abbrev pub IsMisnamed : List ℕ → List Token → Tree → NameRefusal → Type 0
IsMisnamed b toks tree (name.Unknown span) = (at : ℕ) × IsFaultAt b toks tree cause.Unknown at × (span ≡ span_at toks at)
IsMisnamed b toks tree (name.Twice span) = (at : ℕ) × IsFaultAt b toks tree cause.Twice at × (span ≡ span_at toks at)
IsMisnamed b toks tree (name.Layout offset) = (at : ℕ) × IsFaultAt b toks tree cause.Layout at × (offset ≡ offset_at toks at)
IsMisnamed b toks tree name.NoMemory = ⊥

-- ---- limits

-- this is the fault of the module of the text, which is well formed
abbrev pub HasFault : List ℕ → Fault → Type 0
HasFault b f = (m : Module) × IsModuleOf b m × IsWellFormed m × IsFault m f

-- there is so much of it
abbrev pub IsTooMuch : List ℕ → Limit → ℕ → Type 0
IsTooMuch b limit.Bytes count = (count ≡ length b) × (MAX_BYTES < count)
IsTooMuch b limit.Tokens count = (toks : List Token) × (length b ≤ MAX_BYTES) × AreTokens b toks × (count ≡ length toks) × (MAX_TOKENS < count)
IsTooMuch b limit.Nesting count = (toks : List Token) × AreFewTokens b toks × (count ≡ nesting_of b toks) × (NESTING_LIMIT < count)
IsTooMuch b limit.TypeNesting count = HasFault b (verify.Deep count)
IsTooMuch b limit.TypeBytes count = HasFault b (verify.Huge count)
IsTooMuch b limit.Functions count = (m : Module) × IsChecked b m × (count ≡ length m.funcs) × (FUNCTION_LIMIT < count)
IsTooMuch b limit.Parameters count = (m : Module) × IsChecked b m × (length m.funcs ≤ FUNCTION_LIMIT) × IsGreatestArity m count × (PARAMETER_LIMIT < count)
IsTooMuch b limit.Instructions count = (m : Module) × IsChecked b m × (length m.funcs ≤ FUNCTION_LIMIT)
    × ((n : ℕ) × IsGreatestArity m n × (n ≤ PARAMETER_LIMIT)) × (count ≡ instruction_count m) × (INSTRUCTION_LIMIT < count)
IsTooMuch b limit.Words count = (m : Module) × IsChecked b m × IsOfSize m × (count ≡ length (positions_of m)) × (WORD_LIMIT < count)
IsTooMuch b limit.Edges count = (m : Module) × IsChecked b m × IsOfSize m × (length (positions_of m) ≤ WORD_LIMIT) × HasEdges m count × (EDGE_LIMIT < count)

-- ---- the causes, in their order

-- a rule of the verifier fails
abbrev pub IsBroken : List ℕ → Fault → Type 0
IsBroken b (verify.Rule rule at path) = HasFault b (verify.Rule rule at path)
IsBroken b _ = ⊥

abbrev pub IsCause : List ℕ → Refusal → Type 0
IsCause b (refusal.Lex why) = (length b ≤ MAX_BYTES) × IsLexed b why
IsCause b (refusal.Syntax at) = (toks : List Token) × IsRead b toks × StopsAt b toks at
IsCause b (refusal.Name why) = (toks : List Token) × (tree : Tree) × IsParsed b toks tree × IsMisnamed b toks tree why
IsCause b (refusal.Verify fault) = IsBroken b fault
IsCause b (refusal.TooLarge which count) = IsTooMuch b which count
IsCause b refusal.NoMemory = Unit {0}
