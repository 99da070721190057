-- The line that says why a text is refused.
use Rattle.std.specs.Prelude.{◌≡◌, ◌+◌, ◌==◌, ℕ, if◌then◌else◌, List, [], ◌++◌, take, slice_get, slice_range, count_by, codes, decimal}
use Rattle.std.specs.Option.{option_map_or}
use Rattle.std.specs.List.{flat_map}
use Rattle.attr_ids.specs.declared.ids.BlockId.{BlockId}
use Rattle.attr_ids.specs.declared.insertion.Span.{Span}
use Rattle.ir_token.specs.declared.token.LexRefusal.{LexRefusal}
use Rattle.ir_token.specs.declared.token.LexRefusal.TheVariants as lex
use Rattle.ir_module.specs.declared.module.Block.{Block}
use Rattle.ir_module.specs.declared.module.Module.{Module}
use Rattle.ir_resolve.specs.declared.refusal.NameRefusal.{NameRefusal}
use Rattle.ir_resolve.specs.declared.refusal.NameRefusal.TheVariants as name
use Rattle.ir_verify.specs.declared.verify_module.Fault.{Fault}
use Rattle.ir_verify.specs.declared.verify_module.Fault.TheVariants as verify
use Rattle.accept.specs.declared.refusal.Limit.{Limit}
use Rattle.accept.specs.declared.refusal.Limit.TheVariants as limit
use Rattle.accept.specs.declared.refusal.Refusal.{Refusal}
use Rattle.accept.specs.declared.refusal.Refusal.TheVariants as refusal
use Rattle.accept.specs.Accepted.{IsModuleOf}

-- ---- places

-- the number of the line in which an offset stands: one more than the line feeds before it
abbrev pub line_number : List ℕ → ℕ → ℕ
line_number b at = count_by (λ byte. byte == 10) (take at b) + 1

-- an offset and its line
abbrev pub place_words : List ℕ → ℕ → List ℕ
place_words b at = codes " at byte " ++ decimal at ++ codes ", line " ++ decimal (line_number b at)

-- a cause that stands at an offset
abbrev pub place_line : List ℕ → List ℕ → ℕ → List ℕ
place_line b cause at = codes "attrib: " ++ cause ++ place_words b at ++ codes "\n"

-- a cause that is of a token, with its text
abbrev pub token_line : List ℕ → List ℕ → Span → List ℕ
token_line b cause span = place_line b (cause ++ codes ": " ++ slice_range b span.from span.to) span.from

-- ---- causes

abbrev pub IsLexLine : List ℕ → LexRefusal → List ℕ → Type 0
IsLexLine b (lex.BadByte at) line = line ≡ place_line b (codes "bad byte") at
IsLexLine b (lex.OpenString at) line = line ≡ place_line b (codes "open string") at
IsLexLine b (lex.LeftOut word) line = line ≡ token_line b (codes "left out") word
IsLexLine b _ line = ⊥

abbrev pub IsNameLine : List ℕ → NameRefusal → List ℕ → Type 0
IsNameLine b (name.Unknown word) line = line ≡ token_line b (codes "unknown name") word
IsNameLine b (name.Twice word) line = line ≡ token_line b (codes "name twice") word
IsNameLine b (name.Layout at) line = line ≡ place_line b (codes "layout") at
IsNameLine b name.NoMemory line = ⊥

-- a block of a path: the text of its label, or its number
abbrev pub block_words : Module → BlockId → List ℕ
block_words m k = codes " %" ++ option_map_or (λ (block : Block). block.name) (slice_get m.blocks k.0) []

-- the path of V18, from the first block on
abbrev pub path_words : Module → List BlockId → List ℕ
path_words m path = codes ", path" ++ flat_map (block_words m) path

-- a rule of the verifier; V18 alone has a path
abbrev pub rule_line : List ℕ → Module → ℕ → ℕ → List BlockId → List ℕ
rule_line b m rule at path = codes "attrib: rule V" ++ decimal rule ++ place_words b at ++ (if rule == 18 then path_words m path else []) ++ codes "\n"

abbrev pub IsVerifyLine : List ℕ → Fault → List ℕ → Type 0
IsVerifyLine b (verify.Rule rule at path) line = (m : Module) × IsModuleOf b m × (line ≡ rule_line b m rule at path)
IsVerifyLine b _ line = ⊥

-- ---- limits

abbrev pub limit_name : Limit → List ℕ
limit_name limit.Bytes = codes "Bytes"
limit_name limit.Tokens = codes "Tokens"
limit_name limit.Nesting = codes "Nesting"
limit_name limit.TypeNesting = codes "TypeNesting"
limit_name limit.TypeBytes = codes "TypeBytes"
limit_name limit.Functions = codes "Functions"
limit_name limit.Parameters = codes "Parameters"
limit_name limit.Instructions = codes "Instructions"
limit_name limit.Words = codes "Words"
limit_name limit.Edges = codes "Edges"

abbrev pub limit_line : Limit → ℕ → List ℕ
limit_line which count = codes "attrib: too large: " ++ limit_name which ++ codes " " ++ decimal count ++ codes "\n"

-- ---- the line of a refusal of the text b; want of memory has no line here
abbrev pub IsLine : List ℕ → Refusal → List ℕ → Type 0
IsLine b (refusal.Lex why) line = IsLexLine b why line
IsLine b (refusal.Syntax at) line = line ≡ place_line b (codes "syntax") at
IsLine b (refusal.Name why) line = IsNameLine b why line
IsLine b (refusal.Verify fault) line = IsVerifyLine b fault line
IsLine b (refusal.TooLarge which count) line = line ≡ limit_line which count
IsLine b refusal.NoMemory line = ⊥
