-- Leaves that are words and names.
use Rattle.std.specs.Prelude.{ℕ, List, [], map, Option, None, Some, slice_get, if◌then◌else◌}
use Rattle.attr_ids.specs.declared.insertion.Span.{Span}
use Rattle.ir_token.specs.declared.token.Token.{Token}
use Rattle.ir_token.specs.Names.{has_name, name_at}
use Rattle.ir_names.specs.Ids.{name_text}
use Rattle.ir_module.specs.declared.module.Linkage.{Linkage}
use Rattle.ir_module.specs.declared.module.Linkage.TheVariants as linkage
use Rattle.ir_attrs.specs.Leaves.{leaf_text, leaf_from, leaf_to}
use Rattle.ir_instrs.specs.Words.{found}
use Rattle.ir_headers.specs.declared.linkage.TheConstants.{LINKAGE_WORDS}

-- the linkage that a word writes; `external` is the one that the table lacks
abbrev pub linkage_of_word : List ℕ → Linkage
linkage_of_word w = found linkage.External (map (λ x. (x.0.now, x.1)) LINKAGE_WORDS.now) w

-- the linkage that a header writes, if it does
abbrev pub linkage_of : List ℕ → List Token → Option ℕ → Linkage
linkage_of b toks None = linkage.Plain
linkage_of b toks (Some at) = linkage_of_word (leaf_text b toks at)

-- the bytes of a name, strings read, and of a number its digits without zeros in front
abbrev pub name_in : List ℕ → Option Token → List ℕ
name_in b None = []
name_in b (Some t) = if has_name t.kind then name_text (name_at b t.kind t.span.from t.span.to) else []

abbrev pub name_of : List ℕ → List Token → ℕ → List ℕ
name_of b toks at = name_in b (slice_get toks at)

abbrev pub span_of : List Token → ℕ → Span
span_of toks at = record { from = leaf_from toks at; to = leaf_to toks at }
