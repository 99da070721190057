-- What the types of a tree are read with. A leaf that is no token of the list has no bytes and the offset 0.
use Rattle.std.specs.Prelude.{ℕ, Bool, true, false, List, [], drop, Option, None, Some, nat_eq, slice_get, slice_index, slice_range}
use Rattle.std.specs.Option.{unwrap_or}
use Rattle.indexmap.specs.IndexMap.{get}
use Rattle.ir_token.specs.declared.token.Token.{Token}
use Rattle.ir_literals.specs.Integers.{number_of, count_of}
use Rattle.ir_scopes.specs.declared.slot.Entry.{Entry}
use Rattle.ir_scopes.specs.declared.slot.Entry.TheVariants as entry
use Rattle.ir_type_names.specs.declared.source.Source.{Source}

-- the text and its tokens, and for each leaf what its name stands for among the types
pub record Reading : Type 0 where
  pub text : List ℕ
  pub toks : List Token
  pub entry : ℕ → Option Entry

abbrev pub reading : Source → Reading
reading src = record { text = src.text.now; toks = src.toks.now; entry = λ leaf. get nat_eq src.names.now (slice_index src.ids.now leaf) }

abbrev pub bytes_of : List ℕ → Option Token → List ℕ
bytes_of text None = []
bytes_of text (Some t) = slice_range text t.span.from t.span.to

-- the bytes of a leaf
abbrev pub leaf_text : Reading → ℕ → List ℕ
leaf_text r leaf = bytes_of r.text (slice_get r.toks leaf)

abbrev pub offset_in : Option Token → ℕ
offset_in None = 0
offset_in (Some t) = t.span.from

-- the offset of a leaf
abbrev pub offset_of : Reading → ℕ → ℕ
offset_of r leaf = offset_in (slice_get r.toks leaf)

-- the number of a type that is an entry of a table of names
abbrev pub number_in : Option Entry → Option ℕ
number_in (Some (entry.Type t)) = Some t.0
number_in _ = None

abbrev pub number_of_name : Reading → ℕ → Option ℕ
number_of_name r leaf = number_in (r.entry leaf)

-- the number of the type that a name stands for, and 0 where it stands for none
abbrev pub named : Reading → ℕ → ℕ
named r leaf = unwrap_or (number_of_name r leaf) 0

abbrev pub is_known : Option ℕ → Bool
is_known None = false
is_known (Some n) = true

-- whether a type has this name
abbrev pub is_named : Reading → ℕ → Bool
is_named r leaf = is_known (number_of_name r leaf)

-- the bits that `iN` writes
abbrev pub bits_of : Reading → ℕ → ℕ
bits_of r leaf = unwrap_or (number_of (drop 1 (leaf_text r leaf))) 0

-- the elements that an array's count writes
abbrev pub elements_of : Reading → ℕ → ℕ
elements_of r leaf = count_of (leaf_text r leaf)
