-- Which positions a term names.
use Rattle.std.specs.Prelude.{ℕ, ◌==◌, Bool, true, if◌then◌else◌, ◌&&◌, nat_lt, List, [], ◌∷◌, ◌++◌, fold}
use Rattle.std.specs.List.{list_any}
use Rattle.attr_ids.specs.declared.ids.PosId.{PosId}
use Rattle.rule_terms.specs.declared.term.NewTerm.{NewTerm}
use Rattle.rule_terms.specs.declared.term.NewTerm.TheOpen.{NewTerm-F}
use Rattle.rule_terms.specs.declared.term.NewTerm.TheOpen.NewTerm-F.{Const, Word, And, Or, Unless, Shift, KeepAlign, Spread}
use Rattle.rule_terms.specs.declared.term.NewTerm.TheFolds.{fold-NewTerm}

-- the positions that a term names, as often as it names them, from left to right
abbrev pub layer_names : NewTerm-F (List PosId) → List PosId
layer_names (Const bits) = []
layer_names (Word p) = p ∷ []
layer_names (And left right) = left ++ right
layer_names (Or left right) = left ++ right
layer_names (Unless input bit then') = input ∷ then'
layer_names (Shift bytes of) = of
layer_names (KeepAlign step of) = of
layer_names (Spread bit to of) = of

abbrev pub names_of : NewTerm → List PosId
names_of = fold-NewTerm (List PosId) layer_names

-- whether the list has this position
abbrev pub has_name : List PosId → PosId → Bool
has_name names p = list_any (λ q. p.0 == q.0) names

-- the list with this position at its end, unless it stands there already
abbrev pub with_name : List PosId → PosId → List PosId
with_name names p = if has_name names p then names else names ++ p ∷ []

-- each position of the second list once, in the order in which it first comes, behind the first list
abbrev pub with_names : List PosId → List PosId → List PosId
with_names names more = fold with_name names more

-- a term over so many positions: each that it names is one of them, and each bit that it tests is a bit of a word
abbrev pub is_layer_over : ℕ → NewTerm-F Bool → Bool
is_layer_over count (Const bits) = true
is_layer_over count (Word p) = nat_lt p.0 count
is_layer_over count (And left right) = left && right
is_layer_over count (Or left right) = left && right
is_layer_over count (Unless input bit then') = nat_lt input.0 count && nat_lt bit 64 && then'
is_layer_over count (Shift bytes of) = of
is_layer_over count (KeepAlign step of) = of
is_layer_over count (Spread bit to of) = nat_lt bit 64 && of

abbrev pub is_over : ℕ → NewTerm → Bool
is_over count = fold-NewTerm Bool (is_layer_over count)
