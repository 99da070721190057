-- The text of a list of insertions: a line for each, its offset in bytes, the letter of its place, its words.
use Rattle.std.specs.Prelude.{ℕ, List, ◌++◌, codes, decimal}
use Rattle.std.specs.List.{flat_map}
use Rattle.attr_ids.specs.declared.insertion.Insertion.{Insertion}
use Rattle.attr_ids.specs.declared.insertion.Place.{Place}
use Rattle.attr_ids.specs.declared.insertion.Place.TheVariants as place

-- the letter of a place
abbrev pub letter : Place → List ℕ
letter place.Function = codes "f"
letter place.Return = codes "r"
letter place.Parameter = codes "p"
letter place.Call = codes "c"
letter place.CallReturn = codes "v"
letter place.Argument = codes "a"

-- the line of an insertion
abbrev pub line : Insertion → List ℕ
line insertion = decimal insertion.at ++ codes " " ++ letter insertion.place ++ codes " " ++ insertion.words ++ codes "\n"

-- the lines, in their order
abbrev pub list_text : List Insertion → List ℕ
list_text insertions = flat_map line insertions
