-- The text of a certificate: a line for each entry, with its number from 1, its position and its bits, and a line with their count.
use Rattle.std.specs.Prelude.{ℕ, List, [], ◌++◌, length, slice_get, slice_range, codes, decimal, Option, None, Some}
use Rattle.std.specs.List.{flat_map, enumerate_from}
use Rattle.attr_ids.specs.declared.ids.FuncId.{FuncId}
use Rattle.ir_module.specs.declared.module.Func.{Func}
use Rattle.ir_module.specs.declared.module.Module.{Module}
use Rattle.facts.specs.declared.pos.Pos.{Pos}
use Rattle.facts.specs.declared.pos.Pos.TheVariants as pos
use Rattle.why_check.specs.declared.entry.Entry.{Entry}

-- the name's token in the header of a function, as it stands in the text b
abbrev pub token_of : List ℕ → Option Func → List ℕ
token_of b None = []
token_of b (Some func) = slice_range b func.token.from func.token.to

-- that of function f
abbrev pub name_of : List ℕ → Module → FuncId → List ℕ
name_of b m f = token_of b (slice_get m.funcs f.0)

-- a position: the word of its kind, and what it names
abbrev pub position : List ℕ → Module → Pos → List ℕ
position b m (pos.Segment k) = codes "seg " ++ decimal k.0
position b m (pos.Function f) = codes "fun " ++ name_of b m f
position b m (pos.Value v) = codes "val " ++ decimal v.0
position b m (pos.Entry f at) = codes "ent " ++ name_of b m f ++ codes " " ++ decimal at
position b m (pos.Return f) = codes "ret " ++ name_of b m f
position b m (pos.Reach row k) = codes "reach " ++ decimal row ++ codes " " ++ decimal k
position b m (pos.Effect k) = codes "eff " ++ decimal k.0

-- the position of a number, if there is one
abbrev pub position_at : List ℕ → Module → Option Pos → List ℕ
position_at b m None = []
position_at b m (Some p) = position b m p

-- the line of an entry with its number, where the positions are these
abbrev pub line : List ℕ → Module → List Pos → ℕ × Entry → List ℕ
line b m list numbered = decimal numbered.0 ++ codes " " ++ position_at b m (slice_get list numbered.1.p.0) ++ codes " "
    ++ decimal numbered.1.bits ++ codes "\n"

-- the line behind so many entries
abbrev pub last_line : ℕ → List ℕ
last_line count = codes "checked " ++ decimal count ++ codes "\n"

-- the lines, in their order
abbrev pub certificate_text : List ℕ → Module → List Pos → List Entry → List ℕ
certificate_text b m list entries = flat_map (line b m list) (enumerate_from 1 entries) ++ last_line (length entries)
