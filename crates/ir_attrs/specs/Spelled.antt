-- How a list of accesses is written.
use Rattle.std.specs.Prelude.{List, [], ◌∷◌, ◌++◌}
use Rattle.ir_token.specs.Bytes.{Bytes}
use Rattle.ir_attrs.specs.declared.memory.Access.{Access}
use Rattle.ir_attrs.specs.Memory.{Mark}
use Rattle.ir_attrs.specs.Memory.Mark.{Comma, At, Permits}

-- marks behind a label, where there is one
abbrev pub behind_label : Bytes → List Mark → List Mark
behind_label [] ms = ms
behind_label (c ∷ label) ms = At (c ∷ label) ∷ ms

-- an access, behind the label of its location
abbrev pub spelled_one : Access → List Mark
spelled_one a = behind_label a.location (Permits a.access ∷ [])

-- one access or more, with commas between them
abbrev pub spelled : Access → List Access → List Mark
spelled a [] = spelled_one a
spelled a (x ∷ xs) = spelled_one a ++ Comma ∷ spelled x xs
