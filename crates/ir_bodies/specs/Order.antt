-- What instructions read, in the order of the text, and how their results are numbered.
use Rattle.std.specs.Prelude.{◌≡◌, ℕ, ◌+◌, ◌<◌, List, [], ◌∷◌, length, Option, None, Some}
use Rattle.std.specs.List.{flat_map}
use Rattle.attr_ids.specs.declared.ids.ValueId.{ValueId}
use Rattle.ir_tree.specs.declared.instructions.Instr.{Instr}
use Rattle.ir_tree.specs.declared.instructions.Instr.TheVariants as instr
use Rattle.ir_module.specs.declared.op.Instr as made
use Rattle.ir_module.specs.declared.op.Written.{Written}
use Rattle.ir_instrs.specs.Reading.{Reading, Parts}
use Rattle.ir_instrs.specs.Uses.{Use, behind_use}
use Rattle.ir_instrs.specs.Uses.Use.{Typed, Label}
use Rattle.ir_instrs.specs.Operands.{written}

-- the values among these uses, each read behind the parts of those before it
abbrev pub reads : Reading → Parts → List Use → List Written
reads r ps [] = []
reads r ps (Typed t v ∷ us) = written r ps t v ∷ reads r (behind_use r ps (Typed t v)) us
reads r ps (Label at ∷ us) = reads r ps us

-- a getelementptr has an operand at least, as the grammar has it
abbrev pub HasBase : Instr → Type 0
HasBase (instr.GetElementPtr word flags elem operands) = 0 < length operands
HasBase _ = Unit {0}

abbrev pub listed : Option ValueId → List ℕ
listed None = []
listed (Some v) = v.0 ∷ []

-- the numbers of the values that instructions give, in their order
abbrev pub results : List made.Instr → List ℕ
results is = flat_map (λ i. listed i.result) is

-- these numbers follow one another from the first on, up to the second
abbrev pub AreCounted : ℕ → ℕ → List ℕ → Type 0
AreCounted from to [] = from ≡ to
AreCounted from to (n ∷ ns) = (n ≡ from) × AreCounted (from + 1) to ns
