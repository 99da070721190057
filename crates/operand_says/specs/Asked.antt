-- What is asked of operands, and what is spoken of.
use Rattle.std.specs.Prelude.{◌≡◌, ℕ, Bool, true, false, Option}
use Rattle.std.specs.Option.{option_map_or}
use Rattle.ir_module.specs.declared.op.Written.{Written}
use Rattle.ir_module.specs.declared.op.Operand.{Operand}
use Rattle.ir_module.specs.declared.op.Operand.TheVariants as operand
use Rattle.ir_module.specs.declared.op.Op.{Op}
use Rattle.ir_module.specs.declared.module.Module.{Module}
use Rattle.facts.specs.declared.pos.Pos.TheVariants as pos
use Rattle.facts.specs.Kinds.{ValueFact}
use Rattle.facts.specs.Facts.{Fact}
use Rattle.facts.specs.Known.{written_has, arg_has, OperandSpeaks, ArgSpeaks}
use Rattle.positions.specs.Numbering.{Numbered, IsListed}
use Rattle.rule_says.specs.Saying.{IsSet}

-- a table of a constant at what a bit says
abbrev pub table_has : (ValueFact → Bool) → Option ValueFact → Bool
table_has has o = option_map_or has o false

-- no fact is known
abbrev pub nothing : Fact → Bool
nothing x = false

-- the bit is known of the operand
abbrev pub AsksOperand : Module → Written → (Fact → Bool) → ℕ → Type 0
AsksOperand m w held bit = written_has m held w bit ≡ true

-- one of these bits of the value that the operand names
abbrev pub SpeaksOperand : Written → ℕ → Fact → Type 0
SpeaksOperand w bits y = (bit : ℕ) × IsSet bits bit × OperandSpeaks w bit y

-- the value that an operand names has a position
abbrev pub IsReadable : Numbered → Operand → Type 0
IsReadable ps (operand.Value v) = IsListed ps (pos.Value v)
IsReadable ps _ = Unit {0}

-- the bit is known of argument `at` of a call
abbrev pub AsksArgument : Module → Op → ℕ → (Fact → Bool) → ℕ → Type 0
AsksArgument m o at held bit = arg_has m held o at bit ≡ true

-- one of these bits of the value that the argument names
abbrev pub SpeaksArgument : Op → ℕ → ℕ → Fact → Type 0
SpeaksArgument o at bits y = (bit : ℕ) × IsSet bits bit × ArgSpeaks o at bit y

-- this bit is known of the operand, whatever is asked
abbrev pub AsksBit : Module → Written → ℕ → (Fact → Bool) → ℕ → Type 0
AsksBit m w of held bit = written_has m held w of ≡ true

abbrev pub SpeaksBit : Written → ℕ → Fact → Type 0
SpeaksBit w of y = OperandSpeaks w of y

-- the same of an argument
abbrev pub AsksGiven : Module → Op → ℕ → ℕ → (Fact → Bool) → ℕ → Type 0
AsksGiven m o at of held bit = arg_has m held o at of ≡ true

abbrev pub SpeaksGiven : Op → ℕ → ℕ → Fact → Type 0
SpeaksGiven o at of y = ArgSpeaks o at of y
