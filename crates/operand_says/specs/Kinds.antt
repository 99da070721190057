-- What a bit says of a pointer, as code tells it.
use Rattle.std.specs.Prelude.{Option, Some}
use Rattle.facts.specs.Kinds.{BlockClass, OwnAlloca, Argument, Global, Unknown, ValueFact, NonNull, AlignedTo, HasBytes, NotTo}
use Rattle.operand_says.specs.declared.kinds.Class.{Class}
use Rattle.operand_says.specs.declared.kinds.Class.TheVariants as class
use Rattle.operand_says.specs.declared.kinds.Kind.{Kind}
use Rattle.operand_says.specs.declared.kinds.Kind.TheVariants as kind

abbrev pub class_of : BlockClass → Class
class_of OwnAlloca = class.OwnAlloca
class_of Argument = class.Argument
class_of Global = class.Global
class_of Unknown = class.Unknown

-- that it is the same as a parameter, and what its uses are, no table of constants knows
abbrev pub kind_of : Option ValueFact → Kind
kind_of (Some NonNull) = kind.NonNull
kind_of (Some (AlignedTo bytes)) = kind.Aligned bytes
kind_of (Some (HasBytes count)) = kind.Bytes count
kind_of (Some (NotTo c)) = kind.NotTo (class_of c)
kind_of _ = kind.Other
