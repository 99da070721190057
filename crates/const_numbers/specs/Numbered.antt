-- Constants that are read with other numbers of types.
use Rattle.std.specs.Prelude.{ℕ, ◌<◌, List, length}
use Rattle.ir_types.specs.declared.ir_type.IrType.{IrType}
use Rattle.ir_type_equality.specs.Numbers.{IsLaidOut}
use Rattle.ir_consts.specs.Reading.{Reading}

-- no type of the table is nested too deep
abbrev pub AreLaidOut : List IrType → Type 0
AreLaidOut types = (t : ℕ) → t < length types → IsLaidOut types t

-- the same reading with these numbers
abbrev pub numbered : Reading → List ℕ → Reading
numbered r ns = record r { numbers = ns }
