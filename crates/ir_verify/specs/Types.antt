-- Types that have no layout.
use Rattle.std.specs.Prelude.{◌≡◌, ◌<◌, ℕ, List, Err, length}
use Rattle.ir_types.specs.declared.ir_type.IrType.{IrType}
use Rattle.ir_types.specs.declared.refusal.TypeRefusal.{TypeRefusal}
use Rattle.ir_types.specs.TypeTable.{size}

-- some type of the table is refused for this cause
abbrev pub IsSomeRefused : List IrType → TypeRefusal → Type 0
IsSomeRefused types cause = (t : ℕ) × (t < length types) × (size types t ≡ Err cause)
