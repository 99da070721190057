-- What the code's words for data are in the machine's.
use Rattle.std.specs.Prelude.{◌≡◌, ℕ, ◌^◌, ◌<◌, Option, None, Some}
use Rattle.ir_types.specs.declared.ir_type.IrType.{IrType}
use Rattle.ir_types.specs.declared.ir_type.IrType.TheVariants as type
use Rattle.ir_ops.specs.Residue.{IsWidth}
use Rattle.ir_machine.specs.declared.choice.Datum.{Datum}
use Rattle.ir_machine.specs.declared.choice.Datum.TheVariants as datum
use Rattle.ir_machine.specs.Memory.{Memory}
use Rattle.ir_machine.specs.Reading.{Displacement}
use Rattle.machine_values.specs.declared.address.Way.{Way}

-- an integer is below 2 to the width
abbrev pub FitsWidth : ℕ → Datum → Type 0
FitsWidth width (datum.Int bits) = bits < 2 ^ width
FitsWidth width _ = Unit {0}

-- an integer type has a width that one may have
abbrev pub IsWidthOf : Option IrType → Type 0
IsWidthOf (Some (type.Int width)) = IsWidth width
IsWidthOf _ = Unit {0}

-- how far a getelementptr leads
abbrev pub displacement : Way → Displacement
displacement way = record { bytes = way.bytes; forward = way.forward; inbounds = way.inbounds; wrap = way.wrap }

-- the block to which it points has this size
abbrev pub HasSize : Memory → Datum → ℕ → Type 0
HasSize mem (datum.Ptr block offset) size = (mem.shape block).size ≡ size
HasSize mem _ size = Unit {0}
