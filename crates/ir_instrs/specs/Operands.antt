-- Operands as they are written, and the blocks that labels name.
use Rattle.std.specs.Prelude.{ℕ, List, [], ◌∷◌, Option, None, Some}
use Rattle.attr_ids.specs.declared.ids.TypeId.{TypeId}
use Rattle.attr_ids.specs.declared.ids.BlockId.{BlockId}
use Rattle.ir_tree.specs.declared.values.Value.{Value}
use Rattle.ir_tree.specs.declared.values.Value.TheVariants as value
use Rattle.ir_tree.specs.declared.values.Tvalue.{Tvalue}
use Rattle.ir_tree.specs.declared.constants.Tconst.{Tconst}
use Rattle.ir_module.specs.declared.op.Operand.{Operand}
use Rattle.ir_module.specs.declared.op.Operand.TheVariants as operand
use Rattle.ir_module.specs.declared.op.Written.{Written}
use Rattle.ir_instrs.specs.Leaves.{leaf_from}
use Rattle.ir_scopes.specs.declared.slot.Entry.{Entry}
use Rattle.ir_scopes.specs.declared.slot.Entry.TheVariants as entry
use Rattle.ir_instrs.specs.Reading.{Reading, Parts}
use Rattle.ir_instrs.specs.Uses.{Use, entry_at}
use Rattle.ir_instrs.specs.Uses.Use.{Typed}

-- a value, by what its name stands for
abbrev pub as_value : Option Entry → Operand
as_value (Some (entry.Value v)) = operand.Value v
as_value _ = operand.Value (record { 0 = 0 })

-- a block, by what its name stands for
abbrev pub as_block : Option Entry → BlockId
as_block (Some (entry.Block b)) = b
as_block _ = record { 0 = 0 }

-- an operand with its written type and the offset of its first token
abbrev pub written : Reading → Parts → TypeId → Value → Written
written r ps t (value.Local at) = record { val = as_value (entry_at r at); ty = t; at = leaf_from r.toks at }
written r ps t (value.Const c) = (r.const c t ps).0

abbrev pub tvalue : Reading → Parts → Tvalue → Written
tvalue r ps x = written r ps (r.kind x.ty) x.value

abbrev pub tvalue_uses : Reading → Tvalue → List Use
tvalue_uses r x = Typed (r.kind x.ty) x.value ∷ []

abbrev pub tconst : Reading → Parts → Tconst → Written
tconst r ps x = written r ps (r.kind x.ty) (value.Const x.value)

abbrev pub tconst_uses : Reading → Tconst → List Use
tconst_uses r x = Typed (r.kind x.ty) (value.Const x.value) ∷ []

-- an operand that may be missing
abbrev pub optional : Reading → Parts → Option Tvalue → Option Written
optional r ps None = None
optional r ps (Some x) = Some (tvalue r ps x)

abbrev pub optional_uses : Reading → Option Tvalue → List Use
optional_uses r None = []
optional_uses r (Some x) = tvalue_uses r x

-- the block that a label names
abbrev pub label : Reading → ℕ → BlockId
label r at = as_block (entry_at r at)
