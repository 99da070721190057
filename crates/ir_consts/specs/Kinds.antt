-- The numbers of written types.
use Rattle.attr_ids.specs.declared.ids.TypeId.{TypeId}
use Rattle.ir_tree.specs.declared.types.Ty.{Ty}
use Rattle.ir_type_names.specs.declared.table.TypeIds.{TypeIds}
use Rattle.ir_type_names.specs.Numbers.{type_id}
use Rattle.ir_type_names.specs.Tables.{table}

-- the number that a table of types has for a type
abbrev pub kind_of : TypeIds → Ty → TypeId
kind_of ids t = record { 0 = type_id (table ids) t }
