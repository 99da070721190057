-- The names in a constant that stand for no function and no global.
use Rattle.std.specs.Prelude.{Bool, true, false, List, [], ◌++◌, Option, Some}
use Rattle.std.specs.List.{flat_map}
use Rattle.ir_tree.specs.declared.constants.Const.{Const}
use Rattle.ir_tree.specs.declared.constants.Tconst.{Tconst}
use Rattle.ir_tree.specs.declared.constants.Const.TheOpen.{Const-F, Tconst-F}
use Rattle.ir_tree.specs.declared.constants.Const.TheOpen.Const-F.{Global, Array, Struct, Packed, GetElementPtr, Cast, Binop}
use Rattle.ir_tree.specs.declared.constants.Const.TheFolds.{fold-Const}
use Rattle.ir_scopes.specs.declared.slot.Entry.{Entry}
use Rattle.ir_scopes.specs.declared.slot.Entry.TheVariants as entry
use Rattle.ir_scopes.specs.declared.faults.Cause.TheVariants.{Unknown}
use Rattle.ir_scopes.specs.declared.faults.NameFault.{NameFault}
use Rattle.ir_scopes.specs.Faults.{fault_unless}
use Rattle.ir_consts.specs.Reading.{Reading, symbol_at}

abbrev pub is_symbol : Option Entry → Bool
is_symbol (Some (entry.Global g)) = true
is_symbol (Some (entry.Func f)) = true
is_symbol _ = false

-- one layer of a constant, once the faults of its parts are listed
abbrev pub const_layer : Reading → Const-F (List NameFault) (List NameFault) → List NameFault
const_layer r (Global at) = fault_unless (is_symbol (symbol_at r at)) Unknown at
const_layer r (Array at own) = flat_map (λ faults. faults) own
const_layer r (Struct at own) = flat_map (λ faults. faults) own
const_layer r (Packed at own) = flat_map (λ faults. faults) own
const_layer r (GetElementPtr at flags elem own) = flat_map (λ faults. faults) own
const_layer r (Cast at of to) = of
const_layer r (Binop at flags left right) = left ++ right
const_layer r _ = []

abbrev pub tconst_layer : Reading → Tconst-F (List NameFault) (List NameFault) → List NameFault
tconst_layer r t = t.value

-- the faults of a constant, in the order of the text
abbrev pub faults_of : Reading → Const → List NameFault
faults_of r = fold-Const (List NameFault) (List NameFault) (const_layer r) (tconst_layer r)

abbrev pub tconst_faults : Reading → Tconst → List NameFault
tconst_faults r t = faults_of r t.value
