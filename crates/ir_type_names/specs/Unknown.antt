-- Names of types that no type has.
use Rattle.std.specs.Prelude.{List, []}
use Rattle.std.specs.List.{flat_map}
use Rattle.ir_tree.specs.declared.types.Ty.{Ty}
use Rattle.ir_tree.specs.declared.types.Ty.TheOpen.{Ty-F}
use Rattle.ir_tree.specs.declared.types.Ty.TheOpen.Ty-F.{Array, Struct, Packed, Named}
use Rattle.ir_tree.specs.declared.types.Ty.TheFolds.{fold-Ty}
use Rattle.ir_tree.specs.declared.entities.Entity.{Entity}
use Rattle.ir_scopes.specs.declared.faults.NameFault.{NameFault}
use Rattle.ir_scopes.specs.declared.faults.Cause.TheVariants.{Unknown}
use Rattle.ir_scopes.specs.Faults.{fault_unless}
use Rattle.ir_type_uses.specs.Uses.{Use}
use Rattle.ir_type_uses.specs.Written.{written}
use Rattle.ir_type_names.specs.Reading.{Reading, is_named}

abbrev pub unknown_layer : Reading → Ty-F (List NameFault) → List NameFault
unknown_layer r (Named name) = fault_unless (is_named r name) Unknown name
unknown_layer r (Array start count elem) = elem
unknown_layer r (Struct start parts) = flat_map (λ part. part) parts
unknown_layer r (Packed start parts) = flat_map (λ part. part) parts
unknown_layer r _ = []

-- the names in a type that are unknown
abbrev pub unknown_in : Reading → Ty → List NameFault
unknown_in r = fold-Ty (List NameFault) (unknown_layer r)

abbrev pub unknown_uses : Reading → List Use → List NameFault
unknown_uses r uses = flat_map (λ u. unknown_in r u.0) uses

-- the names of types in a module that are unknown
abbrev pub unknown_types : Reading → List Entity → List NameFault
unknown_types r es = unknown_uses r (written es)
