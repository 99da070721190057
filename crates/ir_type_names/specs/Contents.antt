-- What each type of a module is.
use Rattle.std.specs.Prelude.{ℕ, ◌+◌, ◌-◌, true, false, List, [], ◌∷◌, ◌++◌, length, map, Option, None, Some, if◌then◌else◌, ◌==◌, ◌&&◌}
use Rattle.std.specs.Prelude.{nat_le, slice_get, zero, suc}
use Rattle.std.specs.List.{flat_map}
use Rattle.attr_ids.specs.declared.ids.TypeId.{TypeId}
use Rattle.ir_types.specs.declared.ir_type.IrType.{IrType}
use Rattle.ir_types.specs.declared.ir_type.IrType.TheVariants as ir
use Rattle.ir_tree.specs.declared.types.Ty.{Ty}
use Rattle.ir_tree.specs.declared.types.Ty.TheOpen.{Ty-F}
use Rattle.ir_tree.specs.declared.types.Ty.TheOpen.Ty-F.{Void, Int, Ptr, Array, Struct, Packed, Named}
use Rattle.ir_tree.specs.declared.types.Ty.TheViews.{out-Ty}
use Rattle.ir_tree.specs.declared.types.Ty.TheFolds.{map-Ty}
use Rattle.ir_tree.specs.declared.entities.TypeBody.{TypeBody}
use Rattle.ir_tree.specs.declared.entities.TypeBody.TheVariants as body_of
use Rattle.ir_tree.specs.declared.entities.Entity.{Entity}
use Rattle.ir_tree.specs.declared.entities.Entity.TheVariants as entity_of
use Rattle.ir_type_names.specs.Reading.{Reading, named, bits_of, elements_of}
use Rattle.ir_type_names.specs.Numbers.{Key, Table, type_id}
use Rattle.ir_type_names.specs.Chains.{step, after}

abbrev pub id : ℕ → TypeId
id n = record { 0 = n }

-- no token has another width than 1 to 64
abbrev pub width : ℕ → ℕ
width bits = if nat_le 1 bits && nat_le bits 64 then bits else 64

-- an unnamed type, by what it is known by
abbrev pub type_of_key : Key → IrType
type_of_key (zero ∷ bits ∷ []) = ir.Int (width bits)
type_of_key (suc zero ∷ count ∷ elem ∷ []) = ir.Array count (id elem)
type_of_key (suc (suc zero) ∷ parts) = ir.Struct (map id parts) false
type_of_key (suc (suc (suc zero)) ∷ parts) = ir.Struct (map id parts) true
type_of_key _ = ir.Opaque

-- a struct whose one field is this type
abbrev pub around : ℕ → IrType
around n = ir.Struct (id n ∷ []) false

-- what a type says, by the numbers of its parts; a name is a struct around what it stands for
abbrev pub content : Reading → Ty-F ℕ → IrType
content r (Void at) = ir.Void
content r (Ptr at) = ir.Ptr
content r (Named name) = around (named r name)
content r (Int at) = ir.Int (width (bits_of r at))
content r (Array start count elem) = ir.Array (elements_of r count) (id elem)
content r (Struct start parts) = ir.Struct (map id parts) false
content r (Packed start parts) = ir.Struct (map id parts) true

abbrev pub content_of : Table → Ty → IrType
content_of t ty = content t.names (map-Ty Ty ℕ (type_id t) (out-Ty ty))

abbrev pub body_content : Table → Option TypeBody → IrType
body_content t None = ir.Opaque
body_content t (Some (body_of.Opaque word)) = ir.Opaque
body_content t (Some (body_of.Ty ty)) = content_of t ty

-- the bodies of the named types, in the order of the text
abbrev pub body_in : Entity → List TypeBody
body_in (entity_of.Named name body) = body ∷ []
body_in _ = []

abbrev pub bodies : List Entity → List TypeBody
bodies es = flat_map body_in es

-- the named types count from 2; a type that is no name of another leads to itself
abbrev pub next_in : Reading → ℕ → Ty-F Ty → ℕ
next_in r k (Named name) = if nat_le 2 (named r name) then named r name - 2 else k
next_in r k _ = k

abbrev pub next_of : Reading → ℕ → TypeBody → ℕ
next_of r k (body_of.Opaque word) = k
next_of r k (body_of.Ty ty) = next_in r k (out-Ty ty)

-- where each named type leads to, these being the bodies from number k on
abbrev pub nexts_from : Reading → ℕ → List TypeBody → List ℕ
nexts_from r k [] = []
nexts_from r k (b ∷ bs) = next_of r k b ∷ nexts_from r (k + 1) bs

-- a chain of names that ends
abbrev pub ends_at : List ℕ → ℕ → ℕ
ends_at nexts k = after nexts (length nexts) k

-- the name at which the chain of a name ends, or the name itself where it ends nowhere
abbrev pub stands_for : List ℕ → ℕ → ℕ
stands_for nexts k = if step nexts (ends_at nexts k) == ends_at nexts k then ends_at nexts k else k

abbrev pub named_content : Table → List TypeBody → List ℕ → ℕ → IrType
named_content t bs nexts k = body_content t (slice_get bs (stands_for nexts k))

-- the contents of the named types from number k on, n of them
abbrev pub named_contents : Table → List TypeBody → List ℕ → ℕ → ℕ → List IrType
named_contents t bs nexts k zero = []
named_contents t bs nexts k (suc n) = named_content t bs nexts k ∷ named_contents t bs nexts (k + 1) n

abbrev pub all_named : Table → List TypeBody → List IrType
all_named t bs = named_contents t bs (nexts_from t.names 0 bs) 0 (length bs)

-- the types of a module, each at its number
abbrev pub types_of : Table → List Entity → List IrType
types_of t es = ir.Void ∷ ir.Ptr ∷ (all_named t (bodies es) ++ map type_of_key t.keys)
