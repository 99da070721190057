-- Fields of a struct that are placed one after the other.
use Rattle.std.specs.Prelude.{◌≡◌, min, Bool, List}
use Rattle.std.specs.List.{fold, list_all}
use Rattle.ir_types.specs.declared.placing.Placing.{Placing}
use Rattle.ir_types.specs.Layout.{Layout, end_after, greatest}
use Rattle.ir_types.specs.Standing.{ceiling}

-- what is known when fields with these layouts are placed
pub record HasPlaced (packed : Bool) (fields : List Layout) (placing : Placing) : Type 0 where
  pub end : placing.end ≡ min (fold (end_after packed) 0 fields) ceiling
  pub align : placing.align ≡ greatest (λ field. field.align) 1 fields
  pub nesting : placing.nesting ≡ greatest (λ field. field.nesting) 0 fields
  pub is_sized : placing.is_sized ≡ list_all (λ field. field.is_sized) fields
