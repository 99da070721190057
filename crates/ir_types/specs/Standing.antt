-- What a table keeps of its types, and when that is right.
use Rattle.std.specs.Prelude.{ℕ, ◌+◌, ◌≡◌, ◌≤◌, ◌^◌, min, Bool, true, false, Option, None, Some, List, [], length, slice_get}
use Rattle.std.specs.Option.{option_and_then, unwrap_or}
use Rattle.std.specs.List.{count_by}
use Rattle.ir_types.specs.declared.ir_type.IrType.{IrType}
use Rattle.ir_types.specs.declared.standing.Extent.{Extent}
use Rattle.ir_types.specs.declared.standing.Standing.{Standing}
use Rattle.ir_types.specs.declared.standing.Standing.TheVariants.{Waiting, Laid}
use Rattle.ir_types.specs.IrType.{parts}
use Rattle.ir_types.specs.Layout.{Layout, layout}

-- a greater size is kept as this one
abbrev pub ceiling : ℕ
ceiling = 2 ^ 40 + 1

-- an extent is that of a layout, but for sizes from the ceiling on
pub record Shows (l : Layout) (e : Extent) : Type 0 where
  pub size : e.size ≡ min l.size ceiling
  pub align : e.align ≡ l.align
  pub nesting : e.nesting ≡ l.nesting
  pub is_sized : e.is_sized ≡ l.is_sized

-- the extent that is kept of a type
abbrev pub extent_of : Standing → Option Extent
extent_of (Waiting known) = None
extent_of (Laid extent) = Some extent

-- the extent of type t, if it is laid out
abbrev pub laid : List Standing → ℕ → Option Extent
laid standings t = option_and_then extent_of (slice_get standings t)

-- an extent that is kept is that of the layout that `of` gives
abbrev pub Agrees : (ℕ → Option Layout) → List Standing → Type 0
Agrees of standings = (t : ℕ) (e : Extent) → laid standings t ≡ Some e → (l : Layout) × (of t ≡ Some l) × Shows l e

-- what is kept of a type is its layout
abbrev pub AreSound : List IrType → List Standing → Type 0
AreSound types standings = Agrees (layout types 64) standings

-- x is an element
abbrev pub Has : List ℕ → ℕ → Type 0
Has xs x = (k : ℕ) × (slice_get xs k ≡ Some x)

-- a part of a type that keeps it from being laid out: it is not laid out itself, or is as deep as a type may be
pub record IsBlocked (standings : List Standing) (type : IrType) : Type 0 where
  pub part : ℕ
  pub is_part : Has (parts type) part
  pub deep : (e : Extent) → laid standings part ≡ Some e → 64 ≤ e.nesting

-- each type is laid out or blocked, but for some that are to be looked at yet
abbrev pub AreSettledBut : List ℕ → List IrType → List Standing → Type 0
AreSettledBut pending types standings =
    (t : ℕ) (type : IrType) → slice_get types t ≡ Some type → laid standings t ≡ None → (Has pending t → ⊥) → IsBlocked standings type

-- the types that wait for a part
abbrev pub users_of : List (List ℕ) → ℕ → List ℕ
users_of users part = unwrap_or (slice_get users part) []

-- no type that waits is forgotten
abbrev pub HasAll : List (List ℕ) → List (List ℕ) → Type 0
HasAll old new = (part t : ℕ) → Has (users_of old part) t → Has (users_of new part) t

-- each type waits for each of its parts that is not laid out
abbrev pub AreWaiting : List (List ℕ) → List IrType → List Standing → Type 0
AreWaiting users types standings =
    (t part : ℕ) (type : IrType) → slice_get types t ≡ Some type → laid standings t ≡ None → Has (parts type) part → laid standings part ≡ None
    → Has (users_of users part) t

-- what is laid out stays as it is
abbrev pub Grows : List Standing → List Standing → Type 0
Grows old new = (t : ℕ) (e : Extent) → laid old t ≡ Some e → laid new t ≡ Some e

-- a type that is not laid out
abbrev pub is_open : Standing → Bool
is_open (Waiting known) = true
is_open (Laid extent) = false

-- how many types are not laid out
abbrev pub open_count : List Standing → ℕ
open_count standings = count_by is_open standings

-- what a table keeps of its types
pub record IsKept (types : List IrType) (standings : List Standing) (users : List (List ℕ)) : Type 0 where
  pub long : length standings ≡ length types
  pub sound : AreSound types standings
  pub settled : AreSettledBut [] types standings
  pub waiting : AreWaiting users types standings
