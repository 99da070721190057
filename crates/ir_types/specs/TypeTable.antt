-- What the queries of a table answer.
use Rattle.std.specs.Prelude.{ℕ, ◌≡◌, ◌≤◌, ◌^◌, nat_lt, if◌then◌else◌, Option, None, Some, List, slice_index}
use Rattle.std.specs.Prelude.{Result, Ok, Err}
use Rattle.ir_types.specs.declared.ir_type.IrType.{IrType}
use Rattle.ir_types.specs.declared.refusal.TypeRefusal.{TypeRefusal}
use Rattle.ir_types.specs.declared.refusal.TypeRefusal.TheVariants as refused
use Rattle.ir_types.specs.declared.standing.Extent.{Extent}
use Rattle.ir_types.specs.Standing.{Shows}
use Rattle.ir_types.specs.Layout.{Layout, layout}

-- what a layout shows, or why it is refused: deep before huge before unsized
abbrev pub checked : {A : Type 0} → (Layout → A) → Option Layout → Result A TypeRefusal
checked shown None = Err refused.Deep
checked shown (Some l) = if nat_lt (2 ^ 40) l.size then Err refused.Huge else (if l.is_sized then Ok (shown l) else Err refused.Unsized)

-- the bytes that a value of type t takes
abbrev pub size : List IrType → ℕ → Result ℕ TypeRefusal
size types t = checked (λ l. l.size) (layout types 64 t)

-- the alignment of type t
abbrev pub alignment : List IrType → ℕ → Result ℕ TypeRefusal
alignment types t = checked (λ l. l.align) (layout types 64 t)

-- where field i of the struct type t begins
abbrev pub field_start : List IrType → ℕ → ℕ → Result ℕ TypeRefusal
field_start types t i = checked (λ l. slice_index l.starts i) (layout types 64 t)

-- an extent shows a layout that is not refused; a refusal is handed on
abbrev pub Judges : Result Layout TypeRefusal → Result Extent TypeRefusal → Type 0
Judges (Err refusal) result = result ≡ Err refusal
Judges (Ok l) result = (e : Extent) × (result ≡ Ok e) × Shows l e × (l.size ≤ 2 ^ 40)

-- the same from a layout that may be refused
abbrev pub IsJudged : Option Layout → Result Extent TypeRefusal → Type 0
IsJudged o result = Judges (checked (λ l. l) o) result
