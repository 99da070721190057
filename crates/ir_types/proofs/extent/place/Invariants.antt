use Rattle.std.proofs.Common.{◌≡◌, ℕ, Option, Some, List, take}
use Rattle.ir_types.specs.Layout.{Layout, every}
use Rattle.ir_types.specs.IrType.{numbers}
use Rattle.ir_types.specs.Placing.{HasPlaced}
use Rattle.ir_types.specs.Standing.{Agrees}
use Rattle.ir_types.proofs.extent.place.Given as goal

abbrev pub invariant-loop-field : goal.invariant-loop-field
invariant-loop-field l =
    (of : ℕ → Option Layout) → Agrees of l.standings
    → (ls : List Layout) × (every of (numbers (take l.field-index l.fields)) ≡ Some ls) × HasPlaced l.packed ls l.placing
