-- The order in which operands are written.
use Rattle.std.specs.Prelude.{◌≡◌, ◌<◌, ◌≤◌}
use Rattle.ir_module.specs.declared.module.Spot.{Spot}
use Rattle.ir_uses.specs.declared.lists.Use.{Use}

-- use a is written before use b: by segments, then instructions, then operands
abbrev pub IsBefore : Use → Use → Type 0
IsBefore a b = (a.spot.seg.0 ≤ b.spot.seg.0) × (a.spot.seg.0 ≡ b.spot.seg.0 → a.spot.at ≤ b.spot.at)
    × (a.spot.seg.0 ≡ b.spot.seg.0 → a.spot.at ≡ b.spot.at → a.operand < b.operand)

-- the call at spot a is written before the one at spot b
abbrev pub IsCallBefore : Spot → Spot → Type 0
IsCallBefore a b = (a.seg.0 ≤ b.seg.0) × (a.seg.0 ≡ b.seg.0 → a.at < b.at)
