use Rattle.std.proofs.Common.{◌≡◌, ℕ, ◌-◌, ◌<◌, ◌≤◌, length, slice_get, Some}
use Rattle.facts.specs.declared.pos.Pos.TheVariants as pos
use Rattle.positions.proofs.positions.Positions.entry.Given as goal

abbrev pub decreases-halves : goal.decreases-halves
decreases-halves l = l.to - l.from

abbrev pub invariant-halves : goal.invariant-halves
invariant-halves l = record {
  between : (k : ℕ) → slice_get l.self-inside.list.items k ≡ Some (pos.Entry l.f l.at) → (l.from ≤ k) × (k ≤ l.to);
  begun : l.initial.from ≤ l.from;
  within : l.to < length l.self-inside.list.items;
}
