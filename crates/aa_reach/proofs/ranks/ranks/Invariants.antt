use Rattle.std.proofs.Common.{◌≡◌, ◌<◌, ◌≤◌, ℕ, length, slice_get, Some}
use Rattle.facts.specs.Bodies.{rank}
use Rattle.aa_reach.proofs.ranks.ranks.Given as goal

abbrev pub invariant-loop-f : goal.invariant-loop-f
invariant-loop-f l =
    (length l.ranks.items ≡ l.f) × ((g : ℕ) → g < l.f → slice_get l.ranks.items g ≡ Some (rank l.m g)) × (l.before ≡ rank l.m l.f) × (l.before ≤ l.f)
