-- Marks of positions: those at which facts may be lost.
use Rattle.std.specs.Prelude.{◌≡◌, ◌≢◌, ℕ, ◌+◌, ◌*◌, ◌/◌, ◌<◌, ◌≤◌, Bool, true, false, List, length, slice_get, Some}
use Rattle.attr_ids.specs.declared.ids.PosId.{PosId}
use Rattle.rule_terms.specs.System.{System}
use Rattle.why_make.specs.declared.marks.TheConstants.{BLOCK}
use Rattle.why_make.specs.Sweeps.{lost_of}

-- no position from `from` up to `to` has a mark
abbrev pub AreFree : List Bool → ℕ → ℕ → Type 0
AreFree marks from to = (q : ℕ) → from ≤ q → q < to → slice_get marks q ≢ Some true

-- positions stand in blocks of one length, and a block with a mark of its own stands wherever one of its positions has one
pub record AreBlocked (marks blocks : List Bool) : Type 0 where
  pub count : length blocks ≡ length marks / BLOCK + 1
  pub free : (b : ℕ) → slice_get blocks b ≡ Some false → AreFree marks (b * BLOCK) (b * BLOCK + BLOCK)

-- a position without a mark loses nothing over the words
pub record AreMarked (s : System) (words : List ℕ) (marks : List Bool) : Type 0 where
  pub long : length marks ≡ length s.masks
  pub quiet : (q : ℕ) → slice_get marks q ≡ Some false → lost_of s words q ≡ 0

-- the first k of these positions got marks, and no mark was taken off
pub record AreWoken (woken : List PosId) (k : ℕ) (old new : List Bool) : Type 0 where
  pub long : length new ≡ length old
  pub marked : (j : ℕ) (d : PosId) → j < k → slice_get woken j ≡ Some d → slice_get new d.0 ≡ Some true
  pub kept : (q : ℕ) → slice_get old q ≡ Some true → slice_get new q ≡ Some true
