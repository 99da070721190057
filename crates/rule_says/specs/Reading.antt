-- Words of positions as sets of facts.
use Rattle.std.specs.Prelude.{◌≡◌, ◌+◌, ◌<◌, ◌==◌, ◌&&◌, ◌^◌, not, ℕ, Bool, true, false, if◌then◌else◌, List, [], ◌∷◌, map, slice_index, Option, None, Some}
use Rattle.lattice_words.specs.Words.{has_bit, IsWithin}
use Rattle.ir_module.specs.declared.module.Module.{Module}
use Rattle.facts.specs.declared.pos.Pos.{Pos}
use Rattle.facts.specs.declared.pos.Pos.TheVariants as pos
use Rattle.facts.specs.Facts.{Fact, is_effect}
use Rattle.facts.specs.Masks.{mask_of}
use Rattle.positions.specs.Numbering.{Numbered}
use Rattle.positions.specs.Listed.{ArePositions}

-- the two are one position
abbrev pub is_pos : Pos → Pos → Bool
is_pos (pos.Segment a) (pos.Segment b) = a.0 == b.0
is_pos (pos.Function a) (pos.Function b) = a.0 == b.0
is_pos (pos.Value a) (pos.Value b) = a.0 == b.0
is_pos (pos.Entry a i) (pos.Entry b j) = (a.0 == b.0) && (i == j)
is_pos (pos.Return a) (pos.Return b) = a.0 == b.0
is_pos (pos.Reach a i) (pos.Reach b j) = (a == b) && (i == j)
is_pos (pos.Effect a) (pos.Effect b) = a.0 == b.0
is_pos _ _ = false

-- the number of a position on a list that begins with number n
abbrev pub number_from : Pos → ℕ → List Pos → Option ℕ
number_from p n [] = None
number_from p n (q ∷ qs) = if is_pos p q then Some n else number_from p (n + 1) qs

-- the bit in the word of this number, if there is one
abbrev pub has_at : (ℕ → ℕ) → ℕ → Option ℕ → Bool
has_at word bit None = false
has_at word bit (Some n) = has_bit (word n) bit

-- the set for which words stand: of each position on the list the bits of its word
unfoldable pub held_in : Numbered → (ℕ → ℕ) → Fact → Bool
held_in ps word x = has_at word x.bit (number_from x.pos 0 ps.list)

-- the same without the words of effects, which are no facts
abbrev pub facts_in : Numbered → (ℕ → ℕ) → Fact → Bool
facts_in ps word x = not (is_effect x.pos) && held_in ps word x

-- each word has bits of its mask alone
abbrev pub AreLegal : Numbered → (ℕ → ℕ) → Type 0
AreLegal ps word = (n : ℕ) → (word n < 2 ^ 64) × IsWithin (word n) (slice_index ps.masks n)

-- the numbers are those of the module's positions, each with the module's mask
pub record IsNumbering (m : Module) (ps : Numbered) : Type 0 where
  pub masks : ps.masks ≡ map (mask_of m) ps.list
  pub positions : ArePositions m ps.list
