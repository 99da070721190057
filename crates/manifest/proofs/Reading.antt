-- What is read of a position is what is held of it.
use Rattle.std.proofs.Common.{arith, ◌≡◌, ◌+◌, ◌*◌, ◌/◌, ◌<◌, ◌==◌, ◌&&◌, not, if◌then◌else◌, ℕ, Bool, true, false, Some, length}
use Rattle.std.proofs.Common.{slice_get, slice_index, refl, sym, ap, subst, ◌∙◌}
use Rattle.std.proofs.lemmas.Bool.{and_parts}
use Rattle.std.proofs.lemmas.Nat.Bits.{bit_at-zero}
use Rattle.std.proofs.lemmas.Option.{slice_get_within, get_or_from_slice_get}
use Rattle.lattice_words.specs.Words.{has_bit}
use Rattle.facts.specs.declared.pos.Pos.{Pos}
use Rattle.facts.specs.Facts.{fact, function, is_effect}
use Rattle.facts.specs.Bodies.{is_body, rank, body_count}
use Rattle.positions.specs.Order.{body_at}
use Rattle.positions.specs.Listed.{IsPosition, ArePositions}
use Rattle.positions.specs.Numbering.{IsListed}
use Rattle.positions.proofs.Growth.{longer, one_or_none, shorter}
use Rattle.positions.proofs.Standing.{stands, are_positions, body_within}
use Rattle.positions.proofs.Sums.{rank_is}
use Rattle.positions.proofs.Together.{segments}
use Rattle.rule_says.specs.Reading.{IsNumbering, held_in}
use Rattle.rule_says.proofs.Held.{held_at, held_gives}
use Rattle.manifest.specs.declared.held.Held.{Held}
use Rattle.manifest.specs.Ready.{IsReady, set_of}

-- no bit of 0 is set
pub zero_bit : (bit : ℕ) → has_bit 0 bit ≡ false
zero_bit bit = ap (λ (n : ℕ). n == 1) (bit_at-zero bit)

module _ (held : Held) (ready : IsReady held) where
  list_are : ArePositions held.m.now held.positions.now.list
  list_are = subst (ArePositions held.m.now) (sym ready.positions.list) (are_positions held.m.now)

  -- a position of the module has a number
  pub listed_in : (p : Pos) → IsPosition held.m.now p → IsListed held.positions.now p
  listed_in p is = list_are.all p is

  -- and a word
  pub word_within : (p : Pos) (n : ℕ) → slice_get held.positions.now.list n ≡ Some p → n < length held.words.now
  word_within p n there = let within = slice_get_within held.positions.now.list n p there in let long = ready.words in omega (arith, within, long)

  numbering : IsNumbering held.m.now held.positions.now
  numbering = record { masks = ready.positions.masks; positions = list_are }

  -- which has the facts that are held of it
  pub word_is : (p : Pos) → is_effect p ≡ false → (n w : ℕ) → slice_get held.positions.now.list n ≡ Some p → slice_get held.words.now n ≡ Some w →
      (bit : ℕ) → has_bit w bit ≡ set_of held (fact p bit)
  word_is p fact_only n w there word bit =
      let words = held.words.now in
      let has = held_in held.positions.now (slice_index words) (fact p bit) in
      sym (ap (λ (b : Bool). not b && has) fact_only ∙ (held_at held.m.now held.positions.now numbering (slice_index words) n p there bit ∙
      ap (λ v. has_bit v bit) (get_or_from_slice_get words n w 0 word)))

  -- of what is no position nothing is held
  pub word_none : (p : Pos) → (IsPosition held.m.now p → ⊥) → (bit : ℕ) → has_bit 0 bit ≡ set_of held (fact p bit)
  word_none p other bit = zero_bit bit ∙ sym (by (set_of held (fact p bit)) refl)
    where
      by : (b : Bool) → set_of held (fact p bit) ≡ b → b ≡ false
      by false is = refl
      by true is =
          let in_words = (and_parts (not (is_effect p)) (held_in held.positions.now (slice_index held.words.now) (fact p bit)) is).1 in
          let number = held_gives held.m.now held.positions.now numbering (slice_index held.words.now) (fact p bit) in_words in
          absurd (other (list_are.each number.0 p number.1))

  -- a body's position tells its rank
  pub rank_at : (f n : ℕ) → slice_get held.positions.now.list n ≡ Some (function f) → is_body held.m.now f ≡ true →
      n ≡ length held.m.now.segs + rank held.m.now f
  rank_at f n there body =
      let m = held.m.now in
      let place = (stands m n (function f) (subst (λ xs. slice_get xs n ≡ Some (function f)) ready.positions.list there)).1 in
      let within = body_within m f body in
      let number = rank_is m f (omega (arith, within)) in
      let front = segments m in
      omega (arith, place, number, front)

  -- and the rank of a body is below the number of bodies
  pub rank_below : (f : ℕ) → is_body held.m.now f ≡ true → rank held.m.now f < body_count held.m.now
  rank_below f body =
      let m = held.m.now in
      let within = body_within m f body in
      let number = rank_is m f (omega (arith, within)) in
      let all = rank_is m (length m.funcs) (omega arith) in
      let more = longer (body_at m) f in
      let one = one_or_none (is_body m f) (function f) ∙ ap (λ b. if b then 1 else 0) body in
      let rest = shorter (body_at m) (f + 1) (length m.funcs) (omega (arith, within)) in
      omega (arith, number, all, more, one, rest)

-- the word of a row that speaks of a body, and its bit there
pub word_of_row : (rank bodies : ℕ) → rank < bodies → (rank / 47) * 47 < bodies
word_of_row rank bodies below = omega (arith, below)
