-- Blanks and comments, one byte after another.
use Rattle.std.proofs.Common.{◌≡◌, ℕ, ◌+◌, ◌<◌, ◌≤◌, Bool, true, false, not, cond, eqb, ◌∷◌, length, drop, refl, ap, arith}
use Rattle.std.proofs.lemmas.List.{drop_all, drop_more}
use Rattle.std.proofs.lemmas.Bool.Decides.{nat_tests}
use Rattle.std.specs.List.{slice_index}
use Rattle.ir_token.specs.Bytes.{Bytes, is_blank, ends_comment}
use Rattle.ir_token.specs.LeftOut.{gap_len}

pub gap_in_comment : (b : Bytes) (i : ℕ) → i < length b → gap_len true (drop i b) ≡ 1 + gap_len (not (ends_comment (slice_index b i))) (drop (i + 1) b)
gap_in_comment b i h = ap (gap_len true) (drop_more b i 0 h)

pub gap_comment : (b : Bytes) (i : ℕ) → i < length b → eqb (slice_index b i) 59 ≡ true → gap_len false (drop i b) ≡ 1 + gap_len true (drop (i + 1) b)
gap_comment b i h is = let e = ap (gap_len false) (drop_more b i 0 h) in grind (arith, e)

pub gap_blank : (b : Bytes) (i : ℕ) → i < length b → is_blank (slice_index b i) ≡ true → gap_len false (drop i b) ≡ 1 + gap_len false (drop (i + 1) b)
gap_blank b i h is =
    let other : eqb (slice_index b i) 59 ≡ false = grind (arith, nat_tests) in
    let e = ap (gap_len false) (drop_more b i 0 h) in grind (arith, e)

pub gap_none : (b : Bytes) (i : ℕ) → i < length b → is_blank (slice_index b i) ≡ false → eqb (slice_index b i) 59 ≡ false → gap_len false (drop i b) ≡ 0
gap_none b i h other bare = let e = ap (gap_len false) (drop_more b i 0 h) in grind (arith, e)

pub gap_end : (open_comment : Bool) (b : Bytes) (i : ℕ) → length b ≤ i → gap_len open_comment (drop i b) ≡ 0
gap_end open_comment b i h = ap (gap_len open_comment) (drop_all i b h)

-- what one byte leaves of the gap
pub gap_moves : (open_comment : Bool) (b : Bytes) (i : ℕ) → i < length b
    → (open_comment ≡ false → eqb (slice_index b i) 59 ≡ false → is_blank (slice_index b i) ≡ true)
    → gap_len open_comment (drop i b) ≡ 1 + gap_len (cond open_comment (not (ends_comment (slice_index b i))) (eqb (slice_index b i) 59)) (drop (i + 1) b)
gap_moves true b i h blank = gap_in_comment b i h
gap_moves false b i h blank = comment_or b i h (eqb (slice_index b i) 59) refl (blank refl)
  where
    comment_or : (b : Bytes) (i : ℕ) → i < length b → (t : Bool) → eqb (slice_index b i) 59 ≡ t
        → (eqb (slice_index b i) 59 ≡ false → is_blank (slice_index b i) ≡ true) → gap_len false (drop i b) ≡ 1 + gap_len t (drop (i + 1) b)
    comment_or b i h true is blank = gap_comment b i h is
    comment_or b i h false is blank = gap_blank b i h (blank is)
