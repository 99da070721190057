-- A woven text is what a shuffle of its text and its insertions spells.
use Rattle.std.proofs.Common.{◌≡◌, ℕ, suc, ◌+◌, ◌-◌, ◌<◌, ◌≤◌, Some, List, [], ◌∷◌, ◌++◌, length, take, drop, refl, sym, ◌∙◌, ap, subst, arith, add-zero}
use Rattle.std.proofs.Common.{append-nil}
use Rattle.std.proofs.lemmas.List.{take-append-drop, length-take-le, length-drop}
use Rattle.std.proofs.lemmas.List.Elements.{All-nil, All-cons, All-head, All-tail, All-weaker}
use Rattle.std.specs.List.{All}
use Rattle.attr_ids.specs.declared.insertion.Insertion.{Insertion}
use Rattle.weave.specs.Shuffle.{Piece, Read, Added, read_of, added_of, InPlace, written, IsShuffle}
use Rattle.weave.specs.Woven.{spelled_in, woven_from, OffsetsRise, Woven}
use Rattle.weave.proofs.Steps.{put-none, woven_from-here, rise-head, rise-tail}

-- insertions in place from an offset on stand at it or behind it
added-later : (pieces : List Piece) (offset : ℕ) → InPlace offset pieces → All (λ x. offset ≤ x.at) (added_of pieces)
added-later [] offset in_place = All-nil (λ x. offset ≤ x.at)
added-later (Read byte ∷ rest) offset in_place =
    All-weaker (λ x. offset + 1 ≤ x.at) (λ x. offset ≤ x.at) (λ x le. omega arith) (added_of rest) (added-later rest (offset + 1) in_place)
added-later (Added x ∷ rest) offset in_place =
    All-cons (λ y. offset ≤ y.at) x (added_of rest) (omega (arith, in_place.0)) (added-later rest offset in_place.1)

-- pieces in place spell the woven text of their bytes and insertions
pub written_is : (text : List ℕ) (pieces : List Piece) (offset : ℕ) → InPlace offset pieces →
    written text pieces ≡ woven_from text (added_of pieces) offset (read_of pieces)
written_is text [] offset in_place = refl
written_is text (Read byte ∷ rest) offset in_place =
    rw (put-none text (added_of rest) offset (All-weaker (λ x. offset + 1 ≤ x.at) (λ x. offset < x.at) (λ x le. omega arith) (added_of rest)
    (added-later rest (offset + 1) in_place)))
    (ap (λ t. byte ∷ t) (written_is text rest (offset + 1) in_place))
written_is text (Added x ∷ rest) offset in_place =
    ap (λ t. spelled_in text x ++ t) (written_is text rest offset in_place.1)
    ∙ sym (woven_from-here text x (added_of rest) (read_of rest) offset in_place.0)

-- bytes of the text before other pieces
abbrev read_before : List ℕ → List Piece → List Piece
read_before [] rest = rest
read_before (byte ∷ bytes) rest = Read byte ∷ read_before bytes rest

read_of-before : (bytes : List ℕ) (rest : List Piece) → read_of (read_before bytes rest) ≡ bytes ++ read_of rest
read_of-before [] rest = refl
read_of-before (byte ∷ bytes) rest = ap (λ t. byte ∷ t) (read_of-before bytes rest)

added_of-before : (bytes : List ℕ) (rest : List Piece) → added_of (read_before bytes rest) ≡ added_of rest
added_of-before [] rest = refl
added_of-before (byte ∷ bytes) rest = added_of-before bytes rest

in_place-before : (bytes : List ℕ) (rest : List Piece) (offset : ℕ) → InPlace (offset + length bytes) rest → InPlace offset (read_before bytes rest)
in_place-before [] rest offset in_place = rw add-zero at in_place
in_place-before (byte ∷ bytes) rest offset in_place =
    let e : offset + suc (length bytes) ≡ offset + 1 + length bytes = omega arith in
    in_place-before bytes rest (offset + 1) (subst (λ (k : ℕ). InPlace k rest) e in_place)

-- a shuffle of the bytes from an offset on
record IsShuffleFrom (offset : ℕ) (bytes : List ℕ) (insertions : List Insertion) (pieces : List Piece) : Type 0 where
  every_byte : read_of pieces ≡ bytes
  every_insertion : added_of pieces ≡ insertions
  in_place : InPlace offset pieces

-- bytes up to an insertion, the insertion, and a shuffle of the rest
shuffle-cons : (x : Insertion) (xs : List Insertion) (bytes : List ℕ) (offset : ℕ) (pieces : List Piece) → offset ≤ x.at → x.at ≤ offset + length bytes →
    IsShuffleFrom x.at (drop (x.at - offset) bytes) xs pieces →
    IsShuffleFrom offset bytes (x ∷ xs) (read_before (take (x.at - offset) bytes) (Added x ∷ pieces))
shuffle-cons x xs bytes offset pieces after inside rest =
    let front : List ℕ = take (x.at - offset) bytes in
    let e : x.at ≡ offset + length front = omega (arith, length-take-le (x.at - offset) bytes (omega arith)) in
    record {
      every_byte = read_of-before front (Added x ∷ pieces) ∙ ap (λ t. front ++ t) rest.every_byte ∙ take-append-drop (x.at - offset) bytes;
      every_insertion = added_of-before front (Added x ∷ pieces) ∙ ap (λ ys. x ∷ ys) rest.every_insertion;
      in_place = in_place-before front (Added x ∷ pieces) offset
          (e, subst (λ (k : ℕ). InPlace k pieces) e rest.in_place);
    }

-- insertions whose offsets rise, none past the end, shuffle with the bytes
shuffle_of : (insertions : List Insertion) (bytes : List ℕ) (offset : ℕ) → OffsetsRise insertions → All (λ x. offset ≤ x.at) insertions →
    All (λ x. x.at ≤ offset + length bytes) insertions → (pieces : List Piece) × IsShuffleFrom offset bytes insertions pieces
shuffle_of [] bytes offset rise later within = (
  read_before bytes [],
  record {
    every_byte = rw append-nil at (read_of-before bytes []);
    every_insertion = added_of-before bytes [];
    in_place = in_place-before bytes [] offset tt;
  },
)
shuffle_of (x ∷ xs) bytes offset rise later within =
    let after : offset ≤ x.at = All-head (λ y. offset ≤ y.at) x xs later in
    let inside : x.at ≤ offset + length bytes = All-head (λ y. y.at ≤ offset + length bytes) x xs within in
    let left : offset + length bytes ≡ x.at + length (drop (x.at - offset) bytes) = omega (arith, length-drop (x.at - offset) bytes) in
    let rest : (pieces : List Piece) × IsShuffleFrom x.at (drop (x.at - offset) bytes) xs pieces =
    shuffle_of xs (drop (x.at - offset) bytes) x.at (rise-tail x xs rise) (rise-head x xs rise)
    (subst (λ (n : ℕ). All (λ y. y.at ≤ n) xs) left (All-tail (λ y. y.at ≤ offset + length bytes) x xs within)) in
    (read_before (take (x.at - offset) bytes) (Added x ∷ rest.0), shuffle-cons x xs bytes offset rest.0 after inside rest.1)

-- the law of `woven_is_a_shuffle`
pub woven_shuffle : (text out : List ℕ) (insertions : List Insertion) → OffsetsRise insertions → All (λ x. x.at ≤ length text) insertions →
    Woven text insertions out → (pieces : List Piece) × IsShuffle text insertions pieces × (out ≡ written text pieces)
woven_shuffle text out insertions rise within woven =
    let found : (pieces : List Piece) × IsShuffleFrom 0 text insertions pieces =
    shuffle_of insertions text 0 rise (λ k d l. omega arith) (All-weaker (λ x. x.at ≤ length text) (λ x. x.at ≤ 0 + length text) (λ x le. omega arith)
    insertions within) in
    let spelled_out : written text found.0 ≡ woven_from text (added_of found.0) 0 (read_of found.0) = written_is text found.0 0 found.1.in_place in
    (found.0, record { every_byte = found.1.every_byte; every_insertion = found.1.every_insertion; in_place = found.1.in_place }, cc)

pub shuffle_woven : (text out : List ℕ) (insertions : List Insertion) (pieces : List Piece) → IsShuffle text insertions pieces → out ≡ written text pieces →
    Woven text insertions out
shuffle_woven text out insertions pieces shuffle out_is =
    let spelled_out : written text pieces ≡ woven_from text (added_of pieces) 0 (read_of pieces) = written_is text pieces 0 shuffle.in_place in
    cc
