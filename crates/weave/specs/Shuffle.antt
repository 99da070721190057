-- A woven text as a shuffle: the bytes of the text and the insertions, each in its order.
use Rattle.std.specs.Prelude.{◌≡◌, ℕ, ◌+◌, List, [], ◌∷◌, ◌++◌}
use Rattle.attr_ids.specs.declared.insertion.Insertion.{Insertion}
use Rattle.weave.specs.Woven.{spelled_in}

-- a piece of a woven text: a byte of the text read, or the words of an insertion
pub data Piece : Type 0 where
  Read : ℕ → Piece
  Added : Insertion → Piece

-- the bytes of the text among the pieces
abbrev pub read_of : List Piece → List ℕ
read_of [] = []
read_of (Read byte ∷ rest) = byte ∷ read_of rest
read_of (Added _ ∷ rest) = read_of rest

-- the insertions among the pieces
abbrev pub added_of : List Piece → List Insertion
added_of [] = []
added_of (Read _ ∷ rest) = added_of rest
added_of (Added insertion ∷ rest) = insertion ∷ added_of rest

-- each insertion has as many bytes of the text before it as its offset says
abbrev pub InPlace : ℕ → List Piece → Type 0
InPlace offset [] = Unit {0}
InPlace offset (Read _ ∷ rest) = InPlace (offset + 1) rest
InPlace offset (Added insertion ∷ rest) = (insertion.at ≡ offset) × InPlace offset rest

-- the pieces written out: a byte as it was, an insertion as it is spelled in the text
abbrev pub written : List ℕ → List Piece → List ℕ
written text [] = []
written text (Read byte ∷ rest) = byte ∷ written text rest
written text (Added insertion ∷ rest) = spelled_in text insertion ++ written text rest

-- the pieces are the bytes of the text and the insertions, none lost, repeated or moved, each
-- insertion at its offset
pub record IsShuffle (text : List ℕ) (insertions : List Insertion) (pieces : List Piece) : Type 0 where
  pub every_byte : read_of pieces ≡ text
  pub every_insertion : added_of pieces ≡ insertions
  pub in_place : InPlace 0 pieces
