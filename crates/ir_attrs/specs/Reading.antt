-- How the list of a `memory` is read, piece by piece.
use Rattle.std.specs.Prelude.{◌≡◌, ℕ, Bool, true, false, not, ◌&&◌, if◌then◌else◌, List, [], ◌∷◌, codes, bit_or, slice_get, Option, None, Some}
use Rattle.std.specs.List.{list_all}
use Rattle.std.specs.Option.{is_some}
use Rattle.std.specs.Str.{bytes_eq}
use Rattle.std.specs.Borrow.{Bor}
use Rattle.std.specs.declared.vec.Vec.{Vec}
use Rattle.indexmap.specs.IndexSet.{IndexSet, contains}
use Rattle.ir_token.specs.Bytes.{Bytes}
use Rattle.ir_token.specs.declared.token.Token.{Token}
use Rattle.ir_module.specs.declared.attrs.MemoryAttr.{MemoryAttr}
use Rattle.ir_attrs.specs.declared.memory.Access.{Access}
use Rattle.ir_attrs.specs.declared.memory.Seen.{Seen}
use Rattle.ir_attrs.specs.Latest.{later}
use Rattle.ir_attrs.specs.Memory as memory
use Rattle.ir_attrs.specs.Memory.{Mark, is_label, is_among, is_list, at, unknown, or_unknown, or_number, everything}
use Rattle.ir_attrs.specs.Memory.Mark.{Comma, At, Permits, Other}

abbrev pub is_comma : Mark → Bool
is_comma Comma = true
is_comma _ = false

abbrev pub kind_is_label : Option Token → Bool
kind_is_label None = false
kind_is_label (Some t) = is_label t.kind

abbrev pub is_label_at : List Token → ℕ → Bool
is_label_at toks leaf = kind_is_label (slice_get toks leaf)

abbrev pub access_bits : Mark → Option ℕ
access_bits (Permits n) = Some n
access_bits _ = None

abbrev pub label_of : Mark → Option Bytes
label_of (At label) = Some label
label_of _ = None

abbrev pub now_of : Option (Bor (List ℕ)) → Option Bytes
now_of None = None
now_of (Some x) = Some x.now

-- a label and an access
abbrev pub labelled : Mark → Mark → Option Access
labelled m n = memory.access_of (m ∷ (n ∷ []))

abbrev pub bare : Mark → Option Access
bare m = memory.access_of (m ∷ [])

-- the pieces behind the first, where a comma or nothing stands in front of what is left
abbrev pub rest_of : List Mark → List (List Mark)
rest_of [] = []
rest_of (m ∷ ms) = memory.pieces ms

abbrev pub with_access : Seen → Access → Bool → Seen
with_access s a is_new = record {
  valid = s.valid && is_new;
  default = later s.default (if bytes_eq a.location [] then Some a.access else None);
  argmem = later s.argmem (if bytes_eq a.location (codes "argmem:") then Some a.access else None);
  inaccessible = later s.inaccessible (if bytes_eq a.location (codes "inaccessiblemem:") then Some a.access else None);
  unknown = or_unknown s.unknown (Some a);
}

abbrev pub with_none : Seen → Seen
with_none s = record s { valid = false }

-- what these pieces say is this, and the set has their locations
pub record IsRead {Z S : Type 0} (before : List (Option Access)) (known : IndexSet (Vec ℕ Z) S) (s : Seen) : Type 0 where
  pub known_are : (q : Vec ℕ Z) → contains (λ x y. bytes_eq x.items y.items) known q ≡ is_among q.items before
  pub valid : s.valid ≡ is_list before
  pub default : s.default ≡ at [] before
  pub argmem : s.argmem ≡ at (codes "argmem:") before
  pub inaccessible : s.inaccessible ≡ at (codes "inaccessiblemem:") before
  pub unknown_is : s.unknown ≡ unknown before

abbrev pub permitted : Seen → MemoryAttr
permitted s = if s.valid then record {
  other = bit_or (or_number 0 s.default) s.unknown;
  argmem = or_number (or_number 0 s.default) s.argmem;
  inaccessible = or_number (or_number 0 s.default) s.inaccessible;
} else everything
