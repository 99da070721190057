-- What a `memory(..)` permits (LangRef, "Function Attributes").
use Rattle.std.specs.Prelude.{ℕ, Bool, true, false, not, ◌&&◌, ◌||◌, if◌then◌else◌, List, [], ◌∷◌, ◌++◌, codes, map, bit_or, slice_get, Option, None, Some}
use Rattle.std.specs.List.{list_any, list_all, fold}
use Rattle.std.specs.Option.{is_some}
use Rattle.std.specs.Str.{bytes_eq}
use Rattle.ir_token.specs.Bytes.{Bytes}
use Rattle.ir_token.specs.declared.token.Kind.{Kind}
use Rattle.ir_token.specs.declared.token.Kind.TheVariants.{Label}
use Rattle.ir_token.specs.declared.token.Token.{Token}
use Rattle.ir_tree.specs.declared.attributes.Inner.{Inner}
use Rattle.ir_module.specs.declared.attrs.MemoryAttr.{MemoryAttr}
use Rattle.ir_attrs.specs.declared.memory.Access.{Access}
use Rattle.ir_attrs.specs.Leaves.{text_of}
use Rattle.ir_attrs.specs.Latest.{latest}
use Rattle.ir_attrs.specs.Attributes.{inner_leaf}

-- what a token between the parentheses is: a comma, a location by the text of its label, an access by its bits (1 reads, 2 writes),
-- or something else
pub data Mark : Type 0 where
  Comma : Mark
  At : (label : Bytes) → Mark
  Permits : (access : ℕ) → Mark
  Other : Mark

abbrev pub is_label : Kind → Bool
is_label Label = true
is_label _ = false

abbrev pub mark_of_text : Bytes → Mark
mark_of_text w =
    if bytes_eq w (codes ",") then Comma else (if bytes_eq w (codes "none") then Permits 0 else (if bytes_eq w (codes "read") then Permits 1 else
    (if bytes_eq w (codes "write") then Permits 2 else (if bytes_eq w (codes "readwrite") then Permits 3 else Other))))

abbrev pub mark_of_token : Bytes → Option Token → Mark
mark_of_token b None = Other
mark_of_token b (Some t) = if is_label t.kind then At (text_of b (Some t)) else mark_of_text (text_of b (Some t))

abbrev pub mark_of_leaf : Bytes → List Token → Option ℕ → Mark
mark_of_leaf b toks None = Other
mark_of_leaf b toks (Some leaf) = mark_of_token b (slice_get toks leaf)

abbrev pub mark : Bytes → List Token → Inner → Mark
mark b toks x = mark_of_leaf b toks (inner_leaf x)

-- an access alone, or behind the label of a location
abbrev pub access_of : List Mark → Option Access
access_of (Permits n ∷ []) = Some (record { location = []; access = n })
access_of (At label ∷ (Permits n ∷ [])) = Some (record { location = label; access = n })
access_of _ = None

-- the piece that goes on before pieces, with a mark put to its front
abbrev pub in_front : Mark → List (List Mark) → List (List Mark)
in_front m [] = (m ∷ []) ∷ []
in_front m (p ∷ ps) = (m ∷ p) ∷ ps

abbrev pub then_piece : Mark → List (List Mark) → List (List Mark)
then_piece Comma ps = [] ∷ ps
then_piece m ps = in_front m ps

-- the pieces between commas; there is one at least
abbrev pub pieces : List Mark → List (List Mark)
pieces [] = [] ∷ []
pieces (m ∷ ms) = then_piece m (pieces ms)

-- what each piece is: an access, or none
abbrev pub accesses : List Mark → List (Option Access)
accesses ms = map access_of (pieces ms)

abbrev pub is_at : Bytes → Option Access → Bool
is_at location None = false
is_at location (Some a) = bytes_eq a.location location

-- one of these is of this location
abbrev pub is_among : Bytes → List (Option Access) → Bool
is_among location said = list_any (is_at location) said

abbrev pub repeats : List (Option Access) → Option Access → Bool
repeats before None = false
repeats before (Some a) = is_among a.location before

-- one location has two accesses, or two accesses have no location
abbrev pub twice_after : List (Option Access) → List (Option Access) → Bool
twice_after before [] = false
twice_after before (a ∷ rest) = repeats before a || twice_after (before ++ a ∷ []) rest

-- the list is one of accesses, each location once
abbrev pub is_list : List (Option Access) → Bool
is_list said = list_all is_some said && not (twice_after [] said)

abbrev pub access_at : Bytes → Option Access → Option ℕ
access_at location None = None
access_at location (Some a) = if bytes_eq a.location location then Some a.access else None

-- the access of a location
abbrev pub at : Bytes → List (Option Access) → Option ℕ
at location said = latest (access_at location) None said

abbrev pub or_number : ℕ → Option ℕ → ℕ
or_number other None = other
or_number other (Some n) = n

-- no location, and the two that have an access of their own
abbrev pub is_known : Bytes → Bool
is_known location = bytes_eq location [] || (bytes_eq location (codes "argmem:") || bytes_eq location (codes "inaccessiblemem:"))

-- an access joins those of the unknown locations, where it is of one
abbrev pub or_unknown : ℕ → Option Access → ℕ
or_unknown n None = n
or_unknown n (Some a) = if is_known a.location then n else bit_or n a.access

-- the accesses of all other locations together
abbrev pub unknown : List (Option Access) → ℕ
unknown said = fold or_unknown 0 said

-- a location that is not written has the access without a location, or none; the accesses of unknown locations join that of the default
abbrev pub permitted : List (Option Access) → MemoryAttr
permitted said = record {
  other = bit_or (or_number 0 (at [] said)) (unknown said);
  argmem = or_number (or_number 0 (at [] said)) (at (codes "argmem:") said);
  inaccessible = or_number (or_number 0 (at [] said)) (at (codes "inaccessiblemem:") said);
}

abbrev pub everything : MemoryAttr
everything = record { other = 3; argmem = 3; inaccessible = 3 }

-- what a `memory` with this between its parentheses permits; one that is no such list permits everything
unfoldable pub memory_of : Bytes → List Token → List Inner → MemoryAttr
memory_of b toks inside =
    let said : List (Option Access) = accesses (map (mark b toks) inside) in
    if is_list said then permitted said else everything
