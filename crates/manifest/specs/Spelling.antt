-- How attributes are written (LangRef): words with one blank between two of them.
use Rattle.std.specs.Prelude.{◌^◌, ◌<◌, ◌&&◌, ◌||◌, ◌==◌, not, ℕ, Bool, true, false, if◌then◌else◌, List, [], ◌∷◌, ◌++◌, codes, decimal}
use Rattle.ir_module.specs.declared.attrs.MemoryAttr.{MemoryAttr}
use Rattle.manifest.specs.Attrs.{Attr, Nofree, Norecurse, Noreturn, Nounwind, Memory, Align, Dereferenceable, Nocapture, Nonnull, Readnone, Readonly}
use Rattle.manifest.specs.Attrs.{Writeonly, Returned}

-- the accesses of a location: bit 0 reads, bit 1 writes
abbrev pub access_word : ℕ → List ℕ
access_word access = if access == 0 then codes "none" else (if access == 1 then codes "read" else (if access == 2 then codes "write" else codes "readwrite"))

-- the default stands if it is not `none`, or if all three are equal
abbrev pub has_default : MemoryAttr → Bool
has_default memory = not (memory.other == 0) || (memory.other == memory.argmem && memory.other == memory.inaccessible)

-- another location stands if it differs from the default
abbrev pub has_argmem : MemoryAttr → Bool
has_argmem memory = not (memory.argmem == memory.other)

abbrev pub has_inaccessible : MemoryAttr → Bool
has_inaccessible memory = not (memory.inaccessible == memory.other)

-- what stands between two items
abbrev pub comma : Bool → List ℕ
comma behind = if behind then codes ", " else []

-- an item, where it stands
abbrev pub item : Bool → List ℕ → List ℕ
item stands text = if stands then text else []

-- the items of `memory(..)`: the default, `argmem`, `inaccessiblemem`
abbrev pub memory_items : MemoryAttr → List ℕ
memory_items memory = item (has_default memory) (access_word memory.other)
    ++ item (has_argmem memory) (comma (has_default memory) ++ codes "argmem: " ++ access_word memory.argmem)
    ++ item (has_inaccessible memory) (comma (has_default memory || has_argmem memory) ++ codes "inaccessiblemem: " ++ access_word memory.inaccessible)

-- an attribute that a text may have: its accesses are two bits for each location, and its number fits 64
abbrev pub IsProper : Attr → Type 0
IsProper (Memory memory) = (memory.other < 4) × (memory.argmem < 4) × (memory.inaccessible < 4)
IsProper (Align bytes) = bytes < 2 ^ 64
IsProper (Dereferenceable bytes) = bytes < 2 ^ 64
IsProper _ = Unit {0}

-- an attribute as it is written
abbrev pub spelled : Attr → List ℕ
spelled Nofree = codes "nofree"
spelled Norecurse = codes "norecurse"
spelled Noreturn = codes "noreturn"
spelled Nounwind = codes "nounwind"
spelled (Memory memory) = codes "memory(" ++ memory_items memory ++ codes ")"
spelled (Align bytes) = codes "align " ++ decimal bytes
spelled (Dereferenceable bytes) = codes "dereferenceable(" ++ decimal bytes ++ codes ")"
spelled Nocapture = codes "nocapture"
spelled Nonnull = codes "nonnull"
spelled Readnone = codes "readnone"
spelled Readonly = codes "readonly"
spelled Writeonly = codes "writeonly"
spelled Returned = codes "returned"

-- the attribute of what is neither read nor written through, or not one of the two
abbrev pub access_of : Bool → Bool → Attr
access_of true true = Readnone
access_of true false = Writeonly
access_of false unwritten = Readonly

-- a text to which a word may be added: a blank parts it from the words that stand there
abbrev pub parted : List ℕ → List ℕ
parted [] = []
parted (byte ∷ text) = (byte ∷ text) ++ codes " "

-- the attributes behind a text
abbrev pub spelled_behind : List ℕ → List Attr → List ℕ
spelled_behind text [] = text
spelled_behind text (attr ∷ attrs) = spelled_behind (parted text ++ spelled attr) attrs

-- the attributes in their order, with one blank between two of them
abbrev pub words_of : List Attr → List ℕ
words_of attrs = spelled_behind [] attrs
