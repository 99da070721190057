-- The summary of what is added: how many bodies there are and how many no run comes to, and how often each attribute is added.
use Rattle.std.specs.Prelude.{◌+◌, ◌==◌, ◌&&◌, ◌||◌, ℕ, zero, suc, Bool, true, if◌then◌else◌, List, [], ◌∷◌, ◌++◌, length, take, drop, slice_index}
use Rattle.std.specs.Prelude.{sum_by, codes, decimal}
use Rattle.std.specs.List.{flat_map}
use Rattle.std.specs.Str.{bytes_eq}
use Rattle.attr_ids.specs.declared.insertion.Insertion.{Insertion}
use Rattle.ir_module.specs.declared.module.Module.{Module}
use Rattle.facts.specs.Facts.{Fact}
use Rattle.facts.specs.Bodies.{is_body}
use Rattle.manifest.specs.Function.{is_dead_body}
use Rattle.manifest.specs.Attrs.{Attr, Nofree, Norecurse, Noreturn, Nounwind, Memory, Align, Dereferenceable, Nocapture, Nonnull, Readnone, Readonly}
use Rattle.manifest.specs.Attrs.{Writeonly, Returned}

-- how many numbers below n have it
unfoldable pub count_of : (ℕ → Bool) → ℕ → ℕ
count_of has zero = 0
count_of has (suc n) = count_of has n + (if has n then 1 else 0)

-- function f is a body that no run comes to
abbrev pub is_dead : Module → (Fact → Bool) → ℕ → Bool
is_dead m held f = is_body m f && is_dead_body m held f

-- the first line
abbrev pub head_line : Module → (Fact → Bool) → List ℕ
head_line m held = codes "functions " ++ decimal (count_of (is_body m) (length m.funcs)) ++ codes " dead " ++ decimal
    (count_of (is_dead m held) (length m.funcs)) ++ codes "\n"

-- ---- attributes by name

-- the attributes, in the order of the lines
abbrev pub names : List (List ℕ)
names = codes "nofree" ∷ codes "norecurse" ∷ codes "noreturn" ∷ codes "nounwind" ∷ codes "memory" ∷ codes "align" ∷ codes "dereferenceable"
    ∷ codes "nocapture" ∷ codes "nonnull" ∷ codes "readnone" ∷ codes "readonly" ∷ codes "writeonly" ∷ codes "returned" ∷ []

-- the name of an attribute
abbrev pub name_of : Attr → List ℕ
name_of Nofree = codes "nofree"
name_of Norecurse = codes "norecurse"
name_of Noreturn = codes "noreturn"
name_of Nounwind = codes "nounwind"
name_of (Memory memory) = codes "memory"
name_of (Align bytes) = codes "align"
name_of (Dereferenceable bytes) = codes "dereferenceable"
name_of Nocapture = codes "nocapture"
name_of Nonnull = codes "nonnull"
name_of Readnone = codes "readnone"
name_of Readonly = codes "readonly"
name_of Writeonly = codes "writeonly"
name_of Returned = codes "returned"

-- how many of the attributes have the name
abbrev pub named : List ℕ → List Attr → ℕ
named name attrs = sum_by (λ attr. if bytes_eq name (name_of attr) then 1 else 0) attrs

-- a name ends before this text: at the end, at a blank, or at the bracket of what it is given
abbrev pub ends_name : List ℕ → Bool
ends_name [] = true
ends_name (byte ∷ rest) = byte == 32 || byte == 40

-- the text begins with the name, whole
abbrev pub begins_with : List ℕ → List ℕ → Bool
begins_with name text = bytes_eq name (take (length name) text) && ends_name (drop (length name) text)

-- a word begins at this place: at the front, or behind a blank
abbrev pub begins_word : List ℕ → ℕ → Bool
begins_word text zero = true
begins_word text (suc k) = slice_index text k == 32

-- the name stands at this place
abbrev pub stands_at : List ℕ → List ℕ → ℕ → Bool
stands_at name text k = begins_word text k && begins_with name (drop k text)

-- how often the attribute is added by an insertion: at how many places of its words the name stands
abbrev pub times_in : List ℕ → Insertion → ℕ
times_in name insertion = count_of (stands_at name insertion.words) (length insertion.words)

-- how often it is added
abbrev pub times : List Insertion → List ℕ → ℕ
times insertions name = sum_by (times_in name) insertions

-- the line of an attribute
abbrev pub name_line : List Insertion → List ℕ → List ℕ
name_line insertions name = name ++ codes " " ++ decimal (times insertions name) ++ codes "\n"

-- all of it
abbrev pub summary_text : Module → (Fact → Bool) → List Insertion → List ℕ
summary_text m held insertions = head_line m held ++ flat_map (name_line insertions) names
