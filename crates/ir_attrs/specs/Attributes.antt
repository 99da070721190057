-- Attributes, by their words.
use Rattle.std.specs.Prelude.{ℕ, Bool, true, false, ◌||◌, List, [], ◌∷◌, codes, Option, None, Some}
use Rattle.std.specs.List.{list_any, flat_map}
use Rattle.std.specs.Str.{bytes_eq}
use Rattle.ir_token.specs.Bytes.{Bytes}
use Rattle.ir_token.specs.declared.token.Token.{Token}
use Rattle.ir_tree.specs.declared.attributes.Inner.{Inner}
use Rattle.ir_tree.specs.declared.attributes.Inner.TheOpen.{Inner-F}
use Rattle.ir_tree.specs.declared.attributes.Inner.TheOpen.Inner-F.{Token as Plain, Bracket as Nested}
use Rattle.ir_tree.specs.declared.attributes.Inner.TheFolds.{fold-Inner}
use Rattle.ir_tree.specs.declared.attributes.Fattr.{Fattr}
use Rattle.ir_tree.specs.declared.attributes.Fattr.TheVariants as fattr_of
use Rattle.ir_tree.specs.declared.attributes.Gattr.{Gattr}
use Rattle.ir_tree.specs.declared.attributes.Gattr.TheVariants as gattr_of
use Rattle.ir_tree.specs.declared.attributes.Word.{Word}
use Rattle.ir_tree.specs.declared.attributes.Word.TheVariants as word_of
use Rattle.ir_attrs.specs.Leaves.{leaf_text}

-- the word of an attribute; a string has none
abbrev pub attr_word : Bytes → List Token → Fattr → Bytes
attr_word b toks (fattr_of.Word at) = leaf_text b toks at
attr_word b toks (fattr_of.Bracket word inside close) = leaf_text b toks word
attr_word b toks (fattr_of.Str key value) = []

-- the attribute is this word, with or without parentheses
abbrev pub is_attr : Bytes → List Token → Bytes → Fattr → Bool
is_attr b toks name f = bytes_eq name (attr_word b toks f)

-- this word is among them
abbrev pub has : Bytes → List Token → Bytes → List Fattr → Bool
has b toks name fs = list_any (is_attr b toks name) fs

-- what stands between the parentheses of an attribute
abbrev pub inside_of : Fattr → List Inner
inside_of (fattr_of.Word at) = []
inside_of (fattr_of.Bracket word inside close) = inside
inside_of (fattr_of.Str key value) = []

abbrev pub inner_layer : Inner-F (Option ℕ) → Option ℕ
inner_layer (Plain at) = Some at
inner_layer (Nested start inside) = None

-- the leaf that stands there, where no parenthesis does
abbrev pub inner_leaf : Inner → Option ℕ
inner_leaf = fold-Inner (Option ℕ) inner_layer

abbrev pub first_leaf : List Inner → Option ℕ
first_leaf [] = None
first_leaf (x ∷ []) = inner_leaf x
first_leaf (x ∷ (y ∷ xs)) = None

abbrev pub text_or_none : Bytes → List Token → Option ℕ → Bytes
text_or_none b toks None = []
text_or_none b toks (Some leaf) = leaf_text b toks leaf

-- the text of the one token between the parentheses of an attribute, and no bytes where more or fewer stand there
abbrev pub only_text : Bytes → List Token → Fattr → Bytes
only_text b toks f = text_or_none b toks (first_leaf (inside_of f))

-- a word of a group counts as the word, also with a value; `align` in a group does not count
abbrev pub group_attr : Gattr → List Fattr
group_attr (gattr_of.Word word value) = fattr_of.Word word ∷ []
group_attr (gattr_of.Align word value) = []
group_attr (gattr_of.Fattr f) = f ∷ []

-- the attributes of a group
abbrev pub group_attrs : List Gattr → List Fattr
group_attrs gs = flat_map group_attr gs

abbrev pub own_attr : Word → List Fattr
own_attr (word_of.Fattr f) = f ∷ []
own_attr (word_of.Group at) = []

-- the attributes that are written behind a parenthesis themselves
abbrev pub own_attrs : List Word → List Fattr
own_attrs ws = flat_map own_attr ws
