-- Where words are added, as offsets: behind the last attribute of a place, or else behind the token that the place begins after.
use Rattle.std.specs.Prelude.{ℕ, ◌+◌, ◌-◌, ◌^◌, min, List, [], ◌∷◌, map, Option, None, Some}
use Rattle.ir_token.specs.declared.token.Token.{Token}
use Rattle.ir_tree.specs.declared.types.Ty.{Ty}
use Rattle.ir_tree.specs.declared.types.Ty.TheOpen.{Ty-F}
use Rattle.ir_tree.specs.declared.types.Ty.TheOpen.Ty-F.{Void, Int, Ptr, Array, Struct, Packed, Named}
use Rattle.ir_tree.specs.declared.types.Ty.TheFolds.{fold-Ty}
use Rattle.ir_tree.specs.declared.attributes.Fattr.{Fattr}
use Rattle.ir_tree.specs.declared.attributes.Fattr.TheVariants as fattr_of
use Rattle.ir_tree.specs.declared.attributes.Rattr.{Rattr}
use Rattle.ir_tree.specs.declared.attributes.Rattr.TheVariants as rattr_of
use Rattle.ir_tree.specs.declared.attributes.Word.{Word}
use Rattle.ir_tree.specs.declared.attributes.Word.TheVariants as word_of
use Rattle.ir_tree.specs.declared.headers.Header.{Header}
use Rattle.ir_tree.specs.declared.headers.Param.{Param}
use Rattle.ir_tree.specs.declared.instructions.Arg.{Arg}
use Rattle.ir_tree.specs.declared.instructions.Called.{Called}
use Rattle.ir_module.specs.declared.attrs.FuncPlaces.{FuncPlaces}
use Rattle.ir_module.specs.declared.attrs.CallPlaces.{CallPlaces}
use Rattle.ir_attrs.specs.Leaves.{leaf_from, leaf_to}

abbrev pub or_leaf : ℕ → Option ℕ → ℕ
or_leaf other None = other
or_leaf other (Some leaf) = leaf

-- the last token of an attribute
abbrev pub fattr_last : Fattr → ℕ
fattr_last (fattr_of.Word at) = at
fattr_last (fattr_of.Bracket word inside close) = close
fattr_last (fattr_of.Str key value) = or_leaf key value

abbrev pub rattr_last : Rattr → ℕ
rattr_last (rattr_of.Align word bytes) = bytes
rattr_last (rattr_of.AlignIn word bytes close) = close
rattr_last (rattr_of.Fattr f) = fattr_last f

abbrev pub word_last : Word → ℕ
word_last (word_of.Fattr f) = fattr_last f
word_last (word_of.Group at) = at

-- the last token of the last of these, or the one that stands before them
abbrev pub last_or : {X : Type 0} → (X → ℕ) → ℕ → List X → ℕ
last_or last before [] = before
last_or last before (x ∷ xs) = last_or last (last x) xs

-- the token behind one; numbers of tokens fit 32 bits
abbrev pub next : ℕ → ℕ
next n = min (n + 1) (2 ^ 32 - 1)

abbrev pub first_layer : Ty-F ℕ → ℕ
first_layer (Void at) = at
first_layer (Int at) = at
first_layer (Ptr at) = at
first_layer (Array start count elem) = start
first_layer (Struct start parts) = start
first_layer (Packed start parts) = start
first_layer (Named at) = at

-- the first token of a type
abbrev pub type_first : Ty → ℕ
type_first = fold-Ty ℕ first_layer

abbrev pub last_layer : Ty-F ℕ → ℕ
last_layer (Void at) = at
last_layer (Int at) = at
last_layer (Ptr at) = at
last_layer (Array start count elem) = next elem
last_layer (Struct start parts) = next (last_or (λ n. n) start parts)
last_layer (Packed start parts) = next (next (last_or (λ n. n) (next start) parts))
last_layer (Named at) = at

-- the last token of a type
abbrev pub type_last : Ty → ℕ
type_last = fold-Ty ℕ last_layer

-- behind the attributes of a parameter, or its type
abbrev pub param_place : List Token → Param → ℕ
param_place toks p = leaf_to toks (last_or rattr_last (type_last p.ty) p.words)

-- behind the attributes of an argument, or its type
abbrev pub arg_place : List Token → Arg → ℕ
arg_place toks a = leaf_to toks (last_or rattr_last (type_last a.ty) a.words)

-- before the return type; and behind the attributes of a header, or its `unnamed_addr`, or its closing parenthesis
abbrev pub func_places : List Token → Header → FuncPlaces
func_places toks h = record {
  ret = leaf_from toks (type_first h.result);
  after = leaf_to toks (last_or word_last (or_leaf h.close h.unnamed) h.attributes);
}

-- before the return type of a call; behind its attributes, or its closing parenthesis; and at each argument
abbrev pub call_places : List Token → Called → CallPlaces
call_places toks c = record {
  ret = leaf_from toks (type_first c.callee.result);
  after = leaf_to toks (last_or word_last c.arguments.close c.arguments.attributes);
  args = map (arg_place toks) c.arguments.args;
}
