-- The productions of attributes, calling conventions, comdats and attachments.
use Rattle.std.specs.Prelude.{ℕ, List, [], ◌∷◌}
use Rattle.ir_tree.specs.declared.terminal.Terminal.{Terminal}
use Rattle.ir_tree.specs.declared.terminal.Terminal.TheVariants as k
use Rattle.ir_tree.specs.declared.attributes.Inner.{Inner}
use Rattle.ir_tree.specs.declared.attributes.Inner.TheOpen.{Inner-F}
use Rattle.ir_tree.specs.declared.attributes.Inner.TheOpen.Inner-F.{Token, Bracket}
use Rattle.ir_tree.specs.declared.attributes.Inner.TheFolds.{fold-Inner}
use Rattle.ir_tree.specs.declared.attributes.Fattr.{Fattr}
use Rattle.ir_tree.specs.declared.attributes.Fattr.TheVariants as fattr_of
use Rattle.ir_tree.specs.declared.attributes.Rattr.{Rattr}
use Rattle.ir_tree.specs.declared.attributes.Rattr.TheVariants as rattr_of
use Rattle.ir_tree.specs.declared.attributes.Gattr.{Gattr}
use Rattle.ir_tree.specs.declared.attributes.Gattr.TheVariants as gattr_of
use Rattle.ir_tree.specs.declared.attributes.Word.{Word}
use Rattle.ir_tree.specs.declared.attributes.Word.TheVariants as word_of
use Rattle.ir_tree.specs.declared.attributes.Cc.{Cc}
use Rattle.ir_tree.specs.declared.attributes.Cc.TheVariants as cc_of
use Rattle.ir_tree.specs.declared.attributes.Comdat.{Comdat}
use Rattle.ir_tree.specs.declared.attributes.Attach.{Attach}
use Rattle.ir_tree.specs.Steps.{Step, ◌⨾◌, the, leaf, one_of, none_of, many, optional}

-- a word that is not reserved; the flags are none
abbrev pub awords : List Terminal
awords = k.Word ∷ k.Nuw ∷ k.Iflag ∷ k.Gepflag ∷ k.InRange ∷ []

abbrev pub aword : List Terminal → ℕ → Step
aword toks = one_of toks awords

-- one layer of what stands inside an attribute's parentheses
abbrev pub inner_layer : List Terminal → Inner-F Step → Step
inner_layer toks (Token at) = none_of toks (k.LeftParen ∷ k.RightParen ∷ []) at
inner_layer toks (Bracket start inside) = leaf toks k.LeftParen start ⨾ many (λ part. part) inside ⨾ the toks k.RightParen

abbrev pub inner : List Terminal → Inner → Step
inner toks = fold-Inner Step (inner_layer toks)

abbrev pub fattr : List Terminal → Fattr → Step
fattr toks (fattr_of.Word at) = aword toks at
fattr toks (fattr_of.Bracket word inside close) = aword toks word ⨾ the toks k.LeftParen ⨾ many (inner toks) inside ⨾ leaf toks k.RightParen close
fattr toks (fattr_of.Str key value) = leaf toks k.Str key ⨾ optional (λ text. the toks k.Equals ⨾ leaf toks k.Str text) value

abbrev pub rattr : List Terminal → Rattr → Step
rattr toks (rattr_of.Align word bytes) = leaf toks k.Align word ⨾ leaf toks k.Int bytes
rattr toks (rattr_of.AlignIn word bytes close) = leaf toks k.Align word ⨾ the toks k.LeftParen ⨾ leaf toks k.Int bytes ⨾ leaf toks k.RightParen close
rattr toks (rattr_of.Fattr attr) = fattr toks attr

abbrev pub gattr : List Terminal → Gattr → Step
gattr toks (gattr_of.Word word value) = aword toks word ⨾ the toks k.Equals ⨾ leaf toks k.Int value
gattr toks (gattr_of.Align word value) = leaf toks k.Align word ⨾ the toks k.Equals ⨾ leaf toks k.Int value
gattr toks (gattr_of.Fattr attr) = fattr toks attr

-- one of the attributes and groups behind a closing parenthesis
abbrev pub word : List Terminal → Word → Step
word toks (word_of.Fattr attr) = fattr toks attr
word toks (word_of.Group at) = leaf toks k.Group at

abbrev pub cc : List Terminal → Cc → Step
cc toks (cc_of.Number word number) = leaf toks k.CcNumber word ⨾ leaf toks k.Int number
cc toks (cc_of.Word at) = leaf toks k.CcWord at

abbrev pub comdat : List Terminal → Comdat → Step
comdat toks c = leaf toks k.ComdatWord c.word ⨾ optional (λ name. the toks k.LeftParen ⨾ leaf toks k.Comdat name ⨾ the toks k.RightParen) c.name

abbrev pub attach : List Terminal → Attach → Step
attach toks a = leaf toks k.Meta a.kind ⨾ leaf toks k.Meta a.node
