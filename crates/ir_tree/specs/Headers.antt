-- The productions of the headers of functions.
use Rattle.std.specs.Prelude.{List}
use Rattle.ir_tree.specs.declared.terminal.Terminal.{Terminal}
use Rattle.ir_tree.specs.declared.terminal.Terminal.TheVariants as k
use Rattle.ir_tree.specs.declared.headers.Param.{Param}
use Rattle.ir_tree.specs.declared.headers.Params.{Params}
use Rattle.ir_tree.specs.declared.headers.Params.TheVariants as params_of
use Rattle.ir_tree.specs.declared.headers.Ftail.{Ftail}
use Rattle.ir_tree.specs.declared.headers.Ftail.TheVariants as ftail_of
use Rattle.ir_tree.specs.declared.headers.Header.{Header}
use Rattle.ir_tree.specs.Steps.{Step, ◌⨾◌, the, leaf, many, optional, next, listed}
use Rattle.ir_tree.specs.Types.{ty}
use Rattle.ir_tree.specs.Constants.{tconst}
use Rattle.ir_tree.specs.Attributes.{rattr, word, cc, comdat, attach}
use Rattle.std.specs.Prelude.{Some}

abbrev pub param : List Terminal → Param → Step
param toks x = ty toks x.ty ⨾ many (rattr toks) x.words ⨾ optional (leaf toks k.Local) x.name

abbrev pub params : List Terminal → Params → Step
params toks params_of.Empty = Some
params toks (params_of.Dots at) = leaf toks k.Dots at
params toks (params_of.Listed all dots) = listed toks (param toks) all ⨾ optional (next toks (leaf toks k.Dots)) dots

abbrev pub ftail : List Terminal → Ftail → Step
ftail toks (ftail_of.Section at name) = leaf toks k.Section at ⨾ leaf toks k.Str name
ftail toks (ftail_of.Partition at name) = leaf toks k.Partition at ⨾ leaf toks k.Str name
ftail toks (ftail_of.Gc at name) = leaf toks k.Gc at ⨾ leaf toks k.Str name
ftail toks (ftail_of.Align at bytes) = leaf toks k.Align at ⨾ leaf toks k.Int bytes
ftail toks (ftail_of.Comdat c) = comdat toks c
ftail toks (ftail_of.Extra at value) = leaf toks k.Extra at ⨾ tconst toks value
ftail toks (ftail_of.Attach a) = attach toks a

abbrev pub header : List Terminal → Header → Step
header toks x = optional (leaf toks k.Linkage) x.linkage ⨾ many (leaf toks k.Hword) x.words ⨾ optional (cc toks) x.cc ⨾ many (rattr toks) x.result_words ⨾ ty
    toks x.result ⨾ leaf toks k.Global x.name ⨾ the toks k.LeftParen ⨾ params toks x.params ⨾ leaf toks k.RightParen x.close ⨾ optional (leaf toks k.Unnamed)
    x.unnamed ⨾ many (word toks) x.attributes ⨾ many (ftail toks) x.tails
