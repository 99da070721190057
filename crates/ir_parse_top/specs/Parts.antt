-- Parts of headers and of global variables that have functions of their own.
use Rattle.std.specs.Prelude.{ℕ, List}
use Rattle.ir_tree.specs.declared.terminal.Terminal.{Terminal}
use Rattle.ir_tree.specs.declared.terminal.Terminal.TheVariants as k
use Rattle.ir_tree.specs.declared.constants.Tconst.{Tconst}
use Rattle.ir_tree.specs.declared.entities.Gtail.{Gtail}
use Rattle.ir_tree.specs.declared.blocks.Body.{Body}
use Rattle.ir_tree.specs.Steps.{Step, ◌⨾◌, the, leaf, many, optional, next}
use Rattle.ir_tree.specs.Types.{ty}
use Rattle.ir_tree.specs.Constants.{tconst}
use Rattle.ir_tree.specs.Attributes.{rattr, word, cc}
use Rattle.ir_tree.specs.Blocks.{body}
use Rattle.ir_tree.specs.Headers.{params, ftail}
use Rattle.ir_tree.specs.Entities.{gword, gtail, initial}
use Rattle.ir_parse_top.specs.declared.headers.Opening.{Opening}
use Rattle.ir_parse_top.specs.declared.headers.Signature.{Signature}
use Rattle.ir_parse_top.specs.declared.headers.Ending.{Ending}
use Rattle.ir_parse_top.specs.declared.globals.Introduction.{Introduction}
use Rattle.ir_parse_top.specs.declared.globals.Contents.{Contents}

-- two leaves, one behind the other
abbrev pub leaf_pair : List Terminal → Terminal → Terminal → ℕ × ℕ → Step
leaf_pair toks one other x = leaf toks one x.0 ⨾ leaf toks other x.1

-- what stands before a function's name: `[linkage] hword* [cc] rattr* type`
abbrev pub before_name : List Terminal → Opening → Step
before_name toks x = optional (leaf toks k.Linkage) x.linkage ⨾ many (leaf toks k.Hword) x.words ⨾ optional (cc toks) x.cc ⨾ many (rattr toks) x.result_words ⨾
    ty toks x.result

-- the name and the parameters: `Global '(' params ')'`
abbrev pub named_params : List Terminal → Signature → Step
named_params toks x = leaf toks k.Global x.name ⨾ the toks k.LeftParen ⨾ params toks x.params ⨾ leaf toks k.RightParen x.close

-- what stands behind the parameters: `[unnamed] (fattr | Group)* ftail*`
abbrev pub behind_params : List Terminal → Ending → Step
behind_params toks x = optional (leaf toks k.Unnamed) x.unnamed ⨾ many (word toks) x.attributes ⨾ many (ftail toks) x.tails

-- `('prefix' | 'prologue' | 'personality') tconst`
abbrev pub extra : List Terminal → ℕ × Tconst → Step
extra toks x = leaf toks k.Extra x.0 ⨾ tconst toks x.1

-- what stands before a global variable's type: `Global '=' [linkage] gword* ('global' | 'constant')`
abbrev pub introduced : List Terminal → Introduction → Step
introduced toks x = leaf toks k.Global x.name ⨾ the toks k.Equals ⨾ optional (leaf toks k.Linkage) x.linkage ⨾ many (gword toks) x.words ⨾ leaf toks k.Variable
    x.kind

-- what stands behind the initial value: `(',' gtail)* Group*`
abbrev pub behind_initial : List Terminal → List Gtail × List ℕ → Step
behind_initial toks x = many (next toks (gtail toks)) x.0 ⨾ many (leaf toks k.Group) x.1

-- the body of a definition in its braces, with the place of the closing one: `'{' first block* '}'`
abbrev pub braced : List Terminal → Body × ℕ → Step
braced toks x = the toks k.LeftBrace ⨾ body toks x.0 ⨾ leaf toks k.RightBrace x.1

-- the type and what stands behind it: `type [const] (',' gtail)* Group*`
abbrev pub typed : List Terminal → Contents → Step
typed toks x = ty toks x.ty ⨾ optional (initial toks) x.initial ⨾ many (next toks (gtail toks)) x.tails ⨾ many (leaf toks k.Group) x.groups
