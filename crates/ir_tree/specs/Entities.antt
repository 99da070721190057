-- The productions of a module.
use Rattle.std.specs.Prelude.{ℕ, suc, List, [], ◌∷◌, Bool, ◌&&◌}
use Rattle.ir_tree.specs.declared.terminal.Terminal.{Terminal}
use Rattle.ir_tree.specs.declared.terminal.Terminal.TheVariants as k
use Rattle.ir_tree.specs.declared.constants.Const.{Const}
use Rattle.ir_tree.specs.declared.entities.Gtail.{Gtail}
use Rattle.ir_tree.specs.declared.entities.Gtail.TheVariants as gtail_of
use Rattle.ir_tree.specs.declared.entities.TypeBody.{TypeBody}
use Rattle.ir_tree.specs.declared.entities.TypeBody.TheVariants as body_of
use Rattle.ir_tree.specs.declared.entities.GlobalVar.{GlobalVar}
use Rattle.ir_tree.specs.declared.entities.Declare.{Declare}
use Rattle.ir_tree.specs.declared.entities.Define.{Define}
use Rattle.ir_tree.specs.declared.entities.Entity.{Entity}
use Rattle.ir_tree.specs.declared.entities.Entity.TheVariants as entity_of
use Rattle.ir_tree.specs.Steps.{Step, ◌⨾◌, the, leaf, one_of, many, optional, next, stands, where_not}
use Rattle.ir_tree.specs.Types.{ty}
use Rattle.ir_tree.specs.Constants.{const}
use Rattle.ir_tree.specs.Attributes.{aword, gattr, comdat, attach}
use Rattle.ir_tree.specs.Blocks.{body}
use Rattle.ir_tree.specs.Headers.{header}

-- a word before `global` or `constant`
abbrev pub gword : List Terminal → ℕ → Step
gword toks = one_of toks (k.Hword ∷ k.Unnamed ∷ k.ExternallyInitialized ∷ [])

abbrev pub gtail : List Terminal → Gtail → Step
gtail toks (gtail_of.Section at name) = leaf toks k.Section at ⨾ leaf toks k.Str name
gtail toks (gtail_of.Partition at name) = leaf toks k.Partition at ⨾ leaf toks k.Str name
gtail toks (gtail_of.CodeModel at name) = leaf toks k.CodeModel at ⨾ leaf toks k.Str name
gtail toks (gtail_of.Align at bytes) = leaf toks k.Align at ⨾ leaf toks k.Int bytes
gtail toks (gtail_of.Comdat c) = comdat toks c
gtail toks (gtail_of.Attach a) = attach toks a
gtail toks (gtail_of.Word at) = aword toks at

-- a Global stands here, and `=` directly behind it
unfoldable pub names_next : List Terminal → ℕ → Bool
names_next toks a = stands toks k.Global a && stands toks k.Equals (suc a)

-- an initial value; it is not the name of the next entity
abbrev pub initial : List Terminal → Const → Step
initial toks c = where_not (names_next toks) (const toks c)

abbrev pub global_var : List Terminal → GlobalVar → Step
global_var toks x = leaf toks k.Global x.name ⨾ the toks k.Equals ⨾ optional (leaf toks k.Linkage) x.linkage ⨾ many (gword toks) x.words ⨾ leaf toks k.Variable
    x.kind ⨾ ty toks x.ty ⨾ optional (initial toks) x.initial ⨾ many (next toks (gtail toks)) x.tails ⨾ many (leaf toks k.Group) x.groups

abbrev pub declare : List Terminal → Declare → Step
declare toks x = leaf toks k.Declare x.word ⨾ many (attach toks) x.attached ⨾ header toks x.header

abbrev pub define : List Terminal → Define → Step
define toks x = leaf toks k.Define x.word ⨾ header toks x.header ⨾ the toks k.LeftBrace ⨾ body toks x.body ⨾ leaf toks k.RightBrace x.close

abbrev pub type_body : List Terminal → TypeBody → Step
type_body toks (body_of.Ty t) = ty toks t
type_body toks (body_of.Opaque at) = leaf toks k.OpaqueWord at

abbrev pub entity : List Terminal → Entity → Step
entity toks (entity_of.Opaque at) = leaf toks k.Opaque at
entity toks (entity_of.SourceFilename name) = the toks k.SourceFilename ⨾ the toks k.Equals ⨾ leaf toks k.Str name
entity toks (entity_of.Target which text) = the toks k.Target ⨾ leaf toks k.TargetPart which ⨾ the toks k.Equals ⨾ leaf toks k.Str text
entity toks (entity_of.Named name kind) = leaf toks k.Local name ⨾ the toks k.Equals ⨾ the toks k.TypeWord ⨾ type_body toks kind
entity toks (entity_of.Attributes group words) =
    the toks k.Attributes ⨾ leaf toks k.Group group ⨾ the toks k.Equals ⨾ the toks k.LeftBrace ⨾ many (gattr toks) words ⨾ the toks k.RightBrace
entity toks (entity_of.GlobalVar x) = global_var toks x
entity toks (entity_of.Declare x) = declare toks x
entity toks (entity_of.Define x) = define toks x
