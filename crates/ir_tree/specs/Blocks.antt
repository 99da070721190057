-- The productions of blocks and of the body of a function.
use Rattle.std.specs.Prelude.{ℕ, List, Option}
use Rattle.ir_tree.specs.declared.terminal.Terminal.{Terminal}
use Rattle.ir_tree.specs.declared.terminal.Terminal.TheVariants as k
use Rattle.ir_tree.specs.declared.blocks.Line.{Line}
use Rattle.ir_tree.specs.declared.blocks.Line.TheVariants as line_of
use Rattle.ir_tree.specs.declared.blocks.Last.{Last}
use Rattle.ir_tree.specs.declared.blocks.Last.TheVariants as last_of
use Rattle.ir_tree.specs.declared.blocks.First.{First}
use Rattle.ir_tree.specs.declared.blocks.Block.{Block}
use Rattle.ir_tree.specs.declared.blocks.Body.{Body}
use Rattle.ir_tree.specs.Steps.{Step, ◌⨾◌, the, leaf, many, optional, next}
use Rattle.ir_tree.specs.Attributes.{attach}
use Rattle.ir_tree.specs.Instructions.{instr, invoke, term}

-- `[Local '=']`
abbrev pub result : List Terminal → Option ℕ → Step
result toks = optional (λ name. leaf toks k.Local name ⨾ the toks k.Equals)

abbrev pub line : List Terminal → Line → Step
line toks (line_of.Opaque at) = leaf toks k.Opaque at
line toks (line_of.Instr name x attached) = result toks name ⨾ instr toks x ⨾ many (next toks (attach toks)) attached

abbrev pub last : List Terminal → Last → Step
last toks (last_of.Term x attached after) = term toks x ⨾ many (next toks (attach toks)) attached ⨾ many (leaf toks k.Opaque) after
last toks (last_of.Invoke name x attached after) = result toks name ⨾ invoke toks x ⨾ many (next toks (attach toks)) attached ⨾ many (leaf toks k.Opaque) after

abbrev pub first : List Terminal → First → Step
first toks x = optional (leaf toks k.Label) x.label ⨾ many (line toks) x.lines ⨾ last toks x.last

abbrev pub block : List Terminal → Block → Step
block toks x = leaf toks k.Label x.label ⨾ many (line toks) x.lines ⨾ last toks x.last

-- `first block*`
abbrev pub body : List Terminal → Body → Step
body toks x = first toks x.first ⨾ many (block toks) x.blocks
