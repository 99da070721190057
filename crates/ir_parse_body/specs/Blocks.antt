-- Parts of blocks that have functions of their own.
use Rattle.std.specs.Prelude.{ℕ, List}
use Rattle.ir_tree.specs.declared.terminal.Terminal.{Terminal}
use Rattle.ir_tree.specs.declared.terminal.Terminal.TheVariants as k
use Rattle.ir_tree.specs.declared.attributes.Attach.{Attach}
use Rattle.ir_tree.specs.declared.blocks.Line.{Line}
use Rattle.ir_tree.specs.declared.blocks.Last.{Last}
use Rattle.ir_tree.specs.Steps.{Step, ◌⨾◌, the, leaf, many, next}
use Rattle.ir_tree.specs.Attributes.{attach}
use Rattle.ir_tree.specs.Blocks.{line, last}

-- `Local '='`
abbrev pub named : List Terminal → ℕ → Step
named toks name = leaf toks k.Local name ⨾ the toks k.Equals

-- `(',' attach)* Opaque*`
abbrev pub behind : List Terminal → List Attach × List ℕ → Step
behind toks x = many (next toks (attach toks)) x.0 ⨾ many (leaf toks k.Opaque) x.1

-- `line* last`
abbrev pub inside : List Terminal → List Line × Last → Step
inside toks x = many (line toks) x.0 ⨾ last toks x.1
