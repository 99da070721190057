-- Parts of terminators that have functions of their own.
use Rattle.std.specs.Prelude.{ℕ, List}
use Rattle.ir_tree.specs.declared.terminal.Terminal.{Terminal}
use Rattle.ir_tree.specs.declared.terminal.Terminal.TheVariants as k
use Rattle.ir_tree.specs.declared.instructions.Case.{Case}
use Rattle.ir_tree.specs.Steps.{Step, ◌⨾◌, the, many}
use Rattle.ir_tree.specs.Instructions.{target, case}

-- `',' 'label' Local ',' 'label' Local`
abbrev pub targets : List Terminal → ℕ × ℕ → Step
targets toks x = the toks k.Comma ⨾ target toks x.0 ⨾ the toks k.Comma ⨾ target toks x.1

-- `',' 'label' Local '[' case* ']'`
abbrev pub table : List Terminal → ℕ × List Case → Step
table toks x = the toks k.Comma ⨾ target toks x.0 ⨾ the toks k.LeftBracket ⨾ many (case toks) x.1 ⨾ the toks k.RightBracket

-- where an invoke goes on: `'to' 'label' Local 'unwind' 'label' Local`
abbrev pub destinations : List Terminal → ℕ × ℕ → Step
destinations toks x = the toks k.To ⨾ target toks x.0 ⨾ the toks k.Unwind ⨾ target toks x.1
