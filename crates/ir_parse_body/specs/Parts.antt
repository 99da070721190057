-- Parts of instructions that have functions of their own.
use Rattle.std.specs.Prelude.{ℕ, List}
use Rattle.ir_tree.specs.declared.terminal.Terminal.{Terminal}
use Rattle.ir_tree.specs.declared.terminal.Terminal.TheVariants as k
use Rattle.ir_tree.specs.Steps.{Step, ◌⨾◌, the, leaf, next}
use Rattle.ir_tree.specs.Types.{ty}
use Rattle.ir_tree.specs.Values.{value}
use Rattle.ir_parse_body.specs.declared.operations.Sides.{Sides}

-- `type value ',' value`
abbrev pub operands : List Terminal → Sides → Step
operands toks x = ty toks x.ty ⨾ value toks x.left ⨾ the toks k.Comma ⨾ value toks x.right

-- `',' 'align' Int`
abbrev pub aligned : List Terminal → ℕ → Step
aligned toks = next toks (λ bytes. the toks k.Align ⨾ leaf toks k.Int bytes)
