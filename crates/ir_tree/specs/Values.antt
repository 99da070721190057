-- The productions of values.
use Rattle.std.specs.Prelude.{List}
use Rattle.ir_tree.specs.declared.terminal.Terminal.{Terminal}
use Rattle.ir_tree.specs.declared.terminal.Terminal.TheVariants as k
use Rattle.ir_tree.specs.declared.values.Value.{Value}
use Rattle.ir_tree.specs.declared.values.Value.TheVariants.{Local, Const}
use Rattle.ir_tree.specs.declared.values.Tvalue.{Tvalue}
use Rattle.ir_tree.specs.Steps.{Step, ◌⨾◌, leaf}
use Rattle.ir_tree.specs.Types.{ty}
use Rattle.ir_tree.specs.Constants.{const}

abbrev pub value : List Terminal → Value → Step
value toks (Local name) = leaf toks k.Local name
value toks (Const c) = const toks c

abbrev pub tvalue : List Terminal → Tvalue → Step
tvalue toks v = ty toks v.ty ⨾ value toks v.value
