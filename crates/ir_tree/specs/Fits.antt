-- What it is for a tree to fit the tokens of a text.
use Rattle.std.specs.Prelude.{List, length}
use Rattle.ir_token.specs.Bytes.{Bytes}
use Rattle.ir_token.specs.declared.token.Token.{Token}
use Rattle.ir_tree.specs.declared.terminal.Terminal.{Terminal}
use Rattle.ir_tree.specs.declared.entities.Tree.{Tree}
use Rattle.ir_tree.specs.Steps.{Taken}
use Rattle.ir_tree.specs.Terminals.{terminals}
use Rattle.ir_tree.specs.Entities.{entity}

-- entities one behind the other, each the longest that fits from its token, to the end of the tokens
abbrev pub FitsTerminals : Tree → List Terminal → Type 0
FitsTerminals tree toks = Taken (entity toks) tree.entities 0 (length toks)

-- the tree is made by the productions, and its leaves and quoted words in order are the tokens
abbrev pub Fits : Bytes → Tree → List Token → Type 0
Fits b tree ts = FitsTerminals tree (terminals b ts)
