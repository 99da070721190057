use Rattle.std.proofs.Common.{◌-◌, ℕ, List, [], sym}
use Rattle.std.specs.Borrow.{Bor}
use Rattle.std.proofs.lemmas.List.{get_or-map}
use Rattle.ir_tree.specs.declared.terminal.Terminal.{Terminal}
use Rattle.ir_tree.specs.Terminals.{entries}
use Rattle.ir_tree.proofs.reserved.row.Goals as goal

pub returns : goal.returns
returns c = sym (get_or-map (λ (row : Bor (List (Bor (List ℕ) × Terminal))). entries row.now) c.args.rows.now (c.args.letter - 97) _ [] c.requires.high)
