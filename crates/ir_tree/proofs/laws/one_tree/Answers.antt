use Rattle.ir_tree.specs.Terminals.{terminals}
use Rattle.ir_tree.proofs.ClearEntities as entities
use Rattle.ir_tree.proofs.laws.one_tree.Goals as goal

pub returns : goal.returns
returns c = λ b ts t u h g. entities.one_tree (terminals b ts) t u h g
