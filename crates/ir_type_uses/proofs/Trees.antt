-- The rules by which constants are taken apart.
use Rattle.ir_tree.specs.declared.constants.Const.TheViews.{the_lemmas as const_lemmas}
use Rattle.ir_tree.specs.declared.constants.Const.TheFolds.{fold-roll-Const, fold_out-Const}

pub ruleset const_equations = (const_lemmas, fold-roll-Const)
