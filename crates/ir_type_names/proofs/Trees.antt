-- The rules by which types are taken apart.
use Rattle.ir_tree.specs.declared.types.Ty.TheViews.{the_lemmas as ty_lemmas}
use Rattle.ir_tree.specs.declared.types.Ty.TheFolds.{fold-roll-Ty, fold_out-Ty}

pub ruleset type_equations = (ty_lemmas, fold-roll-Ty, fold_out-Ty)
