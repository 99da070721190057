-- The rules by which a tree that leads back to itself is taken apart.
use Rattle.ir_tree.specs.declared.attributes.Inner.TheViews.{the_lemmas}
use Rattle.ir_tree.specs.declared.attributes.Inner.TheFolds.{fold-roll-Inner, fold_out-Inner}
use Rattle.ir_tree.specs.declared.types.Ty.TheViews.{the_lemmas as ty_lemmas}
use Rattle.ir_tree.specs.declared.types.Ty.TheFolds.{fold-roll-Ty, fold_out-Ty}

pub ruleset equations = (the_lemmas, fold-roll-Inner, fold_out-Inner)

pub ruleset type_equations = (ty_lemmas, fold-roll-Ty, fold_out-Ty)
