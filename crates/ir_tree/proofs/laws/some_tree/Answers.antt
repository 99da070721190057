use Rattle.std.proofs.Common.{◌≡◌, List, [], ◌∷◌, refl, sym, ap, ◌∙◌, subst, arith}
use Rattle.ir_tree.specs.declared.terminal.Terminal.{Terminal}
use Rattle.ir_tree.specs.declared.terminal.Terminal.TheVariants as k
use Rattle.ir_tree.specs.declared.types.Ty.TheVariants as ty_is
use Rattle.ir_tree.specs.declared.types.Ty.TheOpen.Ty-F.{Void}
use Rattle.ir_tree.specs.declared.types.Ty.TheFolds.{fold-roll-Ty}
use Rattle.ir_tree.specs.Steps.{Step, sees}
use Rattle.ir_tree.specs.Types.{type_layer, ty}
use Rattle.ir_tree.specs.Terminals.{rows, row_of, terminals}
use Rattle.ir_tree.specs.Fits.{FitsTerminals}
use Rattle.ir_tree.specs.Example as example
use Rattle.ir_tree.proofs.ClearEntities.{entity_within}
use Rattle.ir_tree.proofs.laws.some_tree.Goals as goal

abbrev kinds : List Terminal
kinds = k.Define ∷ k.Void ∷ k.Global ∷ k.LeftParen ∷ k.RightParen ∷ k.LeftBrace ∷ k.Ret ∷ k.Void ∷ k.RightBrace ∷ []

are_kinds : kinds ≡ terminals example.text example.tokens
unfolding rows row_of
are_kinds = refl

void_type : ty kinds (ty_is.Void 1) ≡ type_layer kinds (Void 1)
void_type = ap (λ t. ty kinds t) (sym (ty_is.rolls-Void 1)) ∙ fold-roll-Ty Step (type_layer kinds) (Void 1)

fits : FitsTerminals example.tree kinds
unfolding sees
fits = (9, ((rw void_type refl, λ u c e. entity_within kinds u 0 c (omega arith) e), refl))

pub returns : goal.returns
returns c = subst (λ ts. FitsTerminals example.tree ts) are_kinds fits
