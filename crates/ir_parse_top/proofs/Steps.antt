-- The first steps of a sequence, taken as one step.
use Rattle.std.proofs.Common.{◌≡◌, sym, ap, ◌∙◌}
use Rattle.ir_tree.specs.Steps.{Step, ◌⨾◌}
use Rattle.ir_tree.proofs.Clear.{then_then}

two : (f g h : Step) → (f ⨾ g ⨾ h) ≡ ((f ⨾ g) ⨾ h)
two f g h = λ i a. sym (then_then (f a) g h) i

three : (f g h i : Step) → (f ⨾ g ⨾ h ⨾ i) ≡ ((f ⨾ g ⨾ h) ⨾ i)
three f g h i = ap (λ z. f ⨾ z) (two g h i) ∙ two f (g ⨾ h) i

pub four : (f g h i j : Step) → (f ⨾ g ⨾ h ⨾ i ⨾ j) ≡ ((f ⨾ g ⨾ h ⨾ i) ⨾ j)
four f g h i j = ap (λ z. f ⨾ z) (three g h i j) ∙ two f (g ⨾ h ⨾ i) j

pub five : (f g h i j o : Step) → (f ⨾ g ⨾ h ⨾ i ⨾ j ⨾ o) ≡ ((f ⨾ g ⨾ h ⨾ i ⨾ j) ⨾ o)
five f g h i j o = ap (λ z. f ⨾ z) (four g h i j o) ∙ two f (g ⨾ h ⨾ i ⨾ j) o
