-- The greatest set: the union of all that support themselves, and the only one.
use Rattle.std.proofs.Common.{◌≡◌, ◌↔◌, Bool, true, false, refl}
use Rattle.ir_module.specs.declared.module.Module.{Module}
use Rattle.facts.specs.Facts.{Fact}
use Rattle.facts.specs.Justified.{IsGreatest, IsInSome}

-- it is one of these sets, and contains the others
pub is_union : (m : Module) (held : Fact → Bool) → IsGreatest m held → (x : Fact) → (held x ≡ true) ↔ IsInSome m x
is_union m held g x = (λ is. (held, g.is_one, is), λ some. g.contains some.0 some.1 x some.2)

-- each of two greatest sets contains the other
pub one_set : (m : Module) (held other : Fact → Bool) → IsGreatest m held → IsGreatest m other → (x : Fact) → held x ≡ other x
one_set m held other g h x = by (held x) (other x) refl refl
  where
    by : (a b : Bool) → held x ≡ a → other x ≡ b → a ≡ b
    by true true e d = refl
    by false false e d = refl
    by true false e d = let both = h.contains held g.is_one x e in cc
    by false true e d = let both = g.contains other h.is_one x d in cc
