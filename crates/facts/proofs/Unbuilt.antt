-- A fact of a kind that is not built stands in no set that supports itself.
use Rattle.std.proofs.Common.{◌≡◌, Bool, true, false, refl, sym, ◌∙◌}
use Rattle.std.proofs.lemmas.Bool.{and_parts}
use Rattle.ir_module.specs.declared.module.Module.{Module}
use Rattle.facts.specs.Facts.{Fact}
use Rattle.facts.specs.Masks.{is_built, has_bit_of}
use Rattle.facts.specs.Justified.{SupportsItself}

-- each fact of such a set is one of the module, so its kind is built
pub unbuilt : (m : Module) (held : Fact → Bool) → SupportsItself m held → (x : Fact) → is_built x.pos x.bit ≡ false → held x ≡ false
unbuilt m held is x off = by (held x) refl
  where
    by : (b : Bool) → held x ≡ b → b ≡ false
    by false e = refl
    by true e =
        let on : is_built x.pos x.bit ≡ true = (and_parts (is_built x.pos x.bit) (has_bit_of m x.pos x.bit) (is x e).0.1).0 in
        absurd (let clash : false ≡ true = sym off ∙ on in cc)
