-- The greatest set has every fact that it justifies: with that fact it still supports itself.
use Rattle.std.proofs.Common.{◌≡◌, ◌==◌, ◌&&◌, ◌||◌, Bool, true, false, inl, inr, refl, ap, subst, ◌∙◌}
use Rattle.std.proofs.lemmas.Bool.{eqb-true, eq-eqb, and_parts, and_from, or_left, or_right, or_cases}
use Rattle.ir_module.specs.declared.module.Module.{Module}
use Rattle.facts.specs.declared.pos.Pos.{Pos}
use Rattle.facts.specs.declared.pos.Pos.TheVariants as pos
use Rattle.facts.specs.Facts.{Fact, fact}
use Rattle.facts.specs.Masks.{IsFact}
use Rattle.facts.specs.Justified.{Justified, IsGreatest}
use Rattle.facts.proofs.Growing.{justified_more}

-- ---- which positions are the same

abbrev same_pos : Pos → Pos → Bool
same_pos (pos.Segment a) (pos.Segment b) = a.0 == b.0
same_pos (pos.Function a) (pos.Function b) = a.0 == b.0
same_pos (pos.Value a) (pos.Value b) = a.0 == b.0
same_pos (pos.Entry a i) (pos.Entry b j) = (a.0 == b.0) && (i == j)
same_pos (pos.Return a) (pos.Return b) = a.0 == b.0
same_pos (pos.Reach a i) (pos.Reach b j) = (a == b) && (i == j)
same_pos (pos.Effect a) (pos.Effect b) = a.0 == b.0
same_pos _ _ = false

clash : {A : Type 0} → false ≡ true → A
clash e = absurd (cc)

same_is : (p q : Pos) → same_pos p q ≡ true → p ≡ q
same_is (pos.Segment a) (pos.Segment b) e = ap (λ n. pos.Segment (record { 0 = n })) (eqb-true a.0 b.0 e)
same_is (pos.Function a) (pos.Function b) e = ap (λ n. pos.Function (record { 0 = n })) (eqb-true a.0 b.0 e)
same_is (pos.Value a) (pos.Value b) e = ap (λ n. pos.Value (record { 0 = n })) (eqb-true a.0 b.0 e)
same_is (pos.Entry a i) (pos.Entry b j) e =
    let w = and_parts (a.0 == b.0) (i == j) e in
    ap (λ n. pos.Entry (record { 0 = n }) i) (eqb-true a.0 b.0 w.0) ∙ ap (λ n. pos.Entry b n) (eqb-true i j w.1)
same_is (pos.Return a) (pos.Return b) e = ap (λ n. pos.Return (record { 0 = n })) (eqb-true a.0 b.0 e)
same_is (pos.Reach a i) (pos.Reach b j) e =
    let w = and_parts (a == b) (i == j) e in
    ap (λ n. pos.Reach n i) (eqb-true a b w.0) ∙ ap (λ n. pos.Reach b n) (eqb-true i j w.1)
same_is (pos.Effect a) (pos.Effect b) e = ap (λ n. pos.Effect (record { 0 = n })) (eqb-true a.0 b.0 e)
same_is (pos.Segment a) _ e = clash e
same_is (pos.Function a) _ e = clash e
same_is (pos.Value a) _ e = clash e
same_is (pos.Entry a i) _ e = clash e
same_is (pos.Return a) _ e = clash e
same_is (pos.Reach a i) _ e = clash e
same_is (pos.Effect a) _ e = clash e

same_itself : (p : Pos) → same_pos p p ≡ true
same_itself (pos.Segment a) = eq-eqb a.0 a.0 refl
same_itself (pos.Function a) = eq-eqb a.0 a.0 refl
same_itself (pos.Value a) = eq-eqb a.0 a.0 refl
same_itself (pos.Entry a i) = and_from (a.0 == a.0) (i == i) (eq-eqb a.0 a.0 refl) (eq-eqb i i refl)
same_itself (pos.Return a) = eq-eqb a.0 a.0 refl
same_itself (pos.Reach a i) = and_from (a == a) (i == i) (eq-eqb a a refl) (eq-eqb i i refl)
same_itself (pos.Effect a) = eq-eqb a.0 a.0 refl

-- ---- a set with one fact more

abbrev is_it : Fact → Fact → Bool
is_it x y = same_pos x.pos y.pos && (x.bit == y.bit)

abbrev with_fact : Fact → (Fact → Bool) → Fact → Bool
with_fact x held y = is_it x y || held y

is_same_fact : (x y : Fact) → is_it x y ≡ true → x ≡ y
is_same_fact x y e =
    let w = and_parts (same_pos x.pos y.pos) (x.bit == y.bit) e in
    ap (λ p. fact p x.bit) (same_is x.pos y.pos w.0) ∙ ap (λ bit. fact y.pos bit) (eqb-true x.bit y.bit w.1)

-- the greatest set has each fact that it justifies
pub has_justified : (m : Module) (held : Fact → Bool) → IsGreatest m held → (x : Fact) → IsFact m x → Justified m held x → held x ≡ true
has_justified m held g x is rule =
    g.contains (with_fact x held) stays x
    (or_left (is_it x x) (held x) (and_from (same_pos x.pos x.pos) (x.bit == x.bit) (same_itself x.pos) (eq-eqb x.bit x.bit refl)))
  where
    grown : (y : Fact) → Justified m held y → Justified m (with_fact x held) y
    grown y = justified_more m held (with_fact x held) (λ z no_effect e. or_right (is_it x z) (held z) e) y

    stays : (y : Fact) → with_fact x held y ≡ true → IsFact m y × Justified m (with_fact x held) y
    stays y e = elim (or_cases (is_it x y) (held y) e) [
      | inl here ↦ let same = is_same_fact x y here in (subst (IsFact m) same is, grown y (subst (Justified m held) same rule))
      | inr old ↦ let was = g.is_one y old in (was.0, grown y was.1)
    ]
