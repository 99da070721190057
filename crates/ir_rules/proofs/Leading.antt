-- Arms of a phi, each held against the first one from its block.
use Rattle.std.proofs.Common.{◌≡◌, ◌==◌, ◌+◌, count_by, ◌<◌, ◌≤◌, ◌∙◌, ◌↔◌, ℕ, Bool, true, false, MatchBool, get_or, List, [], ◌∷◌, length, slice_get}
use Rattle.std.proofs.Common.{Option, None, Some}
use Rattle.std.proofs.Common.{arith, ap, subst, sym, refl, inl, inr, IsTrue}
use Rattle.std.proofs.lemmas.Bool.{true≢false}
use Rattle.std.proofs.lemmas.Bool.Decides.{eqb_tells}
use Rattle.std.proofs.lemmas.Option.{none-some, same_Some, slice_get_within, slice_get-get_or}
use Rattle.ir_types.specs.declared.ir_type.IrType.{IrType}
use Rattle.ir_module.specs.declared.op.Written.{Written}
use Rattle.ir_module.specs.declared.op.Arm.{Arm}
use Rattle.ir_module.specs.declared.module.Module.{Module}
use Rattle.ir_module.specs.WellFormed.{Each, IsWellFormed}
use Rattle.ir_operands.specs.Same.{AreOneAlone, LeadTo, AreOneValue}
use Rattle.ir_operands.proofs.One.{turned, one_trans}
use Rattle.ir_rules.specs.Named.{IsNamed}
use Rattle.ir_rules.specs.Blocks.{AgreeByBlock, ArmsFit, arm_count, edge_count}
use Rattle.ir_rules.specs.Lookups.{AreLed}
use Rattle.ir_rules.proofs.Named.{parts_of, named_within}

-- places lead to one part
lead_once : (parts : List Written) (places : List ℕ) (w x y : Written) → LeadTo parts places w x → LeadTo parts places w y → x ≡ y
lead_once parts [] w x y p q = sym p ∙ q
lead_once parts (i ∷ places) w x y p q =
    let one : p.0 ≡ q.0 = same_Some p.0 q.0 (sym p.2 ∙ q.2) in
    lead_once parts places q.0 x y (subst (λ (z : Written). LeadTo parts places z x) one p.3) q.3

-- an operand is one value with itself
one_refl : (types : List IrType) (numbers : List ℕ) (parts : List Written) (w : Written) → AreOneValue types numbers parts w w
one_refl types numbers parts w places x y p q =
    subst (λ (z : Written). AreOneAlone types numbers x z) (lead_once parts places w x y p q) (refl, refl)

pub none_led : (m : Module) (numbers : List ℕ) (arms : List Arm) (first : ℕ → Option ℕ) → ((x : ℕ) → first x ≡ None) → AreLed m numbers arms first 0
none_led m numbers arms first none = record {
  each = λ x k e. absurd (none-some k (sym (none x) ∙ e));
  led = λ j b l at. absurd (omega (arith, l));
}

-- the first arm from a block
pub led_first : (m : Module) (numbers : List ℕ) (arms : List Arm) (first more : ℕ → Option ℕ) (i : ℕ) (b : Arm) → slice_get arms i ≡ Some b
    → first b.from.0 ≡ None → more b.from.0 ≡ Some i → ((x : ℕ) → (b.from.0 ≡ x → ⊥) → more x ≡ first x) → AreLed m numbers arms first i
    → AreLed m numbers arms more (i + 1)
led_first m numbers arms first more i b here fresh now others h = record {
  each = λ x k e. elim (eqb_tells b.from.0 x) [
    | inl (_, same) ↦
        (let is : i ≡ k = same_Some i k (sym now ∙ ap more same ∙ e) in
        (b, omega (arith, is), subst (λ (n : ℕ). slice_get arms n ≡ Some b) is here, same))
    | inr (_, other) ↦ (let f = h.each x k (sym (others x other) ∙ e) in (f.0, omega (arith, f.1), f.2, f.3))
  ];
  led = λ j a l at. elim (eqb_tells j i) [
    | inl (_, same) ↦
        (let at_i : slice_get arms i ≡ Some a = subst (λ (n : ℕ). slice_get arms n ≡ Some a) same at in
        let is : b ≡ a = same_Some b a (sym here ∙ at_i) in (
          i,
          b,
          ap (λ (z : Arm). more z.from.0) (sym is) ∙ now,
          here,
          subst (λ (z : Arm). AreOneValue m.types numbers m.parts b.val z.val) is
              (one_refl m.types numbers m.parts b.val),
        ))
    | inr (_, other) ↦
        (let f = h.led j a (omega (arith, l, other)) at in
        let apart : b.from.0 ≡ a.from.0 → ⊥ = λ e. none-some f.0 (sym fresh ∙ ap first e ∙ f.2) in
        (f.0, f.1, others a.from.0 apart ∙ f.2, f.3, f.4))
  ];
}

-- one more arm from a block that has a first one
pub led_next : (m : Module) (numbers : List ℕ) (arms : List Arm) (first : ℕ → Option ℕ) (i k : ℕ) (a b : Arm) → slice_get arms i ≡ Some b
    → first b.from.0 ≡ Some k → slice_get arms k ≡ Some a → AreOneValue m.types numbers m.parts a.val b.val → AreLed m numbers arms first i
    → AreLed m numbers arms first (i + 1)
led_next m numbers arms first i k a b here known at_k one h = record {
  each = λ x n e. let f = h.each x n e in (f.0, omega (arith, f.1), f.2, f.3);
  led = λ j c l at. elim (eqb_tells j i) [
    | inl (_, same) ↦
        (let at_i : slice_get arms i ≡ Some c = subst (λ (n : ℕ). slice_get arms n ≡ Some c) same at in
        let is : b ≡ c = same_Some b c (sym here ∙ at_i) in
        (k, a, ap (λ (z : Arm). first z.from.0) (sym is) ∙ known, at_k, subst (λ (z : Arm). AreOneValue m.types numbers m.parts a.val z.val) is one))
    | inr (_, other) ↦ h.led j c (omega (arith, l, other)) at
  ];
}

-- an arm that is not one value with the first one from its block
pub not_agreed : (m : Module) (numbers : List ℕ) (arms : List Arm) (first : ℕ → Option ℕ) (i k : ℕ) (a b : Arm) → slice_get arms i ≡ Some b
    → first b.from.0 ≡ Some k → slice_get arms k ≡ Some a → (AreOneValue m.types numbers m.parts a.val b.val → ⊥) → AreLed m numbers arms first i
    → IsTrue false ↔ AgreeByBlock m numbers arms
not_agreed m numbers arms first i k a b here known at_k never h = (
  λ t. absurd (true≢false (sym t)),
  λ d.
      let f = h.each b.from.0 k known in
      let is : f.0 ≡ a = same_Some f.0 a (sym f.2 ∙ at_k) in
      let from : a.from.0 ≡ b.from.0 = subst (λ (z : Arm). z.from.0 ≡ b.from.0) is f.3 in
      absurd (never (d k i a b at_k here from)),
)

-- all arms are led
pub all_agreed : (m : Module) (numbers : List ℕ) (arms : List Arm) (first : ℕ → Option ℕ) (i : ℕ) → IsWellFormed m → Each arms (λ k arm. IsNamed m arm.val)
    → length arms ≤ i → AreLed m numbers arms first i → IsTrue true ↔ AgreeByBlock m numbers arms
all_agreed m numbers arms first i formed named l h = (
  λ t. λ j k x y at_j at_k same.
      let f = h.led j x (omega (arith, l, slice_get_within arms j x at_j)) at_j in
      let g = h.led k y (omega (arith, l, slice_get_within arms k y at_k)) at_k in
      let numbers_one : f.0 ≡ g.0 = same_Some f.0 g.0 (sym f.2 ∙ ap first same ∙ g.2) in
      let at_f : slice_get arms g.0 ≡ Some f.1 = subst (λ (n : ℕ). slice_get arms n ≡ Some f.1) numbers_one f.3 in
      let one : f.1 ≡ g.1 = same_Some f.1 g.1 (sym at_f ∙ g.3) in
      let left : AreOneValue m.types numbers m.parts x.val g.1.val =
      turned m.types numbers m.parts g.1.val x.val (subst (λ (z : Arm). AreOneValue m.types numbers m.parts z.val x.val) one f.4) in
      one_trans m.types numbers m.parts (parts_of m formed) x.val g.1.val y.val (named_within m g.1.val (named g.0 g.1 g.3)) left g.4,
  λ d. refl,
)

-- what a look at one more arm tells, which has a first one
pub next_told : (m : Module) (numbers : List ℕ) (arms : List Arm) (first : ℕ → Option ℕ) (i k : ℕ) (a b : Arm) (r : Bool) → slice_get arms i ≡ Some b
    → first b.from.0 ≡ Some k → slice_get arms k ≡ Some a → IsTrue r ↔ AreOneValue m.types numbers m.parts a.val b.val → AreLed m numbers arms first i
    → MatchBool r (AreLed m numbers arms first (i + 1)) (AgreeByBlock m numbers arms → ⊥)
next_told m numbers arms first i k a b true here known at_k one h = led_next m numbers arms first i k a b here known at_k (one.0 refl) h
next_told m numbers arms first i k a b false here known at_k one h =
    λ d. true≢false (sym ((not_agreed m numbers arms first i k a b here known at_k (λ p. true≢false (sym (one.1 p))) h).1 d))

-- the value of an arm is named
pub arm_named : (m : Module) (arms : List Arm) (k : ℕ) (d : Arm) → Each arms (λ k arm. IsNamed m arm.val) → k < length arms → IsNamed m (get_or arms k d).val
arm_named m arms k d h l = h k (get_or arms k d) (slice_get-get_or arms k d l)

-- V6 of a phi, by the blocks from which edges lead to its block
pub arms_told : (m : Module) (numbers : List ℕ) (b : ℕ) (arms seen : List Arm) (sources : List ℕ) (r : Bool) → seen ≡ arms
    → ((x : ℕ) → count_by (λ y. y == x) sources ≡ edge_count m x b)
    → IsTrue r ↔ (((x : ℕ) → arm_count seen x ≡ count_by (λ y. y == x) sources) × AgreeByBlock m numbers seen) → IsTrue r ↔ ArmsFit m numbers b arms
arms_told m numbers b arms seen sources r is counts h = (
  λ t.
      let f = h.0 t in record {
        incoming = λ x. ap (λ (as' : List Arm). arm_count as' x) (sym is) ∙ f.0 x ∙ counts x;
        agree = subst (λ (as' : List Arm). AgreeByBlock m numbers as') is f.1;
      },
  λ a. h.1 (
    λ x. ap (λ (as' : List Arm). arm_count as' x) is ∙ a.incoming x ∙ sym (counts x),
    subst (λ (as' : List Arm). AgreeByBlock m numbers as')
        (sym is) a.agree,
  ),
)
