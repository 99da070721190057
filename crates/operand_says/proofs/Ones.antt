-- One bit, for others.
use Rattle.std.proofs.Common.{◌≡◌, ◌<◌, ◌^◌, inl, inr, ℕ, Bool, sym, subst, arith}
use Rattle.std.proofs.lemmas.Bool.{cases_eq}
use Rattle.std.proofs.lemmas.Nat.Bits.{bit_at-pow_same, bit_at-pow_other}
use Rattle.ir_module.specs.declared.module.Module.{Module}
use Rattle.facts.specs.Facts.{Fact}
use Rattle.rule_terms.specs.declared.term.NewTerm.{NewTerm}
use Rattle.rule_terms.specs.declared.term.NewTerm.TheOpen.{NewTerm-F as made}
use Rattle.rule_terms.specs.declared.term.NewTerm.TheViews.{roll-NewTerm}
use Rattle.positions.specs.Numbering.{Numbered}
use Rattle.rule_says.specs.Saying.{IsSet, Says}
use Rattle.rule_says.proofs.Terms.{says_iff, says_spread}

pub only_one : (bit b : ℕ) → IsSet (2 ^ bit) b → b ≡ bit
only_one bit b set = elim (cases_eq b bit) [
  | inl same ↦ same
  | inr other ↦ absurd (let none = bit_at-pow_other bit b other in omega (arith, none, set))
]

pub one_says : (m : Module) (ps : Numbered) (bit one to : ℕ) (t u : NewTerm) (A : (Fact → Bool) → ℕ → Type 0) (S : ℕ → Fact → Type 0) → bit < 43
    → one ≡ 2 ^ bit → t ≡ roll-NewTerm (made.Spread bit to u) → Says m ps one u A (λ y. (b : ℕ) × IsSet one b × S b y)
    → Says m ps to t (λ held b. A held bit) (S bit)
one_says m ps bit one to t u A S low word is says =
    let set : IsSet one bit = subst (λ w. IsSet w bit) (sym word) (bit_at-pow_same bit) in
    subst (λ z. Says m ps to z (λ held b. A held bit) (S bit)) (sym is)
    (says_iff m ps to (roll-NewTerm (made.Spread bit to u)) (λ held b. A held bit × IsSet to b) (λ held b. A held bit)
    (λ y. (b : ℕ) × IsSet one b × S b y) (S bit) (says_spread m ps to one bit to u A (λ y. (b : ℕ) × IsSet one b × S b y) (omega (arith, low)) set says)
    (λ held b asked. ((λ h. h.0), λ h. (h, asked)))
    (λ y. ((λ h. subst (λ b. S b y) (only_one bit h.0 (subst (λ w. IsSet w h.0) word h.1)) h.2), λ h. (bit, set, h))))
