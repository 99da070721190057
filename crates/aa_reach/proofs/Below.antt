-- What is met in for each number below another, as a loop goes on; and the numbers of words and of their bits.
use Rattle.std.proofs.Common.{arith, ◌≡◌, ◌+◌, ◌-◌, ◌*◌, ◌/◌, ◌%◌, ◌<◌, ◌≤◌, ◌^◌, ◌⊎◌, ◌&&◌, nat_le, nat_lt, ℕ, Bool, true, sym, ap, subst, ◌∙◌, inl, inr}
use Rattle.std.proofs.lemmas.Bool.{cases_eq, cases_lt, and_parts, and_from, le-leb}
use Rattle.std.proofs.lemmas.Nat.Bits.{bit_at_ones, bit_at_above}
use Rattle.ir_module.specs.declared.module.Module.{Module}
use Rattle.facts.specs.declared.pos.Pos.{Pos}
use Rattle.facts.specs.declared.pos.Pos.TheVariants as pos
use Rattle.facts.specs.Bodies.{body_count}
use Rattle.facts.specs.Facts.{Fact, fact, unreached_by}
use Rattle.facts.specs.Masks.{is_built, has_bit_of, is_bit}
use Rattle.rule_terms.specs.System.{System}
use Rattle.positions.specs.Numbering.{Numbered}
use Rattle.rule_says.specs.Saying.{IsSet}
use Rattle.rule_says.specs.Meeting.{Meets}
use Rattle.rule_says.proofs.Mets.{meets_none, meets_then, meets_iff}

-- what is asked for each number below n
abbrev pub AskBelow : ℕ → (ℕ → (Fact → Bool) → Pos → ℕ → Type 0) → (Fact → Bool) → Pos → ℕ → Type 0
AskBelow n asks held p bit = (k : ℕ) → k < n → asks k held p bit

abbrev pub SpeakBelow : ℕ → (ℕ → Pos → Fact → Type 0) → Pos → Fact → Type 0
SpeakBelow n speaks p y = (k : ℕ) × (k < n) × speaks k p y

module _ (m : Module) (ps : Numbered) (A : ℕ → (Fact → Bool) → Pos → ℕ → Type 0) (S : ℕ → Pos → Fact → Type 0) where
  -- before the first
  pub below_none : (s : System) → Meets m ps s s (AskBelow 0 A) (SpeakBelow 0 S)
  below_none s = meets_iff m ps s s (λ held p bit. Unit {0}) (AskBelow 0 A) (λ p y. ⊥) (SpeakBelow 0 S) (meets_none m ps s)
      (λ held p bit. ((λ h k l. absurd (omega (arith, l))), λ h. tt)) (λ p y. ((λ h. absurd h), λ w. absurd (let l = w.1 in omega (arith, l))))

  -- one more
  pub below_more : (a b c : System) (n : ℕ) → Meets m ps a b (AskBelow n A) (SpeakBelow n S) → Meets m ps b c (A n) (S n) →
      Meets m ps a c (AskBelow (n + 1) A) (SpeakBelow (n + 1) S)
  below_more a b c n before here =
      meets_iff m ps a c (λ held p bit. AskBelow n A held p bit × A n held p bit) (AskBelow (n + 1) A) (λ p y. SpeakBelow n S p y ⊎ S n p y)
      (SpeakBelow (n + 1) S)
      (meets_then m ps a b c (AskBelow n A) (A n) (SpeakBelow n S) (S n) before here)
      (λ held p bit. ((λ w. more held p bit w), λ h. ((λ k l. h k (omega (arith, l))), h n (omega arith))))
      (λ p y. ((λ w. add p y w), λ w. part p y w))
    where
      low : (k : ℕ) → k < n + 1 → (k ≡ n → ⊥) → k < n
      low k l other = grind (arith, l, other)

      more : (held : Fact → Bool) (p : Pos) (bit : ℕ) → AskBelow n A held p bit × A n held p bit → AskBelow (n + 1) A held p bit
      more held p bit w k l = elim (cases_eq k n) [
        | inl same ↦ subst (λ j. A j held p bit) (sym same) w.1
        | inr other ↦ w.0 k (low k l other)
      ]

      add : (p : Pos) (y : Fact) → SpeakBelow n S p y ⊎ S n p y → SpeakBelow (n + 1) S p y
      add p y (inl w) = (w.0, (let l = w.1 in omega (arith, l)), w.2)
      add p y (inr s) = (n, omega arith, s)

      part : (p : Pos) (y : Fact) → SpeakBelow (n + 1) S p y → SpeakBelow n S p y ⊎ S n p y
      part p y w = elim (cases_eq w.0 n) [
        | inl same ↦ inr (subst (λ j. S j p y) same w.2)
        | inr other ↦ inl (w.0, low w.0 w.1 other, w.2)
      ]

-- ---- words and bits

-- the bits for facts are those below 47
pub facts_low : (bit : ℕ) → IsSet (2 ^ 47 - 1) bit → bit < 47
facts_low bit set = elim (cases_lt bit 47) [
  | inl low ↦ low
  | inr high ↦ absurd (let none = bit_at_above (2 ^ 47 - 1) 47 bit (omega arith) high in omega (arith, set, none))
]

pub low_facts : (bit : ℕ) → bit < 47 → IsSet (2 ^ 47 - 1) bit
low_facts bit low = bit_at_ones 47 bit low

-- the fact of the body of a bit is that bit of its word
pub unreached_is : (h k bit : ℕ) → bit < 47 → unreached_by h (k * 47 + bit) ≡ fact (pos.Reach h k) bit
unreached_is h k bit low =
    let quotient : (k * 47 + bit) / 47 ≡ k = omega (arith, low) in
    let rest : (k * 47 + bit) % 47 ≡ bit = omega (arith, low) in
    ap (λ n. fact (pos.Reach h n) ((k * 47 + bit) % 47)) quotient ∙ ap (λ n. fact (pos.Reach h k) n) rest

-- two rows have the same bits in a word
pub same_word : (m : Module) (h row k bit : ℕ) → row ≤ body_count m → is_bit m (pos.Reach h k) bit ≡ true → is_bit m (pos.Reach row k) bit ≡ true
same_word m h row k bit l e =
    let parts = and_parts (is_built (pos.Reach h k) bit) (has_bit_of m (pos.Reach h k) bit) e in
    let rest = (and_parts (nat_le h (body_count m)) (nat_lt bit 47 && nat_lt (k * 47 + bit) (body_count m)) parts.1).1 in
    and_from (is_built (pos.Reach row k) bit) (has_bit_of m (pos.Reach row k) bit) parts.0
    (and_from (nat_le row (body_count m)) (nat_lt bit 47 && nat_lt (k * 47 + bit) (body_count m)) (le-leb row (body_count m) l) rest)
