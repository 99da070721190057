-- What was found at several places, put together.
use Rattle.std.proofs.Common.{◌≡◌, ◌⊎◌, ◌↔◌, ℕ, ◌+◌, ◌<◌, ◌≤◌, Bool, true, false, IsTrue, ◌||◌, ◌&&◌, ltb, eqb, cond, get_or, List, [], ◌∷◌, ◌++◌}
use Rattle.std.proofs.Common.{Option, None, Some, slice_get, length, refl, sym, ap, subst, ◌∙◌, arith, inl, inr}
use Rattle.std.proofs.lemmas.Bool.{cases_lt, cases_eq, lt-ltb, le-ltb, eq-eqb, ne_eqb, eqb-true, or_cases}
use Rattle.std.proofs.lemmas.Option.{slice_get_within}
use Rattle.ir_module.proofs.Each.{EachOf}
use Rattle.ir_verify.specs.declared.broken.Broken.{Broken}
use Rattle.ir_verify.specs.declared.rule.Rule.{Rule}
use Rattle.ir_verify.specs.declared.rule.Rule.TheVariants as rule
use Rattle.ir_verify.specs.Rules.{number}
use Rattle.ir_verify.specs.Judging.{IsNoLater, is_later, first_of, unless, Judged, AllIn, BreaksAt, OneIn, JudgedIn, Keeps, Breaks, IsOf}

no_later_trans : (a b c : Broken) → IsNoLater a b → IsNoLater b c → IsNoLater a c
no_later_trans a b c h k = (
  omega (arith, h.0, k.0),
  λ e. let same : number a.rule ≡ number b.rule = omega (arith, h.0, k.0) in omega (arith, h.1 same, k.1 (omega arith)),
)

no_later_same : (a : Broken) → IsNoLater a a
no_later_same a = (omega arith, λ e. omega arith)

-- the one that is not later comes first
later_cases : (a b : Broken) → (IsNoLater a b × (is_later a b ≡ false)) ⊎ (IsNoLater b a × (is_later a b ≡ true))
later_cases a b =
    let m = number a.rule in let n = number b.rule in
    let rest = eqb m n && ltb b.at a.at in
    elim (cases_lt n m) [
      | inl less ↦ inr ((omega arith, λ e. absurd (omega arith)), ap (λ (z : Bool). z || rest) (lt-ltb n m less))
      | inr more ↦
          let off : is_later a b ≡ rest = ap (λ (z : Bool). z || rest) (le-ltb n m more) in
          elim (cases_eq m n) [
            | inl same ↦
                let on : rest ≡ ltb b.at a.at = ap (λ (z : Bool). z && ltb b.at a.at) (eq-eqb m n same) in
                elim (cases_lt b.at a.at) [
                  | inl l ↦ inr ((omega arith, λ e. omega arith), off ∙ on ∙ lt-ltb b.at a.at l)
                  | inr past ↦ inl ((omega arith, λ e. past), off ∙ on ∙ le-ltb b.at a.at past)
                ]
            | inr other ↦ inl ((more, λ e. absurd (other e)), off ∙ ap (λ (z : Bool). z && ltb b.at a.at) (ne_eqb m n other))
          ]
    ]

-- two things are judged by the first fault of both
pub both : (H K : Type 0) (F G : Broken → Type 0) (x y : Option Broken) → Judged H F x → Judged K G y → Judged (H × K) (λ b. F b ⊎ G b) (first_of x y)
both H K F G None None j k = ((j.0, k.0), λ b f. elim f [ inl l ↦ j.1 b l | inr r ↦ k.1 b r ])
both H K F G None (Some b) j k = (inr k.0, λ c f. elim f [ inl l ↦ absurd (j.1 c l) | inr r ↦ k.1 c r ])
both H K F G (Some a) None j k = (inl j.0, λ c f. elim f [ inl l ↦ j.1 c l | inr r ↦ absurd (k.1 c r) ])
both H K F G (Some a) (Some b) j k = elim (later_cases a b) [
  | inl first ↦ subst (λ (z : Bool). Judged (H × K) (λ c. F c ⊎ G c) (cond z (Some b) (Some a))) (sym first.1)
      (inl j.0, λ c f. elim f [ inl l ↦ j.1 c l | inr r ↦ no_later_trans a b c first.0 (k.1 c r) ])
  | inr second ↦ subst (λ (z : Bool). Judged (H × K) (λ c. F c ⊎ G c) (cond z (Some b) (Some a))) (sym second.1)
      (inr k.0, λ c f. elim f [ inl l ↦ no_later_trans b a c second.0 (j.1 c l) | inr r ↦ k.1 c r ])
]

-- the same said otherwise
pub turned : (H K : Type 0) (F G : Broken → Type 0) (x : Option Broken) → Judged H F x → (H → K) → ((b : Broken) → F b → G b) → ((b : Broken) → G b → F b)
    → Judged K G x
turned H K F G None j holds to from = (holds j.0, λ b g. j.1 b (from b g))
turned H K F G (Some a) j holds to from = (to a j.0, λ b g. j.1 b (from b g))

-- ---- rules at one offset

-- one rule
pub of_rule : (Holds : Type 0) (kept : Bool) (r : Rule) (at : ℕ) → (IsTrue kept ↔ Holds) → Judged Holds (BreaksAt r at Holds) (unless kept r at)
of_rule Holds true r at is = (is.0 refl, λ b f. f.2 (is.0 refl))
of_rule Holds false r at is =
    ((refl, refl, λ h. let e : false ≡ true = is.1 h in (cc)), λ b f. (omega (arith, ap number f.0), λ e. omega (arith, f.1)))

pub no_rules : (at : ℕ) (Demands : Rule → Type 0) → JudgedIn [] at Demands None
no_rules at Demands = (tt, λ b f. f)

-- one rule more
pub rule_more : (rs : List Rule) (r : Rule) (at : ℕ) (Demands : Rule → Type 0) (kept : Bool) (found : Option Broken) → (IsTrue kept ↔ Demands r)
    → JudgedIn rs at Demands found → JudgedIn (r ∷ rs) at Demands (first_of (unless kept r at) found)
rule_more rs r at Demands kept found is j =
    both (Demands r) (AllIn rs Demands) (BreaksAt r at (Demands r)) (OneIn rs at Demands) (unless kept r at) found (of_rule (Demands r) kept r at is) j

-- the same, by what was answered
pub rule_step : (rs : List Rule) (r : Rule) (at : ℕ) (Demands : Rule → Type 0) (kept : Bool) (one found both_found : Option Broken)
    → (IsTrue kept ↔ Demands r) → one ≡ unless kept r at → both_found ≡ first_of one found → JudgedIn rs at Demands found
    → JudgedIn (r ∷ rs) at Demands both_found
rule_step rs r at Demands kept one found both_found is e f j =
    subst (JudgedIn (r ∷ rs) at Demands) (sym (f ∙ ap (λ (x : Option Broken). first_of x found) e)) (rule_more rs r at Demands kept found is j)

all_appended : (rs qs : List Rule) (Demands : Rule → Type 0) → AllIn rs Demands × AllIn qs Demands → AllIn (rs ++ qs) Demands
all_appended [] qs Demands h = h.1
all_appended (r ∷ rs) qs Demands h = (h.0.0, all_appended rs qs Demands (h.0.1, h.1))

one_appended : (rs qs : List Rule) (at : ℕ) (Demands : Rule → Type 0) (b : Broken) → OneIn rs at Demands b ⊎ OneIn qs at Demands b
    → OneIn (rs ++ qs) at Demands b
one_appended [] qs at Demands b h = elim h [ inl none ↦ absurd none | inr f ↦ f ]
one_appended (r ∷ rs) qs at Demands b h = elim h [
  | inl f ↦ elim f [ inl here ↦ inl here | inr there ↦ inr (one_appended rs qs at Demands b (inl there)) ]
  | inr f ↦ inr (one_appended rs qs at Demands b (inr f))
]

one_parted : (rs qs : List Rule) (at : ℕ) (Demands : Rule → Type 0) (b : Broken) → OneIn (rs ++ qs) at Demands b
    → OneIn rs at Demands b ⊎ OneIn qs at Demands b
one_parted [] qs at Demands b f = inr f
one_parted (r ∷ rs) qs at Demands b f = elim f [
  | inl here ↦ inl (inl here)
  | inr there ↦ elim (one_parted rs qs at Demands b there) [ inl one ↦ inl (inr one) | inr other ↦ inr other ]
]

-- two lists of rules
pub rules_both : (rs qs : List Rule) (at : ℕ) (Demands : Rule → Type 0) (x y : Option Broken) → JudgedIn rs at Demands x → JudgedIn qs at Demands y
    → JudgedIn (rs ++ qs) at Demands (first_of x y)
rules_both rs qs at Demands x y j k =
    turned (AllIn rs Demands × AllIn qs Demands) (AllIn (rs ++ qs) Demands) (λ b. OneIn rs at Demands b ⊎ OneIn qs at Demands b) (OneIn (rs ++ qs) at Demands)
    (first_of x y) (both (AllIn rs Demands) (AllIn qs Demands) (OneIn rs at Demands) (OneIn qs at Demands) x y j k) (all_appended rs qs Demands)
    (one_appended rs qs at Demands) (one_parted rs qs at Demands)

-- a rule by its number
abbrev rule_of : ℕ → Rule
rule_of n = get_or (rule.V1 ∷ rule.V1 ∷ rule.V2 ∷ rule.V3 ∷ rule.V4 ∷ rule.V5 ∷ rule.V6 ∷ rule.V7 ∷ rule.V8 ∷ rule.V9 ∷ rule.V10
    ∷ rule.V11 ∷ rule.V12 ∷ rule.V13 ∷ rule.V14 ∷ rule.V15 ∷ rule.V16 ∷ rule.V17 ∷ rule.V18 ∷ rule.V19 ∷ rule.V20 ∷ rule.V21 ∷ []) n rule.V1

rule_is : (r : Rule) → rule_of (number r) ≡ r
rule_is rule.V1 = refl
rule_is rule.V2 = refl
rule_is rule.V3 = refl
rule_is rule.V4 = refl
rule_is rule.V5 = refl
rule_is rule.V6 = refl
rule_is rule.V7 = refl
rule_is rule.V8 = refl
rule_is rule.V9 = refl
rule_is rule.V10 = refl
rule_is rule.V11 = refl
rule_is rule.V12 = refl
rule_is rule.V13 = refl
rule_is rule.V14 = refl
rule_is rule.V15 = refl
rule_is rule.V16 = refl
rule_is rule.V17 = refl
rule_is rule.V18 = refl
rule_is rule.V19 = refl
rule_is rule.V20 = refl
rule_is rule.V21 = refl

-- whether a rule is one of these
abbrev pub has : List Rule → Rule → Bool
has [] q = false
has (r ∷ rs) q = eqb (number r) (number q) || has rs q

-- rules of one number are one
pub same_rule : (r q : Rule) → number r ≡ number q → r ≡ q
same_rule r q e = sym (rule_is r) ∙ ap rule_of e ∙ rule_is q

all_have : (rs : List Rule) (Demands : Rule → Type 0) (q : Rule) → AllIn rs Demands → IsTrue (has rs q) → Demands q
all_have [] Demands q all h = absurd (cc)
all_have (r ∷ rs) Demands q all h = elim (or_cases (eqb (number r) (number q)) (has rs q) h) [
  | inl here ↦ subst Demands (same_rule r q (eqb-true (number r) (number q) here)) all.0
  | inr there ↦ all_have rs Demands q all.1 there
]

breaks_of : (rs : List Rule) (at : ℕ) (Demands : Rule → Type 0) (b : Broken) → OneIn rs at Demands b → Breaks at Demands b
breaks_of [] at Demands b f = absurd f
breaks_of (r ∷ rs) at Demands b f = elim f [
  | inl here ↦ (here.1, λ h. here.2 (subst Demands here.0 h))
  | inr there ↦ breaks_of rs at Demands b there
]

one_have : (rs : List Rule) (at : ℕ) (Demands : Rule → Type 0) (b : Broken) → IsTrue (has rs b.rule) → Breaks at Demands b → OneIn rs at Demands b
one_have [] at Demands b h f = absurd (cc)
one_have (r ∷ rs) at Demands b h f = elim (or_cases (eqb (number r) (number b.rule)) (has rs b.rule) h) [
  | inl here ↦
      let same : r ≡ b.rule = same_rule r b.rule (eqb-true (number r) (number b.rule) here) in
      inl (sym same, f.0, λ d. f.1 (subst Demands same d))
  | inr there ↦ inr (one_have rs at Demands b there f)
]

-- each rule is one of these, or demands nothing
pub all_rules : (rs : List Rule) (at : ℕ) (Demands : Rule → Type 0) (found : Option Broken) → ((r : Rule) → IsTrue (has rs r) ⊎ Demands r)
    → JudgedIn rs at Demands found → Judged (Keeps Demands) (Breaks at Demands) found
all_rules rs at Demands found covers j =
    turned (AllIn rs Demands) (Keeps Demands) (OneIn rs at Demands) (Breaks at Demands) found j
    (λ all r. elim (covers r) [ inl one ↦ all_have rs Demands r all one | inr free ↦ free ])
    (breaks_of rs at Demands)
    (λ b f. elim (covers b.rule) [ inl one ↦ one_have rs at Demands b one f | inr free ↦ absurd (f.1 free) ])

-- one rule alone
pub one_rule : (r : Rule) (at : ℕ) (Demands : Rule → Type 0) (kept : Bool) (found : Option Broken) → ((q : Rule) → IsTrue (has (r ∷ []) q) ⊎ Demands q)
    → (IsTrue kept ↔ Demands r) → found ≡ unless kept r at → Judged (Keeps Demands) (Breaks at Demands) found
one_rule r at Demands kept found covers is e = all_rules (r ∷ []) at Demands found covers
    (subst (JudgedIn (r ∷ []) at Demands) (sym e) (turned (Demands r) (Demands r × Unit {0}) (BreaksAt r at (Demands r)) (OneIn (r ∷ []) at Demands)
    (unless kept r at) (of_rule (Demands r) kept r at is) (λ h. (h, tt)) (λ b f. inl f) (λ b f. elim f [ inl here ↦ here | inr none ↦ absurd none ])))

-- ---- the elements of a list, one by one

-- the fault is one of the first n elements
abbrev pub OneOf : {X : Type 0} → ℕ → List X → (ℕ → X → Broken → Type 0) → Broken → Type 0
OneOf {X} n xs Fails b = (k : ℕ) × (x : X) × (k < n) × (slice_get xs k ≡ Some x) × Fails k x b

pub none_yet : {X : Type 0} (xs : List X) (P : ℕ → X → Type 0) (Fails : ℕ → X → Broken → Type 0) → Judged (EachOf 0 xs P) (OneOf 0 xs Fails) None
none_yet {X} xs P Fails = (λ k x l. absurd (omega arith), λ b f. absurd (omega (arith, f.2)))

each_next : {X : Type 0} (n : ℕ) (xs : List X) (x : X) (P : ℕ → X → Type 0) → slice_get xs n ≡ Some x → EachOf n xs P × P n x → EachOf (n + 1) xs P
each_next {X} n xs x P at h k y l e = elim (cases_lt k n) [
  | inl less ↦ h.0 k y less e
  | inr more ↦
      let same : k ≡ n = omega arith in
      let found : slice_get xs n ≡ Some y = subst (λ (i : ℕ). slice_get xs i ≡ Some y) same e in
      let one : x ≡ y = (let both : Some x ≡ Some y = sym at ∙ found in (cc)) in
      subst (λ (i : ℕ). P i y) (sym same) (subst (P n) one h.1)
]

one_next : {X : Type 0} (n : ℕ) (xs : List X) (x : X) (Fails : ℕ → X → Broken → Type 0) → slice_get xs n ≡ Some x → (b : Broken)
    → OneOf n xs Fails b ⊎ Fails n x b → OneOf (n + 1) xs Fails b
one_next {X} n xs x Fails at b f = elim f [
  | inl before ↦ (before.0, before.1, omega (arith, before.2), before.3, before.4)
  | inr here ↦ (n, x, omega arith, at, here)
]

one_back : {X : Type 0} (n : ℕ) (xs : List X) (x : X) (Fails : ℕ → X → Broken → Type 0) → slice_get xs n ≡ Some x → (b : Broken)
    → OneOf (n + 1) xs Fails b → OneOf n xs Fails b ⊎ Fails n x b
one_back {X} n xs x Fails at b f = elim (cases_lt f.0 n) [
  | inl less ↦ inl (f.0, f.1, less, f.3, f.4)
  | inr more ↦
      let same : f.0 ≡ n = omega (arith, f.2) in
      let found : slice_get xs n ≡ Some f.1 = subst (λ (i : ℕ). slice_get xs i ≡ Some f.1) same f.3 in
      let one : f.1 ≡ x = (let both : Some x ≡ Some f.1 = sym at ∙ found in (cc)) in
      inr (subst (λ (y : X). Fails n y b) one (subst (λ (i : ℕ). Fails i f.1 b) same f.4))
]

pub one_more : {X : Type 0} (n : ℕ) (xs : List X) (x : X) (P : ℕ → X → Type 0) (Fails : ℕ → X → Broken → Type 0) (found here : Option Broken)
    → slice_get xs n ≡ Some x → Judged (EachOf n xs P) (OneOf n xs Fails) found → Judged (P n x) (Fails n x) here
    → Judged (EachOf (n + 1) xs P) (OneOf (n + 1) xs Fails) (first_of found here)
one_more {X} n xs x P Fails found here at j k =
    turned (EachOf n xs P × P n x) (EachOf (n + 1) xs P) (λ b. OneOf n xs Fails b ⊎ Fails n x b) (OneOf (n + 1) xs Fails) (first_of found here)
    (both (EachOf n xs P) (P n x) (OneOf n xs Fails) (Fails n x) found here j k) (each_next n xs x P at) (one_next n xs x Fails at) (one_back n xs x Fails at)

-- the same, by what was answered
pub one_step : {X : Type 0} (n : ℕ) (xs : List X) (x : X) (P : ℕ → X → Type 0) (Fails : ℕ → X → Broken → Type 0) (found here both_found : Option Broken)
    → slice_get xs n ≡ Some x → both_found ≡ first_of found here → Judged (EachOf n xs P) (OneOf n xs Fails) found → Judged (P n x) (Fails n x) here
    → Judged (EachOf (n + 1) xs P) (OneOf (n + 1) xs Fails) both_found
one_step {X} n xs x P Fails found here both_found at e j k =
    subst (λ (z : Option Broken). Judged (EachOf (n + 1) xs P) (OneOf (n + 1) xs Fails) z) (sym e) (one_more n xs x P Fails found here at j k)

-- the whole list
pub all_done : {X : Type 0} (n : ℕ) (xs : List X) (P : ℕ → X → Type 0) (Fails : ℕ → X → Broken → Type 0) (found : Option Broken) → length xs ≤ n
    → Judged (EachOf n xs P) (OneOf n xs Fails) found → Judged ((k : ℕ) (x : X) → slice_get xs k ≡ Some x → P k x) (IsOf xs Fails) found
all_done {X} n xs P Fails found past j =
    turned (EachOf n xs P) ((k : ℕ) (x : X) → slice_get xs k ≡ Some x → P k x) (OneOf n xs Fails) (IsOf xs Fails) found j
    (λ h k x e. h k x (omega (arith, slice_get_within xs k x e)) e) (λ b f. (f.0, f.1, f.3, f.4))
    (λ b f. (f.0, f.1, omega (arith, slice_get_within xs f.0 f.1 f.2), f.2, f.3))
