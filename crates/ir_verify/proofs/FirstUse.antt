-- Uses that are not defined, in several functions.
use Rattle.std.proofs.Common.{◌≡◌, ◌⊎◌, ℕ, ◌≤◌, Bool, cond, Option, None, Some, sym, subst, arith, inl, inr}
use Rattle.std.proofs.lemmas.Bool.{cases_lt, lt-ltb, le-ltb}
use Rattle.ir_module.specs.declared.module.Module.{Module}
use Rattle.ir_paths.specs.Lacking.{AreDefined, AreDefinedBefore}
use Rattle.ir_verify.specs.declared.paths.Undefined.{Undefined}
use Rattle.ir_verify.specs.Undefined.{earlier, AreJudged}

-- what holds before an offset holds before a lesser one
before_less : (m : Module) (f at less : ℕ) → less ≤ at → AreDefinedBefore m f at → AreDefinedBefore m f less
before_less m f at less l before u is early = before u is (omega arith)

all_before : (m : Module) (f at : ℕ) → AreDefined m f → AreDefinedBefore m f at
all_before m f at all u is early = all u is

pub judged_less : (m : Module) (P Q : ℕ → Type 0) (found : Option Undefined) → AreJudged m P found → ((f : ℕ) → Q f → P f) → AreJudged m Q found
judged_less m P Q None j less = λ f q. j f (less f q)
judged_less m P Q (Some u) j less = (j.0, λ f q. j.1 f (less f q))

judged_earlier : (m : Module) (P Q R : ℕ → Type 0) (x y : Option Undefined) → AreJudged m P x → AreJudged m Q y → ((f : ℕ) → R f → P f ⊎ Q f)
    → AreJudged m R (earlier x y)
judged_earlier m P Q R None None j k split = λ f r. elim (split f r) [ inl x ↦ j f x | inr y ↦ k f y ]
judged_earlier m P Q R None (Some b) j k split = (k.0, λ f r. elim (split f r) [ inl x ↦ all_before m f b.at (j f x) | inr y ↦ k.1 f y ])
judged_earlier m P Q R (Some a) None j k split = (j.0, λ f r. elim (split f r) [ inl x ↦ j.1 f x | inr y ↦ all_before m f a.at (k f y) ])
judged_earlier m P Q R (Some a) (Some b) j k split = elim (cases_lt b.at a.at) [
  | inl less ↦ subst (λ (z : Bool). AreJudged m R (cond z (Some b) (Some a))) (sym (lt-ltb b.at a.at less))
      (k.0, λ f r. elim (split f r) [ inl x ↦ before_less m f a.at b.at (omega arith) (j.1 f x) | inr y ↦ k.1 f y ])
  | inr more ↦ subst (λ (z : Bool). AreJudged m R (cond z (Some b) (Some a))) (sym (le-ltb b.at a.at more))
      (j.0, λ f r. elim (split f r) [ inl x ↦ j.1 f x | inr y ↦ before_less m f b.at a.at more (k.1 f y) ])
]

-- the earlier of two uses is the first of all functions of both kinds
pub judged_both : (m : Module) (P Q R : ℕ → Type 0) (x y z : Option Undefined) → AreJudged m P x → AreJudged m Q y → z ≡ earlier x y
    → ((f : ℕ) → R f → P f ⊎ Q f) → AreJudged m R z
judged_both m P Q R x y z j k e split = subst (λ (o : Option Undefined). AreJudged m R o) (sym e) (judged_earlier m P Q R x y j k split)
