-- What tests tell of lists that are given in parts.
use Rattle.std.proofs.Common.{◌≡◌, ◌==◌, ◌↔◌, ◌∙◌, inl, inr, ℕ, zero, suc, Bool, true, false, MatchBool, List, [], ◌∷◌, slice_get, Option, None, Some}
use Rattle.std.proofs.Common.{IsTrue, subst, sym, refl}
use Rattle.std.proofs.lemmas.Bool.Decides.{eqb_tells}
use Rattle.std.proofs.lemmas.Option.{none-some, same_Some}
use Rattle.ir_module.specs.declared.op.Written.{Written}
use Rattle.ir_module.specs.declared.op.Call.{Call}
use Rattle.ir_module.specs.declared.op.Op.{Op}
use Rattle.ir_module.specs.Operands.{operands, optional}
use Rattle.ir_module.specs.Calls.{call_of}
use Rattle.ir_module.specs.WellFormed.{Each}
use Rattle.ir_rules.specs.Values.{typed, typed_in}

-- a test of one list is one of another that is the same
pub each_of : {X : Type 0} → (P : ℕ → X → Type 0) (xs ys : List X) (b : Bool) → xs ≡ ys → IsTrue b ↔ Each xs P → IsTrue b ↔ Each ys P
each_of {X} P xs ys b same h = subst (λ (zs : List X). IsTrue b ↔ Each zs P) same h

-- of the arguments of a call it is one of the operands but the callee
pub of_call : (P : ℕ → Written → Type 0) (o : Op) (call : Call) (xs : List Written) (b : Bool) → call_of o ≡ Some call → xs ≡ call.args → IsTrue b ↔ Each xs P
    → IsTrue b ↔ Each (typed o) P
of_call P o call xs b is same h =
    subst (λ (c : Option Call). IsTrue b ↔ Each (typed_in c (operands o)) P) (sym is) (subst (λ (zs : List Written). IsTrue b ↔ Each zs P) same h)

pub of_no_call : (P : ℕ → Written → Type 0) (o : Op) (b : Bool) → call_of o ≡ None → IsTrue b ↔ Each (operands o) P → IsTrue b ↔ Each (typed o) P
of_no_call P o b is h = subst (λ (c : Option Call). IsTrue b ↔ Each (typed_in c (operands o)) P) (sym is) h

-- of an operand that is there it is one of the list of it
pub of_one : (P : Written → Type 0) (o : Option Written) (w : Written) (b : Bool) → o ≡ Some w → IsTrue b ↔ P w → IsTrue b ↔ Each (optional o) (λ k x. P x)
of_one P o w b is h = subst (λ (p : Option Written). IsTrue b ↔ Each (optional p) (λ k x. P x)) (sym is) (λ t. each (h.0 t), λ e. h.1 (e 0 w refl))
  where
    each : P w → (k : ℕ) (x : Written) → slice_get (w ∷ []) k ≡ Some x → P x
    each p zero x at = subst P (same_Some w x at) p
    each p (suc k) x at = absurd (none-some x at)

pub of_none : (P : Written → Type 0) (o : Option Written) → o ≡ None → IsTrue true ↔ Each (optional o) (λ k x. P x)
of_none P o is = subst (λ (p : Option Written). IsTrue true ↔ Each (optional p) (λ k x. P x)) (sym is) (λ t. λ k x at. absurd (none-some x at), λ e. refl)

-- by a test, one of two
pub of_true : (P Q : Type 0) (r b : Bool) → b ≡ true → IsTrue r ↔ P → IsTrue r ↔ MatchBool b P Q
of_true P Q r b is h = subst (λ (x : Bool). IsTrue r ↔ MatchBool x P Q) (sym is) h

pub of_false : (P Q : Type 0) (r b : Bool) → b ≡ false → IsTrue r ↔ Q → IsTrue r ↔ MatchBool b P Q
of_false P Q r b is h = subst (λ (x : Bool). IsTrue r ↔ MatchBool x P Q) (sym is) h

-- an answer that is one of the definitions
pub as_is : (r b : Bool) → r ≡ b → IsTrue r ↔ (b ≡ true)
as_is r b e = (λ t. sym e ∙ t, λ t. e ∙ t)

-- what a test that was asked tells
pub taken : (P Q : Type 0) (b : Bool) → b ≡ true → MatchBool b P Q → P
taken P Q b is h = subst (λ (x : Bool). MatchBool x P Q) is h

pub left : (P Q : Type 0) (b : Bool) → b ≡ false → MatchBool b P Q → Q
left P Q b is h = subst (λ (x : Bool). MatchBool x P Q) is h

-- two numbers that differ are not one by the test
pub apart : (a b : ℕ) → (a ≡ b → ⊥) → (a == b) ≡ false
apart a b never = elim (eqb_tells a b) [ inl (_, e) ↦ absurd (never e) | inr (f, _) ↦ f ]
