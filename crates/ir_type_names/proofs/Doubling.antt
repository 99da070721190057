-- Twice as many steps.
use Rattle.std.proofs.Common.{◌≡◌, ℕ, zero, suc, ◌+◌, ◌<◌, ◌≤◌, ⊎_elim, List, [], ◌∷◌, length, get_or, map, refl, sym, ap, subst, ◌∙◌}
use Rattle.std.proofs.Common.{arith}
use Rattle.std.proofs.lemmas.List.{length-map}
use Rattle.std.proofs.lemmas.Bool.{cases_lt}
use Rattle.ir_type_names.specs.Chains.{step, after, Jumps}

-- so many steps, and so many more
pub after_add : (nexts : List ℕ) (m n k : ℕ) → after nexts n (after nexts m k) ≡ after nexts (m + n) k
unfolding after
after_add nexts zero n k = let same : 0 + n ≡ n = omega arith in sym (ap (λ m. after nexts m k) same)
after_add nexts (suc m) n k = let same : suc m + n ≡ suc (m + n) = omega arith in after_add nexts m n (step nexts k) ∙ sym (ap (λ m. after nexts m k) same)

-- one step
pub jumps_one : (nexts : List ℕ) → Jumps nexts 1 nexts
unfolding after
jumps_one nexts = λ k. refl

-- past the end nothing moves
pub step_past : (js : List ℕ) (k : ℕ) → length js ≤ k → step js k ≡ k
step_past [] k past = refl
step_past (j ∷ js) zero past = absurd (omega arith)
step_past (j ∷ js) (suc k) past = past_at js k (suc k) (omega arith)
  where
    past_at : (js : List ℕ) (k d : ℕ) → length js ≤ k → get_or js k d ≡ d
    past_at [] k d past = refl
    past_at (j ∷ js) zero d past = absurd (omega arith)
    past_at (j ∷ js) (suc k) d past = past_at js k d (omega arith)

-- within a list the element does not depend on what stands for none
same_at : (js : List ℕ) (k d e : ℕ) → k < length js → get_or js k d ≡ get_or js k e
same_at [] k d e inside = absurd (omega arith)
same_at (j ∷ js) zero d e inside = refl
same_at (j ∷ js) (suc k) d e inside = same_at js k d e (omega arith)

mapped_at : (f : ℕ → ℕ) (js : List ℕ) (k d e : ℕ) → k < length js → get_or (map f js) k d ≡ f (get_or js k e)
mapped_at f [] k d e inside = absurd (omega arith)
mapped_at f (j ∷ js) zero d e inside = refl
mapped_at f (j ∷ js) (suc k) d e inside = mapped_at f js k d e (omega arith)

-- a jump from where a jump leads
twice_at : (js : List ℕ) (k : ℕ) → step (map (step js) js) k ≡ step js (step js k)
twice_at js k = ⊎_elim
    (λ inside. mapped_at (step js) js k k k inside)
    (λ past. step_past (map (step js) js) k (subst (λ n. n ≤ k) (sym (length-map js (step js))) past)
    ∙ sym (ap (step js) (step_past js k past) ∙ step_past js k past))
    (cases_lt k (length js))

pub jumps_twice : (nexts : List ℕ) (n m : ℕ) (js twice : List ℕ) → Jumps nexts n js → twice ≡ map (step js) js → m ≡ n + n → Jumps nexts m twice
jumps_twice nexts n m js twice jumps is sum = λ k.
    ap (λ xs. step xs k) is ∙ twice_at js k ∙ ap (step js) (jumps k) ∙ jumps (after nexts n k) ∙ after_add nexts n n k ∙ ap (λ i. after nexts i k) (sym sum)
