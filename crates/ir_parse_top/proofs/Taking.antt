-- Entities taken one behind the other.
use Rattle.std.proofs.Common.{◌≡◌, ℕ, List, [], ◌∷◌, ◌++◌, Some, refl, sym, subst}
use Rattle.ir_tree.specs.Steps.{Step, Longest, Taken}

-- one more behind those that were taken
pub taken_more : {T : Type 0} (p : T → Step) (ts : List T) (t : T) (a b c : ℕ) → Taken p ts a b → Longest p b (Some (t, c)) → Taken p (ts ++ t ∷ []) a c
taken_more p [] t a b c h l = (c, (subst (λ z. Longest p z (Some (t, c))) (sym h) l, refl))
taken_more p (u ∷ ts) t a b c h l = (h.0, (h.1.0, taken_more p ts t h.0 b c h.1.1 l))
