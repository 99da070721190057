-- The last token of a type.
use Rattle.std.proofs.Common.{◌≡◌, ℕ, zero, suc, ◌+◌, ◌-◌, ◌<◌, ◌≤◌, List, [], ◌∷◌, length, get_or, map, refl, sym, ap, ◌∙◌, arith}
use Rattle.ir_tree.specs.declared.types.Ty.{Ty}
use Rattle.ir_tree.specs.declared.types.Ty.TheOpen.Ty-F.{Struct, Packed}
use Rattle.ir_tree.specs.declared.types.Ty.TheViews.{roll-Ty}
use Rattle.ir_tree.specs.declared.types.Ty.TheFolds.{fold-roll-Ty}
use Rattle.ir_attrs.specs.Places.{next, last_or, last_layer, type_last}

-- the last of some is that of the element at their end
last_mapped : {X : Type 0} → (f : X → ℕ) (before : ℕ) (xs : List X) (k : ℕ) (x : X) → length xs ≡ suc k → x ≡ get_or xs k x
    → last_or (λ n. n) before (map f xs) ≡ f x
last_mapped f before [] k x long at = absurd (omega arith)
last_mapped f before (y ∷ []) zero x long at = ap f (sym at)
last_mapped f before (y ∷ []) (suc k) x long at = absurd (omega arith)
last_mapped f before (y ∷ (z ∷ zs)) zero x long at = absurd (omega arith)
last_mapped f before (y ∷ (z ∷ zs)) (suc k) x long at = last_mapped f (f y) (z ∷ zs) k x (omega arith) at

-- a struct ends behind its last part
pub struct_last : (start : ℕ) (parts : List Ty) (x : Ty) → 1 ≤ length parts → x ≡ get_or parts (length parts - 1) x
    → type_last (roll-Ty (Struct start parts)) ≡ next (type_last x)
struct_last start parts x some at =
    fold-roll-Ty ℕ last_layer (Struct start parts) ∙ ap next (last_mapped type_last start parts (length parts - 1) x (omega arith) at)

pub packed_last : (start : ℕ) (parts : List Ty) (x : Ty) → 1 ≤ length parts → x ≡ get_or parts (length parts - 1) x
    → type_last (roll-Ty (Packed start parts)) ≡ next (next (type_last x))
packed_last start parts x some at =
    fold-roll-Ty ℕ last_layer (Packed start parts) ∙ ap (λ n. next (next n)) (last_mapped type_last (next start) parts (length parts - 1) x (omega arith) at)

-- and one without parts behind its brackets
pub packed_none : (start : ℕ) (parts : List Ty) → parts ≡ [] → type_last (roll-Ty (Packed start parts)) ≡ next (next (next start))
packed_none start parts none = fold-roll-Ty ℕ last_layer (Packed start parts) ∙ ap (λ zs. next (next (last_or (λ n. n) (next start) (map type_last zs)))) none

pub no_parts : {X : Type 0} → (xs : List X) → length xs < 1 → xs ≡ []
no_parts [] few = refl
no_parts (x ∷ xs) few = absurd (omega arith)
