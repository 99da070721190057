-- Runs of parts, read one part after the other, and what holds of a constant and all that lies in it.
use Rattle.std.proofs.Common.{◌≡◌, ◌+◌, ◌<◌, ◌≤◌, ◌↔◌, ℕ, zero, suc, List, length, slice_get, get_or, Some}
use Rattle.std.proofs.Common.{arith, subst, sym, refl, inl, inr, IsTrue, Bool, true, false, ◌&&◌}
use Rattle.std.proofs.lemmas.Option.{slice_get-get_or}
use Rattle.std.proofs.lemmas.Bool.Decides.{eqb_tells}
use Rattle.attr_ids.specs.declared.ids.TypeId.{TypeId}
use Rattle.ir_module.specs.declared.op.Shape.TheVariants as shape
use Rattle.ir_module.specs.declared.op.Operand.{Operand}
use Rattle.ir_module.specs.declared.op.Operand.TheVariants as operand
use Rattle.ir_module.specs.declared.op.Written.{Written}
use Rattle.ir_module.specs.WellFormed.{HasPartsBelow}
use Rattle.ir_operands.proofs.Tests.{denied}
use Rattle.ir_operands.specs.Types.{AreOne}
use Rattle.ir_operands.specs.Constants.{own_first, own_count, RunHas, AllOf, ArePartsBelow, HasFieldType}

-- what holds of the first i parts of a run and of the next holds of the first i + 1
pub run_more : (Q : ℕ → Written → Type 0) (parts : List Written) (first i : ℕ) (d : Written) → RunHas Q parts first i → first + i < length parts
    → Q i (get_or parts (first + i) d) → RunHas Q parts first (i + 1)
run_more Q parts first i d h l q j w below at = elim (eqb_tells j i) [
  | inl (_, same) ↦
      (let here : slice_get parts (first + i) ≡ Some (get_or parts (first + i) d) = slice_get-get_or parts (first + i) d l in
      let there : slice_get parts (first + i) ≡ Some w = subst (λ (n : ℕ). slice_get parts (first + n) ≡ Some w) same at in
      let is : get_or parts (first + i) d ≡ w = cc in
      subst (λ (n : ℕ). Q n w) (sym same) (subst (λ (z : Written). Q i z) is q))
  | inr (_, other) ↦ h j w (omega arith) at
]

-- a walk over a run that has seen each of its parts answers truly
pub run_done : (Q : ℕ → Written → Type 0) (parts : List Written) (first i count : ℕ) → RunHas Q parts first i → count ≤ i
    → IsTrue true ↔ RunHas Q parts first count
run_done Q parts first i count h l = (λ t j w below at. h j w (omega arith) at, λ e. refl)

-- a run with a part of which Q does not hold
pub run_broken : (Q : ℕ → Written → Type 0) (parts : List Written) (first i count : ℕ) (d : Written) → first + i < length parts → i < count
    → (Q i (get_or parts (first + i) d) → ⊥) → IsTrue false ↔ RunHas Q parts first count
run_broken Q parts first i count d l below never =
    denied {P = RunHas Q parts first count} (λ h. never (h i (get_or parts (first + i) d) below (slice_get-get_or parts (first + i) d l)))

-- the type of the field of a part's place, read of the list of fields
pub field_read : (numbers : List ℕ) (fields : List TypeId) (i : ℕ) (d : TypeId) (w : Written) → i < length fields
    → AreOne numbers w.ty (get_or fields i d) ↔ HasFieldType numbers fields i w
field_read numbers fields i d w l =
    let here : slice_get fields i ≡ Some (get_or fields i d) = slice_get-get_or fields i d l in (
      λ h t at. let is : get_or fields i d ≡ t = cc in subst (λ (u : TypeId). AreOne numbers w.ty u) is h,
      λ h. h (get_or fields i d) here,
    )

-- what holds of a constant and all that lies in it holds of it
pub itself : (P : Written → Type 0) (parts : List Written) (w : Written) → AllOf P parts w → P w
itself P parts w h = h zero w refl

-- and of each of its own parts with all that lies in that
pub own_parts : (P : Written → Type 0) (parts : List Written) (w : Written) (first count : ℕ) → first ≡ own_first w.val → count ≡ own_count w.val
    → AllOf P parts w → RunHas (λ i x. AllOf P parts x) parts first count
own_parts P parts w first count at_first as_many h i x below at steps y r =
    let place : slice_get parts (own_first w.val + i) ≡ Some x = subst (λ (n : ℕ). slice_get parts (n + i) ≡ Some x) at_first at in
    h (suc steps) y (i, x, subst (λ (n : ℕ). i < n) as_many below, place, r)

-- and the other way round: what is reached is the constant itself, or is reached from one of its own parts
pub all_of : (P : Written → Type 0) (parts : List Written) (w : Written) (first count : ℕ) → first ≡ own_first w.val → count ≡ own_count w.val
    → P w → RunHas (λ i x. AllOf P parts x) parts first count → AllOf P parts w
all_of P parts w first count at_first as_many p h zero x r = subst P r p
all_of P parts w first count at_first as_many p h (suc steps) x r =
    let place : slice_get parts (first + r.0) ≡ Some r.1 = subst (λ (n : ℕ). slice_get parts (n + r.0) ≡ Some r.1) (sym at_first) r.3 in
    h r.0 r.1 (subst (λ (n : ℕ). r.0 < n) (sym as_many) r.2) place steps x r.4

-- parts that stand before a number stand before a greater one
pub below_more : (k n : ℕ) (o : Operand) → k ≤ n → HasPartsBelow k o → HasPartsBelow n o
below_more k n (operand.Parts shape.Bytes first count) l h = tt
below_more k n (operand.Parts shape.Array first count) l h = omega (arith, l, h)
below_more k n (operand.Parts shape.Struct first count) l h = omega (arith, l, h)
below_more k n (operand.Parts shape.Packed first count) l h = omega (arith, l, h)
below_more k n (operand.AnyInt first count) l h = omega (arith, l, h)
below_more k n _ l h = tt

-- the parts of a part that was read stand before it, and so within the list
pub parts_within : (parts : List Written) (k : ℕ) (d : Written) → ArePartsBelow parts → k < length parts
    → HasPartsBelow k (get_or parts k d).val × HasPartsBelow (length parts) (get_or parts k d).val
parts_within parts k d h l =
    let below : HasPartsBelow k (get_or parts k d).val = h k (get_or parts k d) (slice_get-get_or parts k d l) in
    (below, below_more k (length parts) (get_or parts k d).val (omega arith) below)

-- a constant keeps P with all that lies in it where it does itself, as one test says, and so do its own parts, as another says
pub kept : (P : Written → Type 0) (parts : List Written) (w : Written) (first count : ℕ) (alone below : Bool) → first ≡ own_first w.val →
    count ≡ own_count w.val
    → IsTrue alone ↔ P w → IsTrue below ↔ RunHas (λ i x. AllOf P parts x) parts first count → IsTrue (alone && below) ↔ AllOf P parts w
kept P parts w first count true below at_first as_many p h = (
  λ t. all_of P parts w first count at_first as_many (p.0 refl) (h.0 t),
  λ e. h.1 (own_parts P parts w first count at_first as_many e),
)
kept P parts w first count false below at_first as_many p h = (λ t. cc, λ e. p.1 (itself P parts w e))

-- a test of a run is one of the parts of the constant whose run it is
pub own_told : (Q : ℕ → Written → Type 0) (parts : List Written) (o : Operand) (first count : ℕ) (b : Bool) → first ≡ own_first o → count ≡ own_count o
    → IsTrue b ↔ RunHas Q parts first count → IsTrue b ↔ RunHas Q parts (own_first o) (own_count o)
own_told Q parts o first count b at_first as_many h =
    subst (λ (n : ℕ). IsTrue b ↔ RunHas Q parts n (own_count o)) at_first (subst (λ (n : ℕ). IsTrue b ↔ RunHas Q parts first n) as_many h)
