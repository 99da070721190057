-- Constants that are one value, part by part.
use Rattle.std.proofs.Common.{◌≡◌, ◌+◌, ◌<◌, ◌≤◌, ◌↔◌, ◌∙◌, ℕ, zero, suc, Bool, true, false, ◌&&◌, List, [], ◌∷◌, length, slice_get, get_or, Option, Some, None}
use Rattle.std.proofs.Common.{arith, ap, subst, sym, refl, inl, inr, IsTrue}
use Rattle.std.proofs.lemmas.Option.{slice_get-get_or}
use Rattle.std.proofs.lemmas.Bool.Decides.{eqb_tells}
use Rattle.ir_types.specs.declared.ir_type.IrType.{IrType}
use Rattle.ir_types.specs.declared.ir_type.IrType.TheVariants.{Void, Int, Ptr, Array, Struct, Opaque}
use Rattle.ir_module.specs.declared.op.Shape.TheVariants as shape
use Rattle.ir_module.specs.declared.op.Operand.{Operand}
use Rattle.ir_module.specs.declared.op.Operand.TheVariants as operand
use Rattle.ir_module.specs.declared.op.Written.{Written}
use Rattle.ir_module.specs.Operands.{literal_in}
use Rattle.ir_module.specs.WellFormed.{HasPartsBelow}
use Rattle.ir_operands.specs.Types.{type_of}
use Rattle.ir_operands.specs.Constants.{own_first, own_count, ArePartsBelow}
use Rattle.ir_operands.specs.Same.{zero_at, form_in, form, AreOneAlone, LeadTo, AreOneValue, AreOneRun}
use Rattle.ir_operands.proofs.Parts.{below_more}
use Rattle.ir_operands.proofs.Tests.{denied}

count_zero : (ty : Option IrType) → own_count (zero_at ty) ≡ 0
count_zero (Some Ptr) = refl
count_zero (Some Void) = refl
count_zero (Some (Int width)) = refl
count_zero (Some (Array count elem)) = refl
count_zero (Some (Struct fields packed)) = refl
count_zero (Some Opaque) = refl
count_zero None = refl

-- a form has as many parts as what it is the form of
count_form : (lit : Option ℕ) (ty : Option IrType) (o : Operand) → lit ≡ literal_in ty o → own_count (form_in lit ty o) ≡ own_count o
count_form None ty operand.Zero e = count_zero ty
count_form None ty (operand.Parts shape.Array first count) e = refl
count_form None ty (operand.Parts shape.Struct first count) e = refl
count_form None ty (operand.Parts shape.Packed first count) e = refl
count_form None ty (operand.Parts shape.Bytes first count) e = refl
count_form None ty (operand.AnyInt first count) e = refl
count_form None ty o e = refl
count_form (Some n) ty (operand.Int bits fits) e = refl
count_form (Some n) ty (operand.Truth value) e = refl
count_form (Some n) ty operand.Zero e = refl
count_form (Some n) ty (operand.Parts form first count) e = let no : ⊥ = cc in absurd no
count_form (Some n) ty (operand.AnyInt first count) e = let no : ⊥ = cc in absurd no
count_form (Some n) ty o e = refl

-- operands of one form have as many parts
pub same_count : (types : List IrType) (numbers : List ℕ) (w u : Written) → AreOneAlone types numbers w u → own_count w.val ≡ own_count u.val
same_count types numbers w u h =
    let left = count_form (literal_in (type_of types w.ty) w.val) (type_of types w.ty) w.val refl in
    let right = count_form (literal_in (type_of types u.ty) u.val) (type_of types u.ty) u.val refl in
    sym left ∙ ap own_count h.1 ∙ right

-- one more part of each run
pub one_more_part : (types : List IrType) (numbers : List ℕ) (parts : List Written) (a b i : ℕ) (d e : Written) → AreOneRun types numbers parts a b i
    → a + i < length parts → b + i < length parts → AreOneValue types numbers parts (get_or parts (a + i) d) (get_or parts (b + i) e)
    → AreOneRun types numbers parts a b (i + 1)
one_more_part types numbers parts a b i d e h la lb one j x y below at_x at_y = elim (eqb_tells j i) [
  | inl (_, same) ↦
      (let left : slice_get parts (a + i) ≡ Some (get_or parts (a + i) d) = slice_get-get_or parts (a + i) d la in
      let right : slice_get parts (b + i) ≡ Some (get_or parts (b + i) e) = slice_get-get_or parts (b + i) e lb in
      let x_at : slice_get parts (a + i) ≡ Some x = subst (λ (n : ℕ). slice_get parts (a + n) ≡ Some x) same at_x in
      let y_at : slice_get parts (b + i) ≡ Some y = subst (λ (n : ℕ). slice_get parts (b + n) ≡ Some y) same at_y in
      let is_x : get_or parts (a + i) d ≡ x = cc in
      let is_y : get_or parts (b + i) e ≡ y = cc in
      subst (λ (z : Written). AreOneValue types numbers parts z y) is_x (subst (λ (z : Written). AreOneValue types numbers parts (get_or parts (a + i) d) z)
      is_y one))
  | inr (_, other) ↦ h j x y (omega arith) at_x at_y
]

-- one value, from the operands themselves and their parts
pub one_of : (types : List IrType) (numbers : List ℕ) (parts : List Written) (w u : Written) (a b count : ℕ) → a ≡ own_first w.val → b ≡ own_first u.val
    → count ≡ own_count w.val → AreOneAlone types numbers w u → AreOneRun types numbers parts a b count → AreOneValue types numbers parts w u
one_of types numbers parts w u a b count at_a at_b as_many alone run [] x y p q =
    subst (λ (z : Written). AreOneAlone types numbers z y) p (subst (λ (z : Written). AreOneAlone types numbers w z) q alone)
one_of types numbers parts w u a b count at_a at_b as_many alone run (i ∷ places) x y p q =
    let left : slice_get parts (a + i) ≡ Some p.0 = subst (λ (n : ℕ). slice_get parts (n + i) ≡ Some p.0) (sym at_a) p.2 in
    let right : slice_get parts (b + i) ≡ Some q.0 = subst (λ (n : ℕ). slice_get parts (n + i) ≡ Some q.0) (sym at_b) q.2 in
    run i p.0 q.0 (subst (λ (n : ℕ). i < n) (sym as_many) p.1) left right places x y p.3 q.3

-- and the other way round: the parts of one value are one value each
pub run_of : (types : List IrType) (numbers : List ℕ) (parts : List Written) (w u : Written) (a b count : ℕ) → a ≡ own_first w.val → b ≡ own_first u.val
    → count ≡ own_count w.val → AreOneValue types numbers parts w u → AreOneRun types numbers parts a b count
run_of types numbers parts w u a b count at_a at_b as_many one i x y below at_x at_y places p q left right =
    let many : own_count w.val ≡ own_count u.val = same_count types numbers w u (one [] w u refl refl) in
    let in_w : i < own_count w.val = subst (λ (n : ℕ). i < n) as_many below in
    one (i ∷ places) p q
    (x, in_w, subst (λ (n : ℕ). slice_get parts (n + i) ≡ Some x) at_a at_x, left)
    (y, subst (λ (n : ℕ). i < n) many in_w, subst (λ (n : ℕ). slice_get parts (n + i) ≡ Some y) at_b at_y, right)

-- two operands are one value as a test of themselves says, and one of their parts
pub told_one : (types : List IrType) (numbers : List ℕ) (parts : List Written) (w u : Written) (a b count : ℕ) (alone below : Bool) → a ≡ own_first w.val
    → b ≡ own_first u.val → count ≡ own_count w.val → IsTrue alone ↔ AreOneAlone types numbers w u → IsTrue below ↔ AreOneRun types numbers parts a b count
    → IsTrue (alone && below) ↔ AreOneValue types numbers parts w u
told_one types numbers parts w u a b count true below at_a at_b as_many p h = (
  λ t. one_of types numbers parts w u a b count at_a at_b as_many (p.0 refl) (h.0 t),
  λ e. h.1 (run_of types numbers parts w u a b count at_a at_b as_many e),
)
told_one types numbers parts w u a b count false below at_a at_b as_many p h = (λ t. cc, λ e. p.1 (e [] w u refl refl))

-- a walk over two runs that has seen each of their parts answers truly
pub run_told : (types : List IrType) (numbers : List ℕ) (parts : List Written) (a b i count : ℕ) → AreOneRun types numbers parts a b i → count ≤ i
    → IsTrue true ↔ AreOneRun types numbers parts a b count
run_told types numbers parts a b i count h l = (λ t j x y below at_x at_y. h j x y (omega arith) at_x at_y, λ e. refl)

-- two runs with parts at one place that are not one value
pub run_unlike : (types : List IrType) (numbers : List ℕ) (parts : List Written) (a b i count : ℕ) (d e : Written) → a + i < length parts → b + i < length parts
    → i < count → (AreOneValue types numbers parts (get_or parts (a + i) d) (get_or parts (b + i) e) → ⊥)
    → IsTrue false ↔ AreOneRun types numbers parts a b count
run_unlike types numbers parts a b i count d e la lb below never = denied {P = AreOneRun types numbers parts a b count}
    (λ h. never (h i _ _ below (slice_get-get_or parts (a + i) d la) (slice_get-get_or parts (b + i) e lb)))

-- ---- one value is the same relation read from both sides, and goes on

pub turned : (types : List IrType) (numbers : List ℕ) (parts : List Written) (w u : Written) → AreOneValue types numbers parts w u →
    AreOneValue types numbers parts u w
turned types numbers parts w u h places x y p q = let one = h places y x q p in (sym one.0, sym one.1)

there : {X : Type 0} → (xs : List X) (k : ℕ) → k < length xs → (x : X) × (slice_get xs k ≡ Some x)
there [] k l = absurd (omega (arith, l))
there (x ∷ xs) zero l = (x, refl)
there (x ∷ xs) (suc k) l = there xs k (omega (arith, l))

-- the parts of a constant whose parts stand before n are numbers below n
within_run : (n : ℕ) (o : Operand) (i : ℕ) → HasPartsBelow n o → i < own_count o → own_first o + i < n
within_run n (operand.Parts shape.Bytes first count) i h l = absurd (omega (arith, l))
within_run n (operand.Parts shape.Array first count) i h l = omega (arith, h, l)
within_run n (operand.Parts shape.Struct first count) i h l = omega (arith, h, l)
within_run n (operand.Parts shape.Packed first count) i h l = omega (arith, h, l)
within_run n (operand.AnyInt first count) i h l = omega (arith, h, l)
within_run n _ i h l = absurd (omega (arith, l))

-- where places lead to a part of an operand, they lead to one of each operand that is one value with it
middle : (types : List IrType) (numbers : List ℕ) (parts : List Written) → ArePartsBelow parts → (places : List ℕ) (w u x : Written)
    → HasPartsBelow (length parts) u.val → AreOneValue types numbers parts w u → LeadTo parts places w x → (z : Written) × LeadTo parts places u z
middle types numbers parts below [] w u x within one p = (u, refl)
middle types numbers parts below (i ∷ places) w u x within one p =
    let many : own_count w.val ≡ own_count u.val = same_count types numbers w u (one [] w u refl refl) in
    let inside : i < own_count u.val = subst (λ (n : ℕ). i < n) many p.1 in
    let at = there parts (own_first u.val + i) (within_run (length parts) u.val i within inside) in
    let k_within : own_first u.val + i < length parts = within_run (length parts) u.val i within inside in
    let deeper : HasPartsBelow (length parts) at.0.val =
    below_more (own_first u.val + i) (length parts) at.0.val (omega arith) (below (own_first u.val + i) at.0 at.1) in
    let parts_one : AreOneValue types numbers parts p.0 at.0 = λ ps y z l r. one (i ∷ ps) y z (p.0, p.1, p.2, l) (at.0, inside, at.1, r) in
    let rest = middle types numbers parts below places p.0 at.0 x deeper parts_one p.3 in
    (rest.0, (at.0, inside, at.1, rest.1))

-- what is one value with one is one value with what that is one value with
pub one_trans : (types : List IrType) (numbers : List ℕ) (parts : List Written) → ArePartsBelow parts → (w u v : Written) → HasPartsBelow (length parts) u.val
    → AreOneValue types numbers parts w u → AreOneValue types numbers parts u v → AreOneValue types numbers parts w v
one_trans types numbers parts below w u v within left right places x y p q =
    let z = middle types numbers parts below places w u x within left p in
    let first = left places x z.0 p z.1 in
    let second = right places z.0 y z.1 q in
    (first.0 ∙ second.0, first.1 ∙ second.1)
