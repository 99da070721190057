-- What instructions name, in the order of the text: the parts that are laid behind it, and the operands that are read of it.
use Rattle.std.proofs.Common.{◌≡◌, ◌<◌, ◌≤◌, ℕ, zero, suc, true, List, [], ◌∷◌, ◌++◌, length, slice_index}
use Rattle.std.proofs.Common.{Option, None, Some, refl, subst, arith}
use Rattle.std.specs.List.{flat_map}
use Rattle.std.proofs.lemmas.Option.{none-some, same_Some}
use Rattle.attr_ids.specs.declared.ids.TypeId.{TypeId}
use Rattle.attr_ids.specs.declared.ids.BlockId.{BlockId}
use Rattle.attr_ids.specs.declared.ids.ValueId.{ValueId}
use Rattle.ir_tree.specs.declared.types.Ty.{Ty}
use Rattle.ir_tree.specs.declared.values.Value.{Value}
use Rattle.ir_tree.specs.declared.values.Value.TheVariants as value
use Rattle.ir_tree.specs.declared.constants.Const.{Const}
use Rattle.ir_module.specs.declared.op.Operand.{Operand}
use Rattle.ir_module.specs.declared.op.Operand.TheVariants as operand
use Rattle.ir_module.specs.declared.op.Written.{Written}
use Rattle.ir_module.specs.WellFormed.{Each, HasPartsBelow}
use Rattle.ir_operands.specs.Constants.{ArePartsBelow}
use Rattle.ir_operands.proofs.Parts.{below_more}
use Rattle.ir_scopes.specs.declared.slot.Entry.{Entry}
use Rattle.ir_scopes.specs.declared.slot.Entry.TheVariants as entry
use Rattle.ir_scopes.specs.declared.faults.Cause.TheVariants.{Unknown}
use Rattle.ir_instrs.specs.Reading.{Reading, Parts}
use Rattle.ir_instrs.specs.Uses.{Use, is_value, is_block, entry_at, value_faults, label_faults, use_faults, faults_of, behind_value, behind_use, behind}
use Rattle.ir_instrs.specs.Uses.Use.{Typed, Label}
use Rattle.ir_instrs.specs.Operands.{as_value, as_block, written, label}
use Rattle.ir_bodies.specs.Order.{reads}
use Rattle.resolved_forms.proofs.Runs.{nil_parts}
use Rattle.resolved_forms.proofs.Constants.{IsNamedThere, IsFine, AreFine, is_well}

-- parts that name what is there, and smaller ones alone
abbrev pub AreGood : ℕ → ℕ → ℕ → List Written → Type 0
AreGood T G F ps = AreFine T G F ps × ArePartsBelow ps

-- a constant, and the parts behind it
pub record IsRead (T G F : ℕ) (before : List Written) (out : Written × List Written) : Type 0 where
  pub fine : IsFine T G F out.0
  pub below : HasPartsBelow (length out.1) out.0.val
  pub parts : AreGood T G F out.1
  pub longer : length before ≤ length out.1

-- what a body is read with names what is there: types, constants, and the values and blocks of one function
pub record IsGround (T G F : ℕ) (V B : ℕ → Type 0) (r : Reading) : Type 0 where
  pub two : 2 ≤ T
  pub kinds : (ty : Ty) → (r.kind ty).0 < T
  pub bit : r.bit.0 < T
  pub consts : (c : Const) → r.unknown c ≡ [] → (ty : TypeId) → ty.0 < T → (ps : List Written) → AreGood T G F ps → IsRead T G F ps (r.const c ty ps)
  pub values : (id : ℕ) (v : ValueId) → r.named id ≡ Some (entry.Value v) → V v.0
  pub blocks : (id : ℕ) (b : BlockId) → r.named id ≡ Some (entry.Block b) → B b.0

-- each type that is written among these is there
abbrev pub AreTyped : ℕ → List Use → Type 0
AreTyped T [] = Unit {0}
AreTyped T (Typed t v ∷ us) = (t.0 < T) × AreTyped T us
AreTyped T (Label at ∷ us) = AreTyped T us

pub typed_both : (T : ℕ) (us vs : List Use) → AreTyped T us → AreTyped T vs → AreTyped T (us ++ vs)
typed_both T [] vs h g = g
typed_both T (Typed t v ∷ us) vs h g = (h.0, typed_both T us vs h.1 g)
typed_both T (Label at ∷ us) vs h g = typed_both T us vs h g

pub typed_all : {X : Type 0} (T : ℕ) (uses : X → List Use) → ((x : X) → AreTyped T (uses x)) → (xs : List X) → AreTyped T (flat_map uses xs)
typed_all T uses h [] = tt
typed_all T uses h (x ∷ xs) = typed_both T (uses x) (flat_map uses xs) (h x) (typed_all T uses h xs)

pub behind_both : (r : Reading) (ps : Parts) (us vs : List Use) → behind r ps (us ++ vs) ≡ behind r (behind r ps us) vs
behind_both r ps [] vs = refl
behind_both r ps (u ∷ us) vs = behind_both r (behind_use r ps u) us vs

-- what an operand names is there, where there are so many parts
abbrev pub IsOperand : ℕ → ℕ → ℕ → (ℕ → Type 0) → ℕ → Operand → Type 0
IsOperand T G F V n (operand.Value v) = V v.0
IsOperand T G F V n o = IsNamedThere T G F o × HasPartsBelow n o

abbrev pub IsOperandWritten : ℕ → ℕ → ℕ → (ℕ → Type 0) → ℕ → Written → Type 0
IsOperandWritten T G F V n w = (w.ty.0 < T) × IsOperand T G F V n w.val

module _ (T G F : ℕ) (V B : ℕ → Type 0) (r : Reading) (ground : IsGround T G F V B r) where
  use_good : (u : Use) (us : List Use) (ps : Parts) → AreTyped T (u ∷ us) → use_faults r u ≡ [] → AreGood T G F ps
      → AreGood T G F (behind_use r ps u) × (length ps ≤ length (behind_use r ps u))
  use_good (Typed t (value.Local at)) us ps typed none good = (good, omega arith)
  use_good (Typed t (value.Const c)) us ps typed none good =
      let one = ground.consts c none t typed.0 ps good in (one.parts, one.longer)
  use_good (Label at) us ps typed none good = (good, omega arith)

  typed_rest : (u : Use) (us : List Use) → AreTyped T (u ∷ us) → AreTyped T us
  typed_rest (Typed t v) us h = h.1
  typed_rest (Label at) us h = h

  -- the parts behind these uses
  pub uses_good : (us : List Use) (ps : Parts) → AreTyped T us → faults_of r us ≡ [] → AreGood T G F ps
      → AreGood T G F (behind r ps us) × (length ps ≤ length (behind r ps us))
  uses_good [] ps typed none good = (good, omega arith)
  uses_good (u ∷ us) ps typed none good =
      let both = nil_parts (use_faults r u) (faults_of r us) none in
      let one = use_good u us ps typed both.0 good in
      let rest = uses_good us (behind_use r ps u) (typed_rest u us typed) both.1 one.0 in
      let a = one.1 in
      let b = rest.1 in
      (rest.0, omega (arith, a, b))

  pub constant_operand : (n : ℕ) (o : Operand) → IsNamedThere T G F o → HasPartsBelow n o → IsOperand T G F V n o
  constant_operand n (operand.Value v) h b = absurd h
  constant_operand n (operand.Int bits fits) h b = (h, b)
  constant_operand n (operand.Truth x) h b = (h, b)
  constant_operand n operand.Zero h b = (h, b)
  constant_operand n operand.Null h b = (h, b)
  constant_operand n operand.Undef h b = (h, b)
  constant_operand n operand.Poison h b = (h, b)
  constant_operand n (operand.Global g) h b = (h, b)
  constant_operand n (operand.Func f) h b = (h, b)
  constant_operand n (operand.Offset base bytes inbounds wrap) h b = (h, b)
  constant_operand n (operand.WrongOffset rule) h b = (h, b)
  constant_operand n (operand.Parts form first count) h b = (h, b)
  constant_operand n (operand.AnyInt first count) h b = (h, b)

  value_operand : (o : Option Entry) (n : ℕ) → ((v : ValueId) → o ≡ Some (entry.Value v) → V v.0) → is_value o ≡ true → IsOperand T G F V n (as_value o)
  value_operand None n h is = absurd cc
  value_operand (Some (entry.Value v)) n h is = h v refl
  value_operand (Some (entry.Block b)) n h is = absurd cc
  value_operand (Some (entry.Global g)) n h is = absurd cc
  value_operand (Some (entry.Func f)) n h is = absurd cc
  value_operand (Some (entry.Type t)) n h is = absurd cc
  value_operand (Some (entry.Group g)) n h is = absurd cc

  pub written_operand : (n : ℕ) (ps : Parts) (t : TypeId) (v : Value) → t.0 < T → value_faults r v ≡ [] → AreGood T G F ps
      → length (behind_value r ps t v) ≤ n → IsOperandWritten T G F V n (written r ps t v)
  written_operand n ps t (value.Local at) low none good l =
      (low, value_operand (entry_at r at) n (λ v is. ground.values (slice_index r.ids at) v is) (is_well (is_value (entry_at r at)) Unknown at none))
  written_operand n ps t (value.Const c) low none good l =
      let one = ground.consts c none t low ps good in (
        one.fine.0,
        constant_operand n (r.const c t ps).0.val one.fine.1
            (below_more (length (r.const c t ps).1) n (r.const c t ps).0.val l one.below),
      )

  -- the operands that are read of these uses
  pub reads_good : (n : ℕ) (us : List Use) (ps : Parts) → AreTyped T us → faults_of r us ≡ [] → AreGood T G F ps → length (behind r ps us) ≤ n
      → Each (reads r ps us) (λ k w. IsOperandWritten T G F V n w)
  reads_good n [] ps typed none good l k w at = absurd (none-some w at)
  reads_good n (Label a ∷ us) ps typed none good l k w at =
      reads_good n us ps typed (nil_parts (use_faults r (Label a)) (faults_of r us) none).1 good l k w at
  reads_good n (Typed t v ∷ us) ps typed none good l zero w at =
      let both = nil_parts (value_faults r v) (faults_of r us) none in
      let one = use_good (Typed t v) us ps typed both.0 good in
      let rest = (uses_good us (behind_use r ps (Typed t v)) typed.1 both.1 one.0).1 in
      subst (IsOperandWritten T G F V n) (same_Some (written r ps t v) w at) (written_operand n ps t v typed.0 both.0 good (omega (arith, rest, l)))
  reads_good n (Typed t v ∷ us) ps typed none good l (suc k) w at =
      let both = nil_parts (value_faults r v) (faults_of r us) none in
      let one = use_good (Typed t v) us ps typed both.0 good in
      reads_good n us (behind_use r ps (Typed t v)) typed.1 both.1 one.0 l k w at

  block_there : (o : Option Entry) → ((b : BlockId) → o ≡ Some (entry.Block b) → B b.0) → is_block o ≡ true → B (as_block o).0
  block_there None h is = absurd cc
  block_there (Some (entry.Value v)) h is = absurd cc
  block_there (Some (entry.Block b)) h is = h b refl
  block_there (Some (entry.Global g)) h is = absurd cc
  block_there (Some (entry.Func f)) h is = absurd cc
  block_there (Some (entry.Type t)) h is = absurd cc
  block_there (Some (entry.Group g)) h is = absurd cc

  -- the block that a label names
  pub label_there : (at : ℕ) → label_faults r at ≡ [] → B (label r at).0
  label_there at none = block_there (entry_at r at) (λ b is. ground.blocks (slice_index r.ids at) b is) (is_well (is_block (entry_at r at)) Unknown at none)
