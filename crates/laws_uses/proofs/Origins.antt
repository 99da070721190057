-- Where the origins of what an instruction computes come from.
use Rattle.std.proofs.Common.{◌≡◌, ℕ, ◌+◌, ◌-◌, ◌%◌, ◌^◌, ◌==◌, ◌&&◌, ◌||◌, not, nat_le, nat_lt, Bool, true, false, if◌then◌else◌, List, [], slice_get, Option}
use Rattle.std.proofs.Common.{None, Some, refl, ◌⊎◌, inl, inr}
use Rattle.ir_types.specs.declared.ir_type.IrType.{IrType}
use Rattle.ir_types.specs.declared.ir_type.IrType.TheVariants as type
use Rattle.ir_module.specs.declared.op.Op.{Op}
use Rattle.ir_module.specs.declared.op.Op.TheVariants as op
use Rattle.ir_module.specs.declared.op.Instr.{Instr}
use Rattle.ir_module.specs.declared.op.Written.{Written}
use Rattle.ir_module.specs.declared.module.Module.{Module}
use Rattle.ir_module.specs.Operands.{operands}
use Rattle.facts.specs.Kinds.{UseFact}
use Rattle.facts.specs.Facts.{Fact}
use Rattle.facts.specs.Uses.{ResultUsed, Permits, is_phi}
use Rattle.ir_machine.specs.declared.choice.Datum.{Datum}
use Rattle.ir_machine.specs.declared.choice.Datum.TheVariants as datum
use Rattle.ir_machine.specs.declared.choice.Value.{Value}
use Rattle.ir_machine.specs.Values.{plain, carried, is_undef, is_poison}
use Rattle.ir_machine.specs.Memory.{Memory}
use Rattle.ir_machine.specs.Moves.{Outcome, Gives}
use Rattle.ir_machine.specs.Reading.{Picked, picked, pick, type_of, width_of, Displacement, exact_or_poison, led_to, displaced_from, displaced, Here}
use Rattle.ir_machine.specs.Compute.{binary, compared, converted_datum, flagged_by, int_result, selected, any_value, frozen, Walk, walks, way_of, gep_result}
use Rattle.ir_machine.specs.Compute.{computed}
use Rattle.ir_machine.proofs.Basics.{OnOutcome, on_with, on_if, on_fits, given}
use Rattle.ir_machine.proofs.Instructions.{IsRead, on_reading}

-- it has no origins, or those of y
abbrev pub KeepsOrigins : Value → Value → Type 0
KeepsOrigins y x = (x.origins ≡ []) ⊎ (x.origins ≡ y.origins)

abbrev PickedKeeps : Value → Picked → Type 0
PickedKeeps y r = KeepsOrigins y r.value

led_keeps : (way : Displacement) (x : Value) (d : Datum) (within : Bool) (picks : List ℕ) → OnOutcome (PickedKeeps x) (led_to way x d within picks)
led_keeps way x d within picks =
    on_if (PickedKeeps x) (way.inbounds && not within) _ _ (λ _. inr refl)
    (λ _. on_if (PickedKeeps x) (way.wrap && not (way.forward && within)) (exact_or_poison x d picks) (picked (carried x d) picks) (λ _. inr refl)
    (λ _. inr refl))

displaced_keeps : (mem : Memory) (way : Displacement) (x : Value) (picks : List ℕ) → OnOutcome (PickedKeeps x) (displaced mem way x picks)
displaced_keeps mem way x picks = by x.datum
  where
    by : (d : Datum) → OnOutcome (PickedKeeps x) (displaced_from mem way x d picks)
    by (datum.Ptr block offset) = led_keeps way x (datum.Ptr block ((offset + way.bytes) % (2 ^ 64))) (nat_le ((offset + way.bytes) % (2 ^ 64))
        (mem.shape block).size) picks
    by datum.Null = inr refl
    by datum.Undef = inr refl
    by datum.Poison = inr refl
    by (datum.Int bits) = tt
    by datum.Pair = tt

gep_keeps : (mem : Memory) (inbounds wrap : Bool) (x : Value) (walk : Walk) → OnOutcome (KeepsOrigins x) (gep_result mem inbounds wrap x walk)
gep_keeps mem inbounds wrap x walk =
    on_if (KeepsOrigins x) walk.poison (Gives (carried x datum.Poison)) _ (λ _. inr refl)
    (λ _. on_with (KeepsOrigins x) (displaced mem (way_of inbounds wrap walk) x walk.picks) _ (λ r gives.
    given (PickedKeeps x) (displaced mem (way_of inbounds wrap walk) x walk.picks) r (displaced_keeps mem (way_of inbounds wrap walk) x walk.picks) gives))

any_bare : (mem : Memory) (ty : Option IrType) (picks : List ℕ) → OnOutcome (λ (x : Value). x.origins ≡ []) (any_value mem ty picks)
any_bare mem None picks = tt
any_bare mem (Some (type.Int width)) picks = refl
any_bare mem (Some type.Ptr) picks =
    on_if (λ (x : Value). x.origins ≡ []) (pick picks == 0) (Gives (plain datum.Null)) _ (λ _. refl)
    (λ _. on_fits (λ (x : Value). x.origins ≡ []) (nat_lt (pick picks - 1) mem.count) _ (λ low. refl))
any_bare mem (Some (type.Struct fields packed)) picks = tt
any_bare mem (Some type.Void) picks = tt
any_bare mem (Some (type.Array n elem)) picks = tt
any_bare mem (Some type.Opaque) picks = tt

frozen_keeps : (mem : Memory) (ty : Option IrType) (x : Value) (picks : List ℕ) → OnOutcome (KeepsOrigins x) (frozen mem ty x picks)
frozen_keeps mem ty x picks =
    on_if (KeepsOrigins x) (is_undef x.datum || is_poison x.datum) (any_value mem ty picks) (Gives x)
    (λ _. bare (any_value mem ty picks) (any_bare mem ty picks)) (λ _. inr refl)
  where
    bare : (o : Outcome Value) → OnOutcome (λ (x : Value). x.origins ≡ []) o → OnOutcome (KeepsOrigins x) o
    bare (Gives y) none = inl none
    bare _ none = tt

-- ---- what is computed

-- the operand's use as number n passes the pointer on to the result
abbrev pub PassesOn : Module → (Fact → Bool) → Instr → Op → ℕ → Type 0
PassesOn m held instr o n = (kind : UseFact) → Permits m held kind instr o n → ResultUsed held kind instr

-- the result has no origins, or those of an operand that is passed on
abbrev pub IsComputedFrom : Module → (Fact → Bool) → Here → Op → Value → Type 0
IsComputedFrom m held here o x =
    (x.origins ≡ []) ⊎ ((n : ℕ) × (w : Written) × (y : Value) × (slice_get (operands o) n ≡ Some w) × IsRead m here w y × (x.origins ≡ y.origins) ×
    PassesOn m held here.instr o n × (is_phi o ≡ false))

module _ (m : Module) (held : Fact → Bool) (here : Here) where
  int_bare : (flagged : Bool) (picks : List ℕ) (d : Outcome Datum) (o : Op) → OnOutcome (IsComputedFrom m held here o) (int_result flagged picks d)
  int_bare flagged picks d o = on_with (IsComputedFrom m held here o) d (λ d. Gives (plain (flagged_by flagged picks d))) (λ e gives. inl refl)

  select_from : (c a b : Written) (d : Datum) (x y : Value) (picks : List ℕ) → IsRead m here a x → IsRead m here b y →
      OnOutcome (IsComputedFrom m held here (op.Select c a b)) (selected d x y picks)
  select_from c a b (datum.Int bits) x y picks at_x at_y = by (bits == 0)
    where
      by : (z : Bool) → IsComputedFrom m held here (op.Select c a b) (if z then y else x)
      by true = inr (2, b, y, refl, at_y, refl, (λ kind uses. uses), refl)
      by false = inr (1, a, x, refl, at_x, refl, (λ kind uses. uses), refl)
  select_from c a b datum.Undef x y picks at_x at_y = by (pick picks == 0)
    where
      by : (z : Bool) → IsComputedFrom m held here (op.Select c a b) (if z then x else y)
      by true = inr (1, a, x, refl, at_x, refl, (λ kind uses. uses), refl)
      by false = inr (2, b, y, refl, at_y, refl, (λ kind uses. uses), refl)
  select_from c a b datum.Poison x y picks at_x at_y = inl refl
  select_from c a b (datum.Ptr block offset) x y picks at_x at_y = tt
  select_from c a b datum.Null x y picks at_x at_y = tt
  select_from c a b datum.Pair x y picks at_x at_y = tt

  computed_given : (picks : List ℕ) (o : Op) → OnOutcome (IsComputedFrom m held here o) (computed m here picks o)
  computed_given picks (op.Bin o flagged a b) =
      on_reading (IsComputedFrom m held here (op.Bin o flagged a b)) m here a picks _ (λ x rest _.
      on_reading (IsComputedFrom m held here (op.Bin o flagged a b)) m here b rest _ (λ y rest _.
      int_bare flagged rest (binary (width_of m a.ty) o x.datum y.datum) (op.Bin o flagged a b)))
  computed_given picks (op.Icmp pred flagged a b) =
      on_reading (IsComputedFrom m held here (op.Icmp pred flagged a b)) m here a picks _ (λ x rest _.
      on_reading (IsComputedFrom m held here (op.Icmp pred flagged a b)) m here b rest _ (λ y rest _.
      int_bare flagged rest (compared (width_of m a.ty) pred x.datum y.datum) (op.Icmp pred flagged a b)))
  computed_given picks (op.Cast o flagged a) =
      on_reading (IsComputedFrom m held here (op.Cast o flagged a)) m here a picks _ (λ x rest _.
      int_bare flagged rest (converted_datum (width_of m a.ty) (width_of m here.instr.ty) o x.datum) (op.Cast o flagged a))
  computed_given picks (op.Select c a b) =
      on_reading (IsComputedFrom m held here (op.Select c a b)) m here c picks _ (λ z rest _.
      on_reading (IsComputedFrom m held here (op.Select c a b)) m here a rest _ (λ x rest at_a.
      on_reading (IsComputedFrom m held here (op.Select c a b)) m here b rest _ (λ y rest at_b. select_from c a b z.datum x y rest at_a at_b)))
  computed_given picks (op.Freeze a) =
      on_reading (IsComputedFrom m held here (op.Freeze a)) m here a picks _ (λ x rest at.
      keeps x at (frozen here.state.memory (type_of m a.ty) x rest) (frozen_keeps here.state.memory (type_of m a.ty) x rest))
    where
      keeps : (x : Value) → IsRead m here a x → (o : Outcome Value) → OnOutcome (KeepsOrigins x) o → OnOutcome (IsComputedFrom m held here (op.Freeze a)) o
      keeps x at (Gives y) is =
          elim is [
            | inl none ↦ inl none
            | inr same ↦ inr (0, a, x, refl, at, same, (λ kind uses. uses), refl)
          ]
      keeps x at _ is = tt
  computed_given picks (op.Gep elem base indices inbounds wrap) =
      on_reading (IsComputedFrom m held here (op.Gep elem base indices inbounds wrap)) m here base picks _ (λ x rest at.
      on_with (IsComputedFrom m held here (op.Gep elem base indices inbounds wrap)) (walks m here indices _) _ (λ walk _.
      keeps x at (gep_result here.state.memory inbounds wrap x walk) (gep_keeps here.state.memory inbounds wrap x walk)))
    where
      keeps : (x : Value) → IsRead m here base x → (o : Outcome Value) → OnOutcome (KeepsOrigins x) o →
          OnOutcome (IsComputedFrom m held here (op.Gep elem base indices inbounds wrap)) o
      keeps x at (Gives y) is =
          elim is [
            | inl none ↦ inl none
            | inr same ↦ inr (0, base, x, refl, at, same, (λ kind uses. uses), refl)
          ]
      keeps x at _ is = tt
  computed_given picks (op.LandingPad catch_all clauses) = inl refl
  computed_given picks (op.Phi arms) = tt
  computed_given picks (op.Alloca ty n align) = tt
  computed_given picks (op.Load ptr align volatile) = tt
  computed_given picks (op.Store val ptr align volatile) = tt
  computed_given picks (op.Call call) = tt
  computed_given picks (op.Invoke call normal unwind) = tt
  computed_given picks (op.Resume val) = tt
  computed_given picks (op.Ret val) = tt
  computed_given picks (op.Jump to) = tt
  computed_given picks (op.Branch c so otherwise) = tt
  computed_given picks (op.Switch on other cases) = tt
  computed_given picks op.Unreachable = tt

  -- what an instruction computes has no origins, or those of an operand that it passes on
  pub computed_from : (picks : List ℕ) (o : Op) (x : Value) → computed m here picks o ≡ Gives x → IsComputedFrom m held here o x
  computed_from picks o x gives = given (IsComputedFrom m held here o) (computed m here picks o) x (computed_given picks o) gives
