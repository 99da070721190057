-- Values by their types: what operands, operations and memory give.
use Rattle.std.proofs.Common.{◌≡◌, ℕ, ◌+◌, ◌-◌, ◌%◌, ◌^◌, ◌==◌, ◌&&◌, ◌||◌, not, drop, nat_le, nat_lt, Bool, true, false, if◌then◌else◌, List, [], ◌∷◌}
use Rattle.std.proofs.Common.{slice_get, Option, None, Some, refl, sym, subst, ◌∙◌}
use Rattle.std.specs.List.{AllByRecursion, list_any, list_all}
use Rattle.std.proofs.lemmas.Bool.{and_parts}
use Rattle.attr_ids.specs.declared.ids.TypeId.{TypeId}
use Rattle.ir_types.specs.declared.ir_type.IrType.{IrType}
use Rattle.ir_types.specs.declared.ir_type.IrType.TheVariants as type
use Rattle.ir_ops.specs.declared.binary.BinOp.{BinOp}
use Rattle.ir_ops.specs.declared.binary.OpOut.{OpOut}
use Rattle.ir_ops.specs.declared.binary.OpOut.TheVariants as out
use Rattle.ir_ops.specs.declared.predicate.Pred.{Pred}
use Rattle.ir_ops.specs.declared.conversion.CastOp.{CastOp}
use Rattle.ir_ops.specs.BinOp.{outcome}
use Rattle.ir_ops.specs.Pred.{comparison}
use Rattle.ir_module.specs.declared.attrs.ParamAttrs.{ParamAttrs}
use Rattle.ir_module.specs.declared.op.Op.{Op}
use Rattle.ir_module.specs.declared.op.Op.TheVariants as op
use Rattle.ir_module.specs.declared.op.Operand.{Operand}
use Rattle.ir_module.specs.declared.op.Operand.TheVariants as operand
use Rattle.ir_module.specs.declared.op.Symbol.TheVariants as symbol
use Rattle.ir_module.specs.declared.op.Written.{Written}
use Rattle.ir_module.specs.declared.module.ValueInfo.{ValueInfo}
use Rattle.ir_module.specs.declared.module.Module.{Module}
use Rattle.facts.specs.Bodies.{is_pointer, is_ptr}
use Rattle.ir_machine.specs.declared.choice.Datum.{Datum}
use Rattle.ir_machine.specs.declared.choice.Datum.TheVariants as datum
use Rattle.ir_machine.specs.declared.choice.Mark.{Mark}
use Rattle.ir_machine.specs.declared.choice.Value.{Value}
use Rattle.ir_machine.specs.declared.choice.Byte.{Byte}
use Rattle.ir_machine.specs.declared.choice.Byte.TheVariants as byte
use Rattle.ir_machine.specs.Values.{plain, carried, marked, is_poison, is_undef, are_same_marks, is_poison_byte, is_undef_byte, is_fragment, is_zero_byte}
use Rattle.ir_machine.specs.Values.{little_endian, loaded_int, are_fragments, whole_pointer, loaded_ptr}
use Rattle.ir_machine.specs.Memory.{Memory}
use Rattle.ir_machine.specs.Moves.{Outcome, Gives}
use Rattle.ir_machine.specs.Reading.{type_of, width_in, width_of, is_pointer_in, is_pointer as is_ptr_type, Values, Picked, picked, read, read_operand, pick}
use Rattle.ir_machine.specs.Reading.{any_int, Displacement, exact_or_poison, led_to, displaced_from, displaced, at_home, symbol_value, or_pair, zero_of}
use Rattle.ir_machine.specs.Reading.{constant_way, Here}
use Rattle.ir_machine.specs.Compute.{is_division, answered, on_ints, unless_odd, binary, truth, compared, converted_datum, flagged_by, int_result, selected}
use Rattle.ir_machine.specs.Compute.{any_pointer, any_value, frozen, Walk, walks, way_of, gep_result, computed}
use Rattle.ir_machine.specs.Access.{loaded_as}
use Rattle.ir_machine.specs.Calls.{becomes_poison, is_dereferenceable, poisoned, acted_on, marked_at}
use Rattle.ir_machine.specs.Outside.{is_datum_of, may_have_origins, is_value_of}
use Rattle.ir_machine.specs.Valid.{IsByteOf}
use Rattle.ir_machine.proofs.Basics.{OnOutcome, on_with, on_found, on_needs, on_fits, on_if, given}
use Rattle.ir_machine.proofs.Instructions.{IsRead, IsNoPtr, IsBare, on_reading}
use Rattle.law_premises.specs.Types.{IsWrittenAs, GivesType, typed, IsPointerDatum, IsOf, HasType}

-- ---- types

same_in : (found : Option IrType) → is_pointer_in found ≡ is_ptr found
same_in None = refl
same_in (Some (type.Int width)) = refl
same_in (Some type.Ptr) = refl
same_in (Some (type.Struct fields packed)) = refl
same_in (Some type.Void) = refl
same_in (Some (type.Array n elem)) = refl
same_in (Some type.Opaque) = refl

-- the machine and the facts say alike which types are pointers
pub same_pointer : (m : Module) (ty : TypeId) → is_ptr_type m ty ≡ is_pointer m ty
same_pointer m ty = same_in (slice_get m.types ty.0)

-- ---- values of a kind

no_address : (d : Datum) → IsNoPtr d → (b o : ℕ) → d ≡ datum.Ptr b o → ⊥
no_address d is b o e = subst IsNoPtr e is

bare_of : (x : Value) → IsBare x → IsOf false x
bare_of x bare = record { origins = bare.origins; block = no_address x.datum bare.datum }

pub number_of : (kind : Bool) (x : Value) → kind ≡ false → IsBare x → IsOf kind x
number_of kind x e bare = subst (λ k. IsOf k x) (sym e) (bare_of x bare)

plain_of : (kind : Bool) (d : Datum) → kind ≡ false → IsNoPtr d → IsOf kind (plain d)
plain_of kind d e is = number_of kind (plain d) e (record { origins = refl; datum = is })

pub pointer_of : (kind : Bool) (x : Value) → kind ≡ true → IsPointerDatum x.datum → IsOf kind x
pointer_of kind x e is = subst (λ k. IsOf k x) (sym e) is

-- a datum without origins that is no number and no address is of each kind
either_of : (kind : Bool) (d : Datum) → IsNoPtr d → IsPointerDatum d → IsOf kind (plain d)
either_of true d none is = is
either_of false d none is = bare_of (plain d) (record { origins = refl; datum = none })

poison_of : (kind : Bool) (x : Value) → IsOf kind x → IsOf kind (carried x datum.Poison)
poison_of true x is = tt
poison_of false x is = record { origins = is.origins; block = λ b o e. cc }

if_of : (kind b : Bool) (x y : Value) → IsOf kind x → IsOf kind y → IsOf kind (if b then x else y)
if_of kind true x y at_x at_y = at_x
if_of kind false x y at_x at_y = at_y

-- ---- addresses

abbrev pub IsPointer : Picked → Type 0
IsPointer r = IsPointerDatum r.value.datum

home_pointer : (home : Option ℕ) → IsPointerDatum (at_home home)
home_pointer None = tt
home_pointer (Some b) = tt

if_pointer : (b : Bool) (d e : Datum) → IsPointerDatum d → IsPointerDatum e → IsPointerDatum (if b then d else e)
if_pointer true d e at_d at_e = at_d
if_pointer false d e at_d at_e = at_e

led_pointer : (way : Displacement) (x : Value) (d : Datum) (within : Bool) (picks : List ℕ) → IsPointerDatum d →
    OnOutcome IsPointer (led_to way x d within picks)
led_pointer way x d within picks is =
    on_if IsPointer (way.inbounds && not within) _ _ (λ _. tt)
    (λ _. on_if IsPointer (way.wrap && not (way.forward && within)) (exact_or_poison x d picks) (picked (carried x d) picks)
    (λ _. if_pointer (pick picks == 0) d datum.Poison is tt) (λ _. is))

-- a getelementptr gives a pointer
displaced_pointer : (mem : Memory) (way : Displacement) (x : Value) (picks : List ℕ) → OnOutcome IsPointer (displaced mem way x picks)
displaced_pointer mem way x picks = by x.datum refl
  where
    by : (d : Datum) → x.datum ≡ d → OnOutcome IsPointer (displaced_from mem way x d picks)
    by (datum.Ptr block offset) e =
        led_pointer way x (datum.Ptr block ((offset + way.bytes) % (2 ^ 64))) (nat_le ((offset + way.bytes) % (2 ^ 64)) (mem.shape block).size) picks tt
    by datum.Null e = if_pointer (way.bytes == 0) datum.Null datum.Poison tt tt
    by datum.Undef e = subst IsPointerDatum (sym e) tt
    by datum.Poison e = subst IsPointerDatum (sym e) tt
    by (datum.Int bits) e = tt
    by datum.Pair e = tt

-- ---- operands

zero_of_kind : (ty : Option IrType) → OnOutcome (λ d. IsOf (is_ptr ty) (plain d)) (zero_of ty)
zero_of_kind None = tt
zero_of_kind (Some (type.Int width)) = bare_of (plain (datum.Int 0)) (record { origins = refl; datum = tt })
zero_of_kind (Some type.Ptr) = tt
zero_of_kind (Some (type.Struct fields packed)) = bare_of (plain datum.Pair) (record { origins = refl; datum = tt })
zero_of_kind (Some type.Void) = tt
zero_of_kind (Some (type.Array n elem)) = tt
zero_of_kind (Some type.Opaque) = tt

or_pair_kind : (ty : Option IrType) (d : Datum) → IsNoPtr d → IsPointerDatum d → IsOf (is_ptr ty) (plain (or_pair ty d))
or_pair_kind None d none is = either_of false d none is
or_pair_kind (Some (type.Int width)) d none is = either_of false d none is
or_pair_kind (Some type.Ptr) d none is = either_of true d none is
or_pair_kind (Some (type.Struct fields packed)) d none is = bare_of (plain datum.Pair) (record { origins = refl; datum = tt })
or_pair_kind (Some type.Void) d none is = either_of false d none is
or_pair_kind (Some (type.Array n elem)) d none is = either_of false d none is
or_pair_kind (Some type.Opaque) d none is = either_of false d none is

-- each value that is there has the type of its name
abbrev pub AreTyped : Module → Values → Type 0
AreTyped m values = (v : ℕ) (info : ValueInfo) (x : Value) → slice_get m.values v ≡ Some info → values v ≡ Some x → HasType m info.ty x

module _ (m : Module) (mem : Memory) (values : Values) (all : AreTyped m values) where
  operand_given : (t : TypeId) (o : Operand) (picks : List ℕ) → IsWrittenAs m t o →
      OnOutcome (λ (r : Picked). HasType m t r.value) (read_operand m mem values (type_of m t) o picks)
  operand_given t (operand.Value v) picks (info, at, alike) =
      on_found (λ (r : Picked). HasType m t r.value) (values v.0) (λ x. picked x picks) (λ x is. subst (λ k. IsOf k x) alike (all v.0 info x at is))
  operand_given t (operand.Int bits here) picks written =
      on_fits (λ (r : Picked). HasType m t r.value) here _ (λ _. plain_of (is_pointer m t) (datum.Int bits) written tt)
  operand_given t (operand.Truth b) picks written = plain_of (is_pointer m t) (datum.Int (if b then 1 else 0)) written tt
  operand_given t operand.Zero picks written =
      on_with (λ (r : Picked). HasType m t r.value) (zero_of (type_of m t)) (λ d. picked (plain d) picks)
      (λ d is. given (λ d. IsOf (is_pointer m t) (plain d)) (zero_of (type_of m t)) d (zero_of_kind (slice_get m.types t.0)) is)
  operand_given t operand.Null picks written = pointer_of (is_pointer m t) (plain datum.Null) written tt
  operand_given t operand.Undef picks written = or_pair_kind (slice_get m.types t.0) datum.Undef tt tt
  operand_given t operand.Poison picks written = or_pair_kind (slice_get m.types t.0) datum.Poison tt tt
  operand_given t (operand.Global g) picks written =
      pointer_of (is_pointer m t) (symbol_value mem (symbol.Global g)) written (home_pointer (mem.home (symbol.Global g)))
  operand_given t (operand.Func f) picks written =
      pointer_of (is_pointer m t) (symbol_value mem (symbol.Func f)) written (home_pointer (mem.home (symbol.Func f)))
  operand_given t (operand.Offset base bytes inbounds wrap) picks written =
      subst (λ k. OnOutcome (λ (r : Picked). IsOf k r.value)
      (displaced mem (constant_way (operand.Offset base bytes inbounds wrap)) (symbol_value mem base) picks))
      (sym written) (displaced_pointer mem (constant_way (operand.Offset base bytes inbounds wrap)) (symbol_value mem base) picks)
  operand_given t (operand.WrongOffset rule) picks written = tt
  operand_given t (operand.Parts shape first n) picks written = tt
  operand_given t (operand.AnyInt first n) picks written = plain_of (is_pointer m t) (any_int (width_in (type_of m t)) picks) written tt

  -- an operand that was read has the type that is written for it
  pub read_typed : (w : Written) (x : Value) (picks rest : List ℕ) → IsWrittenAs m w.ty w.val →
      read m mem values w picks ≡ Gives (record { value = x; picks = rest }) → HasType m w.ty x
  read_typed w x picks rest written gives =
      given (λ (r : Picked). HasType m w.ty r.value) (read m mem values w picks) (record { value = x; picks = rest })
      (operand_given w.ty w.val picks written) gives

-- ---- numbers

if_no_ptr : (b : Bool) (d e : Datum) → IsNoPtr d → IsNoPtr e → IsNoPtr (if b then d else e)
if_no_ptr true d e at_d at_e = at_d
if_no_ptr false d e at_d at_e = at_e

answered_no_ptr : (o : OpOut) → OnOutcome IsNoPtr (answered o)
answered_no_ptr (out.Value bits) = tt
answered_no_ptr out.Poison = tt
answered_no_ptr out.Undefined = tt

on_ints_no_ptr : (f : ℕ → ℕ → Outcome Datum) → ((i j : ℕ) → OnOutcome IsNoPtr (f i j)) → (a b : Datum) → OnOutcome IsNoPtr (on_ints f a b)
on_ints_no_ptr f each (datum.Int i) (datum.Int j) = each i j
on_ints_no_ptr f each (datum.Int i) _ = tt
on_ints_no_ptr f each _ _ = tt

unless_odd_no_ptr : (a b : Datum) (next : Outcome Datum) → OnOutcome IsNoPtr next → OnOutcome IsNoPtr (unless_odd a b next)
unless_odd_no_ptr a b next is =
    on_if IsNoPtr (is_poison a || is_poison b) (Gives datum.Poison) (if is_undef a || is_undef b then Gives datum.Undef else next) (λ _. tt)
    (λ _. on_if IsNoPtr (is_undef a || is_undef b) (Gives datum.Undef) next (λ _. tt) (λ _. is))

binary_no_ptr : (width : ℕ) (o : BinOp) (a b : Datum) → OnOutcome IsNoPtr (binary width o a b)
binary_no_ptr width o a b =
    on_needs IsNoPtr (not (is_division o && (is_poison b || is_undef b))) _ (λ _. unless_odd_no_ptr a b (on_ints (λ i j. answered (outcome width o i j)) a b)
    (on_ints_no_ptr (λ i j. answered (outcome width o i j)) (λ i j. answered_no_ptr (outcome width o i j)) a b))

compared_no_ptr : (width : ℕ) (pred : Pred) (a b : Datum) → OnOutcome IsNoPtr (compared width pred a b)
compared_no_ptr width pred a b =
    unless_odd_no_ptr a b (on_ints (λ i j. Gives (truth (comparison width pred i j))) a b)
    (on_ints_no_ptr (λ i j. Gives (truth (comparison width pred i j))) (λ i j. tt) a b)

converted_no_ptr : (w v : ℕ) (o : CastOp) (d : Datum) → OnOutcome IsNoPtr (converted_datum w v o d)
converted_no_ptr w v o (datum.Int bits) = tt
converted_no_ptr w v o datum.Undef = tt
converted_no_ptr w v o datum.Poison = tt
converted_no_ptr w v o datum.Null = tt
converted_no_ptr w v o datum.Pair = tt
converted_no_ptr w v o (datum.Ptr block offset) = tt

int_result_kind : (kind flagged : Bool) (picks : List ℕ) (d : Outcome Datum) → kind ≡ false → OnOutcome IsNoPtr d →
    OnOutcome (IsOf kind) (int_result flagged picks d)
int_result_kind kind flagged picks d e is =
    on_with (IsOf kind) d (λ d. Gives (plain (flagged_by flagged picks d)))
    (λ f gives. plain_of kind (flagged_by flagged picks f) e (if_no_ptr (flagged && not (pick picks == 0)) datum.Poison f tt (given IsNoPtr d f is gives)))

-- ---- what instructions compute

selected_kind : (kind : Bool) (d : Datum) (x y : Value) (picks : List ℕ) → IsOf kind x → IsOf kind y → OnOutcome (IsOf kind) (selected d x y picks)
selected_kind kind (datum.Int bits) x y picks at_x at_y = if_of kind (bits == 0) y x at_y at_x
selected_kind kind datum.Undef x y picks at_x at_y = if_of kind (pick picks == 0) x y at_x at_y
selected_kind kind datum.Poison x y picks at_x at_y = either_of kind datum.Poison tt tt
selected_kind kind (datum.Ptr block offset) x y picks at_x at_y = tt
selected_kind kind datum.Null x y picks at_x at_y = tt
selected_kind kind datum.Pair x y picks at_x at_y = tt

any_pointer_kind : (count n : ℕ) (picks : List ℕ) → OnOutcome (IsOf true) (any_pointer count n picks)
any_pointer_kind count n picks =
    on_if (IsOf true) (n == 0) (Gives (plain datum.Null)) _ (λ _. tt) (λ _. on_fits (IsOf true) (nat_lt (n - 1) count) _ (λ _. tt))

any_value_kind : (mem : Memory) (ty : Option IrType) (picks : List ℕ) → OnOutcome (IsOf (is_ptr ty)) (any_value mem ty picks)
any_value_kind mem None picks = tt
any_value_kind mem (Some (type.Int width)) picks = bare_of (plain (any_int width picks)) (record { origins = refl; datum = tt })
any_value_kind mem (Some type.Ptr) picks = any_pointer_kind mem.count (pick picks) (drop 1 picks)
any_value_kind mem (Some (type.Struct fields packed)) picks = tt
any_value_kind mem (Some type.Void) picks = tt
any_value_kind mem (Some (type.Array n elem)) picks = tt
any_value_kind mem (Some type.Opaque) picks = tt

frozen_kind : (mem : Memory) (ty : Option IrType) (x : Value) (picks : List ℕ) → IsOf (is_ptr ty) x → OnOutcome (IsOf (is_ptr ty)) (frozen mem ty x picks)
frozen_kind mem ty x picks is =
    on_if (IsOf (is_ptr ty)) (is_undef x.datum || is_poison x.datum) (any_value mem ty picks) (Gives x) (λ _. any_value_kind mem ty picks) (λ _. is)

gep_pointer : (mem : Memory) (inbounds wrap : Bool) (x : Value) (walk : Walk) →
    OnOutcome (λ (y : Value). IsPointerDatum y.datum) (gep_result mem inbounds wrap x walk)
gep_pointer mem inbounds wrap x walk =
    on_if (λ (y : Value). IsPointerDatum y.datum) walk.poison (Gives (carried x datum.Poison)) _ (λ _. tt)
    (λ _. on_with (λ (y : Value). IsPointerDatum y.datum) (displaced mem (way_of inbounds wrap walk) x walk.picks) _
    (λ r gives. given IsPointer (displaced mem (way_of inbounds wrap walk) x walk.picks) r
    (displaced_pointer mem (way_of inbounds wrap walk) x walk.picks) gives))

module _ (m : Module) (here : Here) (all : AreTyped m here.frame.values) where
  -- an operand of the instruction that is written with its type has that type
  pub operand_typed : (w : Written) (x : Value) → IsWrittenAs m w.ty w.val → IsRead m here w x → HasType m w.ty x
  operand_typed w x written (picks, rest, gives) = read_typed m here.state.memory here.frame.values all w x picks rest written gives

  -- each operand is written with its type
  abbrev AreWritten : Op → Type 0
  AreWritten o = (k : ℕ) (w : Written) → slice_get (typed o) k ≡ Some w → IsWrittenAs m w.ty w.val

  computed_given : (t : TypeId) (picks : List ℕ) (o : Op) → here.instr.ty ≡ t → GivesType m t o → AreWritten o →
      OnOutcome (HasType m t) (computed m here picks o)
  computed_given t picks (op.Bin o flagged a b) e gives written =
      on_reading (HasType m t) m here a picks _ (λ x rest _. on_reading (HasType m t) m here b rest _ (λ y rest _.
      int_result_kind (is_pointer m t) flagged rest (binary (width_of m a.ty) o x.datum y.datum) gives (binary_no_ptr (width_of m a.ty) o x.datum y.datum)))
  computed_given t picks (op.Icmp pred flagged a b) e gives written =
      on_reading (HasType m t) m here a picks _ (λ x rest _. on_reading (HasType m t) m here b rest _ (λ y rest _.
      int_result_kind (is_pointer m t) flagged rest (compared (width_of m a.ty) pred x.datum y.datum) gives
      (compared_no_ptr (width_of m a.ty) pred x.datum y.datum)))
  computed_given t picks (op.Cast o flagged a) e gives written =
      on_reading (HasType m t) m here a picks _ (λ x rest _.
      int_result_kind (is_pointer m t) flagged rest (converted_datum (width_of m a.ty) (width_of m here.instr.ty) o x.datum) gives
      (converted_no_ptr (width_of m a.ty) (width_of m here.instr.ty) o x.datum))
  computed_given t picks (op.Select c a b) e gives written =
      on_reading (HasType m t) m here c picks _ (λ z rest _. on_reading (HasType m t) m here a rest _ (λ x rest at_a.
      on_reading (HasType m t) m here b rest _ (λ y rest at_b.
      selected_kind (is_pointer m t) z.datum x y rest (subst (λ k. IsOf k x) gives.0 (operand_typed a x (written 1 a refl) at_a))
      (subst (λ k. IsOf k y) gives.1 (operand_typed b y (written 2 b refl) at_b)))))
  computed_given t picks (op.Freeze a) e gives written =
      on_reading (HasType m t) m here a picks _ (λ x rest at.
      subst (λ k. OnOutcome (IsOf k) (frozen here.state.memory (type_of m a.ty) x rest)) gives
      (frozen_kind here.state.memory (slice_get m.types a.ty.0) x rest (operand_typed a x (written 0 a refl) at)))
  computed_given t picks (op.Gep elem base indices inbounds wrap) e gives written =
      on_reading (HasType m t) m here base picks _ (λ x rest at. on_with (HasType m t) (walks m here indices _) _ (λ walk _.
      subst (λ k. OnOutcome (IsOf k) (gep_result here.state.memory inbounds wrap x walk)) (sym gives) (gep_pointer here.state.memory inbounds wrap x walk)))
  computed_given t picks (op.LandingPad catch_all clauses) e gives written = plain_of (is_pointer m t) datum.Pair gives tt
  computed_given t picks (op.Phi arms) e gives written = tt
  computed_given t picks (op.Alloca ty n align) e gives written = tt
  computed_given t picks (op.Load ptr align volatile) e gives written = tt
  computed_given t picks (op.Store val ptr align volatile) e gives written = tt
  computed_given t picks (op.Call call) e gives written = tt
  computed_given t picks (op.Invoke call normal unwind) e gives written = tt
  computed_given t picks (op.Resume val) e gives written = tt
  computed_given t picks (op.Ret val) e gives written = tt
  computed_given t picks (op.Jump to) e gives written = tt
  computed_given t picks (op.Branch c so otherwise) e gives written = tt
  computed_given t picks (op.Switch on other cases) e gives written = tt
  computed_given t picks op.Unreachable e gives written = tt

  -- what an instruction computes has its type
  pub computed_typed : (picks : List ℕ) (o : Op) (x : Value) → GivesType m here.instr.ty o → AreWritten o → computed m here picks o ≡ Gives x →
      HasType m here.instr.ty x
  computed_typed picks o x gives written is =
      given (HasType m here.instr.ty) (computed m here picks o) x (computed_given here.instr.ty picks o refl gives written) is

-- ---- memory

-- the pointer of a fragment is one
abbrev pub IsFragment : Byte → Type 0
IsFragment b = IsByteOf (λ x. IsPointerDatum x.datum) b

whole_typed : (bytes : List Byte) → AllByRecursion IsFragment bytes → IsPointerDatum (whole_pointer bytes).datum
whole_typed [] all = tt
whole_typed (byte.Fragment k x ∷ bytes) all = if_of true (are_fragments x 0 (byte.Fragment k x ∷ bytes)) x (plain datum.Poison) all.0 tt
whole_typed (byte.Number n ∷ bytes) all = tt
whole_typed (byte.Undef ∷ bytes) all = tt
whole_typed (byte.Poison ∷ bytes) all = tt

loaded_ptr_typed : (bytes : List Byte) → AllByRecursion IsFragment bytes → IsOf true (loaded_ptr bytes)
loaded_ptr_typed bytes all =
    if_of true (list_any is_poison_byte bytes) (plain datum.Poison) _ tt
    (if_of true (list_any is_undef_byte bytes) (plain datum.Undef) _ tt
    (if_of true (list_all is_zero_byte bytes) (plain datum.Null) (whole_pointer bytes) tt (whole_typed bytes all)))

loaded_int_typed : (width : ℕ) (bytes : List Byte) → IsOf false (loaded_int width bytes)
loaded_int_typed width bytes =
    if_of false (list_any is_poison_byte bytes) (plain datum.Poison) _ (bare_of (plain datum.Poison) (record { origins = refl; datum = tt }))
    (if_of false (list_any is_undef_byte bytes || list_any is_fragment bytes) (plain datum.Undef) (plain (datum.Int (little_endian bytes % (2 ^ width))))
    (bare_of (plain datum.Undef) (record { origins = refl; datum = tt }))
    (bare_of (plain (datum.Int (little_endian bytes % (2 ^ width)))) (record { origins = refl; datum = tt })))

loaded_given : (ty : Option IrType) (bytes : List Byte) → AllByRecursion IsFragment bytes → OnOutcome (IsOf (is_ptr ty)) (loaded_as ty bytes)
loaded_given None bytes all = tt
loaded_given (Some (type.Int width)) bytes all = loaded_int_typed width bytes
loaded_given (Some type.Ptr) bytes all = loaded_ptr_typed bytes all
loaded_given (Some (type.Struct fields packed)) bytes all = tt
loaded_given (Some type.Void) bytes all = tt
loaded_given (Some (type.Array n elem)) bytes all = tt
loaded_given (Some type.Opaque) bytes all = tt

-- what is loaded has the type of the load
pub loaded_typed : (m : Module) (t : TypeId) (bytes : List Byte) (x : Value) → AllByRecursion IsFragment bytes → loaded_as (type_of m t) bytes ≡ Gives x →
    HasType m t x
loaded_typed m t bytes x all gives = given (HasType m t) (loaded_as (type_of m t) bytes) x (loaded_given (slice_get m.types t.0) bytes all) gives

-- ---- calls

-- what written attributes make of a value is of its kind
pub acted_kind : (kind : Bool) (mem : Memory) (attrs : List ParamAttrs) (x : Value) → IsOf kind x → OnOutcome (IsOf kind) (acted_on mem attrs x)
acted_kind kind mem attrs x is =
    on_needs (IsOf kind) (list_all (λ a. is_dereferenceable mem a.dereferenceable (poisoned mem attrs x).datum) attrs) (Gives (poisoned mem attrs x))
    (λ _. if_of kind (becomes_poison mem attrs x.datum) (carried x datum.Poison) x (poison_of kind x is) is)

-- a mark keeps the kind
pub marked_kind : (m : Module) (call j : ℕ) (t : TypeId) (x : Value) → HasType m t x → HasType m t (marked_at m call j t x)
marked_kind m call j t x is =
    subst (λ b. HasType m t (if b then marked (record { call = call; param = j }) x else x)) (sym (same_pointer m t)) (by (is_pointer m t) is)
  where
    by : (b : Bool) → IsOf b x → IsOf b (if b then marked (record { call = call; param = j }) x else x)
    by true is = is
    by false is = is

-- what the outside makes of a type is of it
no_marks : (origins : List Mark) → are_same_marks origins [] ≡ true → origins ≡ []
no_marks [] e = refl
no_marks (k ∷ origins) e = absurd (cc)

value_kind : (ty : Option IrType) (x : Value) → is_datum_of ty x.datum ≡ true → may_have_origins ty x ≡ true → IsOf (is_ptr ty) x
value_kind ty x is may = by ty x.datum refl is may
  where
    none : (d : Datum) → x.datum ≡ d → IsNoPtr d → are_same_marks x.origins [] ≡ true → IsOf false x
    none d e free same = record { origins = no_marks x.origins same; block = λ b o at. subst IsNoPtr (sym e ∙ at) free }

    by : (ty : Option IrType) (d : Datum) → x.datum ≡ d → is_datum_of ty d ≡ true → may_have_origins ty x ≡ true → IsOf (is_ptr ty) x
    by None d e is may = absurd (cc)
    by (Some (type.Int width)) (datum.Int bits) e is may = none (datum.Int bits) e tt may
    by (Some (type.Int width)) datum.Undef e is may = none datum.Undef e tt may
    by (Some (type.Int width)) datum.Poison e is may = none datum.Poison e tt may
    by (Some (type.Int width)) (datum.Ptr b o) e is may = absurd (cc)
    by (Some (type.Int width)) datum.Null e is may = absurd (cc)
    by (Some (type.Int width)) datum.Pair e is may = absurd (cc)
    by (Some type.Ptr) (datum.Ptr b o) e is may = subst IsPointerDatum (sym e) tt
    by (Some type.Ptr) datum.Null e is may = subst IsPointerDatum (sym e) tt
    by (Some type.Ptr) datum.Undef e is may = subst IsPointerDatum (sym e) tt
    by (Some type.Ptr) datum.Poison e is may = subst IsPointerDatum (sym e) tt
    by (Some type.Ptr) (datum.Int bits) e is may = absurd (cc)
    by (Some type.Ptr) datum.Pair e is may = absurd (cc)
    by (Some (type.Struct fields packed)) datum.Pair e is may = none datum.Pair e tt may
    by (Some (type.Struct fields packed)) _ e is may = absurd (cc)
    by (Some type.Void) d e is may = absurd (cc)
    by (Some (type.Array n elem)) d e is may = absurd (cc)
    by (Some type.Opaque) d e is may = absurd (cc)

pub value_typed : (m : Module) (t : TypeId) (x : Value) → is_value_of m t x ≡ true → HasType m t x
value_typed m t x is =
    let parts = and_parts (is_datum_of (type_of m t) x.datum) (may_have_origins (type_of m t) x) is in
    value_kind (slice_get m.types t.0) x parts.0 parts.1
