-- Values that a step brings come from those that were there: for every fact P of values that is closed under what the machine
-- does with them, each value that a step brings is P.
use Rattle.std.proofs.Common.{◌≡◌, ℕ, zero, suc, ◌+◌, ◌-◌, ◌%◌, ◌^◌, ◌==◌, ◌&&◌, ◌||◌, ◌++◌, ◌<◌, not, drop, nat_le, nat_lt, Bool, true, false, if◌then◌else◌}
use Rattle.std.proofs.Common.{List, [], ◌∷◌, slice_get, map, Option, None, Some, refl, sym, ap, subst, ◌∙◌, inl, inr}
use Rattle.std.specs.List.{AllByRecursion, list_any, list_all}
use Rattle.std.specs.Option.{unwrap_or}
use Rattle.std.proofs.lemmas.Bool.{ltb-true, and_parts, or_cases, eqb-true}
use Rattle.ir_types.specs.declared.ir_type.IrType.{IrType}
use Rattle.ir_types.specs.declared.ir_type.IrType.TheVariants as type
use Rattle.ir_ops.specs.declared.binary.BinOp.{BinOp}
use Rattle.ir_ops.specs.declared.binary.OpOut.{OpOut}
use Rattle.ir_ops.specs.declared.binary.OpOut.TheVariants as out
use Rattle.ir_ops.specs.declared.predicate.Pred.{Pred}
use Rattle.ir_ops.specs.declared.conversion.CastOp.{CastOp}
use Rattle.ir_ops.specs.BinOp.{outcome}
use Rattle.ir_ops.specs.Pred.{comparison}
use Rattle.ir_module.specs.declared.attrs.ParamAttrs.{ParamAttrs}
use Rattle.ir_module.specs.declared.op.Operand.{Operand}
use Rattle.ir_module.specs.declared.op.Operand.TheVariants as operand
use Rattle.ir_module.specs.declared.op.Op.{Op}
use Rattle.ir_module.specs.declared.op.Op.TheVariants as op
use Rattle.ir_module.specs.declared.op.Symbol.{Symbol}
use Rattle.ir_module.specs.declared.op.Written.{Written}
use Rattle.attr_ids.specs.declared.ids.ValueId.{ValueId}
use Rattle.shelf.proofs.Every.{every_at, every_append}
use Rattle.ir_module.specs.Calls.{promising}
use Rattle.ir_module.specs.declared.module.Param.{Param}
use Rattle.ir_module.specs.declared.module.Module.{Module}
use Rattle.ir_machine.specs.declared.choice.Datum.{Datum}
use Rattle.ir_machine.specs.declared.choice.Datum.TheVariants as datum
use Rattle.ir_machine.specs.declared.choice.Mark.{Mark}
use Rattle.ir_machine.specs.declared.choice.Value.{Value}
use Rattle.ir_machine.specs.declared.choice.Byte.{Byte}
use Rattle.ir_machine.specs.declared.choice.Byte.TheVariants as byte
use Rattle.ir_machine.specs.Values.{plain, carried, is_poison, is_undef, is_same_datum, are_same_marks, bytes_from, overlaid, stored_byte, stored}
use Rattle.ir_machine.specs.Values.{is_poison_byte, is_undef_byte, is_fragment, is_zero_byte, little_endian, loaded_int, are_fragments, whole_pointer}
use Rattle.ir_machine.specs.Values.{loaded_ptr}
use Rattle.ir_machine.specs.Memory.{Memory}
use Rattle.ir_machine.specs.Frames.{OutsideFrame, State}
use Rattle.ir_machine.specs.Moves.{Outcome, Gives}
use Rattle.ir_machine.specs.Reading.{Values, Picked, picked, read, read_operand, pick, type_of, width_of, width_in, any_int, Displacement, exact_or_poison}
use Rattle.ir_machine.specs.Reading.{led_to, displaced_from, displaced, at_home, symbol_value, or_pair, zero_of, constant_way, Here}
use Rattle.ir_machine.specs.Compute.{is_division, answered, on_ints, unless_odd, binary, truth, compared, converted_datum, flagged_by, int_result, selected}
use Rattle.ir_machine.specs.Compute.{any_pointer, any_value, frozen, Walk, walks, way_of, gep_result, computed}
use Rattle.ir_machine.specs.Access.{loaded_as, Place, bytes_at, bytes_with}
use Rattle.ir_machine.specs.Calls.{becomes_poison, is_dereferenceable, poisoned, acted_on, entered, bound, came_back, with_result}
use Rattle.ir_machine.specs.Outside.{is_possible, is_moved, is_from, can_use}
use Rattle.ir_machine.specs.Valid.{IsSomeOf, IsByteOf}
use Rattle.ir_machine.proofs.Basics.{OnOutcome, on_with, on_found, on_needs, on_fits, on_if, given, put_has}
use Rattle.ir_machine.specs.Meanings.{PointsTo}
use Rattle.ir_machine.proofs.Instructions.{IsRead, IsNoPtr, IsBare, AreRead, on_reading}

-- ---- what values are made of

-- the second is no pointer, or one to the same block as the first
abbrev pub IsSameBlock : Datum → Datum → Type 0
IsSameBlock d (datum.Ptr block offset) = PointsTo block d
IsSameBlock d datum.Null = Unit {0}
IsSameBlock d datum.Undef = Unit {0}
IsSameBlock d datum.Poison = Unit {0}
IsSameBlock d (datum.Int bits) = Unit {0}
IsSameBlock d datum.Pair = Unit {0}

same_block : (d : Datum) → IsSameBlock d d
same_block (datum.Ptr block offset) = refl
same_block datum.Null = tt
same_block datum.Undef = tt
same_block datum.Poison = tt
same_block (datum.Int bits) = tt
same_block datum.Pair = tt

-- a fact of values that holds of values that are no pointers, of pointers without origins to blocks that exist, and of what
-- carries the origins on to the same block or to no pointer
pub record IsCarried (count : ℕ) (P : Value → Type 0) : Type 0 where
  pub bare : (x : Value) → IsBare x → P x
  pub block : (b o : ℕ) → b < count → P (plain (datum.Ptr b o))
  pub moved : (x : Value) (d : Datum) → P x → IsSameBlock x.datum d → P (carried x d)

-- ---- lists

-- an element that passes a test, where one does
some_passes : {A : Type 0} (R : Type 0) (P : A → Type 0) (test : A → Bool) (xs : List A) → AllByRecursion P xs → ((x : A) → P x → test x ≡ true → R) →
    list_any test xs ≡ true → R
some_passes R P test [] all leads e = absurd (cc)
some_passes R P test (x ∷ xs) all leads e =
    elim (or_cases (test x) (list_any test xs) e) [
      | inl is ↦ leads x all.0 is
      | inr later ↦ some_passes R P test xs all.1 leads later
    ]

same_marks : (xs ys : List Mark) → are_same_marks xs ys ≡ true → xs ≡ ys
same_marks [] [] e = refl
same_marks [] (y ∷ ys) e = absurd (cc)
same_marks (x ∷ xs) [] e = absurd (cc)
same_marks (x ∷ xs) (y ∷ ys) e =
    let first = and_parts (x.call == y.call) (x.param == y.param && are_same_marks xs ys) (assoc e) in
    let more = and_parts (x.param == y.param) (are_same_marks xs ys) first.1 in
    let call : x.call ≡ y.call = eqb-true x.call y.call first.0 in
    let param : x.param ≡ y.param = eqb-true x.param y.param more.0 in
    let mark : x ≡ y = subst (λ c. x ≡ record { call = c; param = y.param }) call (subst (λ p. x ≡ record { call = x.call; param = p }) param refl) in
    subst (λ z. x ∷ xs ≡ z ∷ ys) mark (ap (λ zs. x ∷ zs) (same_marks xs ys more.1))
  where
    assoc : ((x.call == y.call && x.param == y.param) && are_same_marks xs ys) ≡ true →
        (x.call == y.call && (x.param == y.param && are_same_marks xs ys)) ≡ true
    assoc e = by (x.call == y.call) (x.param == y.param) (are_same_marks xs ys) e
      where
        by : (a b c : Bool) → ((a && b) && c) ≡ true → (a && (b && c)) ≡ true
        by true b c e = e
        by false b c e = absurd (cc)

-- ---- values that no pointer can be
no_ptr_bare : (d : Datum) → IsNoPtr d → IsBare (plain d)
no_ptr_bare d is = record { origins = refl; datum = is }

if_no_ptr : (b : Bool) (d e : Datum) → IsNoPtr d → IsNoPtr e → IsNoPtr (if b then d else e)
if_no_ptr true d e at_d at_e = at_d
if_no_ptr false d e at_d at_e = at_e

answered_no_ptr : (o : OpOut) → OnOutcome IsNoPtr (answered o)
answered_no_ptr (out.Value bits) = tt
answered_no_ptr out.Poison = tt
answered_no_ptr out.Undefined = tt

on_ints_no_ptr : (f : ℕ → ℕ → Outcome Datum) → ((i j : ℕ) → OnOutcome IsNoPtr (f i j)) → (a b : Datum) → OnOutcome IsNoPtr (on_ints f a b)
on_ints_no_ptr f each (datum.Int i) (datum.Int j) = each i j
on_ints_no_ptr f each (datum.Int i) _ = tt
on_ints_no_ptr f each _ _ = tt

unless_odd_no_ptr : (a b : Datum) (next : Outcome Datum) → OnOutcome IsNoPtr next → OnOutcome IsNoPtr (unless_odd a b next)
unless_odd_no_ptr a b next is =
    on_if IsNoPtr (is_poison a || is_poison b) (Gives datum.Poison) (if is_undef a || is_undef b then Gives datum.Undef else next) (λ _. tt)
    (λ _. on_if IsNoPtr (is_undef a || is_undef b) (Gives datum.Undef) next (λ _. tt) (λ _. is))

binary_no_ptr : (width : ℕ) (o : BinOp) (a b : Datum) → OnOutcome IsNoPtr (binary width o a b)
binary_no_ptr width o a b =
    on_needs IsNoPtr (not (is_division o && (is_poison b || is_undef b))) _ (λ _. unless_odd_no_ptr a b (on_ints (λ i j. answered (outcome width o i j)) a b)
    (on_ints_no_ptr (λ i j. answered (outcome width o i j)) (λ i j. answered_no_ptr (outcome width o i j)) a b))

compared_no_ptr : (width : ℕ) (pred : Pred) (a b : Datum) → OnOutcome IsNoPtr (compared width pred a b)
compared_no_ptr width pred a b =
    unless_odd_no_ptr a b (on_ints (λ i j. Gives (truth (comparison width pred i j))) a b)
    (on_ints_no_ptr (λ i j. Gives (truth (comparison width pred i j))) (λ i j. tt) a b)

converted_no_ptr : (w v : ℕ) (o : CastOp) (d : Datum) → OnOutcome IsNoPtr (converted_datum w v o d)
converted_no_ptr w v o (datum.Int bits) = tt
converted_no_ptr w v o datum.Undef = tt
converted_no_ptr w v o datum.Poison = tt
converted_no_ptr w v o datum.Null = tt
converted_no_ptr w v o datum.Pair = tt
converted_no_ptr w v o (datum.Ptr block offset) = tt

module _ (count : ℕ) (P : Value → Type 0) (closed : IsCarried count P) where
  no_ptr_has : (d : Datum) → IsNoPtr d → P (plain d)
  no_ptr_has d is = closed.bare (plain d) (no_ptr_bare d is)

  -- ---- operands

  -- symbols are pointers to blocks that exist
  abbrev HomesExist : Memory → Type 0
  HomesExist mem = (s : Symbol) (b : ℕ) → mem.home s ≡ Some b → b < count

  home_has : (home : Option ℕ) → ((b : ℕ) → home ≡ Some b → b < count) → P (plain (at_home home))
  home_has None exist = no_ptr_has datum.Null tt
  home_has (Some b) exist = closed.block b 0 (exist b refl)

  symbol_has : (mem : Memory) → HomesExist mem → (s : Symbol) → P (symbol_value mem s)
  symbol_has mem exist s = home_has (mem.home s) (exist s)

  abbrev PickedHas : Picked → Type 0
  PickedHas r = P r.value

  led_has : (way : Displacement) (x : Value) (block there : ℕ) (within : Bool) (picks : List ℕ) → P x → IsSameBlock x.datum (datum.Ptr block there) →
      OnOutcome PickedHas (led_to way x (datum.Ptr block there) within picks)
  led_has way x block there within picks has is =
      on_if PickedHas (way.inbounds && not within) _ _ (λ _. closed.moved x datum.Poison has tt)
      (λ _. on_if PickedHas (way.wrap && not (way.forward && within)) (exact_or_poison x (datum.Ptr block there) picks) (picked (carried x
      (datum.Ptr block there)) picks)
      (λ _. by (pick picks == 0)) (λ _. closed.moved x (datum.Ptr block there) has is))
    where
      by : (b : Bool) → P (carried x (if b then datum.Ptr block there else datum.Poison))
      by true = closed.moved x (datum.Ptr block there) has is
      by false = closed.moved x datum.Poison has tt

  displaced_has : (mem : Memory) (way : Displacement) (x : Value) (picks : List ℕ) → P x → OnOutcome PickedHas (displaced mem way x picks)
  displaced_has mem way x picks has = by x.datum refl
    where
      by : (d : Datum) → x.datum ≡ d → OnOutcome PickedHas (displaced_from mem way x d picks)
      by (datum.Ptr block offset) e =
          led_has way x block ((offset + way.bytes) % (2 ^ 64)) (nat_le ((offset + way.bytes) % (2 ^ 64)) (mem.shape block).size) picks has
          (subst (λ d. PointsTo block d) (sym e) refl)
      by datum.Null e = closed.moved x (if way.bytes == 0 then datum.Null else datum.Poison) has (null_or (way.bytes == 0))
        where
          null_or : (b : Bool) → IsSameBlock x.datum (if b then datum.Null else datum.Poison)
          null_or true = tt
          null_or false = tt
      by datum.Undef e = has
      by datum.Poison e = has
      by (datum.Int bits) e = tt
      by datum.Pair e = tt

  zero_has : (ty : Option IrType) → OnOutcome IsNoPtr (zero_of ty)
  zero_has None = tt
  zero_has (Some (type.Int width)) = tt
  zero_has (Some type.Ptr) = tt
  zero_has (Some (type.Struct fields packed)) = tt
  zero_has (Some type.Void) = tt
  zero_has (Some (type.Array n elem)) = tt
  zero_has (Some type.Opaque) = tt

  or_pair_has : (ty : Option IrType) (d : Datum) → IsNoPtr d → IsNoPtr (or_pair ty d)
  or_pair_has None d is = is
  or_pair_has (Some (type.Int width)) d is = is
  or_pair_has (Some type.Ptr) d is = is
  or_pair_has (Some (type.Struct fields packed)) d is = tt
  or_pair_has (Some type.Void) d is = is
  or_pair_has (Some (type.Array n elem)) d is = is
  or_pair_has (Some type.Opaque) d is = is

  values_has : (values : Values) (v : ℕ) → ((v : ℕ) → IsSomeOf P (values v)) → (found_at : Option Value) → values v ≡ found_at → (x : Value) →
      found_at ≡ Some x → P x
  values_has values v all found_at e x is = subst (IsSomeOf P) (e ∙ is) (all v)

  operand_given : (m : Module) (mem : Memory) (values : Values) → HomesExist mem → ((v : ℕ) → IsSomeOf P (values v)) →
      (ty : Option IrType) (w : Operand) (picks : List ℕ) →
      OnOutcome PickedHas (read_operand m mem values ty w picks)
  operand_given m mem values exist all ty (operand.Value v) picks =
      on_found PickedHas (values v.0) (λ x. picked x picks) (λ x is. values_has values v.0 all (values v.0) refl x is)
  operand_given m mem values exist all ty (operand.Int bits here) picks = on_fits PickedHas here _ (λ _. no_ptr_has (datum.Int bits) tt)
  operand_given m mem values exist all ty (operand.Truth b) picks = no_ptr_has (datum.Int (if b then 1 else 0)) tt
  operand_given m mem values exist all ty operand.Zero picks =
      on_with PickedHas (zero_of ty) (λ d. picked (plain d) picks) (λ d is. no_ptr_has d (given IsNoPtr (zero_of ty) d (zero_has ty) is))
  operand_given m mem values exist all ty operand.Null picks = no_ptr_has datum.Null tt
  operand_given m mem values exist all ty operand.Undef picks = no_ptr_has (or_pair ty datum.Undef) (or_pair_has ty datum.Undef tt)
  operand_given m mem values exist all ty operand.Poison picks = no_ptr_has (or_pair ty datum.Poison) (or_pair_has ty datum.Poison tt)
  operand_given m mem values exist all ty (operand.Global g) picks = symbol_has mem exist _
  operand_given m mem values exist all ty (operand.Func f) picks = symbol_has mem exist _
  operand_given m mem values exist all ty (operand.Offset base bytes inbounds wrap) picks =
      displaced_has mem (constant_way (operand.Offset base bytes inbounds wrap)) (symbol_value mem base) picks (symbol_has mem exist base)
  operand_given m mem values exist all ty (operand.WrongOffset rule) picks = tt
  operand_given m mem values exist all ty (operand.Parts shape first n) picks = tt
  operand_given m mem values exist all ty (operand.AnyInt first n) picks = no_ptr_has (any_int (width_in ty) picks) tt

  -- an operand that was read is P
  pub read_has : (m : Module) (mem : Memory) (values : Values) → HomesExist mem → ((v : ℕ) → IsSomeOf P (values v)) →
      (w : Written) (x : Value) (picks rest : List ℕ) →
      read m mem values w picks ≡ Gives (record { value = x; picks = rest }) → P x
  read_has m mem values exist all w x picks rest gives =
      given PickedHas (read m mem values w picks) (record { value = x; picks = rest }) (operand_given m mem values exist all (type_of m w.ty) w.val picks) gives

  -- ---- what instructions compute

  flagged_no_ptr : (flagged : Bool) (picks : List ℕ) (d : Datum) → IsNoPtr d → IsNoPtr (flagged_by flagged picks d)
  flagged_no_ptr flagged picks d is = if_no_ptr (flagged && not (pick picks == 0)) datum.Poison d tt is

  int_result_has : (flagged : Bool) (picks : List ℕ) (d : Outcome Datum) → OnOutcome IsNoPtr d → OnOutcome P (int_result flagged picks d)
  int_result_has flagged picks d is =
      on_with P d (λ d. Gives (plain (flagged_by flagged picks d)))
      (λ e gives. no_ptr_has (flagged_by flagged picks e) (flagged_no_ptr flagged picks e (given IsNoPtr d e is gives)))

  arm_has : (b : Bool) (x y : Value) → P x → P y → P (if b then x else y)
  arm_has true x y at_x at_y = at_x
  arm_has false x y at_x at_y = at_y

  selected_has : (d : Datum) (x y : Value) (picks : List ℕ) → P x → P y → OnOutcome P (selected d x y picks)
  selected_has (datum.Int bits) x y picks at_x at_y = arm_has (bits == 0) y x at_y at_x
  selected_has datum.Undef x y picks at_x at_y = arm_has (pick picks == 0) x y at_x at_y
  selected_has datum.Poison x y picks at_x at_y = no_ptr_has datum.Poison tt
  selected_has (datum.Ptr block offset) x y picks at_x at_y = tt
  selected_has datum.Null x y picks at_x at_y = tt
  selected_has datum.Pair x y picks at_x at_y = tt

  any_pointer_has : (n : ℕ) (picks : List ℕ) → OnOutcome P (any_pointer count n picks)
  any_pointer_has n picks =
      on_if P (n == 0) (Gives (plain datum.Null)) _ (λ _. no_ptr_has datum.Null tt)
      (λ _. on_fits P (nat_lt (n - 1) count) _ (λ low. closed.block (n - 1) (pick picks % (2 ^ 64)) (ltb-true (n - 1) count low)))

  any_value_has : (mem : Memory) → mem.count ≡ count → (ty : Option IrType) (picks : List ℕ) → OnOutcome P (any_value mem ty picks)
  any_value_has mem is None picks = tt
  any_value_has mem is (Some (type.Int width)) picks = no_ptr_has (any_int width picks) tt
  any_value_has mem is (Some type.Ptr) picks = subst (λ n. OnOutcome P (any_pointer n (pick picks) (drop 1 picks))) (sym is) (any_pointer_has (pick picks)
      (drop 1 picks))
  any_value_has mem is (Some (type.Struct fields packed)) picks = tt
  any_value_has mem is (Some type.Void) picks = tt
  any_value_has mem is (Some (type.Array n elem)) picks = tt
  any_value_has mem is (Some type.Opaque) picks = tt

  frozen_has : (mem : Memory) → mem.count ≡ count → (ty : Option IrType) (x : Value) (picks : List ℕ) → P x → OnOutcome P (frozen mem ty x picks)
  frozen_has mem is ty x picks has =
      on_if P (is_undef x.datum || is_poison x.datum) (any_value mem ty picks) (Gives x) (λ _. any_value_has mem is ty picks) (λ _. has)

  gep_has : (mem : Memory) (inbounds wrap : Bool) (x : Value) (walk : Walk) → P x → OnOutcome P (gep_result mem inbounds wrap x walk)
  gep_has mem inbounds wrap x walk has =
      on_if P walk.poison (Gives (carried x datum.Poison)) _ (λ _. closed.moved x datum.Poison has tt)
      (λ _. on_with P (displaced mem (way_of inbounds wrap walk) x walk.picks) _ (λ r gives.
      given PickedHas (displaced mem (way_of inbounds wrap walk) x walk.picks) r (displaced_has mem (way_of inbounds wrap walk) x walk.picks has) gives))

  module _ (m : Module) (here : Here) (is : here.state.memory.count ≡ count) (exist : HomesExist here.state.memory) (all : (v : ℕ) →
      IsSomeOf P (here.frame.values v)) where
    pub operand_has : (w : Written) (x : Value) → IsRead m here w x → P x
    operand_has w x (picks, rest, gives) = read_has m here.state.memory here.frame.values exist all w x picks rest gives

    pub operands_have : (ws : List Written) (xs : List Value) → AreRead m here ws xs → AllByRecursion P xs
    operands_have [] [] are = tt
    operands_have [] (x ∷ xs) are = absurd are
    operands_have (w ∷ ws) [] are = absurd are
    operands_have (w ∷ ws) (x ∷ xs) are = (operand_has w x are.0, operands_have ws xs are.1)

    computed_given : (picks : List ℕ) (o : Op) → OnOutcome P (computed m here picks o)
    computed_given picks (op.Bin o flagged a b) =
        on_reading P m here a picks _ (λ x rest _. on_reading P m here b rest _ (λ y rest _.
        int_result_has flagged rest (binary (width_of m a.ty) o x.datum y.datum) (binary_no_ptr (width_of m a.ty) o x.datum y.datum)))
    computed_given picks (op.Icmp pred flagged a b) =
        on_reading P m here a picks _ (λ x rest _. on_reading P m here b rest _ (λ y rest _.
        int_result_has flagged rest (compared (width_of m a.ty) pred x.datum y.datum) (compared_no_ptr (width_of m a.ty) pred x.datum y.datum)))
    computed_given picks (op.Cast o flagged a) =
        on_reading P m here a picks _ (λ x rest _.
        int_result_has flagged rest (converted_datum (width_of m a.ty) (width_of m here.instr.ty) o x.datum)
        (converted_no_ptr (width_of m a.ty) (width_of m here.instr.ty) o x.datum))
    computed_given picks (op.Select c a b) =
        on_reading P m here c picks _ (λ z rest _. on_reading P m here a rest _ (λ x rest at_a. on_reading P m here b rest _ (λ y rest at_b.
        selected_has z.datum x y rest (operand_has a x at_a) (operand_has b y at_b))))
    computed_given picks (op.Freeze a) =
        on_reading P m here a picks _ (λ x rest at. frozen_has here.state.memory is (type_of m a.ty) x rest (operand_has a x at))
    computed_given picks (op.Gep elem base indices inbounds wrap) =
        on_reading P m here base picks _ (λ x rest at. on_with P (walks m here indices _) _ (λ walk _.
        gep_has here.state.memory inbounds wrap x walk (operand_has base x at)))
    computed_given picks (op.LandingPad catch_all clauses) = no_ptr_has datum.Pair tt
    computed_given picks (op.Phi arms) = tt
    computed_given picks (op.Alloca ty n align) = tt
    computed_given picks (op.Load ptr align volatile) = tt
    computed_given picks (op.Store val ptr align volatile) = tt
    computed_given picks (op.Call call) = tt
    computed_given picks (op.Invoke call normal unwind) = tt
    computed_given picks (op.Resume val) = tt
    computed_given picks (op.Ret val) = tt
    computed_given picks (op.Jump to) = tt
    computed_given picks (op.Branch c so otherwise) = tt
    computed_given picks (op.Switch on other cases) = tt
    computed_given picks op.Unreachable = tt

    -- what an instruction computes is P
    pub computed_has : (picks : List ℕ) (o : Op) (x : Value) → computed m here picks o ≡ Gives x → P x
    computed_has picks o x gives = given P (computed m here picks o) x (computed_given picks o) gives

  -- ---- bytes

  pub bytes_from_have : (bytes : ℕ → Byte) → ((at : ℕ) → IsByteOf P (bytes at)) → (at n : ℕ) → AllByRecursion (IsByteOf P) (bytes_from bytes at n)
  bytes_from_have bytes all at zero = tt
  bytes_from_have bytes all at (suc n) = (all at, bytes_from_have bytes all (at + 1) n)

  whole_has : (bytes : List Byte) → AllByRecursion (IsByteOf P) bytes → P (whole_pointer bytes)
  whole_has [] all = no_ptr_has datum.Poison tt
  whole_has (byte.Fragment k x ∷ bytes) all = arm_has (are_fragments x 0 (byte.Fragment k x ∷ bytes)) x (plain datum.Poison) all.0 (no_ptr_has datum.Poison tt)
  whole_has (byte.Number n ∷ bytes) all = no_ptr_has datum.Poison tt
  whole_has (byte.Undef ∷ bytes) all = no_ptr_has datum.Poison tt
  whole_has (byte.Poison ∷ bytes) all = no_ptr_has datum.Poison tt

  loaded_int_has : (width : ℕ) (bytes : List Byte) → P (loaded_int width bytes)
  loaded_int_has width bytes =
      arm_has (list_any is_poison_byte bytes) (plain datum.Poison) _ (no_ptr_has datum.Poison tt)
      (arm_has (list_any is_undef_byte bytes || list_any is_fragment bytes) (plain datum.Undef) (plain (datum.Int (little_endian bytes % (2 ^ width))))
      (no_ptr_has datum.Undef tt) (no_ptr_has (datum.Int (little_endian bytes % (2 ^ width))) tt))

  loaded_ptr_has : (bytes : List Byte) → AllByRecursion (IsByteOf P) bytes → P (loaded_ptr bytes)
  loaded_ptr_has bytes all =
      arm_has (list_any is_poison_byte bytes) (plain datum.Poison) _ (no_ptr_has datum.Poison tt)
      (arm_has (list_any is_undef_byte bytes) (plain datum.Undef) _ (no_ptr_has datum.Undef tt)
      (arm_has (list_all is_zero_byte bytes) (plain datum.Null) (whole_pointer bytes) (no_ptr_has datum.Null tt) (whole_has bytes all)))

  loaded_given : (ty : Option IrType) (bytes : List Byte) → AllByRecursion (IsByteOf P) bytes → OnOutcome P (loaded_as ty bytes)
  loaded_given None bytes all = tt
  loaded_given (Some (type.Int width)) bytes all = loaded_int_has width bytes
  loaded_given (Some type.Ptr) bytes all = loaded_ptr_has bytes all
  loaded_given (Some (type.Struct fields packed)) bytes all = tt
  loaded_given (Some type.Void) bytes all = tt
  loaded_given (Some (type.Array n elem)) bytes all = tt
  loaded_given (Some type.Opaque) bytes all = tt

  -- what a load gives is P
  pub loaded_has : (mem : Memory) → ((b at : ℕ) → IsByteOf P (mem.bytes b at)) → (ty : Option IrType) (place : Place) (x : Value) →
      loaded_as ty (bytes_at mem place) ≡ Gives x → P x
  loaded_has mem all ty place x gives =
      given P (loaded_as ty (bytes_at mem place)) x
      (loaded_given ty (bytes_at mem place) (bytes_from_have (mem.bytes place.block) (all place.block) place.offset place.size)) gives

  pub overlaid_has : (start : ℕ) (new : List Byte) (old : ℕ → Byte) (at : ℕ) → AllByRecursion (IsByteOf P) new → IsByteOf P (old at) →
      IsByteOf P (overlaid start new old at)
  overlaid_has start new old at all is = by (nat_le start at)
    where
      one : (found_at : Option Byte) → slice_get new (at - start) ≡ found_at → IsByteOf P (unwrap_or found_at (old at))
      one None e = is
      one (Some b) e = every_at (IsByteOf P) new (at - start) b all e

      by : (b : Bool) → IsByteOf P (unwrap_or (if b then slice_get new (at - start) else None) (old at))
      by true = one (slice_get new (at - start)) refl
      by false = is

  stored_byte_has : (x : Value) (d : Datum) (k : ℕ) → P x → IsByteOf P (stored_byte x d k)
  stored_byte_has x (datum.Int bits) k has = tt
  stored_byte_has x (datum.Ptr block offset) k has = has
  stored_byte_has x datum.Null k has = tt
  stored_byte_has x datum.Undef k has = tt
  stored_byte_has x datum.Poison k has = tt
  stored_byte_has x datum.Pair k has = tt

  -- what a store leaves in its block is P
  pub stored_has : (mem : Memory) → ((b at : ℕ) → IsByteOf P (mem.bytes b at)) → (place : Place) (x : Value) → P x → (at : ℕ) →
      IsByteOf P (bytes_with mem place x at)
  stored_has mem all place x has at =
      overlaid_has place.offset (stored place.size x) (mem.bytes place.block) at
      (bytes_from_have (stored_byte x x.datum) (λ k. stored_byte_has x x.datum k has) 0 place.size) (all place.block at)

  -- ---- calls

  -- what written attributes make of a value is P
  acted_given : (mem : Memory) (attrs : List ParamAttrs) (x : Value) → P x → OnOutcome P (acted_on mem attrs x)
  acted_given mem attrs x has =
      on_needs P (list_all (λ a. is_dereferenceable mem a.dereferenceable (poisoned mem attrs x).datum) attrs) (Gives (poisoned mem attrs x))
      (λ _. arm_has (becomes_poison mem attrs x.datum) (carried x datum.Poison) x (closed.moved x datum.Poison has tt) has)

  -- the parameters of a body are P if the arguments are
  pub entered_has : (mem : Memory) (params : List Param) (xs : List Value) → AllByRecursion P xs → OnOutcome (AllByRecursion P) (entered mem params xs)
  entered_has mem [] xs all = tt
  entered_has mem (p ∷ params) [] all = tt
  entered_has mem (p ∷ params) (x ∷ xs) all =
      on_with (AllByRecursion P) (acted_on mem (p.attrs ∷ []) x) _ (λ y acted. on_with (AllByRecursion P) (entered mem params xs) _ (λ ys rest. (
        given P (acted_on mem (p.attrs ∷ []) x) y (acted_given mem (p.attrs ∷ []) x all.0) acted,
        given (AllByRecursion P) (entered mem params xs) ys (entered_has mem params xs all.1) rest,
      )))

  -- what comes back to a call is P if what is returned is
  pub came_back_has : (m : Module) (mem : Memory) (body : Option ℕ) (o : Op) (x y : Option Value) → IsSomeOf P x → came_back m mem body o x ≡ Gives y →
      IsSomeOf P y
  came_back_has m mem body o x y has e = given (IsSomeOf P) (came_back m mem body o x) y (by body x has) e
    where
      by : (body : Option ℕ) (x : Option Value) → IsSomeOf P x → OnOutcome (IsSomeOf P) (came_back m mem body o x)
      by None (Some x) has =
          on_with (IsSomeOf P) (acted_on mem (map (λ attrs. attrs.ret) (promising m o)) x) _
          (λ y acted. given P (acted_on mem (map (λ attrs. attrs.ret) (promising m o)) x) y (acted_given mem (map (λ attrs. attrs.ret)
          (promising m o)) x has) acted)
      by None None has = tt
      by (Some f) x has = has

  -- a call's frame has its result as one more value
  pub with_result_has : (result : Option ValueId) (x : Option Value) (values : Values) → IsSomeOf P x → ((v : ℕ) → IsSomeOf P (values v)) → (v : ℕ) →
      IsSomeOf P (with_result result x values v)
  with_result_has None x values has all v = all v
  with_result_has (Some r) None values has all v = all v
  with_result_has (Some r) (Some x) values has all v = put_has (λ n y. IsSomeOf P y) r.0 (Some x) values v has (all v)

  -- the values of a body's frame as it begins are its parameters
  pub bound_has : (params : List Param) (xs : List Value) → AllByRecursion P xs → (v : ℕ) → IsSomeOf P (bound params xs v)
  bound_has [] xs all v = tt
  bound_has (p ∷ params) [] all v = tt
  bound_has (p ∷ params) (x ∷ xs) all v = put_has (λ n y. IsSomeOf P y) p.value.0 (Some x) (bound params xs) v all.0 (bound_has params xs all.1 v)

  -- ---- the outside

  moved_same : (d e : Datum) → is_moved d e ≡ true → IsSameBlock d e
  moved_same (datum.Ptr a at) (datum.Ptr b there) is = eqb-true a b is
  moved_same (datum.Ptr a at) datum.Null is = tt
  moved_same (datum.Ptr a at) datum.Undef is = tt
  moved_same (datum.Ptr a at) datum.Poison is = tt
  moved_same (datum.Ptr a at) (datum.Int bits) is = tt
  moved_same (datum.Ptr a at) datum.Pair is = tt
  moved_same datum.Null e is = null_same e is
    where
      null_same : (e : Datum) → is_same_datum datum.Null e ≡ true → IsSameBlock datum.Null e
      null_same (datum.Ptr b there) is = absurd (cc)
      null_same datum.Null is = tt
      null_same datum.Undef is = tt
      null_same datum.Poison is = tt
      null_same (datum.Int bits) is = tt
      null_same datum.Pair is = tt
  moved_same datum.Undef e is = undef_same e is
    where
      undef_same : (e : Datum) → is_same_datum datum.Undef e ≡ true → IsSameBlock datum.Undef e
      undef_same (datum.Ptr b there) is = absurd (cc)
      undef_same datum.Null is = tt
      undef_same datum.Undef is = tt
      undef_same datum.Poison is = tt
      undef_same (datum.Int bits) is = tt
      undef_same datum.Pair is = tt
  moved_same datum.Poison e is = poison_same e is
    where
      poison_same : (e : Datum) → is_same_datum datum.Poison e ≡ true → IsSameBlock datum.Poison e
      poison_same (datum.Ptr b there) is = absurd (cc)
      poison_same datum.Null is = tt
      poison_same datum.Undef is = tt
      poison_same datum.Poison is = tt
      poison_same (datum.Int bits) is = tt
      poison_same datum.Pair is = tt
  moved_same (datum.Int n) e is = int_same e is
    where
      int_same : (e : Datum) → is_same_datum (datum.Int n) e ≡ true → IsSameBlock (datum.Int n) e
      int_same (datum.Ptr b there) is = absurd (cc)
      int_same datum.Null is = tt
      int_same datum.Undef is = tt
      int_same datum.Poison is = tt
      int_same (datum.Int bits) is = tt
      int_same datum.Pair is = tt
  moved_same datum.Pair e is = pair_same e is
    where
      pair_same : (e : Datum) → is_same_datum datum.Pair e ≡ true → IsSameBlock datum.Pair e
      pair_same (datum.Ptr b there) is = absurd (cc)
      pair_same datum.Null is = tt
      pair_same datum.Undef is = tt
      pair_same datum.Poison is = tt
      pair_same (datum.Int bits) is = tt
      pair_same datum.Pair is = tt

  -- a value without origins, to a block that exists
  possible_has : (mem : Memory) → mem.count ≡ count → (d : Datum) → is_possible mem d ≡ true → P (plain d)
  possible_has mem is (datum.Ptr b o) possible =
      closed.block b o (subst (λ n. b < n) is (ltb-true b mem.count (and_parts (nat_lt b mem.count) (nat_lt o (2 ^ 64)) possible).0))
  possible_has mem is datum.Null possible = no_ptr_has datum.Null tt
  possible_has mem is datum.Undef possible = no_ptr_has datum.Undef tt
  possible_has mem is datum.Poison possible = no_ptr_has datum.Poison tt
  possible_has mem is (datum.Int bits) possible = no_ptr_has (datum.Int bits) tt
  possible_has mem is datum.Pair possible = no_ptr_has datum.Pair tt

  -- a value that the outside can use is P if those that it has are
  pub used_has : (t : State) (frame : OutsideFrame) → t.memory.count ≡ count → AllByRecursion P frame.hand → AllByRecursion P t.kept → (x : Value) →
      can_use t frame x ≡ true → P x
  used_has t frame is hand kept x can =
      let parts = and_parts (is_possible t.memory x.datum) (are_same_marks x.origins [] || list_any (is_from x) (frame.hand ++ t.kept)) can in
      elim (or_cases (are_same_marks x.origins []) (list_any (is_from x) (frame.hand ++ t.kept)) parts.1) [
        | inl none ↦ subst (λ o. P (record { datum = x.datum; origins = o })) (sym (same_marks x.origins [] none)) (possible_has t.memory is x.datum parts.0)
        | inr some ↦ some_passes (P x) P (is_from x) (frame.hand ++ t.kept) (every_append P frame.hand t.kept hand kept) from_one some
      ]
    where
      from_one : (y : Value) → P y → is_from x y ≡ true → P x
      from_one y has from =
          let tests = and_parts (is_moved y.datum x.datum) (are_same_marks y.origins x.origins) from in
          subst (λ o. P (record { datum = x.datum; origins = o })) (same_marks y.origins x.origins tests.1) (closed.moved y x.datum has
          (moved_same y.datum x.datum tests.0))
