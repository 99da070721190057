-- How far the indices of a getelementptr lead in a run: by the literal parts that are written, and by multiples of the other factors.
use Rattle.std.proofs.Common.{◌≡◌, ◌%◌, ◌==◌, pos, ℕ, ℤ, Bool, true, false, List, [], ◌∷◌}
use Rattle.std.proofs.Common.{slice_get, Option, None, Some, is_some, Result, Ok, Err, refl, sym, ap, subst, ◌∙◌, true≢false}
use Rattle.std.specs.Prelude.{◌+ℤ◌, ◌*ℤ◌, unsigned_abs}
use Rattle.std.specs.Int.{◌∣◌}
use Rattle.std.specs.List.{list_all}
use Rattle.std.specs.Option.{option_map_or}
use Rattle.std.proofs.Math.IntN.{+ℤ_idr, +ℤ_assoc, +ℤ_comm}
use Rattle.std.proofs.lemmas.Nat.Gcd.{dvd_of_mod-eq-zero}
use Rattle.std.proofs.lemmas.Bool.{and_parts, eqb-true}
use Rattle.std.proofs.lemmas.Option.{none-some, same_Some}
use Rattle.attr_ids.specs.declared.ids.TypeId.{TypeId}
use Rattle.ir_types.specs.declared.ir_type.IrType.{IrType}
use Rattle.ir_types.specs.declared.ir_type.IrType.TheVariants as type
use Rattle.ir_types.specs.declared.refusal.TypeRefusal.{TypeRefusal}
use Rattle.ir_types.specs.TypeTable.{size, field_start}
use Rattle.ir_ops.specs.Residue.{signed}
use Rattle.ir_module.specs.declared.op.Operand.{Operand}
use Rattle.ir_module.specs.declared.op.Operand.TheVariants as operand
use Rattle.ir_module.specs.declared.op.Written.{Written}
use Rattle.ir_module.specs.declared.module.Module.{Module}
use Rattle.ir_module.specs.Operands.{is_int, literal_in, literal}
use Rattle.facts.specs.Displacements.{Step, Fixed, Scaled, or_else, size_of, field_of, width_in, index_of, step_over, field_type, step_into}
use Rattle.facts.specs.Displacements.{type_into, steps_into, steps, fixed_part, factors}
use Rattle.ir_machine.specs.declared.choice.Datum.TheVariants as datum
use Rattle.ir_machine.specs.declared.choice.Value.{Value}
use Rattle.ir_machine.specs.Memory.{Memory}
use Rattle.ir_machine.specs.Moves.{Outcome, Gives, with, found}
use Rattle.ir_machine.specs.Reading.{Values, Picked, Here, type_of, width_of, width_in as machine_width, laid, read, read_operand}
use Rattle.ir_machine.specs.Compute.{Index, index_of as indexed, Stride, elements, field, into, Walk, walked, walks_in, walks}
use Rattle.ir_machine.proofs.Basics.{OnOutcome, on_with, given, outcome_mapped}
use Rattle.ir_machine.proofs.Instructions.{IsRead, on_reading}
use Rattle.law_premises.specs.Indices.{IsIndex, IsIndexInto, AreIndicesInto, AreIndices}
use Rattle.laws_pointer.proofs.Placed.{dvd_sum, dvd_times}

-- ---- literals

-- a literal is read as its number
literal_given : (m : Module) (mem : Memory) (values : Values) (ty : Option IrType) (o : Operand) (bits : ℕ) (picks : List ℕ) → literal_in ty o ≡ Some bits →
    OnOutcome (λ (r : Picked). r.value.datum ≡ datum.Int bits) (read_operand m mem values ty o picks)
literal_given m mem values ty (operand.Int n true) bits picks is = ap (λ k. datum.Int k) (same_Some n bits is)
literal_given m mem values ty (operand.Int n false) bits picks is = absurd (none-some bits is)
literal_given m mem values ty (operand.Truth true) bits picks is = ap (λ k. datum.Int k) (same_Some 1 bits is)
literal_given m mem values ty (operand.Truth false) bits picks is = ap (λ k. datum.Int k) (same_Some 0 bits is)
literal_given m mem values (Some (type.Int width)) operand.Zero bits picks is = ap (λ k. datum.Int k) (same_Some 0 bits is)
literal_given m mem values (Some type.Void) operand.Zero bits picks is = absurd (none-some bits is)
literal_given m mem values (Some type.Ptr) operand.Zero bits picks is = absurd (none-some bits is)
literal_given m mem values (Some (type.Array n elem)) operand.Zero bits picks is = absurd (none-some bits is)
literal_given m mem values (Some (type.Struct fields packed)) operand.Zero bits picks is = absurd (none-some bits is)
literal_given m mem values (Some type.Opaque) operand.Zero bits picks is = absurd (none-some bits is)
literal_given m mem values None operand.Zero bits picks is = absurd (none-some bits is)
literal_given m mem values ty (operand.Value v) bits picks is = absurd (none-some bits is)
literal_given m mem values ty operand.Null bits picks is = absurd (none-some bits is)
literal_given m mem values ty operand.Undef bits picks is = absurd (none-some bits is)
literal_given m mem values ty operand.Poison bits picks is = absurd (none-some bits is)
literal_given m mem values ty (operand.Global g) bits picks is = absurd (none-some bits is)
literal_given m mem values ty (operand.Func f) bits picks is = absurd (none-some bits is)
literal_given m mem values ty (operand.Offset base n inbounds wrap) bits picks is = absurd (none-some bits is)
literal_given m mem values ty (operand.WrongOffset rule) bits picks is = absurd (none-some bits is)
literal_given m mem values ty (operand.Parts shape first count) bits picks is = absurd (none-some bits is)
literal_given m mem values ty (operand.AnyInt first count) bits picks is = absurd (none-some bits is)

-- the width of an integer type is one and the same
same_width : (ty : Option IrType) → is_int ty ≡ true → machine_width ty ≡ width_in ty
same_width (Some (type.Int width)) is = refl
same_width (Some type.Void) is = absurd (true≢false (sym is))
same_width (Some type.Ptr) is = absurd (true≢false (sym is))
same_width (Some (type.Array n elem)) is = absurd (true≢false (sym is))
same_width (Some (type.Struct fields packed)) is = absurd (true≢false (sym is))
same_width (Some type.Opaque) is = absurd (true≢false (sym is))
same_width None is = absurd (true≢false (sym is))

-- what an index adds in a run is what its step says
abbrev IsOf : Step → ℤ → Type 0
IsOf (Fixed index bytes) z = z ≡ bytes
IsOf (Scaled factor) z = (k : ℤ) × (z ≡ k *ℤ pos factor)

module _ (m : Module) (here : Here) where
  -- the index is this number where it is a literal
  abbrev IsNumber : Written → ℕ → Type 0
  IsNumber w bits = (b : ℕ) → literal m w ≡ Some b → bits ≡ b

  -- one index more adds what its step says, and leads to this type
  record IsStepped (walk : Walk) (s : Step) (ty : ℕ) (next : Walk) : Type 0 where
    by : ℤ
    bytes : next.bytes ≡ walk.bytes +ℤ by
    is : IsOf s by
    leads : next.ty ≡ ty

  index_is : (w : Written) (x : Value) (width : ℕ) (picks : List ℕ) (i : Index) → IsRead m here w x → indexed width x.datum picks ≡ Gives i → IsNumber w i.bits
  index_is w x width picks i (first, rest, reads) is b lit =
      let at : x.datum ≡ datum.Int b =
      given (λ (r : Picked). r.value.datum ≡ datum.Int b) (read m here.state.memory here.frame.values w first) (record { value = x; picks = rest })
      (literal_given m here.state.memory here.frame.values (type_of m w.ty) w.val b first lit) reads
      in
      sym (bits_of (subst (λ d. indexed width d picks ≡ Gives i) at is))
    where
      bits_of : indexed width (datum.Int b) picks ≡ Gives i → b ≡ i.bits
      bits_of e = ap (λ (i : Index). i.bits) (same_gives e)
        where
          same_gives : {a c : Index} → Gives a ≡ Gives c → a ≡ c
          same_gives e = cc

  stepped : (stride : ℕ → ℕ → Outcome Stride) (w : Written) (walk : Walk) (s : Step) (ty : ℕ) →
      ((bits : ℕ) → IsNumber w bits → OnOutcome (λ (st : Stride). IsOf s st.bytes × (st.ty ≡ ty)) (stride (width_of m w.ty) bits)) →
      OnOutcome (IsStepped walk s ty) (walked m here stride w walk)
  stepped stride w walk s ty leads =
      on_reading (IsStepped walk s ty) m here w walk.picks _ (λ x picks at.
      on_with (IsStepped walk s ty) (indexed (width_of m w.ty) x.datum picks) _ (λ i is.
      on_with (IsStepped walk s ty) (stride (width_of m w.ty) i.bits) _ (λ st gives.
      let found = given (λ (st : Stride). IsOf s st.bytes × (st.ty ≡ ty)) (stride (width_of m w.ty) i.bits) st
      (leads i.bits (index_is w x (width_of m w.ty) picks i at is)) gives in
      record { by = st.bytes; bytes = refl; is = found.0; leads = found.1 })))

  -- ---- one index

  over_is : (factor : ℕ) (w : Written) (bits : ℕ) → IsIndex m w → IsNumber w bits → IsOf (step_over m factor w) (signed (width_of m w.ty) bits *ℤ pos factor)
  over_is factor w bits integer number = by (literal m w) refl
    where
      by : (found : Option ℕ) → literal m w ≡ found →
          IsOf (option_map_or (λ b. Fixed (index_of m w b) (index_of m w b *ℤ pos factor)) found (Scaled factor)) (signed (width_of m w.ty) bits *ℤ pos factor)
      by None is = (signed (width_of m w.ty) bits, refl)
      by (Some b) is =
          ap (λ k. k *ℤ pos factor)
          (ap (signed (width_of m w.ty)) (number b is) ∙ ap (λ width. signed width b) (same_width (slice_get m.types w.ty.0) integer))

  elements_is : (t : ℕ) (w : Written) (bits : ℕ) → IsIndex m w → IsNumber w bits →
      OnOutcome (λ (st : Stride). IsOf (step_over m (size_of m t) w) st.bytes × (st.ty ≡ t)) (elements m t (signed (width_of m w.ty) bits))
  elements_is t w bits integer number = by (size m.types t) refl
    where
      by : (r : Result ℕ TypeRefusal) → size m.types t ≡ r →
          OnOutcome (λ (st : Stride). IsOf (step_over m (size_of m t) w) st.bytes × (st.ty ≡ t))
          (with (laid r) (λ bytes. Gives (record { number = signed (width_of m w.ty) bits; bytes = signed (width_of m w.ty) bits *ℤ pos bytes; ty = t })))
      by (Ok bytes) is = (
        subst (λ k. IsOf (step_over m (size_of m t) w) (signed (width_of m w.ty) bits *ℤ pos k)) (ap (or_else 0) is) (over_is (size_of m t) w bits
            integer number),
        refl,
      )
      by (Err refusal) is = tt

  field_is : (t : ℕ) (fields : List TypeId) (packed : Bool) (w : Written) (bits : ℕ) → is_some (literal m w) ≡ true → IsNumber w bits →
      OnOutcome (λ (st : Stride). IsOf (step_into m t (Some (type.Struct fields packed)) w) st.bytes ×
      (st.ty ≡ type_into m (Some (type.Struct fields packed)) w)) (field m t fields bits)
  field_is t fields packed w bits some number = by (literal m w) refl some
    where
      by : (found : Option ℕ) → literal m w ≡ found → is_some found ≡ true →
          OnOutcome (λ (st : Stride). (st.bytes ≡ pos (field_of m t (option_map_or (λ b. b) found 0))) ×
          (st.ty ≡ field_type (option_map_or (λ b. b) found 0) (Some (type.Struct fields packed)))) (field m t fields bits)
      by None is none = absurd (true≢false (sym none))
      by (Some b) is _ =
          subst (λ k. OnOutcome (λ (st : Stride). (st.bytes ≡ pos (field_of m t b)) × (st.ty ≡ field_type b (Some (type.Struct fields packed))))
          (field m t fields k)) (sym (number b is)) (at (field_start m.types t b) refl (slice_get fields b) refl)
        where
          at : (r : Result ℕ TypeRefusal) → field_start m.types t b ≡ r → (part : Option TypeId) → slice_get fields b ≡ part →
              OnOutcome (λ (st : Stride). (st.bytes ≡ pos (field_of m t b)) × (st.ty ≡ field_type b (Some (type.Struct fields packed))))
              (with (laid r) (λ start. with (found part) (λ p. Gives (record { number = pos b; bytes = pos start; ty = p.0 }))))
          at (Ok start) starts (Some part) has = (
            ap (λ r. pos (or_else 0 r)) (sym starts),
            ap (λ o. option_map_or (λ (t : TypeId). t.0) o 0) (sym has),
          )
          at (Ok start) starts None has = tt
          at (Err refusal) starts part has = tt

  into_is : (t : ℕ) (o : Option IrType) (w : Written) (bits : ℕ) → IsIndexInto m o w → IsNumber w bits →
      OnOutcome (λ (st : Stride). IsOf (step_into m t o w) st.bytes × (st.ty ≡ type_into m o w)) (into m t (width_of m w.ty) bits o)
  into_is t (Some (type.Array count elem)) w bits index number = elements_is elem.0 w bits index number
  into_is t (Some (type.Struct fields packed)) w bits index number = field_is t fields packed w bits index.1 number
  into_is t (Some type.Void) w bits index number = tt
  into_is t (Some type.Ptr) w bits index number = tt
  into_is t (Some (type.Int width)) w bits index number = tt
  into_is t (Some type.Opaque) w bits index number = tt
  into_is t None w bits index number = tt

  -- ---- all indices

  module _ (n : ℕ) where
    -- a divisor of the factors divides the bytes of the walk, where it divides those so far with all literal parts
    abbrev pub Keeps : ℤ → List Step → Walk → Type 0
    Keeps from taken walk =
        list_all (λ factor. factor % n == 0) (factors taken) ≡ true → n ∣ unsigned_abs (from +ℤ fixed_part taken) → n ∣ unsigned_abs walk.bytes

    one_more : (walk next last : Walk) (s : Step) (ty : ℕ) (rest : List Step) → IsStepped walk s ty next → Keeps next.bytes rest last →
        Keeps walk.bytes (s ∷ rest) last
    one_more walk next last (Fixed index bytes) ty rest st keeps parts divides =
        keeps parts (subst (λ z. n ∣ unsigned_abs z)
        (sym (+ℤ_assoc walk.bytes bytes (fixed_part rest)) ∙ ap (λ z. z +ℤ fixed_part rest) (ap (λ z. walk.bytes +ℤ z) (sym st.is) ∙ sym st.bytes)) divides)
    one_more walk next last (Scaled factor) ty rest st keeps parts divides =
        let two = and_parts (factor % n == 0) (list_all (λ factor. factor % n == 0) (factors rest)) parts in
        let part : n ∣ unsigned_abs st.by =
        subst (λ z. n ∣ unsigned_abs z) (sym st.is.1) (dvd_times n st.is.0 factor (dvd_of_mod-eq-zero n {n = factor} (eqb-true (factor % n) 0 two.0))) in
        keeps two.1 (subst (λ z. n ∣ unsigned_abs z) moved' (dvd_sum n (walk.bytes +ℤ fixed_part rest) st.by divides part))
      where
        moved' : (walk.bytes +ℤ fixed_part rest) +ℤ st.by ≡ next.bytes +ℤ fixed_part rest
        moved' =
            +ℤ_assoc walk.bytes (fixed_part rest) st.by ∙ (ap (λ z. walk.bytes +ℤ z) (+ℤ_comm (fixed_part rest) st.by) ∙
            (sym (+ℤ_assoc walk.bytes st.by (fixed_part rest)) ∙ ap (λ z. z +ℤ fixed_part rest) (sym st.bytes)))

    in_keeps : (ws : List Written) (walk : Walk) (t : ℕ) → walk.ty ≡ t → AreIndicesInto m t ws →
        OnOutcome (Keeps walk.bytes (steps_into m t ws)) (walks_in m here ws walk)
    in_keeps [] walk t same are = λ parts divides. subst (λ z. n ∣ unsigned_abs z) (+ℤ_idr walk.bytes) divides
    in_keeps (w ∷ ws) walk t same are =
        on_with (Keeps walk.bytes (steps_into m t (w ∷ ws)))
        (walked m here (λ width bits. into m walk.ty width bits (slice_get m.types walk.ty)) w walk) _
        (λ next gives.
        let st = given (IsStepped walk (step_into m t (slice_get m.types t) w) (type_into m (slice_get m.types t) w))
        (walked m here (λ width bits. into m walk.ty width bits (slice_get m.types walk.ty)) w walk) next
        (subst (λ u. OnOutcome (IsStepped walk (step_into m t (slice_get m.types t) w) (type_into m (slice_get m.types t) w))
        (walked m here (λ width bits. into m u width bits (slice_get m.types u)) w walk)) (sym same)
        (stepped (λ width bits. into m t width bits (slice_get m.types t)) w walk (step_into m t (slice_get m.types t) w)
        (type_into m (slice_get m.types t) w) (λ bits number. into_is t (slice_get m.types t) w bits are.0 number))) gives in
        outcome_mapped (Keeps next.bytes (steps_into m (type_into m (slice_get m.types t) w) ws)) (Keeps walk.bytes (steps_into m t (w ∷ ws)))
        (walks_in m here ws next)
        (λ last keeps. one_more walk next last (step_into m t (slice_get m.types t) w) (type_into m (slice_get m.types t) w)
        (steps_into m (type_into m (slice_get m.types t) w) ws) st keeps)
        (in_keeps ws next (type_into m (slice_get m.types t) w) st.leads are.1))

    -- what the indices of a getelementptr add
    pub walks_keep : (ws : List Written) (walk : Walk) (t : ℕ) → walk.ty ≡ t → AreIndices m t ws →
        OnOutcome (Keeps walk.bytes (steps m t ws)) (walks m here ws walk)
    walks_keep [] walk t same are = λ parts divides. subst (λ z. n ∣ unsigned_abs z) (+ℤ_idr walk.bytes) divides
    walks_keep (w ∷ ws) walk t same are =
        on_with (Keeps walk.bytes (steps m t (w ∷ ws)))
        (walked m here (λ width bits. elements m walk.ty (signed width bits)) w walk) _
        (λ next gives.
        let st = given (IsStepped walk (step_over m (size_of m t) w) t)
        (walked m here (λ width bits. elements m walk.ty (signed width bits)) w walk) next
        (subst (λ u. OnOutcome (IsStepped walk (step_over m (size_of m t) w) t)
        (walked m here (λ width bits. elements m u (signed width bits)) w walk)) (sym same)
        (stepped (λ width bits. elements m t (signed width bits)) w walk (step_over m (size_of m t) w) t
        (λ bits number. elements_is t w bits are.0 number))) gives in
        outcome_mapped (Keeps next.bytes (steps_into m t ws)) (Keeps walk.bytes (steps m t (w ∷ ws))) (walks_in m here ws next)
        (λ last keeps. one_more walk next last (step_over m (size_of m t) w) t (steps_into m t ws) st keeps)
        (in_keeps ws next t st.leads are.1))
