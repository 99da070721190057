-- Constants are as their table says, in a memory in which globals and functions have their blocks and these are live.
use Rattle.std.proofs.Common.{arith, ◌≡◌, ◌⊎◌, inl, inr, ◌+◌, ◌-◌, ◌%◌, ◌^◌, ◌<◌, ◌≤◌, ◌==◌, ◌&&◌}
use Rattle.std.proofs.Common.{◌||◌, not, nat_le, nat_lt, int_le, pos, ℕ, zero, suc, ℤ, Bool, true, false}
use Rattle.std.proofs.Common.{if◌then◌else◌, List, drop, slice_get, slice_index, Option, None, Some, Ok}
use Rattle.std.proofs.Common.{Err, Result, is_some, refl, sym, ap, subst, ◌∙◌, true≢false}
use Rattle.std.specs.Int.{◌∣◌}
use Rattle.std.specs.List.{list_all}
use Rattle.std.specs.Option.{option_map_or, option_map}
use Rattle.std.proofs.Math.IntN.{+ℤ_idr}
use Rattle.std.proofs.Math.Nat.{dvd-add, dvd-mod_iff, mod-eq_of_lt}
use Rattle.std.proofs.lemmas.Nat.Gcd.{dvd_of_mod-eq-zero, mod-eq-zero_of_dvd, dvd_trans}
use Rattle.std.proofs.lemmas.Bool.{and_parts, leb-true, le-leb, ltb-true, eqb-true}
use Rattle.std.proofs.lemmas.List.Quantifiers.{position-Some}
use Rattle.lattice_words.specs.Ladders.{align_rungs, byte_rungs, is_align_bit, is_byte_bit, lowest_byte_rung}
use Rattle.lattice_words.specs.declared.value.TheConstants as value
use Rattle.attr_ids.specs.declared.ids.TypeId.{TypeId}
use Rattle.attr_ids.specs.declared.ids.GlobalId.{GlobalId}
use Rattle.attr_ids.specs.declared.ids.FuncId.{FuncId}
use Rattle.ir_types.specs.declared.ir_type.IrType.{IrType}
use Rattle.ir_types.specs.declared.ir_type.IrType.TheVariants as type
use Rattle.ir_types.specs.declared.refusal.TypeRefusal.{TypeRefusal}
use Rattle.ir_types.specs.TypeTable.{size, alignment}
use Rattle.ir_ops.specs.Residue.{residue}
use Rattle.ir_module.specs.declared.op.Operand.{Operand}
use Rattle.ir_module.specs.declared.op.Operand.TheVariants as operand
use Rattle.ir_module.specs.declared.op.Symbol.{Symbol}
use Rattle.ir_module.specs.declared.op.Symbol.TheVariants as symbol
use Rattle.ir_module.specs.declared.module.Linkage.{Linkage}
use Rattle.ir_module.specs.declared.module.Linkage.TheVariants as linkage
use Rattle.ir_module.specs.declared.module.GlobalVar.{GlobalVar}
use Rattle.ir_module.specs.declared.module.Func.{Func}
use Rattle.ir_module.specs.declared.module.Module.{Module}
use Rattle.facts.specs.Kinds.{ValueFact, SameAs, NonNull, AlignedTo, HasBytes as Bytes, NotTo}
use Rattle.facts.specs.Kinds.{UsedSo, OwnAlloca, Argument, Global, Unknown, CapturedByReturnAlone}
use Rattle.facts.specs.Kinds.{NotReturned, NotThrough, Read as Reads, Write as Writes, value_fact, class_fact, use_fact}
use Rattle.facts.specs.Bodies.{is_ptr, is_pointer}
use Rattle.facts.specs.Facts.{Fact}
use Rattle.facts.specs.Displacements.{Displacement, constant_displacement, keeps_align, is_exact, or_else, size_of, align_of}
use Rattle.facts.specs.Known.{null_has, undef_has, poison_has, is_weak_extern, global_align, global_has}
use Rattle.facts.specs.Known.{func_has, symbol_has, has_rung, moved_by, moved_has, symbol_bit}
use Rattle.facts.specs.Known.{table_bit, operand_has}
use Rattle.facts.proofs.Bits.{bytes_fact}
use Rattle.ir_machine.specs.declared.choice.Datum.{Datum}
use Rattle.ir_machine.specs.declared.choice.Datum.TheVariants as datum
use Rattle.ir_machine.specs.declared.choice.Value.{Value}
use Rattle.ir_machine.specs.Values.{plain, carried}
use Rattle.ir_machine.specs.Memory.{Memory}
use Rattle.ir_machine.specs.Frames.{Begun}
use Rattle.ir_machine.specs.Moves.{Gives}
use Rattle.ir_machine.specs.Reading.{Values, at_home, symbol_value, Picked, picked, pick, exact_or_poison, led_to, displaced_from, displaced, constant_way}
use Rattle.ir_machine.specs.Reading.{Displacement as Way, laid, align_or, read_operand}
use Rattle.ir_machine.specs.Runs.{linkage_of, HasHome, or_one, global_align as aligned, IsGlobalSize, IsGlobalShape}
use Rattle.ir_machine.specs.Meanings.{IsNonnull, IsAligned, HasBytes}
use Rattle.fact_meanings.specs.Values.{SaysOfValue}
use Rattle.laws_blocks.specs.Blocks.{HaveBlocks, AreLive, is_constant}

-- ---- numbers

-- the rungs of alignment divide 2 ^ 64
abbrev Divides : Option ValueFact → Type 0
Divides (Some (AlignedTo bytes)) = bytes ∣ 2 ^ 64
Divides _ = Unit {0}

divides_if : (test : Bool) (so otherwise : Option ValueFact) → (test ≡ true → Divides so) → Divides otherwise → Divides (if test then so else otherwise)
divides_if true so otherwise first second = first refl
divides_if false so otherwise first second = second

rung_divides : (k : ℕ) → k < 6 → slice_index align_rungs k ∣ 2 ^ 64
rung_divides zero within = dvd_of_mod-eq-zero 2 refl
rung_divides (suc zero) within = dvd_of_mod-eq-zero 4 refl
rung_divides (suc (suc zero)) within = dvd_of_mod-eq-zero 8 refl
rung_divides (suc (suc (suc zero))) within = dvd_of_mod-eq-zero 16 refl
rung_divides (suc (suc (suc (suc zero)))) within = dvd_of_mod-eq-zero 32 refl
rung_divides (suc (suc (suc (suc (suc zero))))) within = dvd_of_mod-eq-zero 64 refl
rung_divides (suc (suc (suc (suc (suc (suc n)))))) within = absurd (omega arith)

use_divides : (bit : ℕ) → Divides (use_fact bit)
use_divides bit =
    divides_if (bit == value.CAPTURED_BY_RETURN_ALONE) (Some (UsedSo CapturedByReturnAlone)) _ (λ _. tt)
    (divides_if (bit == value.NOT_RETURNED) (Some (UsedSo NotReturned)) _ (λ _. tt)
    (divides_if (bit == value.NOT_READ_THROUGH) (Some (UsedSo (NotThrough Reads))) _ (λ _. tt)
    (divides_if (bit == value.NOT_WRITTEN_THROUGH) (Some (UsedSo (NotThrough Writes))) None (λ _. tt) tt)))

class_divides : (bit : ℕ) → Divides (class_fact bit)
class_divides bit =
    divides_if (bit == value.NOT_OWN_ALLOCA) (Some (NotTo OwnAlloca)) _ (λ _. tt)
    (divides_if (bit == value.NOT_ARGUMENT) (Some (NotTo Argument)) _ (λ _. tt)
    (divides_if (bit == value.NOT_GLOBAL) (Some (NotTo Global)) _ (λ _. tt)
    (divides_if (bit == value.NOT_UNKNOWN) (Some (NotTo Unknown)) (use_fact bit) (λ _. tt) (use_divides bit))))

fact_divides : (bit : ℕ) → Divides (value_fact bit)
fact_divides bit =
    divides_if (nat_lt bit value.SAME_AS_PARAMETERS) (Some (SameAs bit)) _ (λ _. tt)
    (divides_if (bit == value.NONNULL) (Some NonNull) _ (λ _. tt)
    (divides_if (is_align_bit bit) (Some (AlignedTo (slice_index align_rungs (bit - value.ALIGN_2)))) _ (λ on. rung_divides (bit - value.ALIGN_2) (below on))
    (divides_if (is_byte_bit bit) (Some (Bytes (slice_index byte_rungs (bit - value.BYTES_1)))) (class_fact bit) (λ _. tt) (class_divides bit))))
  where
    below : is_align_bit bit ≡ true → bit - value.ALIGN_2 < 6
    below on =
        let parts = and_parts (nat_le value.ALIGN_2 bit) (nat_le bit value.ALIGN_64) on in
        let high : bit ≤ value.ALIGN_64 = leb-true bit value.ALIGN_64 parts.1 in omega (arith, high)

-- an address below 2 ^ 64 is what it is
small : (n : ℕ) → n < 2 ^ 64 → n % (2 ^ 64) ≡ n
small n low = mod-eq_of_lt {n = n} {m = 2 ^ 64} low

-- the lowest rung of at least so many bytes
rung_is : (n k : ℕ) → lowest_byte_rung n ≡ Some k → (k < 16) × (n ≤ slice_index byte_rungs k)
unfolding lowest_byte_rung
rung_is n k e = let found = position-Some (nat_le n) byte_rungs k 0 e in (found.0, leb-true n (slice_index byte_rungs k) found.1)

-- what is picked is what is given
picked_is : (x y : Value) (picks rest : List ℕ) → picked x picks ≡ Gives (record { value = y; picks = rest }) → x ≡ y
picked_is x y picks rest e = ap (λ (r : Picked). r.value) (same_gives e)
  where
    same_gives : {a b : Picked} → Gives a ≡ Gives b → a ≡ b
    same_gives e = cc

-- ---- tables

module _ (mem : Memory) (call : Begun) where
  table_says : (has : ValueFact → Bool) (d : Datum) → ((kind : ValueFact) → has kind ≡ true → SaysOfValue mem call (Some kind) d) → (o : Option ValueFact) →
      option_map_or has o false ≡ true → SaysOfValue mem call o d
  table_says has d says None is = absurd (true≢false (sym is))
  table_says has d says (Some kind) is = says kind is

  null_says : (kind : ValueFact) → null_has kind ≡ true → SaysOfValue mem call (Some kind) datum.Null
  null_says (AlignedTo bytes) is = tt
  null_says (NotTo class) is = tt
  null_says (SameAs i) is = absurd (true≢false (sym is))
  null_says NonNull is = absurd (true≢false (sym is))
  null_says (Bytes count) is = absurd (true≢false (sym is))
  null_says (UsedSo kind) is = absurd (true≢false (sym is))

  undef_says : (kind : ValueFact) → undef_has kind ≡ true → SaysOfValue mem call (Some kind) datum.Undef
  undef_says (NotTo class) is = tt
  undef_says (AlignedTo bytes) is = absurd (true≢false (sym is))
  undef_says (SameAs i) is = absurd (true≢false (sym is))
  undef_says NonNull is = absurd (true≢false (sym is))
  undef_says (Bytes count) is = absurd (true≢false (sym is))
  undef_says (UsedSo kind) is = absurd (true≢false (sym is))

  poison_says : (kind : ValueFact) → poison_has kind ≡ true → SaysOfValue mem call (Some kind) datum.Poison
  poison_says NonNull is = tt
  poison_says (AlignedTo bytes) is = tt
  poison_says (NotTo class) is = tt
  poison_says (SameAs i) is = absurd (true≢false (sym is))
  poison_says (Bytes count) is = absurd (true≢false (sym is))
  poison_says (UsedSo kind) is = absurd (true≢false (sym is))

-- ---- globals and functions

not_weak : (link : Linkage) → not (is_weak_extern link) ≡ true → link ≡ linkage.ExternWeak → ⊥
not_weak link strong is = true≢false (sym strong ∙ ap (λ l. not (is_weak_extern l)) is)

-- the alignment of a global is one and the same
same_laid : (r : Result ℕ TypeRefusal) → or_one (laid r) ≡ or_else 1 r
same_laid (Ok n) = refl
same_laid (Err refusal) = refl

module _ (m : Module) where
  same_align : (gv : GlobalVar) → aligned m gv ≡ global_align m gv
  same_align gv = by gv.align
    where
      by : (o : Option ℕ) → or_one (align_or m gv.ty.0 o) ≡ option_map_or (λ bytes. bytes) o (align_of m gv.ty.0)
      by None = same_laid (alignment m.types gv.ty.0)
      by (Some bytes) = refl

  big_enough : (r : Result ℕ TypeRefusal) (has_init : Bool) (count bytes : ℕ) → IsGlobalSize (laid r) has_init bytes → nat_le count (or_else 0 r) ≡ true →
      0 + count ≤ bytes
  big_enough (Ok n) true count bytes is le = let most : count ≤ n = leb-true count n le in omega (arith, most, is)
  big_enough (Ok n) false count bytes is le = let most : count ≤ n = leb-true count n le in omega (arith, most, is)
  big_enough (Err refusal) has_init count bytes is le = let most : count ≤ 0 = leb-true count 0 le in omega (arith, most)

  module _ (mem : Memory) (have : HaveBlocks m mem) (live : AreLive mem) (call : Begun) where
    -- a name that is not weak has a block
    has_home : (s : Symbol) (link : Linkage) → linkage_of m s ≡ Some link → not (is_weak_extern link) ≡ true → mem.home s ≡ None → ⊥
    has_home s link is strong none = not_weak link strong (subst (HasHome mem s link) none (have.homes s link is))

    nonnull_at : (s : Symbol) (link : Linkage) → linkage_of m s ≡ Some link → not (is_weak_extern link) ≡ true → (o : Option ℕ) → mem.home s ≡ o →
        IsNonnull (at_home o)
    nonnull_at s link is strong None home = absurd (has_home s link is strong home)
    nonnull_at s link is strong (Some b) home = tt

    module _ (g : GlobalId) (gv : GlobalVar) (is : slice_get m.globals g.0 ≡ Some gv) where
      abbrev s : Symbol
      s = symbol.Global g

      its_link : linkage_of m s ≡ Some gv.linkage
      its_link = ap (λ o. option_map (λ (v : GlobalVar). v.linkage) o) is

      its_shape : (b : ℕ) → mem.home s ≡ Some b → IsGlobalShape m (mem.shape b) (Some gv)
      its_shape b home = subst (IsGlobalShape m (mem.shape b)) is (have.blocks s b home).shape

      aligned_at : (bytes : ℕ) → (global_align m gv % bytes == 0) ≡ true → (o : Option ℕ) → mem.home s ≡ o → IsAligned mem bytes (at_home o)
      aligned_at bytes divides None home = tt
      aligned_at bytes divides (Some b) home =
          let block = have.blocks s b home in
          let base = (mem.shape b).base in
          let low : base + 0 < 2 ^ 64 = omega (arith, block.high) in
          let whole : aligned m gv ∣ base = dvd_of_mod-eq-zero (aligned m gv) (its_shape b home).1 in
          let part : bytes ∣ aligned m gv =
          subst (λ n. bytes ∣ n) (sym (same_align gv)) (dvd_of_mod-eq-zero bytes (eqb-true (global_align m gv % bytes) 0 divides)) in
          let same : base + 0 ≡ base = omega arith in
          ap (λ n. n % bytes) (small (base + 0) low ∙ same) ∙ mod-eq-zero_of_dvd bytes (dvd_trans bytes part whole)

      bytes_at : (count : ℕ) → not (is_weak_extern gv.linkage) ≡ true → nat_le count (size_of m gv.ty.0) ≡ true → (o : Option ℕ) → mem.home s ≡ o →
          HasBytes mem count (at_home o)
      bytes_at count strong le None home = absurd (has_home s gv.linkage its_link strong home)
      bytes_at count strong le (Some b) home =
          (live s b home, big_enough (size m.types gv.ty.0) (is_some gv.init) count (mem.shape b).size (its_shape b home).0 le)

      global_says : (kind : ValueFact) → global_has m kind gv ≡ true → SaysOfValue mem call (Some kind) (at_home (mem.home s))
      global_says NonNull has = nonnull_at s gv.linkage its_link has (mem.home s) refl
      global_says (AlignedTo bytes) has = aligned_at bytes has (mem.home s) refl
      global_says (Bytes count) has =
          let parts = and_parts (not (is_weak_extern gv.linkage)) (nat_le count (size_of m gv.ty.0)) has in bytes_at count parts.0 parts.1 (mem.home s) refl
      global_says (NotTo class) has = tt
      global_says (SameAs i) has = absurd (true≢false (sym has))
      global_says (UsedSo kind) has = absurd (true≢false (sym has))

    func_says : (f : FuncId) (func : Func) → slice_get m.funcs f.0 ≡ Some func → (kind : ValueFact) → func_has kind func ≡ true →
        SaysOfValue mem call (Some kind) (at_home (mem.home (symbol.Func f)))
    func_says f func is NonNull has =
        nonnull_at (symbol.Func f) func.linkage (ap (λ o. option_map (λ (v : Func). v.linkage) o) is) has (mem.home (symbol.Func f)) refl
    func_says f func is (NotTo class) has = tt
    func_says f func is (AlignedTo bytes) has = absurd (true≢false (sym has))
    func_says f func is (Bytes count) has = absurd (true≢false (sym has))
    func_says f func is (SameAs i) has = absurd (true≢false (sym has))
    func_says f func is (UsedSo kind) has = absurd (true≢false (sym has))

    symbol_kind : (s : Symbol) (kind : ValueFact) → symbol_has m s kind ≡ true → SaysOfValue mem call (Some kind) (at_home (mem.home s))
    symbol_kind (symbol.Global g) kind has = by (slice_get m.globals g.0) refl has
      where
        by : (o : Option GlobalVar) → slice_get m.globals g.0 ≡ o → option_map_or (global_has m kind) o false ≡ true →
            SaysOfValue mem call (Some kind) (at_home (mem.home (symbol.Global g)))
        by None is has = absurd (true≢false (sym has))
        by (Some gv) is has = global_says g gv is kind has
    symbol_kind (symbol.Func f) kind has = by (slice_get m.funcs f.0) refl has
      where
        by : (o : Option Func) → slice_get m.funcs f.0 ≡ o → option_map_or (func_has kind) o false ≡ true →
            SaysOfValue mem call (Some kind) (at_home (mem.home (symbol.Func f)))
        by None is has = absurd (true≢false (sym has))
        by (Some func) is has = func_says f func is kind has

    pub symbol_says : (s : Symbol) (bit : ℕ) → symbol_bit m s bit ≡ true → SaysOfValue mem call (value_fact bit) (at_home (mem.home s))
    symbol_says s bit has = table_says mem call (symbol_has m s) (at_home (mem.home s)) (symbol_kind s) (value_fact bit) has

    -- ---- addresses

    -- what a getelementptr leads to, or poison
    led_is : (way : Way) (x : Value) (d : Datum) (within : Bool) (picks rest : List ℕ) (y : Value) →
        led_to way x d within picks ≡ Gives (record { value = y; picks = rest }) → (y.datum ≡ d) ⊎ (y.datum ≡ datum.Poison)
    led_is way x d within picks rest y is = by (way.inbounds && not within) (way.wrap && not (way.forward && within)) (pick picks == 0) is
      where
        by : (out unsure exact : Bool) → (if out then picked (carried x datum.Poison) picks
            else (if unsure then picked (carried x (if exact then d else datum.Poison)) (drop 1 picks) else picked (carried x d) picks)) ≡
            Gives (record { value = y; picks = rest }) → (y.datum ≡ d) ⊎ (y.datum ≡ datum.Poison)
        by true unsure exact e = inr (sym (ap (λ (v : Value). v.datum) (picked_is (carried x datum.Poison) y picks rest e)))
        by false true true e = inl (sym (ap (λ (v : Value). v.datum) (picked_is (carried x d) y (drop 1 picks) rest e)))
        by false true false e = inr (sym (ap (λ (v : Value). v.datum) (picked_is (carried x datum.Poison) y (drop 1 picks) rest e)))
        by false false exact e = inl (sym (ap (λ (v : Value). v.datum) (picked_is (carried x d) y picks rest e)))

    -- where it is exact, it is no poison
    led_exact : (way : Way) (x : Value) (d : Datum) (within : Bool) (picks rest : List ℕ) (y : Value) → within ≡ true → (not way.wrap || way.forward) ≡ true →
        led_to way x d within picks ≡ Gives (record { value = y; picks = rest }) → y.datum ≡ d
    led_exact way x d within picks rest y inside plain_way is = by way.inbounds way.wrap way.forward within inside plain_way is
      where
        by : (inbounds wrap forward within : Bool) → within ≡ true → (not wrap || forward) ≡ true →
            (if inbounds && not within then picked (carried x datum.Poison) picks
            else (if wrap && not (forward && within) then exact_or_poison x d picks else picked (carried x d) picks)) ≡
            Gives (record { value = y; picks = rest }) → y.datum ≡ d
        by true true true true inside plain_way e = sym (ap (λ (v : Value). v.datum) (picked_is (carried x d) y picks rest e))
        by true false forward true inside plain_way e = sym (ap (λ (v : Value). v.datum) (picked_is (carried x d) y picks rest e))
        by false true true true inside plain_way e = sym (ap (λ (v : Value). v.datum) (picked_is (carried x d) y picks rest e))
        by false false forward true inside plain_way e = sym (ap (λ (v : Value). v.datum) (picked_is (carried x d) y picks rest e))
        by inbounds true false true inside plain_way e = absurd (true≢false (sym plain_way))
        by inbounds wrap forward false inside plain_way e = absurd (true≢false (sym inside))

    module _ (base : Symbol) (bytes : ℤ) (inbounds wrap : Bool) (picks rest : List ℕ) (y : Value)
        (leads : displaced mem (constant_way (operand.Offset base bytes inbounds wrap)) (symbol_value mem base) picks ≡
        Gives (record { value = y; picks = rest })) where
      abbrev way : Way
      way = constant_way (operand.Offset base bytes inbounds wrap)

      abbrev d : Displacement
      d = constant_displacement inbounds wrap bytes

      abbrev here : Value
      here = symbol_value mem base

      same_bytes : d.fixed ≡ way.bytes
      same_bytes = ap (residue 64) (+ℤ_idr bytes)

      abbrev there : ℕ
      there = (0 + way.bytes) % (2 ^ 64)

      -- from null it is null or poison, from a block a place in it or poison
      from_null : (o : Option ℕ) → mem.home base ≡ o → o ≡ None → (y.datum ≡ datum.Null) ⊎ (y.datum ≡ datum.Poison)
      from_null o home none = by (way.bytes == 0) at_null
        where
          at_null : displaced_from mem way here datum.Null picks ≡ Gives (record { value = y; picks = rest })
          at_null = subst (λ h. displaced_from mem way here (at_home h) picks ≡ Gives (record { value = y; picks = rest })) (home ∙ none) leads

          by : (b : Bool) → picked (carried here (if b then datum.Null else datum.Poison)) picks ≡ Gives (record { value = y; picks = rest }) →
              (y.datum ≡ datum.Null) ⊎ (y.datum ≡ datum.Poison)
          by true e = inl (sym (ap (λ (v : Value). v.datum) (picked_is (carried here datum.Null) y picks rest e)))
          by false e = inr (sym (ap (λ (v : Value). v.datum) (picked_is (carried here datum.Poison) y picks rest e)))

      at_block : (b : ℕ) → mem.home base ≡ Some b →
          led_to way here (datum.Ptr b there) (nat_le there (mem.shape b).size) picks ≡ Gives (record { value = y; picks = rest })
      at_block b home = subst (λ h. displaced_from mem way here (at_home h) picks ≡ Gives (record { value = y; picks = rest })) home leads

      from_block : (b : ℕ) → mem.home base ≡ Some b → (y.datum ≡ datum.Ptr b there) ⊎ (y.datum ≡ datum.Poison)
      from_block b home = led_is way here (datum.Ptr b there) (nat_le there (mem.shape b).size) picks rest y (at_block b home)

      nonnull_there : (o : Option ℕ) → mem.home base ≡ o → IsNonnull (at_home o) → IsNonnull y.datum
      nonnull_there None home is = absurd is
      nonnull_there (Some b) home is = elim (from_block b home) [
        | inl e ↦ subst IsNonnull (sym e) tt
        | inr e ↦ subst IsNonnull (sym e) tt
      ]

      aligned_there : (n : ℕ) → n ∣ 2 ^ 64 → (d.fixed % n == 0) ≡ true → (o : Option ℕ) → mem.home base ≡ o → IsAligned mem n (at_home o) → IsAligned
          mem n y.datum
      aligned_there n whole fixed None home is = elim (from_null None home refl) [
        | inl e ↦ subst (IsAligned mem n) (sym e) tt
        | inr e ↦ subst (IsAligned mem n) (sym e) tt
      ]
      aligned_there n whole fixed (Some b) home is = elim (from_block b home) [
        | inl e ↦ subst (IsAligned mem n) (sym e) aligned_ptr
        | inr e ↦ subst (IsAligned mem n) (sym e) tt
      ]
        where
          start : ℕ
          start = (mem.shape b).base

          aligned_ptr : ((mem.shape b).base + there) % (2 ^ 64) % n ≡ 0
          aligned_ptr =
              let first : n ∣ ((mem.shape b).base + 0) = (dvd-mod_iff n {m = (mem.shape b).base + 0} {n = 2 ^ 64} whole).0
              (dvd_of_mod-eq-zero n {n = ((mem.shape b).base + 0) % (2 ^ 64)} is) in
              let plus : (mem.shape b).base + 0 ≡ (mem.shape b).base = omega arith in
              let step : n ∣ d.fixed = dvd_of_mod-eq-zero n {n = d.fixed} (eqb-true (d.fixed % n) 0 fixed) in
              let zero_plus : d.fixed ≡ 0 + way.bytes = same_bytes ∙ (let e : way.bytes ≡ 0 + way.bytes = omega arith in e) in
              let second : n ∣ there = (dvd-mod_iff n {m = 0 + way.bytes} {n = 2 ^ 64} whole).1 (subst (λ k. n ∣ k) zero_plus step) in
              let both : n ∣ ((mem.shape b).base + there) =
              dvd-add n {b = (mem.shape b).base} {c = there} (subst (λ k. n ∣ k) plus first) second in
              mod-eq-zero_of_dvd n {n = ((mem.shape b).base + there) % (2 ^ 64)}
              ((dvd-mod_iff n {m = (mem.shape b).base + there} {n = 2 ^ 64} whole).1 both)

      bytes_there : (count rung : ℕ) → is_exact d ≡ true → count + d.fixed ≤ rung → (o : Option ℕ) → mem.home base ≡ o → HasBytes mem rung (at_home o) →
          HasBytes mem count y.datum
      bytes_there count rung exact enough None home is = absurd is
      bytes_there count rung exact enough (Some b) home is =
          let parts = and_parts (nat_lt d.fixed (2 ^ 63)) (not wrap || (int_le (pos 0) bytes && true)) exact in
          let low : d.fixed < 2 ^ 63 = ltb-true d.fixed (2 ^ 63) parts.0 in
          let same : d.fixed ≡ way.bytes = same_bytes in
          let at : there ≡ way.bytes = small (0 + way.bytes) (omega (arith, low, same)) ∙ (let e : 0 + way.bytes ≡ way.bytes = omega arith in e) in
          let most : 0 + rung ≤ (mem.shape b).size = is.1 in
          let inside : there ≤ (mem.shape b).size = omega (arith, at, same, enough, most) in
          let e = led_exact way here (datum.Ptr b there) (nat_le there (mem.shape b).size) picks rest y (le-leb there (mem.shape b).size inside)
          (forward_so wrap (int_le (pos 0) bytes) parts.1) (at_block b home)
          in
          let fits : there + count ≤ (mem.shape b).size = omega (arith, at, same, enough, most) in
          subst (HasBytes mem count) (sym e) (is.0, fits)
        where
          forward_so : (wrap forward : Bool) → (not wrap || (forward && true)) ≡ true → (not wrap || forward) ≡ true
          forward_so true true is = refl
          forward_so true false is = is
          forward_so false forward is = refl

      -- what is left of what is known of the name
      offset_by : (bit : ℕ) (o : Option ValueFact) → value_fact bit ≡ o → moved_by d (symbol_bit m base) bit o ≡ true → SaysOfValue mem call o y.datum
      offset_by bit None is has = absurd (true≢false (sym has))
      offset_by bit (Some NonNull) is has =
          let known = (and_parts inbounds (symbol_bit m base bit) has).1 in
          nonnull_there (mem.home base) refl (subst (λ o. SaysOfValue mem call o (at_home (mem.home base))) is (symbol_says base bit known))
      offset_by bit (Some (AlignedTo n)) is has =
          let parts = and_parts (keeps_align d n) (symbol_bit m base bit) has in
          aligned_there n (subst Divides is (fact_divides bit)) (and_parts (d.fixed % n == 0) (list_all (λ factor. factor % n == 0) d.factors) parts.0).0
          (mem.home base) refl (subst (λ o. SaysOfValue mem call o (at_home (mem.home base))) is (symbol_says base bit parts.1))
      offset_by bit (Some (Bytes count)) is has =
          let parts = and_parts (is_exact d) (has_rung (symbol_bit m base) (lowest_byte_rung (count + d.fixed))) has in
          by_rung (lowest_byte_rung (count + d.fixed)) refl parts.0 parts.1
        where
          by_rung : (r : Option ℕ) → lowest_byte_rung (count + d.fixed) ≡ r → is_exact d ≡ true → has_rung (symbol_bit m base) r ≡ true →
              HasBytes mem count y.datum
          by_rung None at exact known = absurd (true≢false (sym known))
          by_rung (Some rung) at exact known =
              let lowest = rung_is (count + d.fixed) rung at in
              bytes_there count (slice_index byte_rungs rung) exact lowest.1 (mem.home base) refl
              (subst (λ o. SaysOfValue mem call o (at_home (mem.home base))) (bytes_fact rung lowest.0) (symbol_says base (value.BYTES_1 + rung) known))
      offset_by bit (Some (NotTo class)) is has = tt
      offset_by bit (Some (SameAs i)) is has = absurd (true≢false (sym has))
      offset_by bit (Some (UsedSo kind)) is has = absurd (true≢false (sym has))

      pub offset_says : (bit : ℕ) → moved_has d (symbol_bit m base) bit ≡ true → SaysOfValue mem call (value_fact bit) y.datum
      offset_says bit has = offset_by bit (value_fact bit) refl has

    -- ---- operands

    is_ptr_type : (o : Option IrType) → is_ptr o ≡ true → o ≡ Some type.Ptr
    is_ptr_type (Some type.Ptr) is = refl
    is_ptr_type (Some type.Void) is = cc
    is_ptr_type (Some (type.Int width)) is = cc
    is_ptr_type (Some (type.Array count elem)) is = cc
    is_ptr_type (Some (type.Struct fields packed)) is = cc
    is_ptr_type (Some type.Opaque) is = cc
    is_ptr_type None is = cc

    -- what a pointer constant is read as is as its table says
    pub constant_says : (held : Fact → Bool) (ty : TypeId) (o : Operand) (values : Values) (picks rest : List ℕ) (y : Value) → is_constant o ≡ true →
        is_pointer m ty ≡ true → read_operand m mem values (slice_get m.types ty.0) o picks ≡ Gives (record { value = y; picks = rest }) → (bit : ℕ) →
        operand_has m held ty o bit ≡ true → SaysOfValue mem call (value_fact bit) y.datum
    constant_says held ty o values picks rest y constant pointer is bit has =
        by o constant (subst (λ t. read_operand m mem values t o picks ≡ Gives (record {
          value =
              y;
          picks = rest;
        })) (is_ptr_type (slice_get m.types ty.0) pointer) is)
        has
      where
        plain_is : (d' : Datum) → picked (plain d') picks ≡ Gives (record { value = y; picks = rest }) → SaysOfValue mem call (value_fact bit) d' →
            SaysOfValue mem call (value_fact bit) y.datum
        plain_is d' e says = subst (λ (v : Value). SaysOfValue mem call (value_fact bit) v.datum) (picked_is (plain d') y picks rest e) says

        by : (o : Operand) → is_constant o ≡ true → read_operand m mem values (Some type.Ptr) o picks ≡ Gives (record { value = y; picks = rest }) →
            operand_has m held ty o bit ≡ true → SaysOfValue mem call (value_fact bit) y.datum
        by (operand.Value v) constant is has = absurd (true≢false (sym constant))
        by (operand.Int bits fits) constant is has = absurd (true≢false (sym has))
        by (operand.Truth t) constant is has = absurd (true≢false (sym has))
        by operand.Zero constant is has =
            plain_is datum.Null is (table_says mem call null_has datum.Null (null_says mem call) (value_fact bit)
            (and_parts (is_pointer m ty) (table_bit null_has bit) has).1)
        by operand.Null constant is has = plain_is datum.Null is (table_says mem call null_has datum.Null (null_says mem call) (value_fact bit) has)
        by operand.Undef constant is has = plain_is datum.Undef is (table_says mem call undef_has datum.Undef (undef_says mem call) (value_fact bit) has)
        by operand.Poison constant is has = plain_is datum.Poison is (table_says mem call poison_has datum.Poison (poison_says mem call) (value_fact bit) has)
        by (operand.Global g) constant is has = plain_is (at_home (mem.home (symbol.Global g))) is (symbol_says (symbol.Global g) bit has)
        by (operand.Func f) constant is has = plain_is (at_home (mem.home (symbol.Func f))) is (symbol_says (symbol.Func f) bit has)
        by (operand.Offset base bytes inbounds wrap) constant is has = offset_says base bytes inbounds wrap picks rest y is bit has
        by (operand.WrongOffset rule) constant is has = absurd (true≢false (sym has))
        by (operand.Parts shape first count) constant is has = absurd (true≢false (sym has))
        by (operand.AnyInt first count) constant is has = absurd (true≢false (sym has))
