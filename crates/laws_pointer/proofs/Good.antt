-- What a word says of a value, told by kinds of fact, and what of it passes on to other values.
use Rattle.std.proofs.Common.{◌≡◌, ℕ, ◌+◌, ◌%◌, ◌^◌, ◌==◌, ◌&&◌, ◌<◌, not, nat_le, Bool, true, false, if◌then◌else◌, List}
use Rattle.std.proofs.Common.{slice_get, Option, None, Some, refl, sym, ap, subst, ◌∙◌, true≢false}
use Rattle.std.specs.Option.{option_map, option_map_or}
use Rattle.std.proofs.Common.{Result, Ok, Err}
use Rattle.std.specs.Int.{◌∣◌}
use Rattle.std.proofs.Math.IntN.{+ℤ_idr}
use Rattle.std.proofs.lemmas.Bool.{and_parts, eqb-true}
use Rattle.std.proofs.lemmas.Nat.Gcd.{dvd_of_mod-eq-zero}
use Rattle.ir_types.specs.declared.refusal.TypeRefusal.{TypeRefusal}
use Rattle.ir_types.specs.TypeTable.{alignment}
use Rattle.ir_ops.specs.Residue.{residue}
use Rattle.attr_ids.specs.declared.ids.TypeId.{TypeId}
use Rattle.ir_types.specs.declared.ir_type.IrType.{IrType}
use Rattle.ir_types.specs.declared.ir_type.IrType.TheVariants as type
use Rattle.ir_module.specs.declared.op.Operand.{Operand}
use Rattle.ir_module.specs.declared.op.Operand.TheVariants as operand
use Rattle.ir_module.specs.declared.op.Symbol.{Symbol}
use Rattle.ir_module.specs.declared.op.Symbol.TheVariants as symbol
use Rattle.ir_module.specs.declared.op.Written.{Written}
use Rattle.ir_module.specs.declared.module.Func.{Func}
use Rattle.ir_module.specs.declared.module.GlobalVar.{GlobalVar}
use Rattle.ir_module.specs.declared.module.Linkage.{Linkage}
use Rattle.ir_module.specs.declared.module.Linkage.TheVariants as linkage
use Rattle.ir_module.specs.declared.module.Module.{Module}
use Rattle.facts.specs.Kinds.{ValueFact, SameAs, NonNull, AlignedTo, HasBytes, NotTo, UsedSo, BlockClass, OwnAlloca, Argument, Global, Unknown, class_bit}
use Rattle.facts.specs.Kinds.{value_fact}
use Rattle.facts.specs.Facts.{Fact, of_value}
use Rattle.facts.specs.Bodies.{is_pointer}
use Rattle.facts.specs.Displacements.{Displacement as Way, constant_displacement, keeps_align, or_else, align_of}
use Rattle.facts.specs.Known.{null_has, undef_has, poison_has, is_weak_extern, global_has, func_has, symbol_has, symbol_bit, table_bit, moved_has, moved_by}
use Rattle.facts.specs.Known.{operand_has, global_align}
use Rattle.facts.specs.Known.{written_has}
use Rattle.ir_machine.specs.declared.choice.Datum.{Datum}
use Rattle.ir_machine.specs.declared.choice.Datum.TheVariants as datum
use Rattle.ir_machine.specs.declared.choice.Value.{Value}
use Rattle.ir_machine.specs.Values.{plain, carried}
use Rattle.ir_machine.specs.Memory.{Memory, Shape, OfSymbol, OfAlloca}
use Rattle.ir_machine.specs.Frames.{Begun}
use Rattle.ir_machine.specs.Moves.{Outcome, Gives, Undefined, Over}
use Rattle.ir_machine.specs.Reading.{type_of, width_in, Values, Picked, picked, read, read_operand, pick, any_int, Displacement, exact_or_poison, led_to}
use Rattle.ir_machine.specs.Reading.{displaced_from, displaced, at_home, symbol_value, or_pair, zero_of, constant_way}
use Rattle.ir_machine.specs.Reading.{laid, align_or}
use Rattle.ir_machine.specs.Runs.{linkage_of, or_one, global_align as aligned, IsGlobalShape, IsShapeOf}
use Rattle.ir_machine.specs.Meanings.{IsNonnull}
use Rattle.ir_machine.specs.Valid.{Scope, AreBlocks, IsLater, IsAmongFirst}
use Rattle.ir_machine.proofs.Basics.{OnOutcome, on_with, on_found, on_fits, on_if, given}
use Rattle.ir_machine.proofs.Instructions.{IsNoPtr}
use Rattle.fact_meanings.specs.Values.{IsOfClass, IsInClasses}
use Rattle.law_premises.specs.Indices.{HasIndices}
use Rattle.laws_pointer.proofs.Placed.{IsPlaced, rung_of, placed_on, placed_start}

-- ---- what a word says

-- what a kind of fact says of a datum, seen from a call: that it is not null, the same as an argument, or an address that is a
-- multiple, where getelementptrs lead as they are typed
abbrev pub Says : Module → Memory → Begun → Option ValueFact → Datum → Type 0
Says m mem call (Some NonNull) d = IsNonnull d
Says m mem call (Some (SameAs i)) d = (x : Value) → slice_get call.args i ≡ Some x → d ≡ x.datum
Says m mem call (Some (AlignedTo bytes)) d = HasIndices m → IsPlaced mem bytes d
Says m mem call (Some (HasBytes count)) d = Unit {0}
Says m mem call (Some (NotTo class)) d = Unit {0}
Says m mem call (Some (UsedSo kind)) d = Unit {0}
Says m mem call None d = Unit {0}

-- a datum is as a word says, seen from a call
pub record IsGood (m : Module) (mem : Memory) (call : Begun) (word : ℕ → Bool) (d : Datum) : Type 0 where
  pub bits : (bit : ℕ) (kind : ValueFact) → word bit ≡ true → value_fact bit ≡ Some kind → Says m mem call (Some kind) d
  pub classes : IsInClasses mem call word d

-- what a kind of fact says of a datum by itself, whatever the arguments are
abbrev pub SaysAlone : Module → Memory → ValueFact → Datum → Type 0
SaysAlone m mem NonNull d = IsNonnull d
SaysAlone m mem (AlignedTo bytes) d = HasIndices m → IsPlaced mem bytes d
SaysAlone m mem (SameAs i) d = Unit {0}
SaysAlone m mem (HasBytes count) d = Unit {0}
SaysAlone m mem (NotTo class) d = Unit {0}
SaysAlone m mem (UsedSo kind) d = Unit {0}

pub alone : (m : Module) (mem : Memory) (call : Begun) (kind : ValueFact) (d : Datum) → Says m mem call (Some kind) d → SaysAlone m mem kind d
alone m mem call NonNull d says = says
alone m mem call (AlignedTo bytes) d says = says
alone m mem call (SameAs i) d says = tt
alone m mem call (HasBytes count) d says = tt
alone m mem call (NotTo class) d says = tt
alone m mem call (UsedSo kind) d says = tt

-- the word of a value
abbrev pub word_of : (Fact → Bool) → ℕ → ℕ → Bool
word_of held v bit = held (of_value v bit)

-- ---- classes

pub class_fact : (c : BlockClass) → value_fact (class_bit c) ≡ Some (NotTo c)
class_fact OwnAlloca = refl
class_fact Argument = refl
class_fact Global = refl
class_fact Unknown = refl

-- a bit that would be absurd is not held
pub off : (b : Bool) → (b ≡ true → ⊥) → b ≡ false
off true none = absurd (none refl)
off false none = refl

-- the block is of a class whose fact is not held
pub in_class : (mem : Memory) (call : Begun) (word : ℕ → Bool) (b : ℕ) (c : BlockClass) → IsOfClass mem call c b → (word (class_bit c) ≡ true → ⊥) →
    (class : BlockClass) × (word (class_bit class) ≡ false) × IsOfClass mem call class b
in_class mem call word b c of none = (c, off (word (class_bit c)) none, of)

-- a word with fewer facts of classes
pub fewer_classes : (mem : Memory) (call : Begun) (word more : ℕ → Bool) (d : Datum) →
    ((c : BlockClass) → word (class_bit c) ≡ true → more (class_bit c) ≡ true) →
    IsInClasses mem call more d → IsInClasses mem call word d
fewer_classes mem call word more d leads is b o e alive =
    let found = is b o e alive in
    in_class mem call word b found.0 found.2 (λ has. true≢false (sym (leads found.0 has) ∙ found.1))

-- what is no pointer is in all classes
pub no_ptr_classes : (mem : Memory) (call : Begun) (word : ℕ → Bool) (d : Datum) → IsNoPtr d → IsInClasses mem call word d
no_ptr_classes mem call word d none b o e alive = absurd (subst IsNoPtr e none)

-- where unknown blocks are left
pub unknown_classes : (mem : Memory) (call : Begun) (word : ℕ → Bool) (d : Datum) → (word (class_bit Unknown) ≡ true → ⊥) → IsInClasses mem call word d
unknown_classes mem call word d none b o e alive = in_class mem call word b Unknown tt none

-- ---- a later memory

pub class_later : (mem later : Memory) → IsLater mem later → (call : Begun) (c : BlockClass) (b : ℕ) → b < mem.count → IsOfClass mem call c b →
    IsOfClass later call c b
class_later mem later is call OwnAlloca b low (value, kind) = (value, subst (λ s. s.kind ≡ OfAlloca call.number value) (sym (is.shape b low)) kind)
class_later mem later is call Argument b low of = of
class_later mem later is call Global b low (s, kind) = (s, subst (λ s'. s'.kind ≡ OfSymbol s) (sym (is.shape b low)) kind)
class_later mem later is call Unknown b low of = tt

pub placed_later : (mem later : Memory) → IsLater mem later → (n : ℕ) (d : Datum) → IsAmongFirst mem.count d → IsPlaced mem n d → IsPlaced later n d
placed_later mem later is n (datum.Ptr b o) low placed =
    subst (λ (s : Shape). (s.base + o) % (2 ^ 64) % n ≡ 0) (sym (is.shape b low)) placed
placed_later mem later is n datum.Null low placed = tt
placed_later mem later is n datum.Undef low placed = absurd placed
placed_later mem later is n datum.Poison low placed = tt
placed_later mem later is n (datum.Int bits) low placed = tt
placed_later mem later is n datum.Pair low placed = tt

pub says_later : (m : Module) (mem later : Memory) → IsLater mem later → (call : Begun) (kind : ValueFact) (d : Datum) → IsAmongFirst mem.count d →
    Says m mem call (Some kind) d → Says m later call (Some kind) d
says_later m mem later is call (SameAs i) d low says = says
says_later m mem later is call NonNull d low says = says
says_later m mem later is call (AlignedTo bytes) d low says = λ indices. placed_later mem later is bytes d low (says indices)
says_later m mem later is call (HasBytes count) d low says = tt
says_later m mem later is call (NotTo class) d low says = tt
says_later m mem later is call (UsedSo kind) d low says = tt

pub alone_later : (m : Module) (mem later : Memory) → IsLater mem later → (kind : ValueFact) (d : Datum) → IsAmongFirst mem.count d →
    SaysAlone m mem kind d → SaysAlone m later kind d
alone_later m mem later is (SameAs i) d low says = tt
alone_later m mem later is NonNull d low says = says
alone_later m mem later is (AlignedTo bytes) d low says = λ indices. placed_later mem later is bytes d low (says indices)
alone_later m mem later is (HasBytes count) d low says = tt
alone_later m mem later is (NotTo class) d low says = tt
alone_later m mem later is (UsedSo kind) d low says = tt

pub good_later : (m : Module) (mem later : Memory) → IsLater mem later → (call : Begun) (word : ℕ → Bool) (d : Datum) → IsAmongFirst mem.count d →
    IsGood m mem call word d → IsGood m later call word d
good_later m mem later is call word d low good = record {
  bits = λ bit kind has e. says_later m mem later is call kind d low (good.bits bit kind has e);
  classes = λ b o e alive.
      let within : b < mem.count = subst (IsAmongFirst mem.count) e low in
      let found = good.classes b o e (λ dead. alive (is.dead b within dead)) in
      (found.0, found.1, class_later mem later is call found.0 b within found.2);
}

-- ---- constants

table_says : (m : Module) (mem : Memory) (call : Begun) (has : ValueFact → Bool) (d : Datum) →
    ((kind : ValueFact) → has kind ≡ true → Says m mem call (Some kind) d) → (bit : ℕ) (kind : ValueFact) →
    table_bit has bit ≡ true → value_fact bit ≡ Some kind → Says m mem call (Some kind) d
table_says m mem call has d each bit kind e is = each kind (subst (λ found. option_map_or has found false ≡ true) is e)

no_ptr_good : (m : Module) (mem : Memory) (call : Begun) (has : ValueFact → Bool) (d : Datum) → IsNoPtr d →
    ((kind : ValueFact) → has kind ≡ true → Says m mem call (Some kind) d) → IsGood m mem call (table_bit has) d
no_ptr_good m mem call has d none each =
    record { bits = table_says m mem call has d each; classes = no_ptr_classes mem call (table_bit has) d none }

-- a word that is empty
none_good : (m : Module) (mem : Memory) (call : Begun) (word : ℕ → Bool) (d : Datum) → IsNoPtr d → ((bit : ℕ) → word bit ≡ false) → IsGood m mem call word d
none_good m mem call word d none empty = record {
  bits = λ bit kind has is. absurd (true≢false (sym has ∙ empty bit));
  classes = no_ptr_classes mem call word d none;
}

null_says : (m : Module) (mem : Memory) (call : Begun) (d : Datum) → ((n : ℕ) → IsPlaced mem n d) → (kind : ValueFact) → null_has kind ≡ true →
    Says m mem call (Some kind) d
null_says m mem call d placed (SameAs i) e = absurd (cc)
null_says m mem call d placed NonNull e = absurd (cc)
null_says m mem call d placed (AlignedTo bytes) e = λ indices. placed bytes
null_says m mem call d placed (HasBytes count) e = tt
null_says m mem call d placed (NotTo class) e = tt
null_says m mem call d placed (UsedSo kind) e = tt

undef_says : (m : Module) (mem : Memory) (call : Begun) (d : Datum) (kind : ValueFact) → undef_has kind ≡ true → Says m mem call (Some kind) d
undef_says m mem call d (SameAs i) e = absurd (cc)
undef_says m mem call d NonNull e = absurd (cc)
undef_says m mem call d (AlignedTo bytes) e = absurd (cc)
undef_says m mem call d (HasBytes count) e = tt
undef_says m mem call d (NotTo class) e = tt
undef_says m mem call d (UsedSo kind) e = tt

poison_says : (m : Module) (mem : Memory) (call : Begun) (d : Datum) → IsNonnull d → ((n : ℕ) → IsPlaced mem n d) → (kind : ValueFact) →
    poison_has kind ≡ true → Says m mem call (Some kind) d
poison_says m mem call d is placed (SameAs i) e = absurd (cc)
poison_says m mem call d is placed NonNull e = is
poison_says m mem call d is placed (AlignedTo bytes) e = λ indices. placed bytes
poison_says m mem call d is placed (HasBytes count) e = tt
poison_says m mem call d is placed (NotTo class) e = tt
poison_says m mem call d is placed (UsedSo kind) e = tt

or_pair_no_ptr : (ty : Option IrType) (d : Datum) → IsNoPtr d → IsNoPtr (or_pair ty d)
or_pair_no_ptr None d is = is
or_pair_no_ptr (Some (type.Int width)) d is = is
or_pair_no_ptr (Some type.Ptr) d is = is
or_pair_no_ptr (Some (type.Struct fields packed)) d is = tt
or_pair_no_ptr (Some type.Void) d is = is
or_pair_no_ptr (Some (type.Array n elem)) d is = is
or_pair_no_ptr (Some type.Opaque) d is = is

or_pair_nonnull : (ty : Option IrType) (d : Datum) → IsNonnull d → IsNonnull (or_pair ty d)
or_pair_nonnull None d is = is
or_pair_nonnull (Some (type.Int width)) d is = is
or_pair_nonnull (Some type.Ptr) d is = is
or_pair_nonnull (Some (type.Struct fields packed)) d is = tt
or_pair_nonnull (Some type.Void) d is = is
or_pair_nonnull (Some (type.Array n elem)) d is = is
or_pair_nonnull (Some type.Opaque) d is = is

or_pair_placed : (mem : Memory) (n : ℕ) (ty : Option IrType) → IsPlaced mem n (or_pair ty datum.Poison)
or_pair_placed mem n None = tt
or_pair_placed mem n (Some (type.Int width)) = tt
or_pair_placed mem n (Some type.Ptr) = tt
or_pair_placed mem n (Some (type.Struct fields packed)) = tt
or_pair_placed mem n (Some type.Void) = tt
or_pair_placed mem n (Some (type.Array count elem)) = tt
or_pair_placed mem n (Some type.Opaque) = tt

zero_placed : (mem : Memory) (ty : Option IrType) → OnOutcome (λ d. (n : ℕ) → IsPlaced mem n d) (zero_of ty)
zero_placed mem None = tt
zero_placed mem (Some (type.Int width)) = λ n. tt
zero_placed mem (Some type.Ptr) = λ n. tt
zero_placed mem (Some (type.Struct fields packed)) = λ n. tt
zero_placed mem (Some type.Void) = tt
zero_placed mem (Some (type.Array n elem)) = tt
zero_placed mem (Some type.Opaque) = tt

zero_no_ptr : (ty : Option IrType) → OnOutcome IsNoPtr (zero_of ty)
zero_no_ptr None = tt
zero_no_ptr (Some (type.Int width)) = tt
zero_no_ptr (Some type.Ptr) = tt
zero_no_ptr (Some (type.Struct fields packed)) = tt
zero_no_ptr (Some type.Void) = tt
zero_no_ptr (Some (type.Array n elem)) = tt
zero_no_ptr (Some type.Opaque) = tt

-- ---- symbols

-- a symbol is null only with the linkage that allows it, and else has a block with a base that it may have
pub record HasHomes (m : Module) (mem : Memory) : Type 0 where
  pub weak : (s : Symbol) (link : Linkage) → linkage_of m s ≡ Some link → mem.home s ≡ None → link ≡ linkage.ExternWeak
  pub shape : (s : Symbol) (b : ℕ) → mem.home s ≡ Some b → IsShapeOf m (mem.shape b) s

strong : (link : Linkage) → link ≡ linkage.ExternWeak → not (is_weak_extern link) ≡ true → ⊥
strong link e is = true≢false (sym is ∙ ap (λ l. not (is_weak_extern l)) e)

home_nonnull : (mem : Memory) (s : Symbol) → (mem.home s ≡ None → ⊥) → IsNonnull (at_home (mem.home s))
home_nonnull mem s some = by (mem.home s) refl
  where
    by : (home : Option ℕ) → mem.home s ≡ home → IsNonnull (at_home home)
    by None e = absurd (some e)
    by (Some b) e = tt

symbol_nonnull : (m : Module) (mem : Memory) → HasHomes m mem → (s : Symbol) → symbol_has m s NonNull ≡ true → IsNonnull (at_home (mem.home s))
symbol_nonnull m mem homes (symbol.Global g) has = home_nonnull mem (symbol.Global g) (λ none. by (slice_get m.globals g.0) refl has none)
  where
    by : (found : Option GlobalVar) → slice_get m.globals g.0 ≡ found → option_map_or (global_has m NonNull) found false ≡ true →
        mem.home (symbol.Global g) ≡ None → ⊥
    by None e has none = absurd (cc)
    by (Some global) e has none =
        strong global.linkage (homes.weak (symbol.Global g) global.linkage (ap (λ f. option_map (λ (v : GlobalVar). v.linkage) f) e) none) has
symbol_nonnull m mem homes (symbol.Func f) has = home_nonnull mem (symbol.Func f) (λ none. by (slice_get m.funcs f.0) refl has none)
  where
    by : (found : Option Func) → slice_get m.funcs f.0 ≡ found → option_map_or (func_has NonNull) found false ≡ true → mem.home (symbol.Func f) ≡ None → ⊥
    by None e has none = absurd (cc)
    by (Some func) e has none =
        strong func.linkage (homes.weak (symbol.Func f) func.linkage (ap (λ f. option_map (λ (v : Func). v.linkage) f) e) none) has

pub symbol_same : (m : Module) (s : Symbol) (i : ℕ) → symbol_has m s (SameAs i) ≡ false
symbol_same m (symbol.Global g) i = by (slice_get m.globals g.0)
  where
    by : (found : Option GlobalVar) → option_map_or (global_has m (SameAs i)) found false ≡ false
    by None = refl
    by (Some global) = refl
symbol_same m (symbol.Func f) i = by (slice_get m.funcs f.0)
  where
    by : (found : Option Func) → option_map_or (func_has (SameAs i)) found false ≡ false
    by None = refl
    by (Some func) = refl

-- a name's address is to a global or a function
pub symbol_is_global : (m : Module) (s : Symbol) → symbol_bit m s (class_bit Global) ≡ false
symbol_is_global m (symbol.Global g) = by (slice_get m.globals g.0)
  where
    by : (found : Option GlobalVar) → option_map_or (global_has m (NotTo Global)) found false ≡ false
    by None = refl
    by (Some global) = refl
symbol_is_global m (symbol.Func f) = by (slice_get m.funcs f.0)
  where
    by : (found : Option Func) → option_map_or (func_has (NotTo Global)) found false ≡ false
    by None = refl
    by (Some func) = refl

-- the alignment of a global is one and the same
same_laid : (r : Result ℕ TypeRefusal) → or_one (laid r) ≡ or_else 1 r
same_laid (Ok n) = refl
same_laid (Err refusal) = refl

pub same_align : (m : Module) (ty : ℕ) (o : Option ℕ) → or_one (align_or m ty o) ≡ option_map_or (λ bytes. bytes) o (align_of m ty)
same_align m ty None = same_laid (alignment m.types ty)
same_align m ty (Some bytes) = refl

symbol_placed : (m : Module) (mem : Memory) → HasHomes m mem → (s : Symbol) (n : ℕ) → n ∣ 2 ^ 64 → symbol_has m s (AlignedTo n) ≡ true →
    IsPlaced mem n (at_home (mem.home s))
symbol_placed m mem homes (symbol.Global g) n whole has = by (slice_get m.globals g.0) refl (mem.home (symbol.Global g)) refl has
  where
    by : (found : Option GlobalVar) → slice_get m.globals g.0 ≡ found → (home : Option ℕ) → mem.home (symbol.Global g) ≡ home →
        option_map_or (global_has m (AlignedTo n)) found false ≡ true → IsPlaced mem n (at_home home)
    by None e home at has = absurd (cc)
    by (Some global) e None at has = tt
    by (Some global) e (Some b) at has =
        let shape : IsGlobalShape m (mem.shape b) (Some global) = subst (IsGlobalShape m (mem.shape b)) e (homes.shape (symbol.Global g) b at) in
        placed_start mem n b (aligned m global) whole
        (subst (λ k. n ∣ k) (sym (same_align m global.ty.0 global.align))
        (dvd_of_mod-eq-zero n {n = global_align m global} (eqb-true (global_align m global % n) 0 has))) shape.1
symbol_placed m mem homes (symbol.Func f) n whole has = by (slice_get m.funcs f.0) has
  where
    by : (found : Option Func) → option_map_or (func_has (AlignedTo n)) found false ≡ true → IsPlaced mem n (at_home (mem.home (symbol.Func f)))
    by None has = absurd (cc)
    by (Some func) has = absurd (cc)

symbol_good : (m : Module) (mem : Memory) (s : Scope) → AreBlocks mem s → HasHomes m mem → (call : Begun) (name : Symbol) →
    IsGood m mem call (symbol_bit m name) (at_home (mem.home name))
symbol_good m mem s blocks homes call name = record {
  bits = λ bit kind e is. says bit kind is (subst (λ found. option_map_or (symbol_has m name) found false ≡ true) is e);
  classes = λ b o e alive.
      in_class mem call (symbol_bit m name) b Global (name, (blocks.homes name b (home_at (mem.home name) b o e)).1)
      (λ has. true≢false (sym has ∙ symbol_is_global m name));
}
  where
    home_at : (home : Option ℕ) (b o : ℕ) → at_home home ≡ datum.Ptr b o → home ≡ Some b
    home_at None b o e = absurd (cc)
    home_at (Some c) b o e = cc

    says : (bit : ℕ) (kind : ValueFact) → value_fact bit ≡ Some kind → symbol_has m name kind ≡ true → Says m mem call (Some kind) (at_home (mem.home name))
    says bit (SameAs i) is has = absurd (true≢false (sym has ∙ symbol_same m name i))
    says bit NonNull is has = symbol_nonnull m mem homes name has
    says bit (AlignedTo bytes) is has = λ indices. symbol_placed m mem homes name bytes (rung_of bit bytes is) has
    says bit (HasBytes count) is has = tt
    says bit (NotTo class) is has = tt
    says bit (UsedSo kind) is has = tt

-- ---- getelementptr

-- the second is to the block of the first, or no pointer; and not null where the first is not
pub record IsLedFrom (d e : Datum) : Type 0 where
  pub block : (b o : ℕ) → e ≡ datum.Ptr b o → (o' : ℕ) × (d ≡ datum.Ptr b o')
  pub nonnull : IsNonnull d → IsNonnull e

pub led_poison : (d : Datum) → IsLedFrom d datum.Poison
led_poison d = record { block = λ b o e. absurd (cc); nonnull = λ is. tt }

led_ptr : (d : Datum) (b o there : ℕ) → d ≡ datum.Ptr b o → IsLedFrom d (datum.Ptr b there)
led_ptr d b o there is = record { block = λ c p e. (o, is ∙ ap (λ n. datum.Ptr n o) (block_of e)); nonnull = λ _. tt }
  where
    block_of : {c p : ℕ} → datum.Ptr b there ≡ datum.Ptr c p → b ≡ c
    block_of e = cc

led_self : (d : Datum) → IsLedFrom d d
led_self d = record { block = λ b o e. (o, e); nonnull = λ is. is }

led_if : (d : Datum) (b : Bool) (e f : Datum) → IsLedFrom d e → IsLedFrom d f → IsLedFrom d (if b then e else f)
led_if d true e f at_e at_f = at_e
led_if d false e f at_e at_f = at_f

pub displaced_led : (mem : Memory) (way : Displacement) (x : Value) (picks : List ℕ) →
    OnOutcome (λ (r : Picked). IsLedFrom x.datum r.value.datum) (displaced mem way x picks)
displaced_led mem way x picks = by x.datum refl
  where
    led : (e : Datum) (within : Bool) → IsLedFrom x.datum e → OnOutcome (λ (r : Picked). IsLedFrom x.datum r.value.datum) (led_to way x e within picks)
    led e within is =
        on_if (λ (r : Picked). IsLedFrom x.datum r.value.datum) (way.inbounds && not within) _ _ (λ _. led_poison x.datum)
        (λ _. on_if (λ (r : Picked). IsLedFrom x.datum r.value.datum) (way.wrap && not (way.forward && within)) (exact_or_poison x e picks)
        (picked (carried x e) picks)
        (λ _. led_if x.datum (pick picks == 0) e datum.Poison is (led_poison x.datum)) (λ _. is))

    by : (d : Datum) → x.datum ≡ d → OnOutcome (λ (r : Picked). IsLedFrom x.datum r.value.datum) (displaced_from mem way x d picks)
    by (datum.Ptr block offset) e =
        led (datum.Ptr block ((offset + way.bytes) % (2 ^ 64))) (nat_le ((offset + way.bytes) % (2 ^ 64)) (mem.shape block).size)
        (led_ptr x.datum block offset ((offset + way.bytes) % (2 ^ 64)) e)
    by datum.Null e = led_if x.datum (way.bytes == 0) datum.Null datum.Poison (subst (λ d. IsLedFrom d datum.Null) (sym e) (led_self datum.Null))
        (led_poison x.datum)
    by datum.Undef e = led_self x.datum
    by datum.Poison e = led_self x.datum
    by (datum.Int bits) e = tt
    by datum.Pair e = tt

-- a divisor of the displacement keeps addresses that are its multiples
pub displaced_placed : (mem : Memory) (way : Displacement) (x : Value) (picks : List ℕ) (n : ℕ) → n ∣ 2 ^ 64 → n ∣ way.bytes → IsPlaced mem n x.datum →
    OnOutcome (λ (r : Picked). IsPlaced mem n r.value.datum) (displaced mem way x picks)
displaced_placed mem way x picks n whole on placed = by x.datum refl placed
  where
    either : (b : Bool) (d e : Datum) → IsPlaced mem n d → IsPlaced mem n e → IsPlaced mem n (if b then d else e)
    either true d e at_d at_e = at_d
    either false d e at_d at_e = at_e

    led : (e : Datum) (within : Bool) → IsPlaced mem n e → OnOutcome (λ (r : Picked). IsPlaced mem n r.value.datum) (led_to way x e within picks)
    led e within is =
        on_if (λ (r : Picked). IsPlaced mem n r.value.datum) (way.inbounds && not within) _ _ (λ _. tt)
        (λ _. on_if (λ (r : Picked). IsPlaced mem n r.value.datum) (way.wrap && not (way.forward && within)) (exact_or_poison x e picks)
        (picked (carried x e) picks)
        (λ _. either (pick picks == 0) e datum.Poison is tt) (λ _. is))

    by : (d : Datum) → x.datum ≡ d → IsPlaced mem n d → OnOutcome (λ (r : Picked). IsPlaced mem n r.value.datum) (displaced_from mem way x d picks)
    by (datum.Ptr block offset) e is =
        led (datum.Ptr block ((offset + way.bytes) % (2 ^ 64))) (nat_le ((offset + way.bytes) % (2 ^ 64)) (mem.shape block).size)
        (placed_on mem n block offset way.bytes whole on is)
    by datum.Null e is = either (way.bytes == 0) datum.Null datum.Poison tt tt
    by datum.Undef e is = absurd is
    by datum.Poison e is = subst (IsPlaced mem n) (sym e) tt
    by (datum.Int bits) e is = tt
    by datum.Pair e is = tt

-- the datum keeps what alignment the displacement leaves
abbrev pub KeepsPlace : Module → Memory → Way → Datum → Datum → Type 0
KeepsPlace m mem way d e = (n : ℕ) → n ∣ 2 ^ 64 → keeps_align way n ≡ true → HasIndices m → IsPlaced mem n d → IsPlaced mem n e

moved_says : (m : Module) (mem : Memory) (call : Begun) (way : Way) (has : ℕ → Bool) (bit : ℕ) (kind : ValueFact) (d e : Datum) → IsLedFrom d e →
    KeepsPlace m mem way d e → value_fact bit ≡ Some kind → (has bit ≡ true → Says m mem call (Some kind) d) → moved_by way has bit (Some kind) ≡ true →
    Says m mem call (Some kind) e
moved_says m mem call way has bit (SameAs i) d e led keeps fact says is = absurd (cc)
moved_says m mem call way has bit NonNull d e led keeps fact says is = led.nonnull (says (and_parts way.inbounds (has bit) is).1)
moved_says m mem call way has bit (AlignedTo bytes) d e led keeps fact says is =
    let parts = and_parts (keeps_align way bytes) (has bit) is in λ indices. keeps bytes (rung_of bit bytes fact) parts.0 indices (says parts.1 indices)
moved_says m mem call way has bit (HasBytes count) d e led keeps fact says is = tt
moved_says m mem call way has bit (NotTo class) d e led keeps fact says is = tt
moved_says m mem call way has bit (UsedSo kind) d e led keeps fact says is = tt

-- what a getelementptr leaves of what is known of its base
pub moved_good : (m : Module) (mem : Memory) (call : Begun) (way : Way) (has : ℕ → Bool) (d e : Datum) → IsLedFrom d e → KeepsPlace m mem way d e →
    IsGood m mem call has d → IsGood m mem call (moved_has way has) e
moved_good m mem call way has d e led keeps good = record {
  bits = λ bit kind is fact. moved_says m mem call way has bit kind d e led keeps fact (λ h. good.bits bit kind h fact)
      (subst (λ found. moved_by way has bit found ≡ true) fact is);
  classes = λ b o points alive.
      let from = led.block b o points in
      let found = good.classes b from.0 from.1 alive in
      (found.0, subst (λ fact. moved_by way has (class_bit found.0) fact ≡ false) (sym (class_fact found.0)) found.1, found.2);
}

-- ---- operands

abbrev pub AreGood : Module → (Fact → Bool) → Memory → Begun → Values → Type 0
AreGood m held mem call values = (v : ℕ) (x : Value) → values v ≡ Some x → IsGood m mem call (word_of held v) x.datum

module _ (m : Module) (held : Fact → Bool) (mem : Memory) (s : Scope) (blocks : AreBlocks mem s) (homes : HasHomes m mem) (call : Begun) (values : Values)
    (good : AreGood m held mem call values) where
  operand_given : (t : TypeId) (o : Operand) (picks : List ℕ) →
      OnOutcome (λ (r : Picked). IsGood m mem call (operand_has m held t o) r.value.datum) (read_operand m mem values (type_of m t) o picks)
  operand_given t (operand.Value v) picks =
      on_found (λ (r : Picked). IsGood m mem call (operand_has m held t (operand.Value v)) r.value.datum) (values v.0) (λ x. picked x picks)
      (λ x is. good v.0 x is)
  operand_given t (operand.Int bits here) picks =
      on_fits (λ (r : Picked). IsGood m mem call (operand_has m held t (operand.Int bits here)) r.value.datum) here _
      (λ _. none_good m mem call (operand_has m held t (operand.Int bits here)) (datum.Int bits) tt (λ bit. refl))
  operand_given t (operand.Truth b) picks = none_good m mem call (operand_has m held t (operand.Truth b)) (datum.Int (if b then 1 else 0)) tt (λ bit. refl)
  operand_given t operand.Zero picks =
      on_with (λ (r : Picked). IsGood m mem call (operand_has m held t operand.Zero) r.value.datum) (zero_of (type_of m t)) (λ d. picked (plain d) picks)
      (λ d is. record {
        bits = λ bit kind has fact.
            table_says m mem call null_has d (null_says m mem call d (given (λ d. (n : ℕ) → IsPlaced mem n d) (zero_of (type_of m t)) d (zero_placed
            mem (type_of m t)) is)) bit kind (and_parts (is_pointer m t) (table_bit null_has bit) has).1 fact;
        classes = no_ptr_classes mem call (operand_has m held t operand.Zero) d (given IsNoPtr (zero_of (type_of m t)) d (zero_no_ptr (type_of m t)) is);
      })
  operand_given t operand.Null picks = no_ptr_good m mem call null_has datum.Null tt (null_says m mem call datum.Null (λ n. tt))
  operand_given t operand.Undef picks =
      no_ptr_good m mem call undef_has (or_pair (type_of m t) datum.Undef) (or_pair_no_ptr (type_of m t) datum.Undef tt)
      (undef_says m mem call (or_pair (type_of m t) datum.Undef))
  operand_given t operand.Poison picks =
      no_ptr_good m mem call poison_has (or_pair (type_of m t) datum.Poison) (or_pair_no_ptr (type_of m t) datum.Poison tt)
      (poison_says m mem call (or_pair (type_of m t) datum.Poison) (or_pair_nonnull (type_of m t) datum.Poison tt)
      (λ n. or_pair_placed mem n (type_of m t)))
  operand_given t (operand.Global g) picks = symbol_good m mem s blocks homes call (symbol.Global g)
  operand_given t (operand.Func f) picks = symbol_good m mem s blocks homes call (symbol.Func f)
  operand_given t (operand.Offset base bytes inbounds wrap) picks =
      by (displaced mem (constant_way (operand.Offset base bytes inbounds wrap)) (symbol_value mem base) picks)
      (displaced_led mem (constant_way (operand.Offset base bytes inbounds wrap)) (symbol_value mem base) picks)
      (λ n whole keeps placed.
      displaced_placed mem (constant_way (operand.Offset base bytes inbounds wrap)) (symbol_value mem base) picks n whole (on n keeps) placed)
    where
      -- the displacement of a constant address
      on : (n : ℕ) → keeps_align (constant_displacement inbounds wrap bytes) n ≡ true → n ∣ residue 64 bytes
      on n keeps =
          let fixed = (constant_displacement inbounds wrap bytes).fixed in
          subst (λ z. n ∣ residue 64 z) (+ℤ_idr bytes) (dvd_of_mod-eq-zero n {n = fixed} (eqb-true (fixed % n) 0 (and_parts (fixed % n == 0) true keeps).0))

      by : (o : Outcome Picked) → OnOutcome (λ (r : Picked). IsLedFrom (at_home (mem.home base)) r.value.datum) o →
          ((n : ℕ) → n ∣ 2 ^ 64 → keeps_align (constant_displacement inbounds wrap bytes) n ≡ true → IsPlaced mem n (at_home (mem.home base)) →
          OnOutcome (λ (r : Picked). IsPlaced mem n r.value.datum) o) →
          OnOutcome (λ (r : Picked). IsGood m mem call (operand_has m held t (operand.Offset base bytes inbounds wrap)) r.value.datum) o
      by (Gives r) led placed =
          moved_good m mem call (constant_displacement inbounds wrap bytes) (symbol_bit m base) (at_home (mem.home base)) r.value.datum led
          (λ n whole keeps indices at. placed n whole keeps at)
          (symbol_good m mem s blocks homes call base)
      by Undefined led placed = tt
      by Over led placed = tt
  operand_given t (operand.WrongOffset rule) picks = tt
  operand_given t (operand.Parts shape first n) picks = tt
  operand_given t (operand.AnyInt first n) picks =
      none_good m mem call (operand_has m held t (operand.AnyInt first n)) (any_int (width_in (type_of m t)) picks) tt (λ bit. refl)

  -- an operand that was read is as its word says
  pub read_good : (w : Written) (x : Value) (picks rest : List ℕ) → read m mem values w picks ≡ Gives (record { value = x; picks = rest }) →
      IsGood m mem call (written_has m held w) x.datum
  read_good w x picks rest gives =
      given (λ (r : Picked). IsGood m mem call (written_has m held w) r.value.datum) (read m mem values w picks) (record { value = x; picks = rest })
      (operand_given w.ty w.val picks) gives
