-- A module from its lists, and the answer of the whole call.
use Rattle.std.proofs.Common.{◌≡◌, ℕ, ◌+◌, ◌<◌, List, [], ◌∷◌, ◌++◌, length, map, Some, None, refl, sym, ap, subst, ◌∙◌, arith}
use Rattle.std.specs.Prelude.{Option, suc, slice_index, Result, Ok, Err, IfOk}
use Rattle.ir_token.specs.declared.token.Token.{Token}
use Rattle.ir_tree.specs.declared.entities.Entity.{Entity}
use Rattle.ir_tree.specs.declared.entities.Tree.{Tree}
use Rattle.attr_ids.specs.declared.insertion.Span.{Span}
use Rattle.ir_type_equality.specs.Numbers.{AreCanonical}
use Rattle.ir_module.specs.declared.module.Module.{Module}
use Rattle.ir_module.specs.WellFormed.{HasFew}
use Rattle.ir_scopes.specs.declared.faults.Cause.TheVariants as cause
use Rattle.ir_scopes.specs.declared.faults.NameFault.{NameFault}
use Rattle.ir_scopes.specs.Faults.{first_in}
use Rattle.ir_scopes.proofs.Entering.{first_in-append}
use Rattle.ir_scopes.proofs.Least.{none_first}
use Rattle.ir_type_names.specs.Reading as type_names
use Rattle.ir_type_names.specs.Numbers.{Table, table_of, empty_table, with_parts, named_count}
use Rattle.ir_type_uses.specs.Written.{written}
use Rattle.ir_type_names.proofs.Taking.{all_grow}
use Rattle.ir_resolve.specs.declared.refusal.NameRefusal.{NameRefusal}
use Rattle.ir_resolve.specs.declared.refusal.NameRefusal.TheVariants as refusal
use Rattle.ir_resolve.specs.declared.state.Resolving.{Resolving}
use Rattle.std.specs.Prelude.{Bool}
use Rattle.std.specs.Option.{unwrap_or}
use Rattle.ir_tree.specs.declared.types.Ty.{Ty}
use Rattle.ir_types.specs.declared.ir_type.IrType.{IrType}
use Rattle.ir_attrs.specs.Functions.{group_in}
use Rattle.ir_scopes.specs.declared.top.Space.TheVariants.{Symbols, Types, Groups}
use Rattle.ir_scopes.specs.declared.slot.Entry.{Entry}
use Rattle.ir_scopes.specs.Scopes.{repeats}
use Rattle.ir_scopes.specs.Slots.{top_slots}
use Rattle.ir_names.specs.Ids.{name_ids}
use Rattle.ir_resolve.proofs.Putting.{noted}
use Rattle.ir_type_names.specs.Reading.{named, number_in}
use Rattle.ir_type_names.specs.Numbers.{type_id}
use Rattle.ir_consts.specs.There.{IsTableOf}
use Rattle.ir_consts.proofs.There.{there}
use Rattle.ir_resolve.proofs.Naming.{bounded}
use Rattle.ir_resolve.specs.Inputs.{Setting, Names, start, names, named_in, setting_in, table_in, types_in, types, type_reading, is_void_entry}
use Rattle.ir_resolve.specs.Entities.{nothing, each_entity, behind_all, globals_at, funcs_at, blocks_at, segs_at, values_at, entity_faults}
use Rattle.ir_resolve.specs.Modules.{numbers_from, module_with, module_of, inner_faults, faults_of, top_faults, input, Resolved, IsFirstFault, fault, span_at}
use Rattle.ir_resolve.specs.Modules.{offset_at, places_of}
use Rattle.ir_type_names.specs.Places.{ArePlaces, type_at}
use Rattle.ir_type_names.specs.Unknown.{unknown_types}
use Rattle.ir_resolve.specs.Building.{before, found, AddsAll, IsBuilt}
use Rattle.ir_resolve.specs.Answers.{Tells, TellsBySome}

-- ---- lists

-- a list of what a function gives, number by number
listed_from : (f : ℕ → ℕ) (k : ℕ) (xs : List ℕ) → ((n : ℕ) → n < length xs → slice_index xs n ≡ f (k + n)) → xs ≡ map f (numbers_from k (length xs))
listed_from f k [] h = refl
listed_from f k (x ∷ xs) h =
    let here : x ≡ f k = h 0 (omega arith) ∙ ap f (omega arith) in
    let rest = listed_from f (k + 1) xs (λ n l. h (suc n) (omega (arith, l)) ∙ ap f (omega arith)) in
    λ i. here i ∷ rest i

pub listed : (f : ℕ → ℕ) (count : ℕ) (xs : List ℕ) → length xs ≡ count → ((n : ℕ) → n < count → slice_index xs n ≡ f n) → xs ≡ map f (numbers_from 0 count)
listed f count xs long h = subst (λ n. xs ≡ map f (numbers_from 0 n)) long
    (listed_from f 0 xs (λ n l. h n (omega (arith, l, long)) ∙ ap f (omega arith)))

-- what was put in behind nothing
pub built_all : (x : Setting) (es : List Entity) (first : Option NameFault) (old new : Resolving) → AddsAll x es old new → before old ≡ nothing →
    old.globals.items ≡ [] → old.funcs.items ≡ [] → old.builder.blocks.items ≡ [] → old.builder.cutter.segs.items ≡ [] → old.values.items ≡ [] →
    found old ≡ first → IsBuilt x es first new
built_all x es first old new adds empty globals funcs blocks segs values is =
    record {
      globals = adds.globals ∙ (λ i. globals i ++ each_entity x (globals_at x) (empty i) es);
      funcs = adds.funcs ∙ (λ i. funcs i ++ each_entity x (funcs_at x) (empty i) es);
      blocks = adds.blocks ∙ (λ i. blocks i ++ each_entity x (blocks_at x) (empty i) es);
      segs = adds.segs ∙ (λ i. segs i ++ each_entity x (segs_at x) (empty i) es);
      values = adds.values ∙ (λ i. values i ++ each_entity x (values_at x) (empty i) es);
      parts = ap (λ b. b.laid) adds.behind ∙ (λ i. (behind_all x (empty i) es).laid);
      found = adds.found ∙ (λ i. first_in (is i) (each_entity x (entity_faults x) (empty i) es));
    }

-- ---- the table of types

-- a table is read as it was begun
pub names_kept : (r : type_names.Reading) (es : List Entity) → (table_of r es).names ≡ r
names_kept r es = ap (λ t. t.names) (all_grow (empty_table r es) (with_parts (written es))).1

pub first_kept : (r : type_names.Reading) (es : List Entity) → (table_of r es).first ≡ 2 + named_count es
first_kept r es = ap (λ t. t.first) (all_grow (empty_table r es) (with_parts (written es))).1

-- ---- the answer

-- an answer by some canonical numbers
pub by_some : (n : Names) (first : Option NameFault) (result : Result Module NameRefusal) (numbers : List ℕ) → AreCanonical (types_in n) numbers →
    Tells n.toks (first_in first (inner_faults (setting_in n numbers) n.entities)) (module_with (setting_in n numbers) n.entities) result →
    TellsBySome n first result
by_some n first (Ok m) numbers canonical tells = (numbers, canonical, tells)
by_some n first (Err (refusal.Unknown name)) numbers canonical tells = (numbers, canonical, tells)
by_some n first (Err (refusal.Twice name)) numbers canonical tells = (numbers, canonical, tells)
by_some n first (Err (refusal.Layout at)) numbers canonical tells = (numbers, canonical, tells)
by_some n first (Err refusal.NoMemory) numbers canonical tells = tt

module _ (b : List ℕ) (toks : List Token) (tree : Tree) where
  abbrev pub Answers : Result Module NameRefusal → Type 0
  Answers result = TellsBySome (names (input b toks tree [])) (first_in None (top_faults (names (input b toks tree [])).ids tree.entities)) result

  all_found : (numbers : List ℕ) → first_in (first_in None (top_faults (names (input b toks tree [])).ids tree.entities))
      (inner_faults (setting_in (names (input b toks tree [])) numbers) tree.entities) ≡ first_in None (faults_of (input b toks tree numbers))
  unfolding faults_of
  all_found numbers = sym (first_in-append None (top_faults (names (input b toks tree [])).ids tree.entities)
      (inner_faults (setting_in (names (input b toks tree [])) numbers) tree.entities))

  made_is : (numbers : List ℕ) → module_with (setting_in (names (input b toks tree [])) numbers) tree.entities ≡ module_of (input b toks tree numbers)
  unfolding module_of
  made_is numbers = refl

  first_fault : (numbers : List ℕ) (f : NameFault) → AreCanonical (types (input b toks tree numbers)) numbers →
      first_in (first_in None (top_faults (names (input b toks tree [])).ids tree.entities))
      (inner_faults (setting_in (names (input b toks tree [])) numbers) tree.entities) ≡ Some f → IsFirstFault b toks tree f
  first_fault numbers f canonical first = record { numbers = numbers; canonical = canonical; first = sym (all_found numbers) ∙ first }

  pub resolved : (result : Result Module NameRefusal) → Answers result → IfOk result (λ m. Resolved b toks tree m)
  resolved (Ok m) h = record {
    numbers = h.0;
    canonical = h.1;
    is = h.2.1 ∙ made_is h.0;
    faultless = none_first (faults_of (input b toks tree h.0)) (sym (all_found h.0) ∙ h.2.0);
  }
  resolved (Err e) h = tt

  pub few_things : (result : Result Module NameRefusal) → Answers result → IfOk result (λ m. HasFew m)
  few_things (Ok m) h = h.2.2
  few_things (Err e) h = tt

  pub unknown : (result : Result Module NameRefusal) → Answers result → (name : Span) → result ≡ Err (refusal.Unknown name) →
      (at : ℕ) × IsFirstFault b toks tree (fault cause.Unknown at) × (name ≡ span_at toks at)
  unknown result h name is =
      let told : Answers (Err (refusal.Unknown name)) = subst Answers is h in
      (told.2.0, first_fault told.0 (fault cause.Unknown told.2.0) told.1 told.2.1, told.2.2)

  pub twice : (result : Result Module NameRefusal) → Answers result → (name : Span) → result ≡ Err (refusal.Twice name) →
      (at : ℕ) × IsFirstFault b toks tree (fault cause.Twice at) × (name ≡ span_at toks at)
  twice result h name is =
      let told : Answers (Err (refusal.Twice name)) = subst Answers is h in
      (told.2.0, first_fault told.0 (fault cause.Twice told.2.0) told.1 told.2.1, told.2.2)

  pub layout : (result : Result Module NameRefusal) → Answers result → (offset : ℕ) → result ≡ Err (refusal.Layout offset) →
      (at : ℕ) × IsFirstFault b toks tree (fault cause.Layout at) × (offset ≡ offset_at toks at)
  layout result h offset is =
      let told : Answers (Err (refusal.Layout offset)) = subst Answers is h in
      (told.2.0, first_fault told.0 (fault cause.Layout told.2.0) told.1 told.2.1, told.2.2)

-- the names of a tree, and the first of the second definitions among them
module _ (b : List ℕ) (toks : List Token) (tree : Tree) (es : List Entity) (ids : List ℕ) (of_types of_symbols : ℕ → Option Entry) where
  abbrev pub names_by : Names
  names_by = record { text = b; toks = toks; entities = es; ids = ids; types = of_types; symbols = of_symbols }

  pub top_done : (one two three : Option NameFault) (result : Result Module NameRefusal) → es ≡ tree.entities → ids ≡ name_ids b toks →
      ((name : ℕ) → of_types name ≡ named_in ids Types es name) → ((name : ℕ) → of_symbols name ≡ named_in ids Symbols es name) →
      one ≡ first_in None (repeats ids [] start (top_slots Types es)) → two ≡ first_in one (repeats ids [] start (top_slots Groups es)) →
      three ≡ first_in two (repeats ids [] start (top_slots Symbols es)) → TellsBySome names_by three result → Answers b toks tree result
  top_done one two three result at is types symbols first second third tells =
      let all : three ≡ first_in None (top_faults ids es) = noted None one two three (repeats ids [] start (top_slots Types es))
      (repeats ids [] start (top_slots Groups es)) (repeats ids [] start (top_slots Symbols es)) first second third in
      let found : three ≡ first_in None (top_faults (name_ids b toks) tree.entities) = all ∙ (λ i. first_in None (top_faults (is i) (at i))) in
      let same : names_by ≡ names (input b toks tree []) = λ i. record {
        text = b;
        toks = toks;
        entities = at i;
        ids = is i;
        types = λ name. (types name ∙ (λ i. named_in (is i) Types (at i) name)) i;
        symbols = λ name. (symbols name ∙ (λ i. named_in (is i) Symbols (at i) name)) i;
      } in
      subst (λ n. TellsBySome n (first_in None (top_faults (name_ids b toks) tree.entities)) result) same
      (subst (λ f. TellsBySome names_by f result) found tells)

-- ---- what the entities are read with

abbrev pub setting_by : Names → List ℕ → Table → List IrType → (ℕ → Bool) → Setting
setting_by n numbers t ts void = record {
  text = n.text;
  toks = n.toks;
  ids = n.ids;
  symbol = n.symbols;
  table = t;
  types = ts;
  numbers = numbers;
  void = void;
  groups = group_in n.ids n.entities;
}

pub setting_is : (n : Names) (numbers : List ℕ) (t : Table) (ts : List IrType) (void : ℕ → Bool) → t ≡ table_in n → ts ≡ types_in n →
    ((name : ℕ) → void name ≡ is_void_entry ts (n.types name)) → setting_by n numbers t ts void ≡ setting_in n numbers
setting_is n numbers t ts void table types voids =
    let is : void ≡ (λ name. is_void_entry (types_in n) (n.types name)) =
    λ i name. (voids name ∙ ap (λ ts. is_void_entry ts (n.types name)) types) i in
    λ i. setting_by n numbers (table i) (types i) (is i)

module _ (n : Names) (top : (name : ℕ) → n.types name ≡ named_in n.ids Types n.entities name) where
  named_below : (leaf : ℕ) → named (type_reading n) leaf < 2 + named_count n.entities
  named_below leaf = subst (λ o. unwrap_or (number_in o) 0 < 2 + named_count n.entities) (sym (top (slice_index n.ids leaf)))
      (bounded n.ids start n.entities (slice_index n.ids leaf) (omega arith))

  is_table : IsTableOf (table_in n) n.entities
  is_table = record {
    first = first_kept (type_reading n) n.entities;
    names = λ leaf. subst (λ r. named r leaf < 2 + named_count n.entities) (sym (names_kept (type_reading n) n.entities)) (named_below leaf);
  }

  -- each type of a tree is one of the module's
  pub types_there : (t : Table) (ts : List IrType) → t ≡ table_in n → ts ≡ types_in n → (ty : Ty) → type_id t ty < length ts
  types_there t ts table types ty =
      let below = subst (λ ts. type_id (table_in n) ty < length ts) (sym types) (there (table_in n) n.entities is_table ty) in
      subst (λ t. type_id t ty < length ts) (sym table) below

-- ---- the module and the first fault, once everything is built

-- the module of these lists
abbrev pub module_from : List IrType → List ℕ → Resolving → Module
module_from types places s = record {
  types = types;
  globals = s.globals.items;
  funcs = s.funcs.items;
  blocks = s.builder.blocks.items;
  segs = s.builder.cutter.segs.items;
  values = s.values.items;
  parts = s.builder.notes.parts.items;
  type_at = places;
}

module _ (n : Names) (t : Table) (types : List IrType) (numbers places : List ℕ) (first mid : Option NameFault) (s : Resolving)
    (table : t ≡ table_in n) (all : types ≡ types_in n) (built : IsBuilt (setting_in n numbers) n.entities mid s) where
  abbrev x : Setting
  x = setting_in n numbers

  places_are : ArePlaces t n.entities (length types) places → places ≡ places_of (table_in n) n.entities (length (types_in n))
  places_are at =
      listed (type_at t n.entities) (length types) places at.long at.lowest
      ∙ (λ i. map (type_at (table i) n.entities) (numbers_from 0 (length (all i))))

  module_is : ArePlaces t n.entities (length types) places → module_from types places s ≡ module_with x n.entities
  module_is at =
      let where_written = places_are at in
      λ i. record {
        types = all i;
        globals = built.globals i;
        funcs = built.funcs i;
        blocks = built.blocks i;
        segs = built.segs i;
        values = built.values i;
        parts = built.parts i;
        type_at = where_written i;
      }

  fault_is : mid ≡ first_in first (unknown_types (type_reading n) n.entities) → found s ≡ first_in first (inner_faults x n.entities)
  fault_is unknown =
      let rest = each_entity x (entity_faults x) nothing n.entities in
      built.found ∙ ap (λ f. first_in f rest) unknown ∙ sym (first_in-append first (unknown_types (type_reading n) n.entities) rest)
      ∙ ap (λ r. first_in first (unknown_types r n.entities ++ rest)) (sym (names_kept (type_reading n) n.entities))

  pub typed_done : (result : Result Module NameRefusal) → AreCanonical types numbers → ArePlaces t n.entities (length types) places →
      mid ≡ first_in first (unknown_types (type_reading n) n.entities) → Tells n.toks (found s) (module_from types places s) result → TellsBySome n first result
  typed_done result canonical at unknown tells =
      let one = fault_is unknown in
      let made = module_is at in
      let told = subst (λ f. Tells n.toks f (module_from types places s) result) one tells in
      by_some n first result numbers (subst (λ ts. AreCanonical ts numbers) all canonical)
      (subst (λ m. Tells n.toks (first_in first (inner_faults x n.entities)) m result) made told)
