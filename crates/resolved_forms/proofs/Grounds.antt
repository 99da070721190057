-- What functions are read with names what is there; so do the parts of constants, entity by entity.
use Rattle.std.proofs.Common.{◌≡◌, ◌<◌, ◌≤◌, ℕ, zero, suc, List, [], ◌∷◌, length, slice_index, Option, None, Some, refl, ap, subst}
use Rattle.std.proofs.Common.{arith, length-append}
use Rattle.std.specs.List.{flat_map}
use Rattle.std.proofs.lemmas.Option.{none-some, same_Some}
use Rattle.attr_ids.specs.declared.ids.TypeId.{TypeId}
use Rattle.attr_ids.specs.declared.ids.BlockId.{BlockId}
use Rattle.attr_ids.specs.declared.ids.ValueId.{ValueId}
use Rattle.ir_tree.specs.declared.types.Ty.{Ty}
use Rattle.ir_tree.specs.declared.constants.Const.{Const}
use Rattle.ir_tree.specs.declared.constants.Tconst.{Tconst}
use Rattle.ir_tree.specs.declared.headers.Ftail.{Ftail}
use Rattle.ir_tree.specs.declared.entities.Entity.{Entity}
use Rattle.ir_tree.specs.declared.entities.Entity.TheVariants as entity_of
use Rattle.ir_module.specs.declared.op.Written.{Written}
use Rattle.ir_module.specs.WellFormed.{Each, HasPartsBelow}
use Rattle.ir_operands.specs.declared.rule.Site.{Site}
use Rattle.ir_operands.specs.declared.rule.Site.TheVariants.{Initial, Plain}
use Rattle.ir_operands.proofs.Parts.{below_more}
use Rattle.ir_scopes.specs.declared.slot.Entry.{Entry}
use Rattle.ir_scopes.specs.declared.slot.Entry.TheVariants as entry
use Rattle.ir_scopes.specs.declared.slot.Counts.{Counts}
use Rattle.ir_scopes.specs.declared.top.Space.TheVariants as space
use Rattle.ir_scopes.specs.Scopes.{all_counted, definitions, find}
use Rattle.ir_scopes.specs.Slots.{top_slots}
use Rattle.ir_consts.specs.Consts.{const_of}
use Rattle.ir_consts.specs.Faults as const_faults
use Rattle.ir_consts.proofs.Below.{const_sits}
use Rattle.ir_instrs.specs.Reading.{Parts}
use Rattle.ir_instrs.specs.Uses.{faults_of, behind, each}
use Rattle.ir_instrs.specs.Operands.{tconst, tconst_uses}
use Rattle.ir_type_names.specs.Numbers.{type_id, bit}
use Rattle.ir_bodies.specs.Bodies.{uses_of}
use Rattle.ir_headers.specs.Headers.{extras, extra_uses, extras_of}
use Rattle.ir_headers.specs.Globals.{initial_faults, behind_initial}
use Rattle.ir_resolve.specs.Inputs.{Input, Setting, start, kind, at_site, context, types, setting}
use Rattle.ir_resolve.specs.Functions.{Before, Function, parts_in, scope, reader, func_uses, func_faults, behind_func}
use Rattle.ir_resolve.specs.Entities.{nothing, declared, defined, each_entity, behind_entity, globals_at, funcs_at, entity_faults}
use Rattle.resolved_forms.proofs.Names.{IsBetween, found_between}
use Rattle.resolved_forms.proofs.Counts.{globals_counted, funcs_counted}
use Rattle.resolved_forms.proofs.Runs.{nil_parts}
use Rattle.resolved_forms.proofs.Types.{kinds_below, bit_below, two_below}
use Rattle.resolved_forms.proofs.Constants.{IsEntryThere, IsFine, const_fine}
use Rattle.resolved_forms.proofs.Uses.{AreGood, IsRead, IsGround, AreTyped, typed_both, typed_all, uses_good}
use Rattle.resolved_forms.proofs.Blocks.{split, typed_parts}

-- ---- settings
-- types, and what the names of functions and globals stand for, are there
pub record IsSettled (s : Setting) (T G F : ℕ) : Type 0 where
  pub two : 2 ≤ T
  pub kinds : (ty : Ty) → type_id s.table ty < T
  pub bit_low : bit s.table < T
  pub symbols : (name : ℕ) → IsEntryThere T G F (s.symbol name)

symbol_there : (T G F : ℕ) (c d : Counts) (o : Option Entry) → d.globals ≡ G → d.funcs ≡ F → ((e : Entry) → o ≡ Some e → IsBetween c d e) → IsEntryThere T G F o
symbol_there T G F c d None globals funcs h = tt
symbol_there T G F c d (Some (entry.Value v)) globals funcs h = tt
symbol_there T G F c d (Some (entry.Block b)) globals funcs h = tt
symbol_there T G F c d (Some (entry.Global g)) globals funcs h = let l = (h (entry.Global g) refl).1 in omega (arith, l, globals)
symbol_there T G F c d (Some (entry.Func f)) globals funcs h = let l = (h (entry.Func f) refl).1 in omega (arith, l, funcs)
symbol_there T G F c d (Some (entry.Type t)) globals funcs h = tt
symbol_there T G F c d (Some (entry.Group g)) globals funcs h = tt

-- how many types, globals and functions a module has
abbrev pub type_count : Input → ℕ
type_count x = length (types x)

abbrev pub global_count : Input → ℕ
global_count x = length (each_entity (setting x) (globals_at (setting x)) nothing x.entities)

abbrev pub func_count : Input → ℕ
func_count x = length (each_entity (setting x) (funcs_at (setting x)) nothing x.entities)

pub settled : (x : Input) → IsSettled (setting x) (type_count x) (global_count x) (func_count x)
settled x =
    let s = setting x in
    let ss = top_slots space.Symbols x.entities in
    let globals = globals_counted s s.ids x.entities start nothing in
    let funcs = funcs_counted s s.ids x.entities start nothing in
    record {
      two = two_below x;
      kinds = kinds_below x;
      bit_low = bit_below x;
      symbols = λ name. symbol_there (type_count x) (global_count x) (func_count x) start (all_counted s.ids start ss)
          (find (definitions s.ids start ss) name) (omega (arith, globals)) (omega (arith, funcs))
          (λ e is. found_between s.ids start ss name e is);
    }

module _ (s : Setting) (T G F : ℕ) (h : IsSettled s T G F) where
  -- a constant, read at any site
  pub const_read : (site : Site) (c : Const) → const_faults.faults_of (at_site site s) c ≡ [] → (ty : TypeId) → ty.0 < T → (ps : List Written)
      → AreGood T G F ps → IsRead T G F ps (const_of (at_site site s) c ty ps)
  const_read site c none ty low ps good =
      let out = const_of (at_site site s) c ty ps in
      let fine = const_fine T G F (at_site site s) h.kinds (λ at. h.symbols (slice_index s.ids at)) c none ty low ps good.0 in
      let sits = const_sits (at_site site s) c ty ps good.1 in
      let longer = ap length sits.behind.1 in
      record {
        fine = fine.0;
        below = sits.within;
        parts = (fine.1, sits.below);
        longer = omega (arith, longer, length-append ps sits.behind.0);
      }

  pub ground : (V B : ℕ → Type 0) (named : ℕ → Option Entry) → ((id : ℕ) (v : ValueId) → named id ≡ Some (entry.Value v) → V v.0)
      → ((id : ℕ) (b : BlockId) → named id ≡ Some (entry.Block b) → B b.0) → IsGround T G F V B (context s named).reading
  ground V B named values blocks = record {
    two = h.two;
    kinds = h.kinds;
    bit = h.bit_low;
    consts = λ c none ty low ps good. const_read Plain c none ty low ps good;
    values = values;
    blocks = blocks;
  }

  -- that of any function, of which no more is said
  pub plain_ground : (named : ℕ → Option Entry) → IsGround T G F (λ (n : ℕ). Unit {0}) (λ (n : ℕ). Unit {0}) (context s named).reading
  plain_ground named = ground (λ n. Unit {0}) (λ n. Unit {0}) named (λ id v is. tt) (λ id b is. tt)

  -- ---- functions
  pub typed_extra : (named : ℕ → Option Entry) (tails : List Ftail) → AreTyped T (extra_uses (context s named).reading tails)
  typed_extra named tails = typed_all T (tconst_uses (context s named).reading) (λ (c : Tconst). (h.kinds c.ty, tt)) (extras tails)

  pub typed_func : (b : Before) (f : Function) → AreTyped T (func_uses (reader s b f) f)
  typed_func b f =
      let x = context s (scope s b f) in
      typed_both T (extra_uses x.reading f.header.tails) (uses_of x (parts_in f.body)) (typed_extra (scope s b f) f.header.tails)
      (typed_parts T G F (λ n. Unit {0}) (λ n. Unit {0}) x (plain_ground (scope s b f)) (parts_in f.body))

  -- nothing is wrong with the names in its text
  pub text_right : (b : Before) (f : Function) → func_faults s b f ≡ [] → faults_of (context s (scope s b f)).reading (func_uses (reader s b f) f) ≡ []
  text_right b f none = (nil_parts (faults_of (context s (scope s b f)).reading (func_uses (reader s b f) f)) _ (nil_parts _ _ none).1).0

  abbrev pub IsBehind : Before → Before → Type 0
  IsBehind b d = AreGood T G F d.laid × (length b.laid ≤ length d.laid)

  func_behind : (b : Before) (f : Function) → func_faults s b f ≡ [] → AreGood T G F b.laid → IsBehind b (behind_func (reader s b f) f)
  func_behind b f none good = uses_good T G F (λ n. Unit {0}) (λ n. Unit {0}) (context s (scope s b f)).reading (plain_ground (scope s b f))
      (func_uses (reader s b f) f) b.laid (typed_func b f) (text_right b f none) good

  initial_behind : (o : Option Const) (t : TypeId) (ps : List Written) → t.0 < T → initial_faults (at_site Initial s) o ≡ [] → AreGood T G F ps
      → AreGood T G F (behind_initial (at_site Initial s) t ps o) × (length ps ≤ length (behind_initial (at_site Initial s) t ps o))
  initial_behind None t ps low none good = (good, omega arith)
  initial_behind (Some c) t ps low none good = let one = const_read Initial c none t low ps good in (one.parts, one.longer)

  -- ---- entities
  pub entity_behind : (b : Before) (e : Entity) → entity_faults s b e ≡ [] → AreGood T G F b.laid → IsBehind b (behind_entity s b e)
  entity_behind b (entity_of.GlobalVar g) none good =
      initial_behind g.initial (kind s.table g.ty) b.laid (h.kinds g.ty) (nil_parts (initial_faults (at_site Initial s) g.initial) _ none).0 good
  entity_behind b (entity_of.Declare d) none good = func_behind b (declared d) none good
  entity_behind b (entity_of.Define d) none good = func_behind b (defined d) none good
  entity_behind b (entity_of.Opaque at) none good = (good, omega arith)
  entity_behind b (entity_of.SourceFilename name) none good = (good, omega arith)
  entity_behind b (entity_of.Target which text) none good = (good, omega arith)
  entity_behind b (entity_of.Named name body) none good = (good, omega arith)
  entity_behind b (entity_of.Attributes group words) none good = (good, omega arith)

  -- the constants of a header
  extras_good : (named : ℕ → Option Entry) (n : ℕ) (ts : List Tconst) (ps : Parts)
      → faults_of (context s named).reading (flat_map (tconst_uses (context s named).reading) ts) ≡ [] → AreGood T G F ps
      → length (behind (context s named).reading ps (flat_map (tconst_uses (context s named).reading) ts)) ≤ n
      → Each (each (context s named).reading (tconst (context s named).reading) (tconst_uses (context s named).reading) ps ts)
      (λ k w. IsFine T G F w × HasPartsBelow n w.val)
  extras_good named n [] ps none good l k w at = absurd (none-some w at)
  extras_good named n (t ∷ ts) ps none good l zero w at =
      let r = (context s named).reading in
      let both = nil_parts (const_faults.faults_of (at_site Plain s) t.value) (faults_of r (flat_map (tconst_uses r) ts)) none in
      let one = const_read Plain t.value both.0 (kind s.table t.ty) (h.kinds t.ty) ps good in
      let out = const_of (at_site Plain s) t.value (kind s.table t.ty) ps in
      let rest = (uses_good T G F (λ n. Unit {0}) (λ n. Unit {0}) r (plain_ground named) (flat_map (tconst_uses r) ts) out.1
      (typed_all T (tconst_uses r) (λ (c : Tconst). (h.kinds c.ty, tt)) ts) both.1 one.parts).1 in
      subst (λ (z : Written). IsFine T G F z × HasPartsBelow n z.val) (same_Some out.0 w at)
      (one.fine, below_more (length out.1) n out.0.val (omega (arith, rest, l)) one.below)
  extras_good named n (t ∷ ts) ps none good l (suc k) w at =
      let r = (context s named).reading in
      let both = nil_parts (const_faults.faults_of (at_site Plain s) t.value) (faults_of r (flat_map (tconst_uses r) ts)) none in
      let one = const_read Plain t.value both.0 (kind s.table t.ty) (h.kinds t.ty) ps good in
      extras_good named n ts (const_of (at_site Plain s) t.value (kind s.table t.ty) ps).1 both.1 one.parts l k w at

  pub extra_good : (b : Before) (f : Function) (n : ℕ) → func_faults s b f ≡ [] → AreGood T G F b.laid
      → length (behind (context s (scope s b f)).reading b.laid (func_uses (reader s b f) f)) ≤ n
      → Each (extras_of (context s (scope s b f)).reading b.laid f.header.tails) (λ k w. IsFine T G F w × HasPartsBelow n w.val)
  extra_good b f n none good l =
      let x = context s (scope s b f) in
      let us = extra_uses x.reading f.header.tails in
      let vs = uses_of x (parts_in f.body) in
      let p = split T G F (λ n. Unit {0}) (λ n. Unit {0}) x (plain_ground (scope s b f)) us vs b.laid n (typed_extra (scope s b f) f.header.tails)
      (typed_parts T G F (λ n. Unit {0}) (λ n. Unit {0}) x (plain_ground (scope s b f)) (parts_in f.body)) (text_right b f none) good l in
      extras_good (scope s b f) n (extras f.header.tails) b.laid p.none good p.within
