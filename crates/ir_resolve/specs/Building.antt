-- What it is for the things of a module to be put behind those before them.
use Rattle.std.specs.Prelude.{◌≡◌, ℕ, List, [], ◌∷◌, ◌++◌, length, drop, not, nat_eq, Option}
use Rattle.std.specs.HashSet.{contains}
use Rattle.indexmap.specs.IndexMap.{get}
use Rattle.attr_ids.specs.declared.ids.FuncId.{FuncId}
use Rattle.ir_token.specs.Lists.{AreTokens}
use Rattle.ir_tree.specs.declared.headers.Ftail.{Ftail}
use Rattle.ir_tree.specs.declared.entities.Entity.{Entity}
use Rattle.ir_types.specs.declared.ir_type.IrType.{IrType}
use Rattle.ir_operands.specs.Constants.{ArePartsBelow}
use Rattle.ir_operands.specs.declared.rule.Site.TheVariants.{Plain}
use Rattle.ir_attrs.specs.Functions.{group_in}
use Rattle.ir_attrs.specs.Groups as groups
use Rattle.ir_scopes.specs.declared.faults.NameFault.{NameFault}
use Rattle.ir_scopes.specs.declared.slot.Counts.{Counts}
use Rattle.ir_scopes.specs.Faults.{fault_unless, first_in}
use Rattle.ir_type_names.specs.Tables as tables
use Rattle.ir_consts.specs.Reading.{AreThere}
use Rattle.ir_instrs.specs.Uses.{behind, Takes}
use Rattle.ir_bodies.specs.declared.builder.Builder.{Builder}
use Rattle.ir_bodies.specs.Context.{Context}
use Rattle.ir_bodies.specs.Bodies.{Part, instrs_of, uses_of, values_of, segs_of, blocks_of}
use Rattle.ir_headers.specs.Headers.{extra_uses}
use Rattle.ir_headers.specs.Values.{param_values, results_of}
use Rattle.ir_module.specs.declared.module.Func.{Func}
use Rattle.ir_scopes.specs.declared.faults.Cause.TheVariants.{Twice}
use Rattle.ir_scopes.specs.Markers.{is_wrong_marker}
use Rattle.ir_scopes.specs.Scopes.{repeats}
use Rattle.ir_resolve.specs.declared.desk.Desk.{Desk}
use Rattle.ir_resolve.specs.declared.state.Resolving.{Resolving}
use Rattle.ir_resolve.specs.declared.state.Mark.{Mark}
use Rattle.ir_resolve.specs.Inputs.{Setting, at_site}
use Rattle.ir_resolve.specs.Functions.{Before, Function, Reader, reader, counts, slots, func, func_blocks, func_segs, func_values, text_faults, behind_func}
use Rattle.ir_resolve.specs.Entities.{nothing, each_entity, behind_all, behind_entity, globals_at, funcs_at, blocks_at, segs_at, values_at, entity_faults}

-- ---- what the entities are read with

abbrev pub setting_of : Desk → Setting
setting_of d = record {
  text = d.text.now;
  toks = d.toks.now;
  ids = d.ids.now;
  symbol = get nat_eq d.symbols.now;
  table = tables.table d.kinds.now;
  types = d.types.now;
  numbers = d.numbers.now;
  void = contains nat_eq d.voids.now;
  groups = group_in d.ids.now d.entities.now;
}

-- the tokens are those of the text, each written type is one of the table, and the table of groups is that of the entities
pub record IsSound (d : Desk) : Type 0 where
  pub tokens : AreTokens d.text.now d.toks.now
  pub there : AreThere (at_site Plain (setting_of d))
  pub groups : groups.Knows d.text.now d.toks.now d.ids.now d.entities.now d.groups.now

-- ---- how far a module is built

abbrev pub before : Resolving → Before
before s = record {
  funcs = length s.funcs.items;
  blocks = length s.builder.blocks.items;
  segs = length s.builder.cutter.segs.items;
  values = s.builder.values;
  laid = s.builder.notes.parts.items;
}

abbrev pub found : Resolving → Option NameFault
found s = s.builder.notes.found

-- no segment is open, and the parts of constants stand before what names them
pub record IsReady (s : Resolving) : Type 0 where
  pub run : s.builder.cutter.run.items ≡ []
  pub below : ArePartsBelow s.builder.notes.parts.items

-- these are the numbers of what is built
pub record IsMark (b : Before) (m : Mark) : Type 0 where
  pub funcs : m.func.0 ≡ b.funcs
  pub blocks : m.block ≡ b.blocks
  pub segs : m.seg ≡ b.segs
  pub values : m.value ≡ b.values

-- ---- what was put in

-- the constants of a header and the blocks of a body were read, behind so many values, by this counter, before this token
pub record Reads (x : Context) (func : FuncId) (c : Counts) (tails : List Ftail) (close : ℕ) (ps : List Part) (old new : Builder) : Type 0 where
  pub segs : new.cutter.segs.items ≡ old.cutter.segs.items
      ++ segs_of (length old.blocks.items) (instrs_of x c.values (behind x.reading old.notes.parts.items (extra_uses x.reading tails)) close ps)
  pub run : new.cutter.run.items ≡ []
  pub blocks : new.blocks.items ≡ old.blocks.items ++ blocks_of x func c.counter (length old.cutter.segs.items) ps
      (instrs_of x c.values (behind x.reading old.notes.parts.items (extra_uses x.reading tails)) close ps)
  pub values : new.values ≡ values_of x c.values ps
  pub takes : Takes x.reading (extra_uses x.reading tails ++ uses_of x ps) old.notes new.notes

-- a function was put in, and the faults of its text were noted behind these
pub record Puts (types : List IrType) (q : Reader) (faults : List NameFault) (f : Function) (old new : Resolving) : Type 0 where
  pub globals : new.globals.items ≡ old.globals.items
  pub funcs : new.funcs.items ≡ old.funcs.items ++ func q f ∷ []
  pub blocks : new.builder.blocks.items ≡ old.builder.blocks.items ++ func_blocks q f
  pub segs : new.builder.cutter.segs.items ≡ old.builder.cutter.segs.items ++ func_segs q f
  pub values : new.values.items ≡ old.values.items ++ func_values q f
  pub found : found new ≡ first_in (found old) (faults ++ text_faults types q f)
  pub behind : before new ≡ behind_func q f
  pub ready : IsReady new

-- a function was put in by a mark, with its values, and noted where it is a wrong lifetime marker; its text was read before
pub record Stores (types : List IrType) (m : Mark) (made : Func) (name : ℕ) (old new : Resolving) : Type 0 where
  pub globals : new.globals.items ≡ old.globals.items
  pub funcs : new.funcs.items ≡ old.funcs.items ++ made ∷ []
  pub values : new.values.items ≡ old.values.items
      ++ (param_values m.func 0 made.params ++ results_of m.func m.seg (drop m.seg old.builder.cutter.segs.items))
  pub found : found new ≡ first_in (found old) (fault_unless (not (is_wrong_marker types made)) Twice name)
  pub segs : new.builder.cutter.segs.items ≡ old.builder.cutter.segs.items
  pub run : new.builder.cutter.run.items ≡ old.builder.cutter.run.items
  pub blocks : new.builder.blocks.items ≡ old.builder.blocks.items
  pub count : new.builder.values ≡ old.builder.values
  pub parts : new.builder.notes.parts.items ≡ old.builder.notes.parts.items

-- a function was put in, with all faults of its names
abbrev pub PutsFunction : Setting → Function → Resolving → Resolving → Type 0
PutsFunction x f old new = Puts x.types (reader x (before old) f) (repeats x.ids [] (counts (before old)) (slots x f)) f old new

-- an entity was put in, with what is wrong with its names
pub record Adds (x : Setting) (e : Entity) (old new : Resolving) : Type 0 where
  pub globals : new.globals.items ≡ old.globals.items ++ globals_at x (before old) e
  pub funcs : new.funcs.items ≡ old.funcs.items ++ funcs_at x (before old) e
  pub blocks : new.builder.blocks.items ≡ old.builder.blocks.items ++ blocks_at x (before old) e
  pub segs : new.builder.cutter.segs.items ≡ old.builder.cutter.segs.items ++ segs_at x (before old) e
  pub values : new.values.items ≡ old.values.items ++ values_at x (before old) e
  pub found : found new ≡ first_in (found old) (entity_faults x (before old) e)
  pub behind : before new ≡ behind_entity x (before old) e
  pub ready : IsReady new

-- these entities were put in
pub record AddsAll (x : Setting) (es : List Entity) (old new : Resolving) : Type 0 where
  pub globals : new.globals.items ≡ old.globals.items ++ each_entity x (globals_at x) (before old) es
  pub funcs : new.funcs.items ≡ old.funcs.items ++ each_entity x (funcs_at x) (before old) es
  pub blocks : new.builder.blocks.items ≡ old.builder.blocks.items ++ each_entity x (blocks_at x) (before old) es
  pub segs : new.builder.cutter.segs.items ≡ old.builder.cutter.segs.items ++ each_entity x (segs_at x) (before old) es
  pub values : new.values.items ≡ old.values.items ++ each_entity x (values_at x) (before old) es
  pub found : found new ≡ first_in (found old) (each_entity x (entity_faults x) (before old) es)
  pub behind : before new ≡ behind_all x (before old) es
  pub ready : IsReady new

-- these entities alone were put in, behind this fault
pub record IsBuilt (x : Setting) (es : List Entity) (first : Option NameFault) (s : Resolving) : Type 0 where
  pub globals : s.globals.items ≡ each_entity x (globals_at x) nothing es
  pub funcs : s.funcs.items ≡ each_entity x (funcs_at x) nothing es
  pub blocks : s.builder.blocks.items ≡ each_entity x (blocks_at x) nothing es
  pub segs : s.builder.cutter.segs.items ≡ each_entity x (segs_at x) nothing es
  pub values : s.values.items ≡ each_entity x (values_at x) nothing es
  pub parts : s.builder.notes.parts.items ≡ (behind_all x nothing es).laid
  pub found : found s ≡ first_in first (each_entity x (entity_faults x) nothing es)
