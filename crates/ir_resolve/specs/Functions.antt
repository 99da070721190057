-- A function, by what stands before it: its names, its header and its body, and what is wrong with its names.
use Rattle.std.specs.Prelude.{ℕ, ◌+◌, not, List, [], ◌++◌, length, Option, None, Some}
use Rattle.attr_ids.specs.declared.ids.FuncId.{FuncId}
use Rattle.ir_tree.specs.declared.headers.Header.{Header}
use Rattle.ir_tree.specs.declared.blocks.Body.{Body}
use Rattle.ir_module.specs.declared.op.Instr.{Instr}
use Rattle.ir_module.specs.declared.module.Block.{Block}
use Rattle.ir_module.specs.declared.module.Func.{Func}
use Rattle.ir_module.specs.declared.module.Seg.{Seg}
use Rattle.ir_module.specs.declared.module.ValueInfo.{ValueInfo}
use Rattle.ir_scopes.specs.declared.faults.Cause.TheVariants.{Twice}
use Rattle.ir_scopes.specs.declared.faults.NameFault.{NameFault}
use Rattle.ir_scopes.specs.declared.slot.Counts.{Counts}
use Rattle.ir_scopes.specs.declared.slot.Entry.{Entry}
use Rattle.ir_scopes.specs.declared.slot.Slot.{Slot}
use Rattle.ir_scopes.specs.Faults.{fault_unless}
use Rattle.ir_scopes.specs.Markers.{is_wrong_marker}
use Rattle.ir_scopes.specs.Scopes.{definitions, all_counted, find, repeats}
use Rattle.ir_scopes.specs.Slots.{func_slots, param_slots}
use Rattle.ir_instrs.specs.Reading.{Parts}
use Rattle.ir_instrs.specs.Uses.{Use, behind, faults_of}
use Rattle.ir_bodies.specs.Context.{Context}
use Rattle.ir_types.specs.declared.ir_type.IrType.{IrType}
use Rattle.ir_bodies.specs.Bodies.{Part, parts, instrs_of, uses_of, values_of, segs_of, blocks_of}
use Rattle.ir_bodies.specs.Groups.{words_faults, body_faults}
use Rattle.ir_headers.specs.Headers.{Stand, func_of, extra_uses}
use Rattle.ir_headers.specs.Values.{param_values, results_of}
use Rattle.ir_resolve.specs.Inputs.{Setting, start, context}

-- how much of a module stands before an entity
pub record Before : Type 0 where
  pub funcs : ℕ
  pub blocks : ℕ
  pub segs : ℕ
  pub values : ℕ
  pub laid : Parts

-- a function: the first token of its entity, its header, its body where it is defined, and the token behind that
pub record Function : Type 0 where
  pub at : ℕ
  pub header : Header
  pub body : Option Body
  pub close : ℕ

-- its blocks
abbrev pub parts_in : Option Body → List Part
parts_in None = []
parts_in (Some b) = parts b

-- ---- its names

-- the numbers of its first value and block, and the counter
abbrev pub counts : Before → Counts
counts b = record start { values = b.values; blocks = b.blocks }

abbrev pub slots : Setting → Function → List Slot
slots x f = func_slots x.ids x.void f.header.params f.body

-- what its names stand for
abbrev pub scope : Setting → Before → Function → ℕ → Option Entry
scope x b f = find (definitions x.ids (counts b) (slots x f))

-- what a function is read with, the counts behind its parameters, and what stands before it
pub record Reader : Type 0 where
  pub context : Context
  pub behind : Counts
  pub before : Before

abbrev pub reader : Setting → Before → Function → Reader
reader x b f = record {
  context = context x (scope x b f);
  behind = all_counted x.ids (counts b) (param_slots f.header.params);
  before = b;
}

-- ---- what it adds to a module

abbrev pub func_id : Before → FuncId
func_id b = record { 0 = b.funcs }

-- the instructions of its blocks, which stand behind the constants of its header
abbrev pub instrs : Reader → Function → List (List Instr)
instrs q f =
    instrs_of q.context q.behind.values (behind q.context.reading q.before.laid (extra_uses q.context.reading f.header.tails)) f.close (parts_in f.body)

abbrev pub func_segs : Reader → Function → List Seg
func_segs q f = segs_of q.before.blocks (instrs q f)

-- an unlabelled first block takes the counter behind the parameters
abbrev pub func_blocks : Reader → Function → List Block
func_blocks q f = blocks_of q.context (func_id q.before) q.behind.counter q.before.segs (parts_in f.body) (instrs q f)

abbrev pub stand_of : Reader → Function → Stand
stand_of q f = record { at = f.at; value = q.before.values; block = q.before.blocks; count = length (func_blocks q f) }

abbrev pub func : Reader → Function → Func
func q f = func_of q.context q.before.laid (stand_of q f) f.header

-- its parameters, and the results of its instructions
abbrev pub func_values : Reader → Function → List ValueInfo
func_values q f = param_values (func_id q.before) 0 (func q f).params ++ results_of (func_id q.before) q.before.segs (func_segs q f)

-- ---- what it names

-- the constants, values and blocks that it names
abbrev pub func_uses : Reader → Function → List Use
func_uses q f = extra_uses q.context.reading f.header.tails ++ uses_of q.context (parts_in f.body)

-- groups that it names and that are defined nowhere
abbrev pub groups_faults : Reader → Function → List NameFault
groups_faults q f = words_faults q.context f.header.attributes ++ body_faults q.context (parts_in f.body)

-- names that have no definition of their kind; and a lifetime name that is defined, or is declared with another type than a marker has
abbrev pub text_faults : List IrType → Reader → Function → List NameFault
text_faults types q f =
    faults_of q.context.reading (func_uses q f) ++ (groups_faults q f ++ fault_unless (not (is_wrong_marker types (func q f))) Twice f.header.name)

-- those, and second definitions in its space of names
abbrev pub func_faults : Setting → Before → Function → List NameFault
func_faults x b f = repeats x.ids [] (counts b) (slots x f) ++ text_faults x.types (reader x b f) f

-- what stands behind it
abbrev pub behind_func : Reader → Function → Before
behind_func q f = record {
  funcs = q.before.funcs + 1;
  blocks = q.before.blocks + length (func_blocks q f);
  segs = q.before.segs + length (func_segs q f);
  values = values_of q.context q.behind.values (parts_in f.body);
  laid = behind q.context.reading q.before.laid (func_uses q f);
}
