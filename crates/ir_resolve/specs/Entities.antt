-- Entities one behind another: what each adds to the module, by what stands before it.
use Rattle.std.specs.Prelude.{ℕ, Bool, not, ◌||◌, ◌-◌, List, [], ◌∷◌, ◌++◌, length, codes, Option, None, Some, slice_range}
use Rattle.std.specs.List.{flat_map}
use Rattle.std.specs.Str.{bytes_eq}
use Rattle.ir_literals.specs.Layouts.{is_layout}
use Rattle.ir_tree.specs.declared.entities.GlobalVar as tree_global
use Rattle.ir_tree.specs.declared.entities.Declare.{Declare}
use Rattle.ir_tree.specs.declared.entities.Define.{Define}
use Rattle.ir_tree.specs.declared.entities.Entity.{Entity}
use Rattle.ir_tree.specs.declared.entities.Entity.TheVariants as entity
use Rattle.ir_module.specs.declared.module.Block.{Block}
use Rattle.ir_module.specs.declared.module.Func.{Func}
use Rattle.ir_module.specs.declared.module.GlobalVar.{GlobalVar}
use Rattle.ir_module.specs.declared.module.Seg.{Seg}
use Rattle.ir_module.specs.declared.module.ValueInfo.{ValueInfo}
use Rattle.ir_module.specs.Calls.{is_lifetime_name}
use Rattle.ir_attrs.specs.Leaves.{leaf_text}
use Rattle.ir_scopes.specs.declared.faults.Cause.TheVariants.{Twice, Layout}
use Rattle.ir_scopes.specs.declared.faults.NameFault.{NameFault}
use Rattle.ir_scopes.specs.declared.slot.Entry.{Entry}
use Rattle.ir_scopes.specs.Faults.{fault_unless}
use Rattle.ir_operands.specs.declared.rule.Site.TheVariants.{Initial}
use Rattle.ir_bodies.specs.Context.{Context}
use Rattle.ir_bodies.specs.Groups.{group_faults}
use Rattle.ir_headers.specs.Globals.{global_of, behind_global, initial_faults}
use Rattle.ir_resolve.specs.Inputs.{Setting, at_site, context}
use Rattle.ir_resolve.specs.Functions.{Before, Function, reader, func, func_blocks, func_segs, func_values, func_faults, behind_func}

abbrev pub nothing : Before
nothing = record { funcs = 0; blocks = 0; segs = 0; values = 0; laid = [] }

-- ---- a global variable

abbrev pub no_names : ℕ → Option Entry
no_names name = None

-- nothing of a body is named outside of it
abbrev pub outside : Setting → Context
outside x = context x no_names

abbrev pub global : Setting → Before → tree_global.GlobalVar → GlobalVar
global x b g = global_of (at_site Initial x) b.laid g

-- names in its initial value, and groups, that are defined nowhere; a lifetime name is no global's
abbrev pub global_faults : Setting → Before → tree_global.GlobalVar → List NameFault
global_faults x b g =
    initial_faults (at_site Initial x) g.initial
    ++ (flat_map (group_faults (outside x)) g.groups ++ fault_unless (not (is_lifetime_name (global x b g).name)) Twice g.name)

abbrev pub behind_var : Setting → Before → tree_global.GlobalVar → Before
behind_var x b g = record b { laid = behind_global (at_site Initial x) b.laid g }

-- ---- a data layout

-- what is between the quotes of a string
abbrev pub inside_of : List ℕ → List ℕ
inside_of z = slice_range z 1 (length z - 1)

-- the target is no data layout, or is one that is read
abbrev pub is_read : Setting → ℕ → ℕ → Bool
is_read x which text =
    not (bytes_eq (leaf_text x.text x.toks which) (codes "datalayout")) || is_layout (inside_of (leaf_text x.text x.toks text))

abbrev pub target_faults : Setting → ℕ → ℕ → List NameFault
target_faults x which text = fault_unless (is_read x which text) Layout text

-- ---- an entity

abbrev pub declared : Declare → Function
declared d = record { at = d.word; header = d.header; body = None; close = 0 }

abbrev pub defined : Define → Function
defined d = record { at = d.word; header = d.header; body = Some d.body; close = d.close }

-- the global variable that an entity writes
abbrev pub globals_at : Setting → Before → Entity → List GlobalVar
globals_at x b (entity.GlobalVar g) = global x b g ∷ []
globals_at x b _ = []

-- what is made of the function that an entity writes
abbrev pub of_function : {X : Type 0} → (Function → List X) → Entity → List X
of_function made (entity.Declare d) = made (declared d)
of_function made (entity.Define d) = made (defined d)
of_function made _ = []

abbrev pub funcs_at : Setting → Before → Entity → List Func
funcs_at x b e = of_function (λ f. func (reader x b f) f ∷ []) e

abbrev pub blocks_at : Setting → Before → Entity → List Block
blocks_at x b e = of_function (λ f. func_blocks (reader x b f) f) e

abbrev pub segs_at : Setting → Before → Entity → List Seg
segs_at x b e = of_function (λ f. func_segs (reader x b f) f) e

abbrev pub values_at : Setting → Before → Entity → List ValueInfo
values_at x b e = of_function (λ f. func_values (reader x b f) f) e

-- what is wrong with its names, but for names of types and for its own
abbrev pub entity_faults : Setting → Before → Entity → List NameFault
entity_faults x b (entity.Target which text) = target_faults x which text
entity_faults x b (entity.GlobalVar g) = global_faults x b g
entity_faults x b e = of_function (func_faults x b) e

-- what stands behind an entity
abbrev pub behind_entity : Setting → Before → Entity → Before
behind_entity x b (entity.GlobalVar g) = behind_var x b g
behind_entity x b (entity.Declare d) = behind_func (reader x b (declared d)) (declared d)
behind_entity x b (entity.Define d) = behind_func (reader x b (defined d)) (defined d)
behind_entity x b _ = b

-- ---- all of them

-- the lists that a module has of all entities, each made of what stands before it
abbrev pub each_entity : {X : Type 0} → Setting → (Before → Entity → List X) → Before → List Entity → List X
each_entity x made b [] = []
each_entity x made b (e ∷ es) = made b e ++ each_entity x made (behind_entity x b e) es

abbrev pub behind_all : Setting → Before → List Entity → Before
behind_all x b [] = b
behind_all x b (e ∷ es) = behind_all x (behind_entity x b e) es
