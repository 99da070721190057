-- The module of a text, and what is wrong with the names of a text.
use Rattle.std.specs.Prelude.{◌≡◌, ℕ, zero, suc, ◌+◌, List, [], ◌∷◌, ◌++◌, map, length, None, Some}
use Rattle.ir_token.specs.declared.token.Token.{Token}
use Rattle.ir_tree.specs.declared.entities.Tree.{Tree}
use Rattle.ir_type_equality.specs.Numbers.{AreCanonical}
use Rattle.ir_module.specs.declared.module.Module.{Module}
use Rattle.attr_ids.specs.declared.insertion.Span.{Span}
use Rattle.ir_attrs.specs.Leaves.{leaf_from, leaf_to}
use Rattle.ir_scopes.specs.declared.faults.Cause.{Cause}
use Rattle.ir_scopes.specs.declared.faults.NameFault.{NameFault}
use Rattle.ir_scopes.specs.declared.top.Space.TheVariants.{Symbols, Types, Groups}
use Rattle.ir_scopes.specs.Faults.{first_in}
use Rattle.ir_scopes.specs.Scopes.{repeats}
use Rattle.ir_scopes.specs.Slots.{top_slots}
use Rattle.ir_type_names.specs.Numbers.{Table}
use Rattle.ir_tree.specs.declared.entities.Entity.{Entity}
use Rattle.ir_type_names.specs.Places.{type_at}
use Rattle.ir_type_names.specs.Unknown.{unknown_types}
use Rattle.ir_resolve.specs.Inputs.{Input, Setting, start, types, setting}
use Rattle.ir_resolve.specs.Entities.{nothing, behind_all, each_entity, globals_at, funcs_at, blocks_at, segs_at, values_at, entity_faults}

-- the numbers from one on, so many
abbrev pub numbers_from : ℕ → ℕ → List ℕ
numbers_from k zero = []
numbers_from k (suc n) = k ∷ numbers_from (k + 1) n

-- for each type the least offset of a place at which it is written
abbrev pub places_of : Table → List Entity → ℕ → List ℕ
places_of t es count = map (type_at t es) (numbers_from 0 count)

-- the module of these entities
abbrev pub module_with : Setting → List Entity → Module
module_with x es = record {
  types = x.types;
  globals = each_entity x (globals_at x) nothing es;
  funcs = each_entity x (funcs_at x) nothing es;
  blocks = each_entity x (blocks_at x) nothing es;
  segs = each_entity x (segs_at x) nothing es;
  values = each_entity x (values_at x) nothing es;
  parts = (behind_all x nothing es).laid;
  type_at = places_of x.table es (length x.types);
}

-- the module of a text
unfoldable pub module_of : Input → Module
module_of x = module_with (setting x) x.entities

-- second definitions of names of types, of groups, and of functions and globals
abbrev pub top_faults : List ℕ → List Entity → List NameFault
top_faults ids es = repeats ids [] start (top_slots Types es)
    ++ (repeats ids [] start (top_slots Groups es) ++ repeats ids [] start (top_slots Symbols es))

-- names of types, values, blocks, functions, globals and groups that have no definition; second definitions in bodies; lifetime
-- names that are defined otherwise; data layouts that are not read
abbrev pub inner_faults : Setting → List Entity → List NameFault
inner_faults x es = unknown_types x.table.names es ++ each_entity x (entity_faults x) nothing es

-- everything that is wrong with the names of these entities
abbrev pub faults_with : Setting → List Entity → List NameFault
faults_with x es = top_faults x.ids es ++ inner_faults x es

unfoldable pub faults_of : Input → List NameFault
faults_of x = faults_with (setting x) x.entities

-- the text, its tokens and its tree, and canonical numbers of the types that it writes
abbrev pub input : List ℕ → List Token → Tree → List ℕ → Input
input b toks tree numbers = record { text = b; toks = toks; entities = tree.entities; numbers = numbers }

-- the module is that of the tree over these bytes, by some canonical numbers of its types, and no name is amiss. Where no type is nested
-- too deep, one module at most is resolved: all canonical numbers then tell the same types apart
pub record Resolved (b : List ℕ) (toks : List Token) (tree : Tree) (m : Module) : Type 0 where
  pub numbers : List ℕ
  pub canonical : AreCanonical (types (input b toks tree numbers)) numbers
  pub is : m ≡ module_of (input b toks tree numbers)
  pub faultless : faults_of (input b toks tree numbers) ≡ []

-- this fault stands first in the text. No canonical numbers of types have a say in that
pub record IsFirstFault (b : List ℕ) (toks : List Token) (tree : Tree) (fault : NameFault) : Type 0 where
  pub numbers : List ℕ
  pub canonical : AreCanonical (types (input b toks tree numbers)) numbers
  pub first : first_in None (faults_of (input b toks tree numbers)) ≡ Some fault

abbrev pub fault : Cause → ℕ → NameFault
fault cause at = record { cause = cause; at = at }

-- the span of a token, and its offset
abbrev pub span_at : List Token → ℕ → Span
span_at toks at = record { from = leaf_from toks at; to = leaf_to toks at }

abbrev pub offset_at : List Token → ℕ → ℕ
offset_at toks at = leaf_from toks at
