-- What a module is read with. Its names, types and groups follow from the text, the tokens and the entities.
use Rattle.std.specs.Prelude.{ℕ, Bool, false, List, Option, Some, slice_get, slice_index}
use Rattle.attr_ids.specs.declared.ids.TypeId.{TypeId}
use Rattle.ir_token.specs.declared.token.Token.{Token}
use Rattle.ir_names.specs.Ids.{name_ids}
use Rattle.ir_tree.specs.declared.types.Ty.{Ty}
use Rattle.ir_tree.specs.declared.attributes.Fattr.{Fattr}
use Rattle.ir_tree.specs.declared.entities.Entity.{Entity}
use Rattle.ir_types.specs.declared.ir_type.IrType.{IrType}
use Rattle.ir_attrs.specs.Functions.{group_in}
use Rattle.ir_scopes.specs.declared.slot.Counts.{Counts}
use Rattle.ir_scopes.specs.declared.slot.Entry.{Entry}
use Rattle.ir_scopes.specs.declared.slot.Entry.TheVariants as entry
use Rattle.ir_scopes.specs.declared.top.Space.{Space}
use Rattle.ir_scopes.specs.declared.top.Space.TheVariants.{Symbols, Types}
use Rattle.ir_scopes.specs.Markers.{is_void_type}
use Rattle.ir_scopes.specs.Scopes.{definitions, find}
use Rattle.ir_scopes.specs.Slots.{top_slots}
use Rattle.ir_type_names.specs.Reading as type_names
use Rattle.ir_type_names.specs.Numbers.{Table, type_id, table_of, bit}
use Rattle.ir_type_names.specs.Contents.{types_of}
use Rattle.ir_operands.specs.declared.rule.Site.{Site}
use Rattle.ir_operands.specs.declared.rule.Site.TheVariants.{Plain}
use Rattle.ir_consts.specs.Reading as consts
use Rattle.ir_consts.specs.Consts.{const_of}
use Rattle.ir_consts.specs.Faults as const_faults
use Rattle.ir_bodies.specs.Context.{Context}

-- the bytes, their tokens, the entities of their tree, and a canonical number for each type of the module
pub record Input : Type 0 where
  pub text : List ℕ
  pub toks : List Token
  pub entities : List Entity
  pub numbers : List ℕ

-- the things of a module are counted from 0, but its named types from 2, behind `void` and `ptr`
abbrev pub start : Counts
start = record { values = 0; blocks = 0; globals = 0; funcs = 0; types = 2; groups = 0; counter = 0 }

-- what the names of a space stand for
abbrev pub named_in : List ℕ → Space → List Entity → ℕ → Option Entry
named_in ids s es = find (definitions ids start (top_slots s es))

-- the names of a module: the number of each token's name, and what the names of types, and of functions and globals, stand for
pub record Names : Type 0 where
  pub text : List ℕ
  pub toks : List Token
  pub entities : List Entity
  pub ids : List ℕ
  pub types : ℕ → Option Entry
  pub symbols : ℕ → Option Entry

abbrev pub names : Input → Names
names x = record {
  text = x.text;
  toks = x.toks;
  entities = x.entities;
  ids = name_ids x.text x.toks;
  types = named_in (name_ids x.text x.toks) Types x.entities;
  symbols = named_in (name_ids x.text x.toks) Symbols x.entities;
}

-- what the types of a tree are read with
abbrev pub type_reading : Names → type_names.Reading
type_reading n = record { text = n.text; toks = n.toks; entry = λ leaf. n.types (slice_index n.ids leaf) }

-- the numbers of types, and the types of the module
abbrev pub table_in : Names → Table
table_in n = table_of (type_reading n) n.entities

abbrev pub types_in : Names → List IrType
types_in n = types_of (table_in n) n.entities

abbrev pub table : Input → Table
table x = table_in (names x)

abbrev pub types : Input → List IrType
types x = types_in (names x)

-- what the entities of a module are read with: the numbers of names, and what names, types and groups stand for
pub record Setting : Type 0 where
  pub text : List ℕ
  pub toks : List Token
  pub ids : List ℕ
  -- what the names of functions and globals stand for
  pub symbol : ℕ → Option Entry
  -- the numbers of types; the types themselves, with canonical numbers; and the names of those whose content is void
  pub table : Table
  pub types : List IrType
  pub numbers : List ℕ
  pub void : ℕ → Bool
  -- the attributes of each group
  pub groups : ℕ → Option (List Fattr)

-- the name stands for a type whose content is void
abbrev pub is_void_entry : List IrType → Option Entry → Bool
is_void_entry types (Some (entry.Type t)) = is_void_type (slice_get types t.0)
is_void_entry types _ = false

-- what they are read with that have these names, with these canonical numbers of types
abbrev pub setting_in : Names → List ℕ → Setting
setting_in n numbers = record {
  text = n.text;
  toks = n.toks;
  ids = n.ids;
  symbol = n.symbols;
  table = table_in n;
  types = types_in n;
  numbers = numbers;
  void = λ name. is_void_entry (types_in n) (n.types name);
  groups = group_in n.ids n.entities;
}

abbrev pub setting : Input → Setting
setting x = setting_in (names x) x.numbers

abbrev pub kind : Table → Ty → TypeId
kind t ty = record { 0 = type_id t ty }

-- what constants are read with, at a site
abbrev pub at_site : Site → Setting → consts.Reading
at_site s x = record {
  text = x.text;
  toks = x.toks;
  ids = x.ids;
  symbol = x.symbol;
  kinds = kind x.table;
  types = x.types;
  numbers = x.numbers;
  site = s;
}

-- what a function is read with, whose values and blocks have these names
abbrev pub context : Setting → (ℕ → Option Entry) → Context
context x named = record {
  reading = record {
    text = x.text;
    toks = x.toks;
    ids = x.ids;
    named = named;
    kind = kind x.table;
    bit = record { 0 = bit x.table };
    const = const_of (at_site Plain x);
    unknown = const_faults.faults_of (at_site Plain x);
  };
  void = x.void;
  groups = x.groups;
}
