-- What the trees of instructions are read with: a text and its tokens, and what names, types and constants stand for.
use Rattle.std.specs.Prelude.{ℕ, List, Option, nat_eq}
use Rattle.indexmap.specs.IndexMap.{get}
use Rattle.attr_ids.specs.declared.ids.TypeId.{TypeId}
use Rattle.ir_token.specs.declared.token.Token.{Token}
use Rattle.ir_tree.specs.declared.types.Ty.{Ty}
use Rattle.ir_tree.specs.declared.constants.Const.{Const}
use Rattle.ir_module.specs.declared.op.Written.{Written}
use Rattle.ir_scopes.specs.declared.slot.Entry.{Entry}
use Rattle.ir_scopes.specs.declared.faults.NameFault.{NameFault}
use Rattle.ir_type_names.specs.Numbers.{bit}
use Rattle.ir_type_names.specs.Tables.{table}
use Rattle.ir_operands.specs.declared.rule.Site.TheVariants.{Plain}
use Rattle.ir_consts.specs.Reading as constants
use Rattle.ir_consts.specs.Reading.{AreThere}
use Rattle.ir_consts.specs.Kinds.{kind_of}
use Rattle.ir_consts.specs.Consts.{const_of}
use Rattle.ir_consts.specs.Faults.{faults_of}
use Rattle.ir_instrs.specs.declared.source.Source.{Source}

-- the parts of constants that are laid so far
abbrev pub Parts : Type 0
Parts = List Written

pub record Reading : Type 0 where
  pub text : List ℕ
  pub toks : List Token
  -- the number of each token's name
  pub ids : List ℕ
  -- what each name of the body stands for
  pub named : ℕ → Option Entry
  -- the number of each type
  pub kind : Ty → TypeId
  -- the number of the type i1
  pub bit : TypeId
  -- a constant that is written at a type, and the parts of constants behind it, where these are laid before it
  pub const : Const → TypeId → Parts → Written × Parts
  -- the names in a constant that have no definition
  pub unknown : Const → List NameFault

-- the types of no value, and of pointers
abbrev pub void_type : TypeId
void_type = record { 0 = 0 }

abbrev pub pointer_type : TypeId
pointer_type = record { 0 = 1 }

-- what the constants of a body are read with, which stand alone
abbrev pub consts : Source → constants.Reading
consts s = record {
  text = s.text.now;
  toks = s.toks.now;
  ids = s.ids.now;
  symbol = get nat_eq s.symbols.now;
  kinds = kind_of s.kinds.now;
  types = s.types.now;
  numbers = s.numbers.now;
  site = Plain;
}

unfoldable pub reading : Source → Reading
reading s = record {
  text = s.text.now;
  toks = s.toks.now;
  ids = s.ids.now;
  named = get nat_eq s.names.now;
  kind = kind_of s.kinds.now;
  bit = record { 0 = bit (table s.kinds.now) };
  const = const_of (consts s);
  unknown = faults_of (consts s);
}

-- each written type is one of the table
abbrev pub IsSound : Source → Type 0
IsSound s = AreThere (consts s)
