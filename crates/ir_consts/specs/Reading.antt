-- What the trees of constants are read with.
use Rattle.std.specs.Prelude.{ℕ, ◌-◌, ◌<◌, List, [], length, Option, None, Some, nat_le, ◌&&◌, if◌then◌else◌, slice_get, slice_index, slice_range, take, drop}
use Rattle.attr_ids.specs.declared.ids.TypeId.{TypeId}
use Rattle.ir_token.specs.declared.token.Token.{Token}
use Rattle.ir_tree.specs.declared.types.Ty.{Ty}
use Rattle.ir_types.specs.declared.ir_type.IrType.{IrType}
use Rattle.ir_types.specs.declared.ir_type.IrType.TheVariants.{Int}
use Rattle.ir_scopes.specs.declared.slot.Entry.{Entry}
use Rattle.ir_operands.specs.declared.rule.Site.{Site}

-- the text and its tokens, the numbers of names, what the names of functions and globals stand for, the numbers of written
-- types, the types with their canonical numbers, and where the constant stands
pub record Reading : Type 0 where
  pub text : List ℕ
  pub toks : List Token
  pub ids : List ℕ
  pub symbol : ℕ → Option Entry
  pub kinds : Ty → TypeId
  pub types : List IrType
  pub numbers : List ℕ
  pub site : Site

-- each written type is one of the table
abbrev pub AreThere : Reading → Type 0
AreThere r = (ty : Ty) → (r.kinds ty).0 < length r.types

abbrev pub text_of : List ℕ → Option Token → List ℕ
text_of b None = []
text_of b (Some t) = slice_range b t.span.from t.span.to

-- the bytes of a leaf
abbrev pub leaf_text : Reading → ℕ → List ℕ
leaf_text r leaf = text_of r.text (slice_get r.toks leaf)

abbrev pub from_of : Option Token → ℕ
from_of None = 0
from_of (Some t) = t.span.from

-- the offset of a leaf
abbrev pub leaf_from : Reading → ℕ → ℕ
leaf_from r leaf = from_of (slice_get r.toks leaf)

-- what the name at a leaf stands for
abbrev pub symbol_at : Reading → ℕ → Option Entry
symbol_at r leaf = r.symbol (slice_index r.ids leaf)

-- what is between the quotes of `c".."`
abbrev pub inside_of : List ℕ → List ℕ
inside_of z = take (length z - 3) (drop 2 z)

-- the bits of an integer type of 1 to 64 bits
abbrev pub width_in : Option IrType → Option ℕ
width_in (Some (Int width)) = if nat_le 1 width && nat_le width 64 then Some width else None
width_in _ = None
