-- Constants: what a tree stands for as an operand, and the parts that the module has behind it. The parts of an aggregate or
-- of a constant expression stand side by side and are laid when it ends, so the parts of its parts stand before them.
use Rattle.std.specs.Prelude.{ℕ, true, false, List, [], ◌∷◌, ◌++◌, length, Option, None, Some}
use Rattle.attr_ids.specs.declared.ids.TypeId.{TypeId}
use Rattle.ir_literals.specs.Integers.{literal_of}
use Rattle.ir_token.specs.Names.{unescaped}
use Rattle.ir_tree.specs.declared.constants.Gepflag.{Gepflag}
use Rattle.ir_tree.specs.declared.constants.Const.{Const}
use Rattle.ir_tree.specs.declared.constants.Tconst.{Tconst}
use Rattle.ir_tree.specs.declared.constants.Const.TheOpen.{Const-F, Tconst-F}
use Rattle.ir_tree.specs.declared.constants.Const.TheOpen.Const-F.{Int, True, False, Null, Undef, Poison, Zero, Global, CStr, Array, Struct, Packed}
use Rattle.ir_tree.specs.declared.constants.Const.TheOpen.Const-F.{GetElementPtr, Cast, Binop}
use Rattle.ir_tree.specs.declared.constants.Const.TheFolds.{fold-Const}
use Rattle.ir_module.specs.declared.op.Shape.{Shape}
use Rattle.ir_module.specs.declared.op.Shape.TheVariants as shape
use Rattle.ir_module.specs.declared.op.Operand.{Operand}
use Rattle.ir_module.specs.declared.op.Operand.TheVariants as operand
use Rattle.ir_module.specs.declared.op.Written.{Written}
use Rattle.ir_scopes.specs.declared.slot.Entry.{Entry}
use Rattle.ir_scopes.specs.declared.slot.Entry.TheVariants as entry
use Rattle.ir_operands.specs.declared.rule.ConstantRule.{ConstantRule}
use Rattle.ir_operands.specs.Types.{type_of}
use Rattle.ir_operands.specs.Constants.{number}
use Rattle.ir_consts.specs.Reading.{Reading, leaf_text, leaf_from, symbol_at, inside_of, width_in}
use Rattle.ir_consts.specs.Broken.{broken}
use Rattle.ir_consts.specs.Offsets.{address}

-- ---- one token
-- a function or a global, by what its name stands for; without a definition the first global
abbrev pub symbol_of : Option Entry → Operand
symbol_of (Some (entry.Global g)) = operand.Global g
symbol_of (Some (entry.Func f)) = operand.Func f
symbol_of _ = operand.Global (record { 0 = 0 })

-- a literal by its bits, where it fits its width
abbrev pub fitted : Option ℕ → Operand
fitted None = operand.Int 0 false
fitted (Some bits) = operand.Int bits true

-- a literal at a type of so many bits; at another type it has no bits, and no width to fit
abbrev pub literal_at : Option ℕ → List ℕ → Operand
literal_at None z = operand.Int 0 true
literal_at (Some width) z = fitted (literal_of width z)

-- a string of so many bytes, which has no parts in the list
abbrev pub string_of : List ℕ → Operand
string_of z = operand.Parts shape.Bytes 0 (length (unescaped (inside_of z)))

-- ---- with parts
-- what something comes to behind these parts, and the parts behind it
abbrev pub Behind : Type 0 → Type 0
Behind X = List Written → X × List Written

-- one behind the other
abbrev pub all_behind : List (Behind Written) → Behind (List Written)
all_behind [] parts = ([], parts)
all_behind (x ∷ xs) parts = ((x parts).0 ∷ (all_behind xs (x parts).1).0, (all_behind xs (x parts).1).1)

-- what names a run of so many parts from a number on: an aggregate of a form, or a constant expression
abbrev pub named : Option Shape → ℕ → ℕ → Operand
named None first count = operand.AnyInt first count
named (Some form) first count = operand.Parts form first count

-- a run of parts, laid behind those that are there, and what names it
abbrev pub laid : Option Shape → List Written × List Written → Operand × List Written
laid form own = (named form (length own.1) (length own.0), own.1 ++ own.0)

abbrev pub or_wrong : Operand → Option ConstantRule → Operand
or_wrong o None = o
or_wrong o (Some r) = operand.WrongOffset (number r)

-- a constant getelementptr of these operands: an address, or the least rule that it breaks
unfoldable pub offset_of : Reading → List Gepflag → TypeId → List Written → List Written → Operand
offset_of r flags elem operands parts = or_wrong (address r flags elem operands) (broken r.types r.numbers r.site parts elem operands)

-- a getelementptr has no parts of its own
abbrev pub offset : Reading → List Gepflag → TypeId → List Written × List Written → Operand × List Written
offset r flags elem own = (offset_of r flags elem own.0 own.1, own.1)

-- ---- all of them
-- an operand with its type, and the offset of its first token
abbrev pub placed : Reading → TypeId → ℕ → Operand → Written
placed r ty at o = record { val = o; ty = ty; at = leaf_from r at }

abbrev pub written : Reading → TypeId → ℕ → Operand × List Written → Written × List Written
written r ty at x = (placed r ty at x.0, x.1)

-- one layer of a constant at a type, once each part is read
abbrev pub const_layer : Reading → Const-F (TypeId → Behind Written) (Behind Written) → TypeId → Behind Written
const_layer r (Int at) ty parts = written r ty at (literal_at (width_in (type_of r.types ty)) (leaf_text r at), parts)
const_layer r (True at) ty parts = written r ty at (operand.Truth true, parts)
const_layer r (False at) ty parts = written r ty at (operand.Truth false, parts)
const_layer r (Null at) ty parts = written r ty at (operand.Null, parts)
const_layer r (Undef at) ty parts = written r ty at (operand.Undef, parts)
const_layer r (Poison at) ty parts = written r ty at (operand.Poison, parts)
const_layer r (Zero at) ty parts = written r ty at (operand.Zero, parts)
const_layer r (Global at) ty parts = written r ty at (symbol_of (symbol_at r at), parts)
const_layer r (CStr at) ty parts = written r ty at (string_of (leaf_text r at), parts)
const_layer r (Array at own) ty parts = written r ty at (laid (Some shape.Array) (all_behind own parts))
const_layer r (Struct at own) ty parts = written r ty at (laid (Some shape.Struct) (all_behind own parts))
const_layer r (Packed at own) ty parts = written r ty at (laid (Some shape.Packed) (all_behind own parts))
const_layer r (GetElementPtr at flags elem own) ty parts = written r ty at (offset r flags (r.kinds elem) (all_behind own parts))
const_layer r (Cast at of to) ty parts = written r ty at (laid None (all_behind (of ∷ []) parts))
const_layer r (Binop at flags left right) ty parts = written r ty at (laid None (all_behind (left ∷ right ∷ []) parts))

abbrev pub tconst_layer : Reading → Tconst-F (TypeId → Behind Written) (Behind Written) → Behind Written
tconst_layer r t = t.value (r.kinds t.ty)

-- a constant at a type, behind these parts
abbrev pub const_of : Reading → Const → TypeId → List Written → Written × List Written
const_of r = fold-Const (TypeId → Behind Written) (Behind Written) (const_layer r) (tconst_layer r)

-- a constant with its type before it
abbrev pub tconst_of : Reading → Tconst → List Written → Written × List Written
tconst_of r t = const_of r t.value (r.kinds t.ty)

-- constants, one behind the other
abbrev pub tconsts_of : Reading → List Tconst → List Written → List Written × List Written
tconsts_of r [] parts = ([], parts)
tconsts_of r (t ∷ ts) parts = ((tconst_of r t parts).0 ∷ (tconsts_of r ts (tconst_of r t parts).1).0, (tconsts_of r ts (tconst_of r t parts).1).1)
