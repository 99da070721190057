-- The productions of constants.
use Rattle.std.specs.Prelude.{ℕ, List, [], ◌∷◌}
use Rattle.ir_tree.specs.declared.terminal.Terminal.{Terminal}
use Rattle.ir_tree.specs.declared.terminal.Terminal.TheVariants as k
use Rattle.ir_tree.specs.declared.constants.Gepflag.{Gepflag}
use Rattle.ir_tree.specs.declared.constants.Gepflag.TheVariants.{Word, InRange}
use Rattle.ir_tree.specs.declared.constants.Const.{Const}
use Rattle.ir_tree.specs.declared.constants.Tconst.{Tconst}
use Rattle.ir_tree.specs.declared.constants.Const.TheOpen.{Const-F, Tconst-F}
use Rattle.ir_tree.specs.declared.constants.Const.TheOpen.Const-F.{Int, True, False, Null, Undef, Poison, Zero, Global, CStr, Array, Struct, Packed}
use Rattle.ir_tree.specs.declared.constants.Const.TheOpen.Const-F.{GetElementPtr, Cast, Binop}
use Rattle.ir_tree.specs.declared.constants.Const.TheFolds.{fold-Const}
use Rattle.ir_tree.specs.Steps.{Step, ◌⨾◌, the, leaf, one_of, many, some, next, separated}
use Rattle.ir_tree.specs.Types.{ty}

abbrev pub iflag : List Terminal → ℕ → Step
iflag toks = one_of toks (k.Nuw ∷ k.Iflag ∷ [])

abbrev pub gepflag : List Terminal → Gepflag → Step
gepflag toks (Word at) = one_of toks (k.Nuw ∷ k.Gepflag ∷ []) at
gepflag toks (InRange word from to) =
    leaf toks k.InRange word ⨾ the toks k.LeftParen ⨾ leaf toks k.Int from ⨾ the toks k.Comma ⨾ leaf toks k.Int to ⨾ the toks k.RightParen

-- one layer of a constant, once each part is a step
abbrev pub const_layer : List Terminal → Const-F Step Step → Step
const_layer toks (Int at) = leaf toks k.Int at
const_layer toks (True at) = leaf toks k.True at
const_layer toks (False at) = leaf toks k.False at
const_layer toks (Null at) = leaf toks k.Null at
const_layer toks (Undef at) = leaf toks k.Undef at
const_layer toks (Poison at) = leaf toks k.Poison at
const_layer toks (Zero at) = leaf toks k.Zero at
const_layer toks (Global at) = leaf toks k.Global at
const_layer toks (CStr at) = leaf toks k.CStr at
const_layer toks (Array start parts) = leaf toks k.LeftBracket start ⨾ separated toks (λ part. part) parts ⨾ the toks k.RightBracket
const_layer toks (Struct start parts) = leaf toks k.LeftBrace start ⨾ separated toks (λ part. part) parts ⨾ the toks k.RightBrace
const_layer toks (Packed start parts) =
    leaf toks k.Less start ⨾ the toks k.LeftBrace ⨾ separated toks (λ part. part) parts ⨾ the toks k.RightBrace ⨾ the toks k.Greater
const_layer toks (GetElementPtr op flags elem operands) =
    leaf toks k.GetElementPtr op ⨾ many (gepflag toks) flags ⨾ the toks k.LeftParen ⨾ ty toks elem ⨾ some (next toks (λ operand. operand)) operands ⨾ the toks
    k.RightParen
const_layer toks (Cast op of to) = leaf toks k.ConstCast op ⨾ the toks k.LeftParen ⨾ of ⨾ the toks k.To ⨾ ty toks to ⨾ the toks k.RightParen
const_layer toks (Binop op flags left right) =
    leaf toks k.ConstBinop op ⨾ many (iflag toks) flags ⨾ the toks k.LeftParen ⨾ left ⨾ the toks k.Comma ⨾ right ⨾ the toks k.RightParen

-- a type and a constant, once the constant is a step
abbrev pub tconst_layer : List Terminal → Tconst-F Step Step → Step
tconst_layer toks t = ty toks t.ty ⨾ t.value

abbrev pub const : List Terminal → Const → Step
const toks = fold-Const Step Step (const_layer toks) (tconst_layer toks)

abbrev pub tconst : List Terminal → Tconst → Step
tconst toks t = ty toks t.ty ⨾ const toks t.value
