-- The productions of types.
use Rattle.std.specs.Prelude.{List, Some}
use Rattle.ir_tree.specs.declared.terminal.Terminal.{Terminal}
use Rattle.ir_tree.specs.declared.terminal.Terminal.TheVariants as k
use Rattle.ir_tree.specs.declared.types.Ty.{Ty}
use Rattle.ir_tree.specs.declared.types.Ty.TheOpen.{Ty-F}
use Rattle.ir_tree.specs.declared.types.Ty.TheOpen.Ty-F.{Void, Int, Ptr, Array, Struct, Packed, Named}
use Rattle.ir_tree.specs.declared.types.Ty.TheFolds.{fold-Ty}
use Rattle.ir_tree.specs.declared.types.Ftype.{Ftype}
use Rattle.ir_tree.specs.declared.types.Ftype.TheVariants.{Empty, Dots, Listed}
use Rattle.ir_tree.specs.Steps.{Step, ◌⨾◌, the, leaf, optional, next, listed, separated}

-- one layer of a type, once each part is a step
abbrev pub type_layer : List Terminal → Ty-F Step → Step
type_layer toks (Void at) = leaf toks k.Void at
type_layer toks (Int at) = leaf toks k.IntType at
type_layer toks (Ptr at) = leaf toks k.Ptr at
type_layer toks (Array start count elem) = leaf toks k.LeftBracket start ⨾ leaf toks k.Int count ⨾ the toks k.Times ⨾ elem ⨾ the toks k.RightBracket
type_layer toks (Struct start parts) = leaf toks k.LeftBrace start ⨾ separated toks (λ part. part) parts ⨾ the toks k.RightBrace
type_layer toks (Packed start parts) =
    leaf toks k.Less start ⨾ the toks k.LeftBrace ⨾ separated toks (λ part. part) parts ⨾ the toks k.RightBrace ⨾ the toks k.Greater
type_layer toks (Named name) = leaf toks k.Local name

abbrev pub ty : List Terminal → Ty → Step
ty toks = fold-Ty Step (type_layer toks)

-- the parameters of a written type of function
abbrev pub types : List Terminal → Ftype → Step
types toks Empty = Some
types toks (Dots at) = leaf toks k.Dots at
types toks (Listed all dots) = listed toks (ty toks) all ⨾ optional (next toks (leaf toks k.Dots)) dots

abbrev pub ftype : List Terminal → Ftype → Step
ftype toks f = the toks k.LeftParen ⨾ types toks f ⨾ the toks k.RightParen
