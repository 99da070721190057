-- The productions of instructions and terminators.
use Rattle.std.specs.Prelude.{ℕ, List, [], ◌∷◌, Option}
use Rattle.ir_tree.specs.declared.terminal.Terminal.{Terminal}
use Rattle.ir_tree.specs.declared.terminal.Terminal.TheVariants as k
use Rattle.ir_tree.specs.declared.instructions.Arm.{Arm}
use Rattle.ir_tree.specs.declared.instructions.Arg.{Arg}
use Rattle.ir_tree.specs.declared.instructions.Callee.{Callee}
use Rattle.ir_tree.specs.declared.instructions.Arguments.{Arguments}
use Rattle.ir_tree.specs.declared.instructions.Called.{Called}
use Rattle.ir_tree.specs.declared.instructions.Call.{Call}
use Rattle.ir_tree.specs.declared.instructions.Clause.{Clause}
use Rattle.ir_tree.specs.declared.instructions.Instr.{Instr}
use Rattle.ir_tree.specs.declared.instructions.Instr.TheVariants as instr_of
use Rattle.ir_tree.specs.declared.instructions.Invoke.{Invoke}
use Rattle.ir_tree.specs.declared.instructions.Case.{Case}
use Rattle.ir_tree.specs.declared.instructions.Term.{Term}
use Rattle.ir_tree.specs.declared.instructions.Term.TheVariants as term_of
use Rattle.ir_tree.specs.Steps.{Step, ◌⨾◌, the, leaf, one_of, many, some, optional, next, listed, separated, stands, where_not}
use Rattle.ir_tree.specs.Types.{ty, ftype}
use Rattle.ir_tree.specs.Constants.{iflag, gepflag, tconst}
use Rattle.ir_tree.specs.Values.{value, tvalue}
use Rattle.ir_tree.specs.Attributes.{rattr, word, cc}

abbrev pub binop : List Terminal → ℕ → Step
binop toks = one_of toks (k.ConstBinop ∷ k.Binop ∷ [])

abbrev pub castop : List Terminal → ℕ → Step
castop toks = one_of toks (k.ConstCast ∷ k.Cast ∷ [])

abbrev pub volatile : List Terminal → Option ℕ → Step
volatile toks = optional (leaf toks k.Volatile)

-- `[',' 'align' Int]`
abbrev pub alignment : List Terminal → Option ℕ → Step
alignment toks = optional (next toks (λ bytes. the toks k.Align ⨾ leaf toks k.Int bytes))

-- `'label' Local`
abbrev pub target : List Terminal → ℕ → Step
target toks name = the toks k.LabelWord ⨾ leaf toks k.Local name

abbrev pub arm : List Terminal → Arm → Step
arm toks x = the toks k.LeftBracket ⨾ value toks x.value ⨾ the toks k.Comma ⨾ leaf toks k.Local x.from ⨾ the toks k.RightBracket

abbrev pub arg : List Terminal → Arg → Step
arg toks x = ty toks x.ty ⨾ many (rattr toks) x.words ⨾ value toks x.value

abbrev pub clause : List Terminal → Clause → Step
clause toks x = leaf toks k.ClauseWord x.word ⨾ tconst toks x.value

-- what is called: `[cc] rattr* (type | ftype) value`
abbrev pub callee : List Terminal → Callee → Step
callee toks x = optional (cc toks) x.cc ⨾ many (rattr toks) x.result_words ⨾ ty toks x.result ⨾ optional (ftype toks) x.params ⨾ value toks x.value

-- what is passed to it: `'(' arg,* ')' (fattr | Group)*`
abbrev pub arguments : List Terminal → Arguments → Step
arguments toks x = the toks k.LeftParen ⨾ separated toks (arg toks) x.args ⨾ leaf toks k.RightParen x.close ⨾ many (word toks) x.attributes

-- what a call and an invoke have in common
abbrev pub called : List Terminal → Called → Step
called toks x = callee toks x.callee ⨾ arguments toks x.arguments

abbrev pub call : List Terminal → Call → Step
call toks x = optional (leaf toks k.Tail) x.tail ⨾ leaf toks k.Call x.op ⨾ called toks x.called

abbrev pub instr : List Terminal → Instr → Step
instr toks (instr_of.Binop op flags kind left right) =
    binop toks op ⨾ many (iflag toks) flags ⨾ ty toks kind ⨾ value toks left ⨾ the toks k.Comma ⨾ value toks right
instr toks (instr_of.Icmp x) = leaf toks k.Icmp x.op ⨾ many (iflag toks) x.flags ⨾ leaf toks k.Pred x.pred ⨾ ty toks x.ty ⨾ value toks x.left ⨾ the toks k.Comma
    ⨾ value toks x.right
instr toks (instr_of.Cast op flags of to) = castop toks op ⨾ many (iflag toks) flags ⨾ tvalue toks of ⨾ the toks k.To ⨾ ty toks to
instr toks (instr_of.Select x) = leaf toks k.Select x.op ⨾ tvalue toks x.on ⨾ the toks k.Comma ⨾ tvalue toks x.yes ⨾ the toks k.Comma ⨾ tvalue toks x.no
instr toks (instr_of.Freeze op of) = leaf toks k.Freeze op ⨾ tvalue toks of
instr toks (instr_of.Phi op kind arms) = leaf toks k.Phi op ⨾ ty toks kind ⨾ listed toks (arm toks) arms
instr toks (instr_of.Alloca x) = leaf toks k.Alloca x.op ⨾ ty toks x.ty ⨾ optional (next toks (tvalue toks)) x.count ⨾ alignment toks x.align
instr toks (instr_of.Load op hidden kind from align) =
    leaf toks k.Load op ⨾ volatile toks hidden ⨾ ty toks kind ⨾ the toks k.Comma ⨾ tvalue toks from ⨾ alignment toks align
instr toks (instr_of.Store x) =
    leaf toks k.Store x.op ⨾ volatile toks x.volatile ⨾ tvalue toks x.value ⨾ the toks k.Comma ⨾ tvalue toks x.to ⨾ alignment toks x.align
instr toks (instr_of.GetElementPtr op flags elem operands) =
    leaf toks k.GetElementPtr op ⨾ many (gepflag toks) flags ⨾ ty toks elem ⨾ some (next toks (tvalue toks)) operands
instr toks (instr_of.Call x) = call toks x
instr toks (instr_of.Cleanup op kind cleanup clauses) = leaf toks k.LandingPad op ⨾ ty toks kind ⨾ leaf toks k.Cleanup cleanup ⨾ many (clause toks) clauses
instr toks (instr_of.LandingPad op kind clauses) = leaf toks k.LandingPad op ⨾ ty toks kind ⨾ some (clause toks) clauses

abbrev pub invoke : List Terminal → Invoke → Step
invoke toks x = leaf toks k.Invoke x.op ⨾ called toks x.called ⨾ the toks k.To ⨾ target toks x.normal ⨾ the toks k.Unwind ⨾ target toks x.unwind

abbrev pub case : List Terminal → Case → Step
case toks x = ty toks x.ty ⨾ leaf toks k.Int x.value ⨾ the toks k.Comma ⨾ target toks x.to

-- a terminator; what `ret` gives back has a type other than void
abbrev pub term : List Terminal → Term → Step
term toks (term_of.RetVoid op) = leaf toks k.Ret op ⨾ the toks k.Void
term toks (term_of.Ret op of) = leaf toks k.Ret op ⨾ where_not (stands toks k.Void) (tvalue toks of)
term toks (term_of.Jump op to) = leaf toks k.Br op ⨾ target toks to
term toks (term_of.Branch op on taken other) = leaf toks k.Br op ⨾ tvalue toks on ⨾ the toks k.Comma ⨾ target toks taken ⨾ the toks k.Comma ⨾ target toks other
term toks (term_of.Switch x) = leaf toks k.Switch x.op ⨾ tvalue toks x.on ⨾ the toks k.Comma ⨾ target toks x.other ⨾ the toks k.LeftBracket ⨾ many (case toks)
    x.cases ⨾ the toks k.RightBracket
term toks (term_of.Unreachable op) = leaf toks k.Unreachable op
term toks (term_of.Resume op of) = leaf toks k.Resume op ⨾ tvalue toks of
