-- Terminators, each from its production, with what it names and its first token.
use Rattle.std.specs.Prelude.{ℕ, List, [], ◌∷◌, ◌++◌, None, Some}
use Rattle.std.specs.List.{flat_map}
use Rattle.ir_tree.specs.declared.values.Value.TheVariants as value
use Rattle.ir_tree.specs.declared.values.Tvalue.{Tvalue}
use Rattle.ir_tree.specs.declared.constants.Const.{Const}
use Rattle.ir_tree.specs.declared.constants.Const.TheVariants as const_of
use Rattle.ir_tree.specs.declared.instructions.Term.{Term}
use Rattle.ir_tree.specs.declared.instructions.Term.TheVariants as term
use Rattle.ir_tree.specs.declared.instructions.Switch.{Switch}
use Rattle.ir_tree.specs.declared.instructions.Case as tree_case
use Rattle.ir_module.specs.declared.op.Op.{Op}
use Rattle.ir_module.specs.declared.op.Op.TheVariants as op
use Rattle.ir_module.specs.declared.op.Case.{Case}
use Rattle.ir_instrs.specs.Reading.{Reading, Parts}
use Rattle.ir_instrs.specs.Uses.{Use, behind, each}
use Rattle.ir_instrs.specs.Uses.Use.{Typed, Label}
use Rattle.ir_instrs.specs.Operands.{tvalue, tvalue_uses, written, label}

-- the literal of a case
abbrev pub literal : tree_case.Case → Const
literal x = const_of.Int x.value

abbrev pub case_uses : Reading → tree_case.Case → List Use
case_uses r x = Typed (r.kind x.ty) (value.Const (literal x)) ∷ Label x.to ∷ []

abbrev pub case_of : Reading → Parts → tree_case.Case → Case
case_of r ps x = record { val = written r ps (r.kind x.ty) (value.Const (literal x)); to = label r x.to }

abbrev pub cases_uses : Reading → List tree_case.Case → List Use
cases_uses r cases = flat_map (case_uses r) cases

abbrev pub cases_of : Reading → Parts → List tree_case.Case → List Case
cases_of r ps cases = each r (case_of r) (case_uses r) ps cases

abbrev pub switch_uses : Reading → Switch → List Use
switch_uses r x = tvalue_uses r x.on ++ (Label x.other ∷ [] ++ cases_uses r x.cases)

abbrev pub switch : Reading → Parts → Switch → Op
switch r ps x = op.Switch (tvalue r ps x.on) (label r x.other) (cases_of r (behind r ps (tvalue_uses r x.on ++ Label x.other ∷ [])) x.cases)

abbrev pub branch_uses : Reading → Tvalue → ℕ → ℕ → List Use
branch_uses r on taken other = tvalue_uses r on ++ (Label taken ∷ Label other ∷ [])

abbrev pub branch : Reading → Parts → Tvalue → ℕ → ℕ → Op
branch r ps on taken other = op.Branch (tvalue r ps on) (label r taken) (label r other)

abbrev pub ret : Reading → Parts → Tvalue → Op
ret r ps of = op.Ret (Some (tvalue r ps of))

-- what a terminator does, behind these parts of constants
unfoldable pub term_of : Reading → Parts → Term → Op
term_of r ps (term.RetVoid at) = op.Ret None
term_of r ps (term.Ret at of) = ret r ps of
term_of r ps (term.Jump at to) = op.Jump (label r to)
term_of r ps (term.Branch at on taken other) = branch r ps on taken other
term_of r ps (term.Switch x) = switch r ps x
term_of r ps (term.Unreachable at) = op.Unreachable
term_of r ps (term.Resume at of) = op.Resume (tvalue r ps of)

unfoldable pub term_uses : Reading → Term → List Use
term_uses r (term.RetVoid at) = []
term_uses r (term.Ret at of) = tvalue_uses r of
term_uses r (term.Jump at to) = Label to ∷ []
term_uses r (term.Branch at on taken other) = branch_uses r on taken other
term_uses r (term.Switch x) = switch_uses r x
term_uses r (term.Unreachable at) = []
term_uses r (term.Resume at of) = tvalue_uses r of

unfoldable pub term_first : Term → ℕ
term_first (term.RetVoid at) = at
term_first (term.Ret at of) = at
term_first (term.Jump at to) = at
term_first (term.Branch at on taken other) = at
term_first (term.Switch x) = x.op
term_first (term.Unreachable at) = at
term_first (term.Resume at of) = at
