-- Instructions, by their productions: what each does, what it names, its type, and its first token.
use Rattle.std.specs.Prelude.{ℕ, true, List, [], ◌∷◌, ◌++◌}
use Rattle.std.specs.List.{list_any}
use Rattle.attr_ids.specs.declared.ids.TypeId.{TypeId}
use Rattle.ir_tree.specs.declared.instructions.Instr.{Instr}
use Rattle.ir_tree.specs.declared.instructions.Instr.TheVariants as instr
use Rattle.ir_tree.specs.declared.instructions.Invoke.{Invoke}
use Rattle.ir_module.specs.declared.op.Op.{Op}
use Rattle.ir_module.specs.declared.op.Op.TheVariants as op
use Rattle.ir_instrs.specs.Reading.{Reading, Parts, void_type, pointer_type}
use Rattle.ir_instrs.specs.Uses.{Use}
use Rattle.ir_instrs.specs.Uses.Use.{Label}
use Rattle.ir_instrs.specs.Operands.{tvalue, tvalue_uses, optional_uses, label}
use Rattle.ir_instrs.specs.Ops.{pair_uses, binop, icmp, cast, select, select_uses, alloca, load, store, store_uses}
use Rattle.ir_instrs.specs.Ops.{arms_of, arms_uses, gep, tvalues_uses, clauses_of, clauses_uses, catches_all}
use Rattle.ir_attrs.specs.Places.{or_leaf}
use Rattle.ir_bodies.specs.Context.{Context}
use Rattle.ir_bodies.specs.Calls.{call_of, call_uses}

-- what an instruction does, behind these parts of constants
unfoldable pub op_of : Context → Parts → Instr → Op
op_of x ps (instr.Binop word flags t left right) = binop x.reading ps word flags t left right
op_of x ps (instr.Icmp i) = icmp x.reading ps i
op_of x ps (instr.Cast word flags of to) = cast x.reading ps word flags of
op_of x ps (instr.Select i) = select x.reading ps i
op_of x ps (instr.Freeze word of) = op.Freeze (tvalue x.reading ps of)
op_of x ps (instr.Phi word t arms) = op.Phi (arms_of x.reading ps (x.reading.kind t) arms)
op_of x ps (instr.Alloca i) = alloca x.reading ps i
op_of x ps (instr.Load word volatile t from align) = load x.reading ps volatile from align
op_of x ps (instr.Store i) = store x.reading ps i
op_of x ps (instr.GetElementPtr word flags elem operands) = gep x.reading ps flags elem operands
op_of x ps (instr.Call i) = op.Call (call_of x ps i.called)
op_of x ps (instr.Cleanup word t cleanup clauses) = op.LandingPad true (clauses_of x.reading ps clauses)
op_of x ps (instr.LandingPad word t clauses) = op.LandingPad (list_any (catches_all x.reading) clauses) (clauses_of x.reading ps clauses)

-- what an instruction names, in the order of the text
unfoldable pub uses_of : Reading → Instr → List Use
uses_of r (instr.Binop word flags t left right) = pair_uses (r.kind t) left right
uses_of r (instr.Icmp x) = pair_uses (r.kind x.ty) x.left x.right
uses_of r (instr.Cast word flags of to) = tvalue_uses r of
uses_of r (instr.Select x) = select_uses r x
uses_of r (instr.Freeze word of) = tvalue_uses r of
uses_of r (instr.Phi word t arms) = arms_uses (r.kind t) arms
uses_of r (instr.Alloca x) = optional_uses r x.count
uses_of r (instr.Load word volatile t from align) = tvalue_uses r from
uses_of r (instr.Store x) = store_uses r x
uses_of r (instr.GetElementPtr word flags elem operands) = tvalues_uses r operands
uses_of r (instr.Call x) = call_uses r x.called
uses_of r (instr.Cleanup word t cleanup clauses) = clauses_uses r clauses
uses_of r (instr.LandingPad word t clauses) = clauses_uses r clauses

-- the type of an instruction
unfoldable pub type_in : Reading → Instr → TypeId
type_in r (instr.Binop word flags t left right) = r.kind t
type_in r (instr.Icmp x) = r.bit
type_in r (instr.Cast word flags of to) = r.kind to
type_in r (instr.Select x) = r.kind x.yes.ty
type_in r (instr.Freeze word of) = r.kind of.ty
type_in r (instr.Phi word t arms) = r.kind t
type_in r (instr.Alloca x) = pointer_type
type_in r (instr.Load word volatile t from align) = r.kind t
type_in r (instr.Store x) = void_type
type_in r (instr.GetElementPtr word flags elem operands) = pointer_type
type_in r (instr.Call x) = r.kind x.called.callee.result
type_in r (instr.Cleanup word t cleanup clauses) = r.kind t
type_in r (instr.LandingPad word t clauses) = r.kind t

-- the first token of an instruction, behind a result name
unfoldable pub instr_first : Instr → ℕ
instr_first (instr.Binop word flags t left right) = word
instr_first (instr.Icmp x) = x.op
instr_first (instr.Cast word flags of to) = word
instr_first (instr.Select x) = x.op
instr_first (instr.Freeze word of) = word
instr_first (instr.Phi word t arms) = word
instr_first (instr.Alloca x) = x.op
instr_first (instr.Load word volatile t from align) = word
instr_first (instr.Store x) = x.op
instr_first (instr.GetElementPtr word flags elem operands) = word
instr_first (instr.Call x) = or_leaf x.op x.tail
instr_first (instr.Cleanup word t cleanup clauses) = word
instr_first (instr.LandingPad word t clauses) = word

-- what an invoke does, and what it names
abbrev pub invoke_of : Context → Parts → Invoke → Op
invoke_of x ps i = op.Invoke (call_of x ps i.called) (label x.reading i.normal) (label x.reading i.unwind)

abbrev pub invoke_uses : Reading → Invoke → List Use
invoke_uses r i = call_uses r i.called ++ (Label i.normal ∷ Label i.unwind ∷ [])
