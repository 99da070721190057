-- The types that a module writes, in the order of the text, each with the first token of the instruction or of the entity in
-- which it stands. The parts of a type are not listed besides it.
use Rattle.std.specs.Prelude.{ℕ, List, [], ◌∷◌, ◌++◌, Option, None, Some}
use Rattle.std.specs.List.{flat_map}
use Rattle.ir_tree.specs.declared.types.Ty.{Ty}
use Rattle.ir_tree.specs.declared.types.Ftype.{Ftype}
use Rattle.ir_tree.specs.declared.types.Ftype.TheVariants as ftype_of
use Rattle.ir_tree.specs.declared.constants.Const.{Const}
use Rattle.ir_tree.specs.declared.constants.Tconst.{Tconst}
use Rattle.ir_tree.specs.declared.constants.Const.TheOpen.{Const-F, Tconst-F}
use Rattle.ir_tree.specs.declared.constants.Const.TheOpen.Const-F.{Array, Struct, Packed, GetElementPtr, Cast, Binop}
use Rattle.ir_tree.specs.declared.constants.Const.TheFolds.{fold-Const}
use Rattle.ir_tree.specs.declared.values.Value.{Value}
use Rattle.ir_tree.specs.declared.values.Value.TheVariants as value_of
use Rattle.ir_tree.specs.declared.values.Tvalue.{Tvalue}
use Rattle.ir_tree.specs.declared.instructions.Arg.{Arg}
use Rattle.ir_tree.specs.declared.instructions.Arm.{Arm}
use Rattle.ir_tree.specs.declared.instructions.Callee.{Callee}
use Rattle.ir_tree.specs.declared.instructions.Called.{Called}
use Rattle.ir_tree.specs.declared.instructions.Clause.{Clause}
use Rattle.ir_tree.specs.declared.instructions.Case.{Case}
use Rattle.ir_tree.specs.declared.instructions.Instr.{Instr}
use Rattle.ir_tree.specs.declared.instructions.Instr.TheVariants as instr_of
use Rattle.ir_tree.specs.declared.instructions.Term.{Term}
use Rattle.ir_tree.specs.declared.instructions.Term.TheVariants as term_of
use Rattle.ir_tree.specs.declared.headers.Param.{Param}
use Rattle.ir_tree.specs.declared.headers.Params.{Params}
use Rattle.ir_tree.specs.declared.headers.Params.TheVariants as params_of
use Rattle.ir_tree.specs.declared.headers.Ftail.{Ftail}
use Rattle.ir_tree.specs.declared.headers.Ftail.TheVariants as ftail_of
use Rattle.ir_tree.specs.declared.headers.Header.{Header}
use Rattle.ir_tree.specs.declared.blocks.Line.{Line}
use Rattle.ir_tree.specs.declared.blocks.Line.TheVariants as line_of
use Rattle.ir_tree.specs.declared.blocks.Last.{Last}
use Rattle.ir_tree.specs.declared.blocks.Last.TheVariants as last_of
use Rattle.ir_tree.specs.declared.blocks.Block.{Block}
use Rattle.ir_tree.specs.declared.blocks.Body.{Body}
use Rattle.ir_tree.specs.declared.entities.TypeBody.{TypeBody}
use Rattle.ir_tree.specs.declared.entities.TypeBody.TheVariants as body_of
use Rattle.ir_tree.specs.declared.entities.GlobalVar.{GlobalVar}
use Rattle.ir_tree.specs.declared.entities.Entity.{Entity}
use Rattle.ir_tree.specs.declared.entities.Entity.TheVariants as entity_of
use Rattle.ir_type_uses.specs.Uses.{Use}

module _ (at : ℕ) where
  abbrev pub ty : Ty → List Use
  ty t = (t, at) ∷ []

  abbrev pub optional : {X : Type 0} → (X → List Use) → Option X → List Use
  optional uses None = []
  optional uses (Some x) = uses x

  -- one layer of a constant, once the types of its parts are listed
  abbrev pub const_layer : Const-F (List Use) (List Use) → List Use
  const_layer (Array start parts) = flat_map (λ part. part) parts
  const_layer (Struct start parts) = flat_map (λ part. part) parts
  const_layer (Packed start parts) = flat_map (λ part. part) parts
  const_layer (GetElementPtr op flags elem operands) = ty elem ++ flat_map (λ operand. operand) operands
  const_layer (Cast op of to) = of ++ ty to
  const_layer (Binop op flags left right) = left ++ right
  const_layer _ = []

  abbrev pub tconst_layer : Tconst-F (List Use) (List Use) → List Use
  tconst_layer c = ty c.ty ++ c.value

  abbrev pub const : Const → List Use
  const = fold-Const (List Use) (List Use) const_layer tconst_layer

  abbrev pub tconst : Tconst → List Use
  tconst c = ty c.ty ++ const c.value

  abbrev pub value : Value → List Use
  value (value_of.Local name) = []
  value (value_of.Const c) = const c

  abbrev pub tvalue : Tvalue → List Use
  tvalue v = ty v.ty ++ value v.value

  -- the parameters of a written type of function
  abbrev pub ftype : Ftype → List Use
  ftype ftype_of.Empty = []
  ftype (ftype_of.Dots dots) = []
  ftype (ftype_of.Listed types dots) = flat_map ty types

  abbrev pub arg : Arg → List Use
  arg x = ty x.ty ++ value x.value

  abbrev pub callee : Callee → List Use
  callee x = ty x.result ++ (optional ftype x.params ++ value x.value)

  abbrev pub called : Called → List Use
  called x = callee x.callee ++ flat_map arg x.arguments.args

  abbrev pub arm : Arm → List Use
  arm x = value x.value

  abbrev pub clause : Clause → List Use
  clause x = tconst x.value

  abbrev pub instr : Instr → List Use
  instr (instr_of.Binop op flags kind left right) = ty kind ++ (value left ++ value right)
  instr (instr_of.Icmp x) = ty x.ty ++ (value x.left ++ value x.right)
  instr (instr_of.Cast op flags of to) = tvalue of ++ ty to
  instr (instr_of.Select x) = tvalue x.on ++ (tvalue x.yes ++ tvalue x.no)
  instr (instr_of.Freeze op of) = tvalue of
  instr (instr_of.Phi op kind arms) = ty kind ++ flat_map arm arms
  instr (instr_of.Alloca x) = ty x.ty ++ optional tvalue x.count
  instr (instr_of.Load op hidden kind from align) = ty kind ++ tvalue from
  instr (instr_of.Store x) = tvalue x.value ++ tvalue x.to
  instr (instr_of.GetElementPtr op flags elem operands) = ty elem ++ flat_map tvalue operands
  instr (instr_of.Call x) = called x.called
  instr (instr_of.Cleanup op kind cleanup clauses) = ty kind ++ flat_map clause clauses
  instr (instr_of.LandingPad op kind clauses) = ty kind ++ flat_map clause clauses

  -- the types of a select, and of an instruction that speaks of memory
  abbrev pub access : Instr → List Use
  access (instr_of.Select x) = instr (instr_of.Select x)
  access (instr_of.Alloca x) = instr (instr_of.Alloca x)
  access (instr_of.Load op hidden kind from align) = instr (instr_of.Load op hidden kind from align)
  access (instr_of.Store x) = instr (instr_of.Store x)
  access (instr_of.GetElementPtr op flags elem operands) = instr (instr_of.GetElementPtr op flags elem operands)
  access _ = []

  abbrev pub case : Case → List Use
  case x = ty x.ty

  abbrev pub term : Term → List Use
  term (term_of.RetVoid op) = []
  term (term_of.Ret op of) = tvalue of
  term (term_of.Jump op to) = []
  term (term_of.Branch op on taken other) = tvalue on
  term (term_of.Switch x) = tvalue x.on ++ flat_map case x.cases
  term (term_of.Unreachable op) = []
  term (term_of.Resume op of) = tvalue of

  abbrev pub param : Param → List Use
  param x = ty x.ty

  abbrev pub params : Params → List Use
  params params_of.Empty = []
  params (params_of.Dots dots) = []
  params (params_of.Listed all dots) = flat_map param all

  abbrev pub tail : Ftail → List Use
  tail (ftail_of.Extra word c) = tconst c
  tail _ = []

  abbrev pub header : Header → List Use
  header x = ty x.result ++ (params x.params ++ flat_map tail x.tails)

  abbrev pub type_body : TypeBody → List Use
  type_body (body_of.Ty t) = ty t
  type_body (body_of.Opaque word) = []

-- the first token of an instruction: its name is one, where it is written
abbrev pub first_of : Option ℕ → ℕ → ℕ
first_of None op = op
first_of (Some name) op = name

-- the token of an instruction that names its operation, or stands before it
abbrev pub instr_first : Instr → ℕ
instr_first (instr_of.Binop op flags kind left right) = op
instr_first (instr_of.Icmp x) = x.op
instr_first (instr_of.Cast op flags of to) = op
instr_first (instr_of.Select x) = x.op
instr_first (instr_of.Freeze op of) = op
instr_first (instr_of.Phi op kind arms) = op
instr_first (instr_of.Alloca x) = x.op
instr_first (instr_of.Load op hidden kind from align) = op
instr_first (instr_of.Store x) = x.op
instr_first (instr_of.GetElementPtr op flags elem operands) = op
instr_first (instr_of.Call x) = first_of x.tail x.op
instr_first (instr_of.Cleanup op kind cleanup clauses) = op
instr_first (instr_of.LandingPad op kind clauses) = op

abbrev pub term_first : Term → ℕ
term_first (term_of.RetVoid op) = op
term_first (term_of.Ret op of) = op
term_first (term_of.Jump op to) = op
term_first (term_of.Branch op on taken other) = op
term_first (term_of.Switch x) = x.op
term_first (term_of.Unreachable op) = op
term_first (term_of.Resume op of) = op

abbrev pub line : Line → List Use
line (line_of.Opaque word) = []
line (line_of.Instr name x attached) = instr (first_of name (instr_first x)) x

abbrev pub last : Last → List Use
last (last_of.Term x attached after) = term (term_first x) x
last (last_of.Invoke name x attached after) = called (first_of name x.op) x.called

abbrev pub block : Block → List Use
block b = flat_map line b.lines ++ last b.last

abbrev pub body : Body → List Use
body b = (flat_map line b.first.lines ++ last b.first.last) ++ flat_map block b.blocks

abbrev pub global : GlobalVar → List Use
global x = ty x.name x.ty ++ optional x.name (const x.name) x.initial

-- a named type's content, and what globals and functions write
abbrev pub entity : Entity → List Use
entity (entity_of.Named name b) = type_body name b
entity (entity_of.GlobalVar x) = global x
entity (entity_of.Declare x) = header x.word x.header
entity (entity_of.Define x) = header x.word x.header ++ body x.body
entity _ = []

abbrev pub written : List Entity → List Use
written es = flat_map entity es
