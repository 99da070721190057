-- Instructions that are no calls, each from its production, with what it names in the order of the text.
use Rattle.std.specs.Prelude.{ℕ, Bool, true, false, not, ◌&&◌, ◌||◌, ◌==◌, List, [], ◌∷◌, ◌++◌, length, drop, codes, Option, None, Some}
use Rattle.std.specs.List.{list_any, flat_map}
use Rattle.std.specs.Option.{is_some}
use Rattle.std.specs.Str.{bytes_eq}
use Rattle.attr_ids.specs.declared.ids.TypeId.{TypeId}
use Rattle.ir_tree.specs.declared.types.Ty.{Ty}
use Rattle.ir_tree.specs.declared.values.Value.{Value}
use Rattle.ir_tree.specs.declared.values.Tvalue.{Tvalue}
use Rattle.ir_tree.specs.declared.constants.Const.{Const}
use Rattle.ir_tree.specs.declared.constants.Const.TheVariants as const
use Rattle.ir_tree.specs.declared.constants.Gepflag.{Gepflag}
use Rattle.ir_tree.specs.declared.constants.Gepflag.TheVariants as gepflag
use Rattle.ir_tree.specs.declared.instructions.Icmp.{Icmp}
use Rattle.ir_tree.specs.declared.instructions.Select.{Select}
use Rattle.ir_tree.specs.declared.instructions.Store.{Store}
use Rattle.ir_tree.specs.declared.instructions.Alloca.{Alloca}
use Rattle.ir_tree.specs.declared.instructions.Arm as tree_arm
use Rattle.ir_tree.specs.declared.instructions.Clause as tree_clause
use Rattle.ir_module.specs.declared.op.Op.{Op}
use Rattle.ir_module.specs.declared.op.Op.TheVariants as op
use Rattle.ir_module.specs.declared.op.Arm.{Arm}
use Rattle.ir_module.specs.declared.op.Clause.{Clause}
use Rattle.ir_module.specs.declared.op.Operand.TheVariants.{Poison}
use Rattle.ir_module.specs.declared.op.Written.{Written}
use Rattle.ir_instrs.specs.Leaves.{leaf_text}
use Rattle.ir_literals.specs.Integers.{align_of}
use Rattle.ir_instrs.specs.Reading.{Reading, Parts, void_type}
use Rattle.ir_instrs.specs.Uses.{Use, behind, each}
use Rattle.ir_instrs.specs.Uses.Use.{Typed, Label}
use Rattle.ir_instrs.specs.Operands.{written, tvalue, tvalue_uses, tconst, tconst_uses, optional, label}
use Rattle.ir_instrs.specs.Words.{bin_op, pred, cast_op}

-- some flag is written
abbrev pub is_flagged : List ℕ → Bool
is_flagged flags = not (length flags == 0)

-- a leaf is this word
abbrev pub is_word : Reading → List ℕ → ℕ → Bool
is_word r word at = bytes_eq (leaf_text r.text r.toks at) word

-- two values of one type
abbrev pub pair_uses : TypeId → Value → Value → List Use
pair_uses t left right = Typed t left ∷ Typed t right ∷ []

abbrev pub second : Reading → Parts → TypeId → Value → Value → Written
second r ps t left right = written r (behind r ps (Typed t left ∷ [])) t right

abbrev pub binop : Reading → Parts → ℕ → List ℕ → Ty → Value → Value → Op
binop r ps word flags t left right =
    op.Bin (bin_op (leaf_text r.text r.toks word)) (is_flagged flags) (written r ps (r.kind t) left) (second r ps (r.kind t) left right)

abbrev pub icmp : Reading → Parts → Icmp → Op
icmp r ps x =
    op.Icmp (pred (leaf_text r.text r.toks x.pred)) (is_flagged x.flags) (written r ps (r.kind x.ty) x.left) (second r ps (r.kind x.ty) x.left x.right)

abbrev pub cast : Reading → Parts → ℕ → List ℕ → Tvalue → Op
cast r ps word flags of = op.Cast (cast_op (leaf_text r.text r.toks word)) (is_flagged flags) (tvalue r ps of)

abbrev pub select_uses : Reading → Select → List Use
select_uses r x = tvalue_uses r x.on ++ (tvalue_uses r x.yes ++ tvalue_uses r x.no)

abbrev pub select : Reading → Parts → Select → Op
select r ps x = op.Select (tvalue r ps x.on) (tvalue r (behind r ps (tvalue_uses r x.on)) x.yes)
    (tvalue r (behind r ps (tvalue_uses r x.on ++ tvalue_uses r x.yes)) x.no)

-- ---- instructions on memory

-- an alignment in bytes, where one is written; a literal that is no u64 counts as 0
abbrev pub align : Reading → Option ℕ → Option ℕ
align r None = None
align r (Some at) = Some (align_of (leaf_text r.text r.toks at))

abbrev pub alloca : Reading → Parts → Alloca → Op
alloca r ps x = op.Alloca (r.kind x.ty) (optional r ps x.count) (align r x.align)

abbrev pub load : Reading → Parts → Option ℕ → Tvalue → Option ℕ → Op
load r ps volatile from bytes = op.Load (tvalue r ps from) (align r bytes) (is_some volatile)

abbrev pub store_uses : Reading → Store → List Use
store_uses r x = tvalue_uses r x.value ++ tvalue_uses r x.to

abbrev pub store : Reading → Parts → Store → Op
store r ps x = op.Store (tvalue r ps x.value) (tvalue r (behind r ps (tvalue_uses r x.value)) x.to) (align r x.align) (is_some x.volatile)

-- ---- instructions with a list of operands

-- a value of a phi, and the block that it comes from
abbrev pub arm_uses : TypeId → tree_arm.Arm → List Use
arm_uses t x = Typed t x.value ∷ Label x.from ∷ []

abbrev pub arm_of : Reading → TypeId → Parts → tree_arm.Arm → Arm
arm_of r t ps x = record { val = written r ps t x.value; from = label r x.from }

abbrev pub arms_of : Reading → Parts → TypeId → List tree_arm.Arm → List Arm
arms_of r ps t arms = each r (arm_of r t) (arm_uses t) ps arms

abbrev pub arms_uses : TypeId → List tree_arm.Arm → List Use
arms_uses t arms = flat_map (arm_uses t) arms

abbrev pub clause_uses : Reading → tree_clause.Clause → List Use
clause_uses r x = tconst_uses r x.value

abbrev pub clause_of : Reading → Parts → tree_clause.Clause → Clause
clause_of r ps x = record { filter = is_word r (codes "filter") x.word; val = tconst r ps x.value }

abbrev pub clauses_of : Reading → Parts → List tree_clause.Clause → List Clause
clauses_of r ps clauses = each r (clause_of r) (clause_uses r) ps clauses

abbrev pub clauses_uses : Reading → List tree_clause.Clause → List Use
clauses_uses r clauses = flat_map (clause_uses r) clauses

abbrev pub is_null : Const → Bool
is_null (const.Null at) = true
is_null _ = false

-- a `catch` of the constant `null`
abbrev pub catches_all : Reading → tree_clause.Clause → Bool
catches_all r x = not (is_word r (codes "filter") x.word) && is_null x.value.value

abbrev pub tvalues : Reading → Parts → List Tvalue → List Written
tvalues r ps xs = each r (tvalue r) (tvalue_uses r) ps xs

abbrev pub tvalues_uses : Reading → List Tvalue → List Use
tvalues_uses r xs = flat_map (tvalue_uses r) xs

-- a flag of a getelementptr is this word
abbrev pub is_flag : Reading → List ℕ → Gepflag → Bool
is_flag r word (gepflag.Word at) = is_word r word at
is_flag r word (gepflag.InRange at from to) = false

abbrev pub has_flag : Reading → List ℕ → List Gepflag → Bool
has_flag r word flags = list_any (is_flag r word) flags

-- the operand in front; the grammar has one always
abbrev pub front : List Written → Written
front [] = record { val = Poison; ty = void_type; at = 0 }
front (x ∷ xs) = x

abbrev pub gep_with : Reading → List Gepflag → TypeId → Written → List Written → Op
gep_with r flags elem base indices = op.Gep elem base indices
    (has_flag r (codes "inbounds") flags) (has_flag r (codes "nusw") flags || has_flag r (codes "nuw") flags)

abbrev pub gep : Reading → Parts → List Gepflag → Ty → List Tvalue → Op
gep r ps flags elem operands = gep_with r flags (r.kind elem) (front (tvalues r ps operands)) (drop 1 (tvalues r ps operands))
