-- What is named is there, so the tests of constants may be asked.
use Rattle.std.proofs.Common.{◌≡◌, ℕ, suc, Bool, List, ◌∷◌, length, ◌<◌, map, get_or, slice_get, Option, Some, ap, refl, subst}
use Rattle.std.proofs.lemmas.Option.{slice_get_within, slice_get-get_or, none-some, same_Some}
use Rattle.attr_ids.specs.declared.ids.TypeId.{TypeId}
use Rattle.ir_module.specs.declared.op.Shape.TheVariants as shape
use Rattle.ir_module.specs.declared.op.Operand.{Operand}
use Rattle.ir_module.specs.declared.op.Operand.TheVariants as operand
use Rattle.ir_module.specs.declared.op.Written.{Written}
use Rattle.ir_module.specs.declared.op.Instr.{Instr}
use Rattle.ir_module.specs.declared.op.Op.{Op}
use Rattle.ir_module.specs.declared.op.Op.TheVariants as op
use Rattle.ir_module.specs.declared.op.Call.{Call}
use Rattle.ir_module.specs.Calls.{call_of}
use Rattle.ir_module.specs.declared.module.Module.{Module}
use Rattle.ir_module.specs.declared.op.Arm.{Arm}
use Rattle.ir_module.specs.declared.edge.Edge.{Edge}
use Rattle.ir_module.specs.Edges.{edges}
use Rattle.ir_module.specs.Operands.{operands, optional}
use Rattle.ir_module.specs.Formed.{IsConstant, IsOperandIn, AreConstants, written_types}
use Rattle.ir_module.specs.WellFormed.{Each, HasPartsBelow, IsWellFormed}
use Rattle.ir_module.proofs.Each.{each_unmapped}
use Rattle.ir_operands.specs.Constants.{ArePartsBelow}
use Rattle.ir_rules.specs.Named.{IsNamed, AreNamed, HasNames}

-- the parts of a module's constants stand before them
pub parts_of : (m : Module) → IsWellFormed m → ArePartsBelow m.parts
parts_of m formed k w at = (formed.parts k w at).below

within : (m : Module) (f : ℕ) (o : Operand) → IsOperandIn m f o → HasPartsBelow (length m.parts) o
within m f (operand.Parts shape.Bytes first count) h = tt
within m f (operand.Parts shape.Array first count) h = h
within m f (operand.Parts shape.Struct first count) h = h
within m f (operand.Parts shape.Packed first count) h = h
within m f (operand.AnyInt first count) h = h
within m f _ h = tt

-- the parts of an operand are among the module's
pub named_within : (m : Module) (w : Written) → IsNamed m w → HasPartsBelow (length m.parts) w.val
named_within m w h = within m h.1.0 w.val h.1.1

-- the operands of an instruction are named
pub operands_named : (m : Module) (instr : Instr) → HasNames m instr → AreNamed m (operands instr.op)
operands_named m instr h k w at = let n = h.1.names k w at in (n.0, (h.0, n.1))

constant_in : (m : Module) (o : Operand) → IsConstant m o → IsOperandIn m 0 o
constant_in m (operand.Value v) h = absurd h
constant_in m _ h = h

-- so are constants
pub constants_named : (m : Module) (ws : List Written) → AreConstants m ws → AreNamed m ws
constants_named m ws h k w at = let c = h k w at in (c.0, (0, constant_in m w.val c.1))

-- and the operands behind the first one
pub rest_named : (m : Module) (w : Written) (ws : List Written) → AreNamed m (w ∷ ws) → IsNamed m w × AreNamed m ws
rest_named m w ws h = (h 0 w refl, λ k x at. h (suc k) x at)

-- of a call the callee and the arguments are
pub call_named : (m : Module) (o : Op) (callee : Written) (args : List Written) → AreNamed m (operands o) → operands o ≡ callee ∷ args
    → IsNamed m callee × AreNamed m args
call_named m o callee args h is = rest_named m callee args (subst (λ ws. AreNamed m ws) is h)

-- what a call names is
pub args_named : (m : Module) (o : Op) (call : Call) → AreNamed m (operands o) → call_of o ≡ Some call → IsNamed m call.callee × AreNamed m call.args
args_named m (op.Call call) other h e = subst (λ (c : Call). IsNamed m c.callee × AreNamed m c.args) (same_Some call other e)
    (rest_named m call.callee call.args h)
args_named m (op.Invoke call normal unwind) other h e =
    subst (λ (c : Call). IsNamed m c.callee × AreNamed m c.args) (same_Some call other e) (rest_named m call.callee call.args h)
args_named m _ other h e = absurd (none-some other e)

-- an operand of a list is named
pub named_at : (m : Module) (ws : List Written) (k : ℕ) (d : Written) → AreNamed m ws → k < length ws → IsNamed m (get_or ws k d)
named_at m ws k d h l = h k (get_or ws k d) (slice_get-get_or ws k d l)

-- a type that an instruction writes is there
pub alloca_there : (m : Module) (instr : Instr) (t : TypeId) (count : Option Written) (align : Option ℕ) → HasNames m instr → instr.op ≡ op.Alloca t count align
    → t.0 < length m.types
alloca_there m instr t count align h is = h.1.types 0 t (ap (λ (o : Op). slice_get (written_types o) 0) is)

pub gep_there : (m : Module) (instr : Instr) (t : TypeId) (base : Written) (indices : List Written) (inbounds wrap : Bool) → HasNames m instr
    → instr.op ≡ op.Gep t base indices inbounds wrap → t.0 < length m.types
gep_there m instr t base indices inbounds wrap h is = h.1.types 0 t (ap (λ (o : Op). slice_get (written_types o) 0) is)

-- so is that of a value that is stored
pub store_there : (m : Module) (instr : Instr) (val ptr : Written) (align : Option ℕ) (volatile : Bool) → HasNames m instr
    → instr.op ≡ op.Store val ptr align volatile → val.ty.0 < length m.types
store_there m instr val ptr align volatile h is = (h.1.names 0 val (ap (λ (o : Op). slice_get (operands o) 0) is)).0

-- and its own
pub own_there : (m : Module) (instr : Instr) → HasNames m instr → instr.ty.0 < length m.types
own_there m instr h = h.1.ty

-- the blocks to which edges lead are there
pub targets_there : (m : Module) (instr : Instr) → HasNames m instr → (k : ℕ) (e : Edge) → slice_get (edges instr.op) k ≡ Some e → e.to.0 < length m.blocks
targets_there m instr h k e at = let b = h.1.targets k e at in slice_get_within m.blocks e.to.0 b.0 b.1

-- the values of arms are named
pub arms_named : (m : Module) (instr : Instr) (arms : List Arm) → HasNames m instr → operands instr.op ≡ map (λ arm. arm.val) arms → Each arms
    (λ k arm. IsNamed m arm.val)
arms_named m instr arms h is = each_unmapped (λ k w. IsNamed m w) (λ arm. arm.val) arms (subst (λ ws. AreNamed m ws) is (operands_named m instr h))

-- the initial value of a global is named
pub init_named : (m : Module) (o : Option Written) (w : Written) → o ≡ Some w → AreNamed m (optional o) → IsNamed m w
init_named m o w is h = h 0 w (ap (λ (p : Option Written). slice_get (optional p) 0) is)
