-- The blocks of globals and functions in the memories of a run, and what constants are that point to them.
use Rattle.std.specs.Prelude.{◌≡◌, ◌+◌, ◌^◌, ◌<◌, ℕ, Bool, true, false, slice_get, None, Some}
use Rattle.ir_module.specs.declared.op.Call.{Call}
use Rattle.ir_module.specs.declared.op.Instr.{Instr}
use Rattle.ir_module.specs.declared.op.Operand.{Operand}
use Rattle.ir_module.specs.declared.op.Operand.TheVariants as operand
use Rattle.ir_module.specs.declared.op.Symbol.{Symbol}
use Rattle.ir_module.specs.declared.op.Written.{Written}
use Rattle.ir_module.specs.declared.module.Linkage.{Linkage}
use Rattle.ir_module.specs.declared.module.Spot.{Spot}
use Rattle.ir_module.specs.declared.module.Module.{Module}
use Rattle.ir_module.specs.Places.{instr_at}
use Rattle.ir_module.specs.Calls.{call_of}
use Rattle.facts.specs.Bodies.{is_pointer}
use Rattle.facts.specs.Facts.{Fact}
use Rattle.facts.specs.Known.{written_has}
use Rattle.ir_machine.specs.declared.choice.Value.{Value}
use Rattle.ir_machine.specs.Memory.{Live, Memory}
use Rattle.ir_machine.specs.Frames.{At, Active}
use Rattle.ir_machine.specs.Runs.{linkage_of, HasHome, IsShapeOf, Done}
use Rattle.ir_machine.specs.Meanings.{BeginsIn}
use Rattle.fact_meanings.specs.Values.{BitsHold}

-- the block lies in the address space, above 0, and has a size and a base that this global or function may have
pub record IsBlockOf (m : Module) (mem : Memory) (s : Symbol) (b : ℕ) : Type 0 where
  pub shape : IsShapeOf m (mem.shape b) s
  pub low : 0 < (mem.shape b).base
  pub high : (mem.shape b).base + (mem.shape b).size < 2 ^ 64

-- each global and function has the block that was made for it; one that is `extern_weak` may have none
pub record HaveBlocks (m : Module) (mem : Memory) : Type 0 where
  pub homes : (s : Symbol) (link : Linkage) → linkage_of m s ≡ Some link → HasHome mem s link (mem.home s)
  pub strangers : (s : Symbol) → linkage_of m s ≡ None → mem.home s ≡ None
  pub blocks : (s : Symbol) (b : ℕ) → mem.home s ≡ Some b → IsBlockOf m mem s b

-- and that block is neither dead nor closed
abbrev pub AreLive : Memory → Type 0
AreLive mem = (s : Symbol) (b : ℕ) → mem.home s ≡ Some b → mem.life b ≡ Live

-- the operand names no value of the body
abbrev pub is_constant : Operand → Bool
is_constant (operand.Value v) = false
is_constant _ = true

-- Where a call begins in this step, each pointer argument that is a constant is as the table of constants says: not null, aligned, to
-- so many bytes.
abbrev pub ConstantsHold : Module → Done → Type 0
ConstantsHold m d = (held : Fact → Bool) (a : Active) (s : Spot) (instr : Instr) (call : Call) (at : ℕ) (w : Written) (x : Value) → BeginsIn d a →
    a.call.made ≡ At s → instr_at m s ≡ Some instr → call_of instr.op ≡ Some call → slice_get call.args at ≡ Some w → is_constant w.val ≡ true →
    is_pointer m w.ty ≡ true → slice_get a.call.passed at ≡ Some x → BitsHold d.next.memory a.call (written_has m held w) x.datum
