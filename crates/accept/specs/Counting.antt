-- How much there is of a module, counted by numbers of things.
use Rattle.std.specs.Prelude.{ℕ, zero, suc, length, slice_get, Option, None, Some, if◌then◌else◌, nat_lt}
use Rattle.std.specs.Option.{option_map_or}
use Rattle.ir_module.specs.declared.op.Call.{Call}
use Rattle.ir_module.specs.declared.op.Instr.{Instr}
use Rattle.ir_module.specs.declared.module.Seg.{Seg}
use Rattle.ir_module.specs.declared.module.Module.{Module}
use Rattle.ir_module.specs.Calls.{call_of}
use Rattle.ir_module.specs.Places.{spot, instr_at}
use Rattle.facts.specs.Bodies.{param_count}

abbrev pub greater : ℕ → ℕ → ℕ
greater a b = if nat_lt a b then b else a

-- the greatest that the numbers below n have, and 0 where there is none
unfoldable pub greatest : (ℕ → ℕ) → ℕ → ℕ
greatest count zero = 0
greatest count (suc n) = greater (greatest count n) (count n)

-- the arguments of a call, and of the instruction at a place of a segment
abbrev pub args_of : Option Call → ℕ
args_of call = option_map_or (λ (c : Call). length c.args) call 0

abbrev pub args_in : Option Instr → ℕ
args_in None = 0
args_in (Some instr) = args_of (call_of instr.op)

abbrev pub args_at : Module → ℕ → ℕ → ℕ
args_at m k at = args_in (instr_at m (spot k at))

-- the instructions of a segment
abbrev pub seg_length : Module → ℕ → ℕ
seg_length m k = option_map_or (λ (seg : Seg). length seg.instrs) (slice_get m.segs k) 0

abbrev pub args_in_seg : Module → ℕ → ℕ
args_in_seg m k = greatest (args_at m k) (seg_length m k)

-- the greatest number of parameters of one function, and of arguments of one call
abbrev pub greatest_params : Module → ℕ
greatest_params m = greatest (param_count m) (length m.funcs)

abbrev pub greatest_args : Module → ℕ
greatest_args m = greatest (args_in_seg m) (length m.segs)
