-- What is added to the text of a module for a set of facts, in text order: body by body its return, its parameters, itself, and
-- its calls; of a call its return, its arguments, itself.
use Rattle.std.specs.Prelude.{◌+◌, ◌==◌, ℕ, Bool, if◌then◌else◌, List, [], ◌++◌, length, map, slice_get, Option, None, Some}
use Rattle.std.specs.Option.{option_map_or}
use Rattle.attr_ids.specs.declared.insertion.Insertion.{Insertion}
use Rattle.ir_module.specs.declared.op.Call.{Call}
use Rattle.ir_module.specs.declared.op.Instr.{Instr}
use Rattle.ir_module.specs.declared.module.Seg.{Seg}
use Rattle.ir_module.specs.declared.module.Block.{Block}
use Rattle.ir_module.specs.declared.module.Func.{Func}
use Rattle.ir_module.specs.declared.module.Spot.{Spot}
use Rattle.ir_module.specs.declared.module.Module.{Module}
use Rattle.ir_module.specs.Places.{spot}
use Rattle.ir_module.specs.Calls.{call_of, inner_callee, is_exact}
use Rattle.facts.specs.Facts.{Fact, dead}
use Rattle.manifest.specs.Added.{Added, inserted, joined}
use Rattle.manifest.specs.Function.{is_dead_body, at_function}
use Rattle.manifest.specs.Call.{at_call}
use Rattle.manifest.specs.Return.{at_return, at_call_return}
use Rattle.manifest.specs.Parameter.{at_param, returned_param}
use Rattle.manifest.specs.Argument.{at_arg}

-- at a call at spot s that runs this body, if it runs one
abbrev pub call_additions : Module → (Fact → Bool) → Spot → Option ℕ → Call → List Added
call_additions m held s callee call = at_call_return held s call callee ++ joined (at_arg m held s call callee) (length call.args) ++ at_call held s call callee

-- at an instruction at spot s, where it is a call
abbrev pub instr_additions : Module → (Fact → Bool) → Spot → Option Instr → List Added
instr_additions m held s None = []
instr_additions m held s (Some instr) = option_map_or (call_additions m held s (inner_callee m instr.op)) (call_of instr.op) []

-- in segment number k, where a run comes to it
abbrev pub seg_additions : Module → (Fact → Bool) → ℕ → Option Seg → List Added
seg_additions m held k None = []
seg_additions m held k (Some seg) = if held (dead k) then [] else joined (λ at. instr_additions m held (spot k at) (slice_get seg.instrs at))
    (length seg.instrs)

-- in a block
abbrev pub block_additions : Module → (Fact → Bool) → Option Block → List Added
block_additions m held None = []
block_additions m held (Some b) = joined (λ i. seg_additions m held (b.first_seg + i) (slice_get m.segs (b.first_seg + i))) b.seg_count

-- at the header of body f, where it is exact
abbrev pub header_additions : Module → (Fact → Bool) → ℕ → Func → List Added
header_additions m held f func = if is_exact m f then at_return held f func
    ++ joined (λ at. at_param held f (returned_param m held f func) at (slice_get func.params at)) (length func.params) ++ at_function m held f func else []

-- in body f, where a run comes to it
abbrev pub body_additions : Module → (Fact → Bool) → ℕ → Func → List Added
body_additions m held f func = if is_dead_body m held f then [] else header_additions m held f func
    ++ joined (λ i. block_additions m held (slice_get m.blocks (func.first_block + i))) func.block_count

-- at function f, where it is defined
abbrev pub func_additions : Module → (Fact → Bool) → ℕ → Option Func → List Added
func_additions m held f None = []
func_additions m held f (Some func) = if func.block_count == 0 then [] else body_additions m held f func

-- what is added for the set
unfoldable pub additions_of : Module → (Fact → Bool) → List Added
additions_of m held = joined (λ f. func_additions m held f (slice_get m.funcs f)) (length m.funcs)

-- and put in
unfoldable pub insertions_of : Module → (Fact → Bool) → List Insertion
insertions_of m held = map inserted (additions_of m held)
