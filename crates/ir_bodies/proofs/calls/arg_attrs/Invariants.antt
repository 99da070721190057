use Rattle.std.proofs.Common.{◌≡◌, map, take}
use Rattle.ir_attrs.specs.Params.{param_attrs}
use Rattle.ir_bodies.specs.Context.{context}
use Rattle.ir_bodies.proofs.calls.arg_attrs.Given as goal

abbrev pub invariant-loop-arg : goal.invariant-loop-arg
invariant-loop-arg l = l.attrs.items ≡ map (λ a. param_attrs (context l.scene).reading.text (context l.scene).reading.toks a.words) (take l.arg-index l.list)
