use Rattle.std.proofs.Common.{◌≡◌, ℕ, ◌<◌, slice_index_or}
use Rattle.attr_ids.specs.declared.status.WorkerEnd.{WorkerEnd}
use Rattle.attr_ids.specs.declared.status.WorkerEnd.TheVariants.{Done}
use Rattle.closing_pass.proofs.closing.are_done.Given as goal

abbrev pub invariant-loop-end : goal.invariant-loop-end
invariant-loop-end l = (k : ℕ) (d : WorkerEnd) → k < l.end-index → slice_index_or l.ends k d ≡ Done
