use Rattle.std.proofs.Common.{◌≡◌, ◌++◌, map, slice_get}
use Rattle.manifest.specs.Added.{inserted, joined}
use Rattle.manifest.specs.Parameter.{at_param}
use Rattle.manifest.specs.Ready.{set_of}
use Rattle.manifest.proofs.printing.add_at_params.Given as goal

abbrev pub invariant-loop-at : goal.invariant-loop-at
invariant-loop-at l = l.out.items ≡ l.initial.out.items ++ map inserted
    (joined (λ at. at_param (set_of l.held) l.f.0 l.returned at (slice_get l.func.params at)) l.at)
