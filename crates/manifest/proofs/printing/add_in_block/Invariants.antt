use Rattle.std.proofs.Common.{◌≡◌, ◌+◌, ◌++◌, map, slice_get}
use Rattle.manifest.specs.Added.{inserted, joined}
use Rattle.manifest.specs.Additions.{seg_additions}
use Rattle.manifest.specs.Ready.{set_of}
use Rattle.manifest.proofs.printing.add_in_block.Given as goal

abbrev pub invariant-loop-k : goal.invariant-loop-k
invariant-loop-k l = l.out.items ≡ l.initial.out.items ++ map inserted
    (joined (λ i. seg_additions l.held.m.now (set_of l.held) (l.b.first_seg + i) (slice_get l.held.m.now.segs (l.b.first_seg + i))) l.k)
