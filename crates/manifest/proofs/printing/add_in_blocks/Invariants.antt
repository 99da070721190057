use Rattle.std.proofs.Common.{◌≡◌, ◌+◌, ◌++◌, map, slice_get}
use Rattle.manifest.specs.Added.{inserted, joined}
use Rattle.manifest.specs.Additions.{block_additions}
use Rattle.manifest.specs.Ready.{set_of}
use Rattle.manifest.proofs.printing.add_in_blocks.Given as goal

abbrev pub invariant-loop-i : goal.invariant-loop-i
invariant-loop-i l = l.out.items ≡ l.initial.out.items ++ map inserted
    (joined (λ i. block_additions l.held.m.now (set_of l.held) (slice_get l.held.m.now.blocks (l.func.first_block + i))) l.i)
