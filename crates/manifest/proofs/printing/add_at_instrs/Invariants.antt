use Rattle.std.proofs.Common.{◌≡◌, ◌++◌, ℕ, map, slice_get}
use Rattle.ir_module.specs.Places.{spot}
use Rattle.manifest.specs.Added.{inserted, joined}
use Rattle.manifest.specs.Additions.{instr_additions}
use Rattle.manifest.specs.Ready.{set_of}
use Rattle.manifest.proofs.printing.add_at_instrs.Given as goal

abbrev pub invariant-loop-at : goal.invariant-loop-at
invariant-loop-at l = (k : ℕ) → l.out.items ≡ l.initial.out.items ++ map inserted
    (joined (λ at. instr_additions l.held.m.now (set_of l.held) (spot k at) (slice_get l.instrs at)) l.at)
