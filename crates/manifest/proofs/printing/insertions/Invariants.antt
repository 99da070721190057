use Rattle.std.proofs.Common.{◌≡◌, map, slice_get, slice_index}
use Rattle.manifest.specs.Added.{inserted, joined}
use Rattle.manifest.specs.Additions.{func_additions}
use Rattle.rule_says.specs.Reading.{facts_in}
use Rattle.manifest.proofs.printing.insertions.Given as goal

abbrev pub invariant-loop-f : goal.invariant-loop-f
invariant-loop-f l = l.out.items ≡ map inserted
    (joined (λ f. func_additions l.m (facts_in l.p (slice_index l.fn.words)) f (slice_get l.m.funcs f)) l.f)
