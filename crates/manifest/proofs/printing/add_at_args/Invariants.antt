use Rattle.std.proofs.Common.{◌≡◌, ◌++◌, map}
use Rattle.std.specs.Option.{option_map}
use Rattle.ir_module.specs.declared.module.Spot.{Spot}
use Rattle.manifest.specs.Added.{inserted, joined}
use Rattle.manifest.specs.Argument.{at_arg}
use Rattle.manifest.specs.Ready.{set_of}
use Rattle.manifest.proofs.printing.add_at_args.Given as goal

abbrev pub invariant-loop-at : goal.invariant-loop-at
invariant-loop-at l = (s : Spot) →
    l.out.items ≡ l.initial.out.items ++ map inserted (joined (at_arg l.held.m.now (set_of l.held) s l.call (option_map (λ g. g.0) l.callee)) l.at)
