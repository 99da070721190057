use Rattle.ir_module.proofs.Each.{EachOf}
use Rattle.ir_verify.specs.Judging.{Judged, Keeps, Breaks}
use Rattle.ir_verify.proofs.Judged.{OneOf}
use Rattle.std.proofs.Common.{slice_index}
use Rattle.ir_verify.specs.Demands.{OfType}
use Rattle.ir_verify.proofs.entities.of_types.Given as goal

abbrev pub invariant-loop-t : goal.invariant-loop-t
invariant-loop-t l =
    Judged (EachOf l.t l.m.types (λ t ty. Keeps (OfType ty)))
    (OneOf l.t l.m.types (λ t ty. Breaks (slice_index l.m.type_at t) (OfType ty))) l.found
