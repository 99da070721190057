use Rattle.std.proofs.Common.{ℕ, List, get_or, slice_index, arith, subst}
use Rattle.ir_verify.specs.Judging.{Judged, Keeps, Breaks}
use Rattle.ir_verify.specs.Demands.{OfType}
use Rattle.ir_verify.proofs.Judged.{none_yet, one_step, all_done}
use Rattle.ir_verify.proofs.entities.of_types.Goals as goal

pub loop-t-init : goal.loop-t-init
loop-t-init c = none_yet c.args.m.now.types (λ t ty. Keeps (OfType ty)) (λ t ty. Breaks (slice_index c.args.m.now.type_at t) (OfType ty))

pub loop-t-preserved : goal.loop-t-preserved
loop-t-preserved c =
    one_step c.loop-t.t c.args.m.now.types c.get.result.now (λ t ty. Keeps (OfType ty)) (λ t ty. Breaks (slice_index c.args.m.now.type_at t) (OfType ty))
    c.loop-t.found c.of_type-here.result c.first_of-found.result c.get.ensures c.first_of-found.ensures c.loop-t.invariant
    (subst (λ (xs : List ℕ). Judged (Keeps (OfType c.get.result.now)) (Breaks (get_or xs c.loop-t.t 0) (OfType c.get.result.now)) c.of_type-here.result)
    c.as_slice.ensures c.of_type-here.ensures)

pub returns : goal.returns
returns c =
    all_done c.loop-t.t c.args.m.now.types (λ t ty. Keeps (OfType ty)) (λ t ty. Breaks (slice_index c.args.m.now.type_at t) (OfType ty))
    c.loop-t.found (omega arith) c.loop-t.invariant
