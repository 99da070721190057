use Rattle.std.proofs.Common.{get_or, arith}
use Rattle.std.proofs.lemmas.Option.{slice_get-get_or}
use Rattle.ir_types.specs.IrType.{parts}
use Rattle.ir_types.proofs.visit.standing_of.Goals as goal

pub returns-then-known-part_count-clause-waits : goal.returns-then-known-part_count-clause-waits
returns-then-known-part_count-clause-waits c = λ h.
    let ps = parts c.args.ty.now in
    let k = c.first_blocking-known.result in
    let at = slice_get-get_or ps k 0 (omega (arith, c.if-known-part_count.true)) in
    record {
      part = get_or ps k 0;
      is_part = (k, at);
      deep = λ e is. c.first_blocking-known.ensures (get_or ps k 0) e at is;
    }
