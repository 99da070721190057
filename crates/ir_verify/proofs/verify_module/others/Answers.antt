use Rattle.std.proofs.Common.{List, ℕ, subst, sym}
use Rattle.ir_type_equality.specs.Numbers.{AreCanonical}
use Rattle.ir_verify.proofs.Verdicts.{others_judged}
use Rattle.ir_verify.proofs.verify_module.others.Goals as goal

pub returns : goal.returns
returns c =
    let canonical = subst (λ (ns : List ℕ). AreCanonical c.args.m.now.types ns) (sym c.as_slice-numbers.ensures) c.in_ok-owned.ensures in
    others_judged c.args.m.now c.as_slice-numbers.result.now c.of_types-types.result c.of_globals-globals.result c.of_headers-headers.result c.in_ok-segs.segs
    c.first_of.result c.first_of-2.result c.first_of-3.result canonical c.of_types-types.ensures c.of_globals-globals.ensures
    c.of_headers-headers.ensures c.in_ok-segs.ensures c.first_of.ensures c.first_of-2.ensures c.first_of-3.ensures
