use Rattle.std.proofs.Common.{◌<◌, ◌^◌, FitsSigned, to_z, Some, ◌∙◌, ap, sym, refl, subst, rules}
use Rattle.std.specs.Int.{w64}
use Rattle.std.proofs.lemmas.Int.{wrapping_add_onto, SFits-int_wrap}
use Rattle.ir_operands.specs.Offsets.{entered_by}
use Rattle.ir_consts.specs.Offsets as spec
use Rattle.ir_consts.proofs.Walking.{WalksOn, goes_on, ends_nowhere, one_slice}
use Rattle.ir_consts.proofs.offsets.all_into.Goals as goal

pub returns-in_default : goal.returns-in_default
returns-in_default c =
    let all = spec.total (spec.offsets_into c.args.types.now (Some c.args.t) c.args.indices.now) in
    ends_nowhere c.args.types.now c.args.indices.now all (to_z w64 c.loop-i.bytes-bits) c.loop-i.i
    (subst (λ o. WalksOn c.args.types.now c.args.indices.now all (to_z w64 c.loop-i.bytes-bits) o c.loop-i.i) c.in_default.is c.loop-i.invariant)

pub loop-i-preserved : goal.loop-i-preserved
loop-i-preserved c =
    let types = c.args.types.now in
    let all = spec.total (spec.offsets_into types (Some c.args.t) c.args.indices.now) in
    let bytes = to_z w64 c.loop-i.bytes-bits in
    let small : c.loop-i.bytes-bits < 2 ^ 64 = search rules in
    let fits = subst (FitsSigned w64) (sym c.into-bytes.ensures) (SFits-int_wrap w64 _) in
    goes_on types c.args.indices.now all bytes _ c.into-bytes.result c.in-Some.here c.entered_by-at.result c.loop-i.i _ _ c.loop-i-test.true refl
    (subst (λ o. WalksOn types c.args.indices.now all bytes o c.loop-i.i) c.in-Some.is c.loop-i.invariant)
    c.into-bytes.ensures (wrapping_add_onto w64 c.loop-i.bytes-bits c.into-bytes.result small fits)
    (c.entered_by-at.ensures ∙ ap (entered_by types c.in-Some.here) (one_slice c.args.indices.now c.loop-i.i _ c.loop-i-test.true))
