use Rattle.std.proofs.Common.{◌≡◌, ◌*ℤ◌, ◌<◌, ◌^◌, pos, to_z, ◌∙◌, ap, rules}
use Rattle.std.specs.Int.{w64, int_wrap}
use Rattle.ir_consts.specs.Offsets as spec
use Rattle.ir_consts.proofs.Wrapping.{product_of, cast_is}
use Rattle.ir_consts.proofs.offsets.over.Goals as goal

pub returns : goal.returns
returns c =
    let small : c.size_of.result < 2 ^ 64 = search rules in
    let cast : c.cast_signed.result ≡ to_z w64 c.size_of.result = search (rules, c.cast_signed.ensures) in
    product_of c.index_of.result c.cast_signed.result (spec.index_of c.args.types.now c.args.w.now) (pos c.size_of.result) c.index_of.ensures
    (cast ∙ cast_is c.size_of.result small)
    ∙ ap (λ n. int_wrap w64 (spec.index_of c.args.types.now c.args.w.now *ℤ pos n)) c.size_of.ensures
