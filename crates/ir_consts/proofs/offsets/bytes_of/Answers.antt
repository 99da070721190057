use Rattle.std.proofs.Common.{◌<◌, Some, length, ◌∙◌, ap, sym, refl, rules}
use Rattle.std.specs.Int.{w64, int_wrap}
use Rattle.ir_consts.specs.Offsets as spec
use Rattle.ir_consts.proofs.Wrapping.{sum_of}
use Rattle.ir_consts.proofs.Walking.{offsets_split, rest_is}
use Rattle.ir_consts.proofs.offsets.bytes_of.Goals as goal

pub returns : goal.returns
returns c =
    let some : 0 < length c.args.indices.now = search rules in
    sum_of c.over.result c.all_into.result _ _ c.over.ensures
    (c.all_into.ensures ∙ ap (λ xs. int_wrap w64 (spec.total (spec.offsets_into c.args.types.now (Some c.args.elem) xs))) (rest_is c.args.indices.now))
    ∙ ap (int_wrap w64) (sym (offsets_split c.args.types.now c.args.elem c.args.indices.now _ _ some refl))
