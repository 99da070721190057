use Rattle.std.proofs.Common.{◌∙◌}
use Rattle.std.proofs.lemmas.Result.{IfOk-weaker}
use Rattle.ir_rules.proofs.Sorting.{from_told}
use Rattle.ir_rules.proofs.arms.are_from.Goals as goal

pub returns : goal.returns
returns c =
    IfOk-weaker c.have_same.result _ _
    (λ yes h. from_told c.args.arms.now c.as_slice.result.now c.args.sources.now yes (c.as_slice.ensures.value ∙ c.in_ok-blocks.ensures) h) c.have_same.ensures
