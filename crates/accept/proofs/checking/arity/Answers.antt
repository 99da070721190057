use Rattle.std.proofs.Common.{ap, ◌∙◌}
use Rattle.accept.specs.Counting.{greater, greatest_params}
use Rattle.accept.proofs.Sized.{is_greatest}
use Rattle.accept.proofs.checking.arity.Goals as goal

pub returns : goal.returns
returns c =
    let left = ap (λ a. greater a c.greatest_args.result) c.greatest_params.ensures in
    let right = ap (λ b. greater (greatest_params c.args.m.now) b) c.greatest_args.ensures in
    is_greatest c.args.m.now c.greater.result (c.greater.ensures ∙ (left ∙ right))
