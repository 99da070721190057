use Rattle.std.proofs.Common.{arith, ◌≤◌, Err, ap, ◌∙◌}
use Rattle.facts.specs.Bodies.{param_count}
use Rattle.accept.proofs.Sized.{few_params}
use Rattle.accept.proofs.back.placed.Goals as goal

pub of-requires-clause-few_params : goal.of-requires-clause-few_params
of-requires-clause-few_params c = λ f.
    let few : param_count c.args.m.now f ≤ 255 = few_params c.args.m.now 255 c.requires.sized.parameters f in
    omega (arith, few)

pub returns-in-Err-TooMany-clause-refused : goal.returns-in-Err-TooMany-clause-refused
returns-in-Err-TooMany-clause-refused c = λ b checked.
    let many = (c.of.ensures.too_many c.in-Err-TooMany.words).0 (c.in-Err-TooMany.is ∙ ap Err c.in-Err-TooMany.field-0-is) in
    (c.args.m.now, checked, c.requires.sized, many.0, many.1)
