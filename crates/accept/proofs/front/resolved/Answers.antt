use Rattle.resolved_forms.proofs.Resolved.{resolved_formed}
use Rattle.accept.proofs.front.resolved.Goals as goal

pub returns-in-Ok-clause-formed : goal.returns-in-Ok-clause-formed
returns-in-Ok-clause-formed c =
    resolved_formed c.args.text.now c.as_slice.result.now c.args.tree.now c.in-Ok.module c.in-Ok.ensures.resolved c.in-Ok.ensures.few_things
