use Rattle.std.proofs.Common.{subst, sym}
use Rattle.std.specs.Prelude.{Err}
use Rattle.ir_resolve.specs.Answers.{Tells}
use Rattle.ir_resolve.proofs.Whole.{module_from}
use Rattle.ir_resolve.proofs.call.finished.Goals as goal

pub returns-in-Some : goal.returns-in-Some
returns-in-Some c =
    let made = module_from c.args.types c.args.places c.args.built in
    subst (λ f. Tells c.args.toks.now f made (Err c.refusal_of.result)) (sym c.in-Some.is) (c.refusal_of.ensures made)
