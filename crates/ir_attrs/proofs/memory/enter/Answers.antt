use Rattle.std.proofs.Common.{◌++◌, [], ◌∷◌, ◌∙◌, sym, subst, Some, None}
use Rattle.ir_attrs.specs.Reading.{IsRead}
use Rattle.ir_attrs.proofs.Accesses.{read_none, read_access}
use Rattle.ir_attrs.proofs.memory.enter.Goals as goal

pub returns-in_ok-is_new-in-Some : goal.returns-in_ok-is_new-in-Some
returns-in_ok-is_new-in-Some c = λ before is.
    subst (λ x. IsRead (before ++ x ∷ []) c.insert.new.self c.with_access.result) (sym c.in-Some.is)
    (subst (λ s. IsRead (before ++ Some c.in-Some.access ∷ []) c.insert.new.self s) (sym c.with_access.ensures)
    (read_access before c.args.known.now c.args.seen is c.in-Some.access c.in_ok-location-in-Some.location c.insert.new.self c.in_ok-is_new-in-Some.is_new
    (c.in_ok-location-in-Some.ensures.items ∙ c.as_slice.ensures) c.in_ok-is_new-in-Some.ensures.added c.in_ok-is_new-in-Some.ensures.updates.0))

pub returns-in-None : goal.returns-in-None
returns-in-None c = λ before is.
    subst (λ x. IsRead (before ++ x ∷ []) c.args.known.now c.with_none.result) (sym c.in-None.is)
    (subst (λ s. IsRead (before ++ None ∷ []) c.args.known.now s) (sym c.with_none.ensures) (read_none before c.args.known.now c.args.seen is))
