use Rattle.std.proofs.Common.{IsSome, rules, refl}
use Rattle.ir_rules.proofs.entities.has_sized_init.Goals as goal

pub returns-in-Some : goal.returns-in-Some
returns-in-Some c =
    let some : IsSome c.args.global.now.init = search rules in
    (λ t. λ s. c.has_size.ensures.0 t, λ h. c.has_size.ensures.1 (h some))

pub returns-in-None : goal.returns-in-None
returns-in-None c = (λ t. λ s. let never : ⊥ = search rules in absurd never, λ h. refl)
