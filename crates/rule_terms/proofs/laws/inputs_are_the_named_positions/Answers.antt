use Rattle.rule_terms.proofs.Naming.{inputs-has, inputs-only, inputs-once}
use Rattle.rule_terms.proofs.laws.inputs_are_the_named_positions.Goals as goal

pub returns : goal.returns
returns c = record { named = λ s p q. (inputs-only s p q, inputs-has s p q); once = λ s p. inputs-once s p }
