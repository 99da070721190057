use Rattle.rule_terms.proofs.value.+value.Given as goal

abbrev pub decreases-value : goal.decreases-value
decreases-value l = l.place.0
