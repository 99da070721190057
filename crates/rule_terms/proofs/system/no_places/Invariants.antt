use Rattle.std.proofs.Common.{map}
use Rattle.smallvec.specs.SmallVec.{SmallVec}
use Rattle.rule_terms.specs.declared.term.TermId.{TermId}
use Rattle.rule_terms.specs.Kept.{AreEmptyLists}
use Rattle.rule_terms.proofs.system.no_places.Given as goal

-- the lists so far are empty
abbrev pub invariant-loop : goal.invariant-loop
invariant-loop l = AreEmptyLists l.counter (map (λ (places : SmallVec TermId). places.items) l.lists.items)
