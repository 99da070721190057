use Rattle.std.proofs.Common.{◌≡◌, false, take}
use Rattle.rule_terms.specs.Names.{has_name}
use Rattle.fix_core.proofs.lists.names.Given as goal

abbrev pub invariant-loop-q : goal.invariant-loop-q
invariant-loop-q l = has_name (take l.q-index l.list) l.d ≡ false
