use Rattle.std.proofs.Common.{[]}
use Rattle.ir_scopes.specs.Slots as spec
use Rattle.ir_scopes.proofs.Entering.{all_entered}
use Rattle.ir_scopes.proofs.top.top_scope.Goals as goal

pub returns-clause-names : goal.returns-clause-names
returns-clause-names c = (all_entered c.args.ids.now (spec.top_slots c.args.space c.args.entities.now) c.new-scope.result c.enter_entities.new.scope
    c.args.counts c.args.found
    c.new-scope.ensures.counts c.new-scope.ensures.found (c.in_ok-enter_entities.ensures [] c.new-scope.ensures.names)).0

pub returns-clause-counts : goal.returns-clause-counts
returns-clause-counts c = (all_entered c.args.ids.now (spec.top_slots c.args.space c.args.entities.now) c.new-scope.result c.enter_entities.new.scope
    c.args.counts c.args.found
    c.new-scope.ensures.counts c.new-scope.ensures.found (c.in_ok-enter_entities.ensures [] c.new-scope.ensures.names)).1

pub returns-clause-found : goal.returns-clause-found
returns-clause-found c = (all_entered c.args.ids.now (spec.top_slots c.args.space c.args.entities.now) c.new-scope.result c.enter_entities.new.scope
    c.args.counts c.args.found
    c.new-scope.ensures.counts c.new-scope.ensures.found (c.in_ok-enter_entities.ensures [] c.new-scope.ensures.names)).2
