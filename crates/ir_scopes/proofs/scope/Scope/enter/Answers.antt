use Rattle.ir_scopes.proofs.Entering.{enter_one}
use Rattle.ir_scopes.proofs.scope.Scope.enter.Goals as goal

pub returns : goal.returns
returns c = λ before knows. enter_one c.args.ids.now before c.args.slot c.args.self.now _ c.in_ok-id.id c.entry_of.result c.in_ok-id.ensures c.entry_of.ensures
    (c.in_ok-define.ensures.names before knows) c.in_ok-counts.ensures (c.in_ok-define.ensures.found before knows)
