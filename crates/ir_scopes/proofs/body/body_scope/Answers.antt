use Rattle.std.proofs.Common.{[], nat_eq}
use Rattle.std.specs.HashSet.{contains}
use Rattle.std.specs.Option.{option_copied}
use Rattle.ir_scopes.specs.Slots as spec
use Rattle.ir_scopes.proofs.Entering.{enters_then, all_entered}
use Rattle.ir_scopes.proofs.body.body_scope.Goals as goal

pub returns : goal.returns
returns c =
    let done = enters_then c.args.ids.now [] (spec.param_slots c.args.params.now)
    (spec.optional_slots c.args.ids.now (contains nat_eq c.args.voids.now) (option_copied c.args.body))
    c.new-scope.result c.enter_header.new.scope c.enter_optional.new.scope (c.in_ok-enter_header.ensures [] c.new-scope.ensures.names)
    c.in_ok-enter_optional.ensures in
    let all = all_entered c.args.ids.now (spec.func_slots c.args.ids.now (contains nat_eq c.args.voids.now) c.args.params.now (option_copied c.args.body))
    c.new-scope.result c.enter_optional.new.scope c.args.counts
    c.args.found c.new-scope.ensures.counts c.new-scope.ensures.found done in
    record { names = all.0; counts = all.1; found = all.2 }
