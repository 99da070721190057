use Rattle.std.proofs.Common.{◌∙◌, get_or}
use Rattle.row_lists.specs.EdgeRow.{row_at}
use Rattle.rule_terms.specs.Kept.{rule_of}
use Rattle.rule_terms.proofs.Keeping.{some_rule, no_places}
use Rattle.rule_terms.proofs.Valued.{inputs-shown}
use Rattle.rule_terms.proofs.system.System.inputs.Goals as goal

pub returns : goal.returns
returns c =
    let a = c.self.inside in
    c.positions.ensures
    ∙ inputs-shown a c.args.self.now c.args.p.0 (rule_of (row_at a.rows c.args.p.0) (get_or a.places.items c.args.p.0 no_places).items) c.self.invariant
    c.self.view_is (some_rule a c.args.self.now c.args.p.0 c.self.invariant c.self.view_is c.requires)
