use Rattle.std.proofs.Common.{Err, refl, ap, ◌∙◌}
use Rattle.dep_graph.specs.Graph.{edges_of}
use Rattle.dep_graph.specs.declared.invert.TheConstants.{EDGE_LIMIT}
use Rattle.accept.proofs.Told.{within}
use Rattle.accept.proofs.back.graph.Goals as goal

pub returns-in-Ok-clause-few : goal.returns-in-Ok-clause-few
returns-in-Ok-clause-few c =
    within (edges_of c.args.s.now) EDGE_LIMIT
    (λ over. let e = (c.dependents.ensures.too_many (edges_of c.args.s.now)).1 (refl, over) in let is = c.in-Ok.is in absurd (cc))

pub returns-in-Err-TooMany-clause-refused : goal.returns-in-Err-TooMany-clause-refused
returns-in-Err-TooMany-clause-refused c =
    (c.dependents.ensures.too_many c.in-Err-TooMany.edges).0 (c.in-Err-TooMany.is ∙ ap Err c.in-Err-TooMany.field-0-is)
