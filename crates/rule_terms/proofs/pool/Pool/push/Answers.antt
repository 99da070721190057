use Rattle.std.proofs.Common.{refl, [], ◌∷◌}
use Rattle.rule_terms.proofs.Putting.{AreOrdered-push, grown_refl}
use Rattle.rule_terms.proofs.pool.Pool.push.Goals as goal

pub returns-clause-goes_on : goal.returns-clause-goes_on
returns-clause-goes_on c = record {
  pool = record {
    fits = c.requires.pool.fits;
    marked = c.requires.pool.marked;
    ordered = rw c.in_ok-push.ensures.items (AreOrdered-push c.args.self.now.slots.items c.args.slot c.requires.pool.ordered c.requires.behind);
  };
  slots = (c.args.slot ∷ [], c.in_ok-push.ensures.items);
  inputs = grown_refl c.args.self.now.inputs.items;
  size = refl;
}
