use Rattle.steal_pool.proofs.Doors.{robs_one, robs_below, robs_fit, deques_kept}
use Rattle.steal_pool.proofs.robber.Robber.rob.Goals as goal

pub returns-clause-robs : goal.returns-clause-robs
returns-clause-robs c = robs_one c.args.self.now.doors.items c.args.from c.index_mut.result.now c.steal.new.self c.steal.result c.index_mut.ensures.value
    c.requires c.steal.ensures.robbed

pub returns-clause-same : goal.returns-clause-same
returns-clause-same c = deques_kept c.args.self.now.doors.items c.args.from c.index_mut.result.now c.steal.new.self c.index_mut.ensures.value
    c.steal.ensures.same

pub returns-clause-below : goal.returns-clause-below
returns-clause-below c = λ workers count fits. robs_below _ c.args.from c.steal.result _ count c.requires fits.1 (returns-clause-robs c)

pub returns-clause-fits : goal.returns-clause-fits
returns-clause-fits c = λ workers count fits. robs_fit _ c.args.from c.steal.result _ workers count c.requires fits (returns-clause-robs c)
