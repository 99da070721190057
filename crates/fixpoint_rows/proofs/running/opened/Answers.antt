use Rattle.std.proofs.Common.{◌∙◌, arith}
use Rattle.fixpoint_rows.proofs.Teaming.{all_ready}
use Rattle.fixpoint_rows.proofs.running.opened.Goals as goal

pub team-requires-clause-seats : goal.team-requires-clause-seats
team-requires-clause-seats c =
    let opened = c.in_ok-words.ensures in
    (omega (arith, opened.seats.many, opened.words.2, c.requires.workers), all_ready c.in_ok-words.words c.in_ok-words.seats opened.seats opened.fresh)
