use Rattle.word_rule.proofs.Gathering.{end_greatest, end_budget}
use Rattle.word_rule.proofs.words.LatticeWords.close.Goals as goal

pub returns-clause-greatest : goal.returns-clause-greatest
returns-clause-greatest c =
    let first = c.join_all-first.ensures in
    end_greatest c.args.self c.args.seats c.requires.seats c.join_all-first.result first.of.0 first.of.1 first.of.2 first.taken c.finish.result c.finish.ensures

pub returns-clause-budget : goal.returns-clause-budget
returns-clause-budget c =
    let first = c.join_all-first.ensures in
    end_budget c.args.self c.args.seats c.requires.seats c.join_all-first.result first.of.0 first.of.1 first.of.2 first.taken c.finish.result c.finish.ensures
