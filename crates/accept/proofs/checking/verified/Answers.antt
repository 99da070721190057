use Rattle.accept.proofs.checking.verified.Goals as goal

pub returns-in-Err-clause-refused : goal.returns-in-Err-clause-refused
returns-in-Err-clause-refused c = λ b is. c.refused_by.ensures b (c.args.m.now, is, c.requires, c.in-Err.ensures.fault)
