use Rattle.std.proofs.Common.{sym, ◌∙◌}
use Rattle.aa_passing.proofs.Called.{few_of, starts_none}
use Rattle.aa_passing.proofs.outset.begun.Goals as goal

pub returns-then-not-is_body : goal.returns-then-not-is_body
returns-then-not-is_body c = starts_none c.args.m.now c.args.ps.now c.args.s.now c.args.f.0 c.args.func.now (sym c.is_body.ensures ∙ c.if-not-is_body.true)

pub starts-requires-clause-body : goal.starts-requires-clause-body
starts-requires-clause-body c = sym c.is_body.ensures ∙ c.if-not-is_body.false

pub starts-requires-clause-few : goal.starts-requires-clause-few
starts-requires-clause-few c = few_of c.args.m.now c.args.f.0 c.args.func.now c.requires.there c.requires.few_params
