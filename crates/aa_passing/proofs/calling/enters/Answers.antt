use Rattle.std.proofs.Common.{sym, ◌∙◌}
use Rattle.aa_passing.proofs.Called.{few_of, passes_none}
use Rattle.aa_passing.proofs.calling.enters.Goals as goal

pub returns-then-not-is_body : goal.returns-then-not-is_body
returns-then-not-is_body c =
    passes_none c.args.m.now c.args.ps.now c.args.s.now c.args.f.0 c.args.func.now (sym c.is_body.ensures ∙ c.if-not-is_body.true) c.args.k.0 c.args.op.now

pub passes-requires-clause-body : goal.passes-requires-clause-body
passes-requires-clause-body c = sym c.is_body.ensures ∙ c.if-not-is_body.false

pub passes-requires-clause-few : goal.passes-requires-clause-few
passes-requires-clause-few c = few_of c.args.m.now c.args.f.0 c.args.func.now c.requires.called c.requires.few_params
