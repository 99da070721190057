use Rattle.std.proofs.Common.{sym, ◌∙◌}
use Rattle.std.proofs.lemmas.Result.{on_ok_weaker}
use Rattle.ir_module.specs.Places.{spot}
use Rattle.operand_says.proofs.Given.{readable_arg}
use Rattle.aa_passing.proofs.Stands.{seg_there}
use Rattle.aa_passing.proofs.Called.{call_met}
use Rattle.aa_passing.proofs.calling.call.Goals as goal

pub enters-requires-clause-there : goal.enters-requires-clause-there
enters-requires-clause-there c = seg_there c.args.m.now c.args.k.0 c.args.instr.now c.requires.there

pub enters-requires-clause-readable : goal.enters-requires-clause-readable
enters-requires-clause-readable c =
    λ at w is. readable_arg c.args.m.now c.args.ps.now c.requires.formed c.requires.numbering (spot c.args.k.0 c.requires.there.0) c.args.instr.now at w
    c.requires.there.1 is

pub returns : goal.returns
returns c =
    on_ok_weaker c.enters.result (λ met. call_met c.args.m.now c.args.ps.now c.args.k.0 c.args.instr.now.op c.args.s.now c.enters.new.s
    c.in-Some.f c.in-Some-get.func.now (sym c.direct_callee.ensures ∙ c.in-Some.is) (sym c.in-Some-get.ensures.value) met) c.enters.ensures
