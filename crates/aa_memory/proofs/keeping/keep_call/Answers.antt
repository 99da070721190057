use Rattle.std.proofs.Common.{◌≡◌, slice_get, Some, sym, subst}
use Rattle.std.proofs.lemmas.Result.{on_ok_weaker}
use Rattle.rule_says.specs.Meeting.{Meets}
use Rattle.aa_memory.specs.Asked.{AsksArgs, SpeaksArgs}
use Rattle.aa_memory.proofs.Instrs.{argument_operand}
use Rattle.aa_memory.proofs.Called.{call_met}
use Rattle.aa_memory.proofs.keeping.keep_call.Goals as goal

pub keep_args-requires-clause-known : goal.keep_args-requires-clause-known
keep_args-requires-clause-known c = λ j w at.
    let operand = argument_operand c.args.op.now c.in-Some.call.now j w (sym c.in-Some.ensures) (subst (λ ws. slice_get ws j ≡ Some w) c.as_slice.ensures at) in
    c.requires.known operand.0 w operand.1

pub returns : goal.returns
returns c =
    on_ok_weaker c.keep_args.result (λ met. call_met c.args.m.now c.args.ps.now c.args.a c.args.class c.args.k.0 c.args.op.now c.in-Some.call.now
    (sym c.in-Some.ensures) c.requires.other c.callee-called.result c.callee-called.ensures c.args.s.now c.keep_default.new.s c.keep_args.new.s
    c.in_ok-keep_default.ensures
    (subst (λ ws. Meets c.args.m.now c.args.ps.now c.keep_default.new.s c.keep_args.new.s
    (AsksArgs c.args.m.now c.args.a c.args.class c.args.k.0 c.callee-called.result ws)
    (SpeaksArgs c.args.m.now c.args.a c.args.class c.args.k.0 c.callee-called.result ws)) c.as_slice.ensures met)) c.keep_args.ensures
