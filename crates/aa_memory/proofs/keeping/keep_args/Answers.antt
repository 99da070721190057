use Rattle.std.proofs.Common.{arith}
use Rattle.rule_says.proofs.Firsts.{first_none, first_more, first_all}
use Rattle.aa_memory.specs.Asked.{AsksArg, SpeaksArg}
use Rattle.aa_memory.proofs.Instrs.{read_in, read_there}
use Rattle.aa_memory.proofs.keeping.keep_args.Goals as goal

pub keep_arg-requires-clause-known : goal.keep_arg-requires-clause-known
keep_arg-requires-clause-known c = c.requires.known c.loop-w.w-index (read_in c.args.args.now c.loop-w.w-index)
    (read_there c.args.args.now c.loop-w.w-index c.loop-w-test.true)

pub loop-w-init : goal.loop-w-init
loop-w-init c =
    first_none c.args.m.now c.args.ps.now c.args.args.now (λ at w. AsksArg c.args.m.now c.args.a c.args.class c.args.k.0 c.args.callee w)
    (λ at w. SpeaksArg c.args.m.now c.args.a c.args.class c.args.k.0 c.args.callee w) c.args.s.now

pub loop-w-preserved : goal.loop-w-preserved
loop-w-preserved c =
    first_more c.args.m.now c.args.ps.now c.args.args.now (λ at w. AsksArg c.args.m.now c.args.a c.args.class c.args.k.0 c.args.callee w)
    (λ at w. SpeaksArg c.args.m.now c.args.a c.args.class c.args.k.0 c.args.callee w)
    c.args.s.now c.loop-w.s c.keep_arg.new.s c.loop-w.w-index (read_in c.args.args.now c.loop-w.w-index)
    (read_there c.args.args.now c.loop-w.w-index c.loop-w-test.true) c.loop-w.invariant c.in_ok-keep_arg.ensures

pub returns : goal.returns
returns c =
    first_all c.args.m.now c.args.ps.now c.args.args.now (λ at w. AsksArg c.args.m.now c.args.a c.args.class c.args.k.0 c.args.callee w)
    (λ at w. SpeaksArg c.args.m.now c.args.a c.args.class c.args.k.0 c.args.callee w)
    c.args.s.now c.loop-w.s c.loop-w.w-index (omega (arith, c.loop-w-test.false)) c.loop-w.invariant
