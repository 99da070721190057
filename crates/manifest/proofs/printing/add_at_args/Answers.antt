use Rattle.std.proofs.Common.{arith, ◌≡◌, ◌++◌, ℕ, length, map, subst}
use Rattle.std.specs.Option.{option_map}
use Rattle.manifest.specs.Added.{inserted, joined}
use Rattle.manifest.specs.Argument.{at_arg}
use Rattle.manifest.specs.Ready.{set_of}
use Rattle.manifest.proofs.Joining.{begun, grown}
use Rattle.manifest.proofs.printing.add_at_args.Goals as goal

pub loop-at-init : goal.loop-at-init
loop-at-init c = λ s. begun (at_arg c.args.held.now.m.now (set_of c.args.held.now) s c.args.call.now (option_map (λ g. g.0) c.args.callee)) c.args.out.now.items

pub loop-at-preserved : goal.loop-at-preserved
loop-at-preserved c = λ s.
    grown (at_arg c.args.held.now.m.now (set_of c.args.held.now) s c.args.call.now (option_map (λ g. g.0) c.args.callee))
    c.args.out.now.items c.loop-at.out.items c.add_at_arg.new.out.items c.loop-at.at (c.loop-at.invariant s) (c.in_ok-add_at_arg.ensures s)

pub returns : goal.returns
returns c = λ s.
    let part = at_arg c.args.held.now.m.now (set_of c.args.held.now) s c.args.call.now (option_map (λ g. g.0) c.args.callee) in
    let end : c.loop-at.at ≡ length c.args.call.now.args = omega (arith, c.loop-at-test.false, c.loop-at.auto.at-end, c.len-at-end.ensures) in
    subst (λ (n : ℕ). c.loop-at.out.items ≡ c.args.out.now.items ++ map inserted (joined part n)) end (c.loop-at.invariant s)
