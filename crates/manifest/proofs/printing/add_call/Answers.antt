use Rattle.std.proofs.Common.{length}
use Rattle.std.specs.Option.{option_map}
use Rattle.manifest.specs.Added.{joined}
use Rattle.manifest.specs.Argument.{at_arg}
use Rattle.manifest.specs.Call.{at_call}
use Rattle.manifest.specs.Return.{at_call_return}
use Rattle.manifest.specs.Ready.{set_of}
use Rattle.manifest.proofs.Joining.{both}
use Rattle.manifest.proofs.printing.add_call.Goals as goal

pub returns : goal.returns
returns c = λ s.
    let m = c.args.held.now.m.now in
    let set = set_of c.args.held.now in
    let callee = option_map (λ g. g.0) c.args.callee in
    let call = c.args.call.now in
    let first = at_call_return set s call callee in
    let args = joined (at_arg m set s call callee) (length call.args) in
    both c.args.out.now.items c.add_at_args.new.out.items c.add_at_call.new.out.items _ (at_call set s call callee)
    (both c.args.out.now.items c.add_at_call_return.new.out.items c.add_at_args.new.out.items first args (c.in_ok-add_at_call_return.ensures s)
    (c.in_ok-add_at_args.ensures s))
    (c.in_ok-add_at_call.ensures s)
