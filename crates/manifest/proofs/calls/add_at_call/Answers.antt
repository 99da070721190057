use Rattle.std.proofs.Common.{sym, ap}
use Rattle.std.specs.Option.{option_map}
use Rattle.manifest.specs.Added.{Subject}
use Rattle.manifest.specs.Call.{at_call, call_attrs}
use Rattle.manifest.specs.Ready.{set_of}
use Rattle.manifest.proofs.Joining.{same_added}
use Rattle.manifest.proofs.calls.add_at_call.Goals as goal

pub returns : goal.returns
returns c = λ s.
    same_added c.args.out.now.items c.put.new.out.items _ _
    (c.in_ok-put.ensures (Subject.OfCall s) (call_attrs (set_of c.args.held.now) c.in-Some.g.0 c.args.call.now) c.in_ok-text.ensures)
    (ap (λ o. at_call (set_of c.args.held.now) s c.args.call.now (option_map (λ g. g.0) o)) (sym c.in-Some.is))
