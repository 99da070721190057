use Rattle.manifest.specs.Added.{Subject}
use Rattle.manifest.specs.Function.{function_attrs}
use Rattle.manifest.specs.Ready.{set_of}
use Rattle.manifest.proofs.functions.add_at_function.Goals as goal

pub returns : goal.returns
returns c = c.in_ok-put.ensures (Subject.OfBody c.args.f.0) (function_attrs c.args.held.now.m.now
    (set_of c.args.held.now) c.args.f.0 c.args.func.now) c.in_ok-text.ensures
