use Rattle.std.proofs.Common.{sym, ap, ◌∙◌}
use Rattle.aa_control.specs.Asked.{is_caught}
use Rattle.aa_control.proofs.Padded.{caught_by}
use Rattle.aa_control.proofs.pads.is_caught.Goals as goal

pub returns : goal.returns
returns c =
    c.flag.ensures ∙ (caught_by c.args.m.now c.in-Invoke.unwind.0 c.start.result c.args.pads.now c.requires c.start.ensures ∙
    ap (is_caught c.args.m.now) (sym c.in-Invoke.is))
