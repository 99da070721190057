use Rattle.std.proofs.Common.{◌≡◌, Some, slice_get, sym, ap, ◌∙◌}
use Rattle.std.specs.Option.{option_copied, option_map}
use Rattle.manifest.specs.Argument.{param_for}
use Rattle.manifest.specs.Ready.{set_of}
use Rattle.manifest.proofs.Joining.{same_added}
use Rattle.manifest.proofs.Parts.{all_there}
use Rattle.manifest.proofs.argument.add_at_arg.Goals as goal

pub returns : goal.returns
returns c = λ s.
    let m = c.args.held.now.m.now in
    let set = set_of c.args.held.now in
    let call = c.args.call.now in
    let at = c.args.at in
    let w : slice_get call.args at ≡ Some c.in-Some.w.now = sym c.get.ensures.value ∙ ap option_copied c.in-Some.is in
    let written : slice_get call.attrs.args at ≡ Some c.in-Some-get.written.now = sym c.get-2.ensures.value ∙ ap option_copied c.in-Some-get.is in
    let offset : slice_get call.places.args at ≡ Some c.in-Some-get-2.offset.now = sym c.get-3.ensures.value ∙ ap option_copied c.in-Some-get-2.is in
    same_added c.args.out.now.items c.add_at_written.new.out.items _ _ (c.in_ok-add_at_written.ensures s at)
    (all_there m set s at (param_for m (option_map (λ g. g.0) c.args.callee) at) (option_copied c.param_for-handed.result) c.in-Some.w.now
    c.in-Some-get.written.now c.in-Some-get-2.offset.now _ _ _ c.param_for-handed.ensures w written offset)
