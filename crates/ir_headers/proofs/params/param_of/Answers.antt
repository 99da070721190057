use Rattle.std.proofs.Common.{ap, ◌∙◌}
use Rattle.ir_attrs.specs.Params.{param_attrs}
use Rattle.ir_instrs.specs.Reading.{reading}
use Rattle.ir_headers.proofs.params.param_of.Goals as goal

pub returns : goal.returns
unfolding reading
returns c =
    let attrs = c.param_attrs.ensures ∙ ap (param_attrs c.args.src.now.text.now c.args.src.now.toks.now) c.as_slice.ensures in
    λ i. record { value = record { 0 = c.args.value }; ty = c.in_ok-ty.ensures i; attrs = attrs i; place = c.param_place.ensures i }
