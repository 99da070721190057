use Rattle.std.proofs.Common.{ap, ◌∙◌}
use Rattle.std.specs.List.{list_any}
use Rattle.ir_attrs.specs.Params.{param_attrs}
use Rattle.ir_instrs.specs.Reading.{reading}
use Rattle.ir_headers.specs.Headers.{is_personality}
use Rattle.ir_headers.proofs.headers.func_of.Goals as goal

pub returns : goal.returns
unfolding reading
returns c =
    let text = c.args.scene.now.source.text.now in
    let toks = c.args.scene.now.source.toks.now in
    let returned = c.param_attrs.ensures ∙ ap (param_attrs text toks) c.as_slice.ensures in
    let catches = c.has_personality.ensures ∙ ap (list_any (is_personality text toks)) c.as_slice-2.ensures in
    λ i. record {
      name = c.in_ok-name.ensures i;
      linkage = c.linkage_of.ensures i;
      ret = c.in_ok-ret.ensures i;
      ret_attrs = returned i;
      params = c.in_ok-params.ensures i;
      variadic = c.is_variadic.ensures i;
      attrs = c.in_ok-attrs.ensures i;
      places = c.func_places.ensures i;
      personality = catches i;
      extra = c.args.extra;
      token = c.span_of.ensures i;
      at = c.leaf_from.ensures i;
      first_block = c.args.standing.block;
      block_count = c.args.standing.count;
    }
