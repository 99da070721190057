use Rattle.std.proofs.Common.{map, ap, ◌∙◌}
use Rattle.ir_attrs.specs.Functions.{func_attrs, group_in}
use Rattle.ir_attrs.specs.Params.{param_attrs}
use Rattle.ir_instrs.specs.Reading.{reading}
use Rattle.ir_bodies.proofs.Noting.{attrs_are}
use Rattle.ir_bodies.proofs.calls.call_attrs.Goals as goal

pub returns : goal.returns
unfolding reading
returns c =
    let s = c.args.scene.now.source in
    let b = s.text.now in
    let toks = s.toks.now in
    let callee = c.args.called.now.callee in
    let arguments = c.args.called.now.arguments in
    attrs_are c.in_ok-func.func (func_attrs b toks s.ids.now (group_in s.ids.now c.args.scene.now.entities.now) arguments.attributes)
    c.param_attrs-ret.result (param_attrs b toks callee.result_words) c.in_ok-args.args (map (λ a. param_attrs b toks a.words) arguments.args)
    (c.in_ok-func.ensures c.args.scene.now.entities.now c.requires.sound.groups
    ∙ ap (func_attrs b toks s.ids.now (group_in s.ids.now c.args.scene.now.entities.now)) c.as_slice-words.ensures)
    (c.param_attrs-ret.ensures ∙ ap (param_attrs b toks) c.as_slice.ensures)
    (c.in_ok-args.ensures ∙ ap (map (λ a. param_attrs b toks a.words)) c.as_slice-2.ensures)
