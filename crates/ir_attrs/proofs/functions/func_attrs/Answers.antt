use Rattle.std.proofs.Common.{◌∙◌}
use Rattle.ir_attrs.specs.Attributes.{own_attrs}
use Rattle.ir_attrs.specs.Functions.{group_in}
use Rattle.ir_attrs.proofs.Gathering.{func_is}
use Rattle.ir_attrs.proofs.functions.func_attrs.Goals as goal

pub returns : goal.returns
returns c = λ entities knows.
    c.settled.ensures
    ∙ func_is c.args.text.now c.args.toks.now c.args.ids.now (group_in c.args.ids.now entities) c.args.words.now c.with_groups.result
    (c.with_groups.ensures c.args.text.now c.args.toks.now entities (own_attrs c.args.words.now) knows c.in_ok-own.ensures)
