use Rattle.std.proofs.Common.{ap, ◌∙◌}
use Rattle.ir_type_names.specs.Bodies.{bodies_at}
use Rattle.ir_type_names.specs.Contents.{named_content}
use Rattle.ir_type_names.specs.Tables.{table}
use Rattle.ir_type_names.proofs.Naming.{named_more}
use Rattle.ir_type_names.proofs.named.add_named.Goals as goal

pub loop-k-preserved : goal.loop-k-preserved
loop-k-preserved c =
    let t = table c.args.ids.now in
    let bs = bodies_at c.args.bodies.now in
    let nexts = c.in_ok-nexts.nexts.items in
    named_more t bs nexts c.loop-k.k c.args.types.now c.loop-k.types c.add.new.types c.in_ok-ty.ty c.loop-k.invariant
    (c.in_ok-ty.ensures.content ∙ ap (λ ns. named_content t bs ns c.in_ok-name.name) c.as_slice-in-loop-k.ensures.value
    ∙ ap (named_content t bs nexts) c.in_ok-name.ensures) c.in_ok-add.ensures
