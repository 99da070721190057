use Rattle.std.proofs.Common.{map, ap, subst, ◌∙◌}
use Rattle.ir_scopes.proofs.Entering.{on_ok}
use Rattle.ir_bodies.specs.Context.{context}
use Rattle.ir_bodies.specs.Bodies.{part, block_part, label_of}
use Rattle.ir_bodies.specs.Building.{Puts, Builds}
use Rattle.ir_bodies.proofs.Filling.{builds_then}
use Rattle.ir_bodies.proofs.builder.Builder.body.Goals as goal

pub returns : goal.returns
returns c =
    let x = context c.args.scene.now in
    let o = c.args.owner in
    let first = c.args.body.now.first in
    let blocks = c.args.body.now.blocks in
    let old = c.args.self.now in
    let mid = c.block.new.self in
    let new = c.blocks-2.new.self in
    on_ok c.blocks-2.result (λ h. builds_then x o.func o.counter c.args.close (part first.label first.lines first.last) (map block_part blocks) old mid new
    (subst (λ ls. Puts x o.func o.counter (label_of (map block_part blocks) c.args.close) (part first.label ls first.last) old mid) c.as_slice.ensures
    (subst (λ n. Puts x o.func o.counter n (part first.label c.as_slice.result.now first.last) old mid)
    (c.next_label-next.ensures ∙ ap (λ bs. label_of (map block_part bs) c.args.close) c.as_slice-rest.ensures) c.in_ok-block.ensures))
    (subst (λ bs. Builds x o.func o.counter c.args.close (map block_part bs) mid new) c.as_slice-rest.ensures h)) c.blocks-2.ensures
