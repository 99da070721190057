use Rattle.std.proofs.Common.{ap, map, subst}
use Rattle.std.specs.Prelude.{Some}
use Rattle.ir_bodies.specs.Context.{context}
use Rattle.ir_bodies.specs.Bodies.{part, block_part}
use Rattle.ir_bodies.specs.Building.{Puts}
use Rattle.ir_bodies.proofs.Filling.{empty, builds_none, builds_step}
use Rattle.ir_bodies.proofs.builder.Builder.blocks.Goals as goal

pub loop-rest-preserved : goal.loop-rest-preserved
loop-rest-preserved c =
    let x = context c.args.scene.now in
    let at = c.loop-rest.self in
    let o = c.args.owner in
    let b = c.block-item.result in (
      c.in_ok-block.ensures.takes.below,
      c.in_ok-block.ensures.run,
      λ new rest. c.loop-rest.invariant.2 new
          (builds_step x o.func o.counter c.args.close c.loop-rest.rest.now b at c.block.new.self new c.in-len1-up.len_at_least c.block-item.is
          (subst (λ n. Puts x o.func o.counter n (block_part b) at c.block.new.self) c.next_label-next.ensures
          (subst (λ ls. Puts x o.func o.counter c.next_label-next.result (part (Some b.label) ls b.last) at c.block.new.self) c.as_slice-lines.ensures
          c.in_ok-block.ensures)) rest),
    )

pub returns : goal.returns
returns c =
    let x = context c.args.scene.now in
    let o = c.args.owner in
    let ls = c.loop-rest.rest.now in
    c.loop-rest.invariant.2 c.loop-rest.self (builds_none x o.func o.counter c.args.close (map block_part ls) c.loop-rest.self
    (ap (map block_part) (empty ls c.in_default.len_below)) c.loop-rest.invariant.1 c.loop-rest.invariant.0)
