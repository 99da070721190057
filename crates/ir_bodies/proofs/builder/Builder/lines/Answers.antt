use Rattle.std.proofs.Common.{subst}
use Rattle.ir_bodies.specs.Context.{context}
use Rattle.ir_bodies.specs.Lines.{line_instrs, line_uses, line_values}
use Rattle.ir_bodies.specs.Building.{Fills}
use Rattle.ir_bodies.proofs.Filling.{empty, lines_step, lines_none}
use Rattle.ir_bodies.proofs.builder.Builder.lines.Goals as goal

pub loop-rest-preserved : goal.loop-rest-preserved
loop-rest-preserved c =
    let x = context c.args.scene.now in
    let at = c.loop-rest.self in
    let ps = at.notes.parts.items in
    let l = c.line-item.result in (
      c.in_ok-line.ensures.takes.below,
      λ new rest. c.loop-rest.invariant.1 new
          (lines_step x c.args.block c.args.end c.loop-rest.rest.now l at c.line.new.self new c.in-len1-up.len_at_least c.line-item.is
          (subst (λ e. Fills x c.args.block (line_instrs x at.values ps e l) (line_uses x l) (line_values x at.values l) at c.line.new.self) c.first_of.ensures
          c.in_ok-line.ensures) rest),
    )

pub returns : goal.returns
returns c =
    c.loop-rest.invariant.1 c.loop-rest.self (lines_none (context c.args.scene.now) c.args.block c.args.end c.loop-rest.rest.now c.loop-rest.self
    (empty c.loop-rest.rest.now c.in_default.len_below) c.loop-rest.invariant.0)
