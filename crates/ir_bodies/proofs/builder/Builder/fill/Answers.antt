use Rattle.std.proofs.Common.{subst}
use Rattle.ir_scopes.proofs.Entering.{on_ok}
use Rattle.ir_bodies.specs.Context.{context}
use Rattle.ir_bodies.specs.Building.{FillsLines}
use Rattle.ir_bodies.proofs.Filling.{filled}
use Rattle.ir_bodies.proofs.builder.Builder.fill.Goals as goal

pub returns : goal.returns
returns c =
    let x = context c.args.scene.now in
    let old = c.args.self.now in
    on_ok c.last.result (λ h. filled x c.args.block c.args.next c.args.lines.now c.args.last.now old c.lines.new.self c.last.new.self
    (subst (λ e. FillsLines x c.args.block e c.args.lines.now old c.lines.new.self) c.last_first.ensures c.in_ok-lines.ensures) h) c.last.ensures
