use Rattle.std.proofs.Common.{subst}
use Rattle.std.specs.Option.{option_copied}
use Rattle.ir_bodies.specs.Building.{Builds}
use Rattle.ir_bodies.specs.Context.{context}
use Rattle.ir_resolve.specs.Functions.{parts_in}
use Rattle.ir_resolve.proofs.Putting.{read_both}
use Rattle.ir_resolve.proofs.reading.read_function.Goals as goal

pub returns-clause-reads : goal.returns-clause-reads
returns-clause-reads c =
    let x = context c.args.scene.now in
    let ps = parts_in (option_copied c.args.body) in
    let old = c.args.builder.now in
    let new = c.read_body.new.builder in
    read_both x c.args.owner.func c.args.counts c.args.tails.now c.args.close ps old new c.extras_of.new.notes c.in_ok-extras.ensures.takes
    (subst (λ n. Builds x c.args.owner.func n c.args.close ps (record old { values = c.args.counts.values; notes = c.extras_of.new.notes }) new)
    c.requires.counter c.in_ok-read_body.ensures)
