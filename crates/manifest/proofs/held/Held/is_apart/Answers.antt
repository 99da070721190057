use Rattle.std.proofs.Common.{arith, ◌≡◌, ◌-◌, ◌<◌, ap, ◌∙◌}
use Rattle.facts.specs.declared.pos.Pos.TheVariants as pos
use Rattle.facts.specs.Facts.{unreached_by}
use Rattle.facts.specs.Bodies.{rank, body_count}
use Rattle.manifest.specs.Ready.{set_of}
use Rattle.manifest.proofs.Reading.{listed_in, rank_at, rank_below, word_of_row}
use Rattle.manifest.proofs.held.Held.is_apart.Goals as goal

pub number-requires : goal.number-requires
number-requires c = listed_in c.args.self.now c.requires.ready (pos.Function c.args.f) c.requires.body

pub overflow_sub-rank : goal.overflow_sub-rank
overflow_sub-rank c =
    let number = rank_at c.args.self.now c.requires.ready c.args.f.0 c.number.result.0 c.number.ensures c.requires.body in
    omega (arith, number, c.len.ensures)

pub holds-requires-clause-there : goal.holds-requires-clause-there
holds-requires-clause-there c =
    let m = c.args.self.now.m.now in
    let number = rank_at c.args.self.now c.requires.ready c.args.f.0 c.number.result.0 c.number.ensures c.requires.body in
    let below = rank_below c.args.self.now c.requires.ready c.args.f.0 c.requires.body in
    let is : c.number.result.0 - c.len.result ≡ rank m c.args.f.0 = omega (arith, number, c.len.ensures) in
    let inside : c.number.result.0 - c.len.result < body_count m = omega (arith, is, below) in
    (omega (arith, inside), word_of_row (c.number.result.0 - c.len.result) (body_count m) inside)

pub returns : goal.returns
returns c =
    let m = c.args.self.now.m.now in
    let number = rank_at c.args.self.now c.requires.ready c.args.f.0 c.number.result.0 c.number.ensures c.requires.body in
    let is : c.number.result.0 - c.len.result ≡ rank m c.args.f.0 = omega (arith, number, c.len.ensures) in
    c.holds.ensures ∙ ap (λ r. set_of c.args.self.now (unreached_by r r)) is
