use Rattle.std.proofs.Common.{rules, ◌≡◌, ◌++◌, [], ◌∷◌, refl, sym, subst, arith}
use Rattle.ir_tree.specs.Steps.{Longest, Taken}
use Rattle.ir_tree.specs.Entities.{entity}
use Rattle.ir_tree.proofs.ClearEntities.{entity_of}
use Rattle.ir_parse_top.proofs.Taking.{taken_more}
use Rattle.ir_parse_parts.proofs.Longest.{ends}
use Rattle.ir_parse_top.proofs.parse.entities.Goals as goal

pub loop-found-smaller : goal.loop-found-smaller
loop-found-smaller c =
    let ts = c.args.toks.now in
    let l = ends (entity_of ts) refl c.loop-found.place c.in-Some.next c.in-Some.entity (subst (Longest (entity ts) c.loop-found.place) c.in-Some.is
    c.in_ok-entity.ensures) in
    omega (arith, l.0, l.1)

pub loop-found-preserved : goal.loop-found-preserved
loop-found-preserved c =
    let ts = c.args.toks.now in
    let read = subst (Longest (entity ts) c.loop-found.place) c.in-Some.is c.in_ok-entity.ensures in
    let l = ends (entity_of ts) refl c.loop-found.place c.in-Some.next c.in-Some.entity read in
    let e : c.push.new.self ≡ c.loop-found.found ++ c.in-Some.entity ∷ [] = search rules in (
      subst (λ z. Taken (entity ts) z 0 c.in-Some.next) (sym e) (taken_more (entity ts) c.loop-found.found c.in-Some.entity 0 c.loop-found.place c.in-Some.next
          c.loop-found.invariant.0 read),
      l.1,
    )
