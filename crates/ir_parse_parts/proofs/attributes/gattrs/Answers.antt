use Rattle.std.proofs.Common.{rules, ◌≡◌, ◌++◌, [], ◌∷◌, sym, subst, refl, arith}
use Rattle.ir_tree.specs.Steps.{Longest}
use Rattle.ir_tree.specs.Attributes.{gattr}
use Rattle.ir_tree.proofs.ClearAttributes.{gattr_of}
use Rattle.ir_parse_parts.proofs.Longest.{Reached, ends, reached_next, reached_all}
use Rattle.ir_parse_parts.proofs.attributes.gattrs.Goals as goal

pub loop-found-smaller : goal.loop-found-smaller
loop-found-smaller c =
    let l = ends (gattr_of c.args.toks.now) refl c.loop-found.place c.in-Some.next c.in-Some.attribute
    (subst (Longest (gattr c.args.toks.now) c.loop-found.place) c.in-Some.is c.in_ok-attribute.ensures) in
    omega (arith, l.0, l.1)

pub loop-found-preserved : goal.loop-found-preserved
loop-found-preserved c =
    let ts = c.args.toks.now in
    let e : c.push.new.self ≡ c.loop-found.found ++ c.in-Some.attribute ∷ [] = search rules in
    subst (λ z. Reached (gattr ts) c.args.at z c.in-Some.next) (sym e) (reached_next (gattr_of ts) refl c.args.at c.loop-found.place c.in-Some.next
    c.loop-found.found c.in-Some.attribute c.loop-found.invariant (subst (Longest (gattr ts) c.loop-found.place) c.in-Some.is c.in_ok-attribute.ensures))

pub returns : goal.returns
returns c = reached_all (gattr c.args.toks.now) c.args.at c.loop-found.place c.loop-found.found c.loop-found.invariant
    (subst (Longest (gattr c.args.toks.now) c.loop-found.place) c.in_default.is c.in_ok-attribute.ensures)
