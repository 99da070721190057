use Rattle.std.proofs.Common.{rules, ◌≡◌, ◌++◌, [], ◌∷◌, sym, subst, refl, arith}
use Rattle.ir_tree.specs.Steps.{Longest}
use Rattle.ir_tree.specs.Attributes.{attach}
use Rattle.ir_tree.proofs.ClearAttributes.{attach_of}
use Rattle.ir_parse_parts.proofs.Longest.{Reached, reached_next, reached_all, ends}
use Rattle.ir_parse_top.proofs.entities.attaches.Goals as goal

pub loop-one-smaller : goal.loop-one-smaller
loop-one-smaller c =
    let l = ends (attach_of c.args.toks.now) refl c.loop-one.place c.in-Some.next c.in-Some.one (subst (Longest (attach c.args.toks.now) c.loop-one.place)
    c.in-Some.is c.attach.ensures) in
    omega (arith, l.0, l.1)

pub loop-one-preserved : goal.loop-one-preserved
loop-one-preserved c =
    let ts = c.args.toks.now in
    let e : c.push.new.self ≡ c.loop-one.found ++ c.in-Some.one ∷ [] = search rules in
    subst (λ z. Reached (attach ts) c.args.at z c.in-Some.next) (sym e) (reached_next (attach_of ts) refl c.args.at c.loop-one.place c.in-Some.next
    c.loop-one.found c.in-Some.one c.loop-one.invariant (subst (Longest (attach ts) c.loop-one.place) c.in-Some.is c.attach.ensures))

pub returns : goal.returns
returns c = reached_all (attach c.args.toks.now) c.args.at c.loop-one.place c.loop-one.found c.loop-one.invariant
    (subst (Longest (attach c.args.toks.now) c.loop-one.place) c.in_default.is c.attach.ensures)
