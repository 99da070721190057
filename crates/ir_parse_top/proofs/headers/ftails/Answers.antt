use Rattle.std.proofs.Common.{rules, ◌≡◌, ◌++◌, [], ◌∷◌, sym, subst, refl, arith}
use Rattle.ir_tree.specs.Steps.{Longest}
use Rattle.ir_tree.specs.Headers.{ftail}
use Rattle.ir_tree.proofs.ClearHeaders.{ftail_of}
use Rattle.ir_parse_parts.proofs.Longest.{Reached, ends, reached_next, reached_all}
use Rattle.ir_parse_top.proofs.headers.ftails.Goals as goal

pub loop-found-smaller : goal.loop-found-smaller
loop-found-smaller c =
    let l = ends (ftail_of c.args.toks.now) refl c.loop-found.place c.in-Some.next c.in-Some.tail (subst (Longest (ftail c.args.toks.now) c.loop-found.place)
    c.in-Some.is c.in_ok-tail.ensures) in
    omega (arith, l.0, l.1)

pub loop-found-preserved : goal.loop-found-preserved
loop-found-preserved c =
    let ts = c.args.toks.now in
    let e : c.push.new.self ≡ c.loop-found.found ++ c.in-Some.tail ∷ [] = search rules in
    subst (λ z. Reached (ftail ts) c.args.at z c.in-Some.next) (sym e) (reached_next (ftail_of ts) refl c.args.at c.loop-found.place c.in-Some.next
    c.loop-found.found c.in-Some.tail c.loop-found.invariant (subst (Longest (ftail ts) c.loop-found.place) c.in-Some.is c.in_ok-tail.ensures))

pub returns : goal.returns
returns c = reached_all (ftail c.args.toks.now) c.args.at c.loop-found.place c.loop-found.found c.loop-found.invariant
    (subst (Longest (ftail c.args.toks.now) c.loop-found.place) c.in_default.is c.in_ok-tail.ensures)
