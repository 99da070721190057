use Rattle.std.proofs.Common.{rules, ◌≡◌, ◌++◌, [], ◌∷◌, sym, subst, refl, arith}
use Rattle.ir_tree.specs.Steps.{Longest}
use Rattle.ir_tree.specs.Instructions.{clause}
use Rattle.ir_tree.proofs.ClearInstructions.{clause_of}
use Rattle.ir_parse_parts.proofs.Longest.{Reached, reached_next, reached_all}
use Rattle.ir_parse_body.proofs.LongestLanding.{clause_moves}
use Rattle.ir_parse_body.proofs.landing.clauses.Goals as goal

pub loop-found-smaller : goal.loop-found-smaller
loop-found-smaller c =
    let l = clause_moves c.args.toks.now c.loop-found.place c.in-Some.next c.in-Some.part (subst (Longest (clause c.args.toks.now) c.loop-found.place)
    c.in-Some.is c.in_ok-part.ensures).0 in
    omega (arith, l.0, l.1)

pub loop-found-preserved : goal.loop-found-preserved
loop-found-preserved c =
    let ts = c.args.toks.now in
    let e : c.push.new.self ≡ c.loop-found.found ++ c.in-Some.part ∷ [] = search rules in
    subst (λ z. Reached (clause ts) c.args.at z c.in-Some.next) (sym e) (reached_next (clause_of ts) refl c.args.at c.loop-found.place c.in-Some.next
    c.loop-found.found c.in-Some.part c.loop-found.invariant (subst (Longest (clause ts) c.loop-found.place) c.in-Some.is c.in_ok-part.ensures))

pub returns : goal.returns
returns c = reached_all (clause c.args.toks.now) c.args.at c.loop-found.place c.loop-found.found c.loop-found.invariant
    (subst (Longest (clause c.args.toks.now) c.loop-found.place) c.in_default.is c.in_ok-part.ensures)
