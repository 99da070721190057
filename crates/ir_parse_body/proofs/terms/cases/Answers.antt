use Rattle.std.proofs.Common.{rules, ◌≡◌, ◌++◌, [], ◌∷◌, sym, subst, refl, arith}
use Rattle.ir_tree.specs.Steps.{Longest}
use Rattle.ir_tree.specs.Instructions.{case}
use Rattle.ir_tree.proofs.ClearInstructions.{case_of}
use Rattle.ir_parse_parts.proofs.Longest.{Reached, reached_next, reached_all, ends}
use Rattle.ir_parse_body.proofs.terms.cases.Goals as goal

pub loop-found-smaller : goal.loop-found-smaller
loop-found-smaller c =
    let l = ends (case_of c.args.toks.now) refl c.loop-found.place c.in-Some.next c.in-Some.case (subst (Longest (case c.args.toks.now) c.loop-found.place)
    c.in-Some.is c.in_ok-case.ensures) in
    omega (arith, l.0, l.1)

pub loop-found-preserved : goal.loop-found-preserved
loop-found-preserved c =
    let ts = c.args.toks.now in
    let e : c.push.new.self ≡ c.loop-found.found ++ c.in-Some.case ∷ [] = search rules in
    subst (λ z. Reached (case ts) c.args.at z c.in-Some.next) (sym e) (reached_next (case_of ts) refl c.args.at c.loop-found.place c.in-Some.next
    c.loop-found.found c.in-Some.case c.loop-found.invariant (subst (Longest (case ts) c.loop-found.place) c.in-Some.is c.in_ok-case.ensures))

pub returns : goal.returns
returns c = reached_all (case c.args.toks.now) c.args.at c.loop-found.place c.loop-found.found c.loop-found.invariant
    (subst (Longest (case c.args.toks.now) c.loop-found.place) c.in_default.is c.in_ok-case.ensures)
