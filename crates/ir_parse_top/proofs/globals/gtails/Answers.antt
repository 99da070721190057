use Rattle.std.proofs.Common.{rules, ◌≡◌, ◌++◌, [], ◌∷◌, sym, subst, refl, arith}
use Rattle.ir_tree.specs.Steps.{Longest, next}
use Rattle.ir_tree.specs.Entities.{gtail}
use Rattle.ir_tree.proofs.ClearEntities.{gtail_of}
use Rattle.ir_parse_parts.proofs.Longest.{Reached, reached_next, reached_all}
use Rattle.ir_parse_body.proofs.Remains.{next_ends}
use Rattle.ir_parse_top.proofs.LongestGlobals.{next_gtail_of}
use Rattle.ir_parse_top.proofs.globals.gtails.Goals as goal

pub loop-tail-smaller : goal.loop-tail-smaller
loop-tail-smaller c =
    let l = next_ends (gtail_of c.args.toks.now) c.loop-tail.place c.in-Some.next c.in-Some.tail c.in-Some.ensures in
    omega (arith, l.0, l.1)

pub loop-tail-preserved : goal.loop-tail-preserved
loop-tail-preserved c =
    let ts = c.args.toks.now in
    let e : c.push.new.self ≡ c.loop-tail.found ++ c.in-Some.tail ∷ [] = search rules in
    subst (λ z. Reached (next ts (gtail ts)) c.args.at z c.in-Some.next) (sym e) (reached_next (next_gtail_of ts) refl c.args.at c.loop-tail.place
    c.in-Some.next c.loop-tail.found c.in-Some.tail c.loop-tail.invariant c.in-Some.ensures)

pub returns : goal.returns
returns c = reached_all (next c.args.toks.now (gtail c.args.toks.now)) c.args.at c.loop-tail.place c.loop-tail.found c.loop-tail.invariant c.in_default.ensures
