use Rattle.std.proofs.Common.{rules, ◌≡◌, ◌++◌, [], ◌∷◌, sym, subst, refl}
use Rattle.ir_tree.specs.Entities.{gword}
use Rattle.ir_parse_parts.proofs.Longest.{Reached, reached_next, reached_all}
use Rattle.ir_parse_top.proofs.LongestGlobals.{gword_of, gword_some, gword_none}
use Rattle.ir_parse_top.proofs.globals.gwords.Goals as goal

pub loop-next-preserved : goal.loop-next-preserved
loop-next-preserved c =
    let ts = c.args.toks.now in
    let e : c.push.new.self ≡ c.loop-next.found ++ c.loop-next.place ∷ [] = search rules in
    subst (λ z. Reached (gword ts) c.args.at z c.in-Some.next) (sym e) (reached_next (gword_of ts) refl c.args.at c.loop-next.place c.in-Some.next
    c.loop-next.found c.loop-next.place c.loop-next.invariant (gword_some ts c.loop-next.place c.in-Some.next c.in-Some.ensures.value))

pub returns : goal.returns
returns c = reached_all (gword c.args.toks.now) c.args.at c.loop-next.place c.loop-next.found c.loop-next.invariant
    (gword_none c.args.toks.now c.loop-next.place c.in_default.ensures.value)
