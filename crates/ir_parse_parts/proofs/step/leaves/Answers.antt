use Rattle.std.proofs.Common.{rules, ◌≡◌, ◌++◌, [], ◌∷◌, sym, subst, refl}
use Rattle.ir_tree.specs.Steps.{leaf}
use Rattle.ir_tree.proofs.Known.{leaf_of}
use Rattle.ir_parse_parts.proofs.Longest.{Reached, reached_next, reached_all, leaf_some, leaf_none}
use Rattle.ir_parse_parts.proofs.step.leaves.Goals as goal

pub loop-next-preserved : goal.loop-next-preserved
loop-next-preserved c =
    let ts = c.args.toks.now in
    let e : c.push.new.self ≡ c.loop-next.found ++ c.loop-next.place ∷ [] = search rules in
    subst (λ z. Reached (leaf ts c.args.terminal) c.args.at z c.in-Some.next) (sym e) (reached_next (leaf_of {toks =
    ts} c.args.terminal) refl c.args.at c.loop-next.place c.in-Some.next c.loop-next.found c.loop-next.place c.loop-next.invariant
    (leaf_some ts c.args.terminal c.loop-next.place c.in-Some.next c.in-Some.ensures.value))

pub returns : goal.returns
returns c = reached_all (leaf c.args.toks.now c.args.terminal) c.args.at c.loop-next.place c.loop-next.found c.loop-next.invariant
    (leaf_none c.args.toks.now c.args.terminal c.loop-next.place c.in_default.ensures.value)
