use Rattle.std.proofs.Common.{rules, ◌≡◌, ◌++◌, [], ◌∷◌, ap, ◌∙◌, subst, refl, arith}
use Rattle.std.proofs.lemmas.List.{append_assoc}
use Rattle.ir_tree.specs.Steps.{Longest, next}
use Rattle.ir_tree.specs.Instructions.{arg}
use Rattle.ir_parse_parts.proofs.Longest.{reached_next, reached_all}
use Rattle.ir_parse_body.proofs.LongestCalls.{next_arg_of, next_arg_moves}
use Rattle.ir_parse_body.proofs.calls.more_args.Goals as goal

pub loop-found-smaller : goal.loop-found-smaller
loop-found-smaller c =
    let l = next_arg_moves c.args.toks.now c.loop-found.place c.in-Some.after c.in-Some.part
    (subst (Longest (next c.args.toks.now (arg c.args.toks.now)) c.loop-found.place) c.in-Some.is c.in_ok-part.ensures) in
    omega (arith, l.0, l.1)

pub loop-found-preserved : goal.loop-found-preserved
loop-found-preserved c =
    let ts = c.args.toks.now in
    let l = subst (Longest (next ts (arg ts)) c.loop-found.place) c.in-Some.is c.in_ok-part.ensures in
    let i = c.loop-found.invariant in
    let e : c.push.new.self ≡ c.loop-found.found ++ c.in-Some.part ∷ [] = search rules in (
      i.0 ++ c.in-Some.part ∷ [],
      (
        e ∙ ap (λ z. z ++ c.in-Some.part ∷ []) i.1.0 ∙ append_assoc c.args.found i.0 (c.in-Some.part ∷ []),
        reached_next (next_arg_of ts) refl c.args.at c.loop-found.place c.in-Some.after i.0 c.in-Some.part i.1.1 l,
      ),
    )

pub returns : goal.returns
returns c =
    let i = c.loop-found.invariant in (
      i.0,
      (
        i.1.0,
        reached_all (next c.args.toks.now (arg c.args.toks.now)) c.args.at c.loop-found.place i.0 i.1.1
            (subst (Longest (next c.args.toks.now (arg c.args.toks.now)) c.loop-found.place) c.in_default.is c.in_ok-part.ensures),
      ),
    )
