use Rattle.std.proofs.Common.{rules, ◌≡◌, ◌++◌, [], ◌∷◌, Some, sym, ap, ◌∙◌, subst, refl, arith}
use Rattle.std.proofs.lemmas.List.{append_assoc}
use Rattle.ir_tree.specs.Steps.{Longest, next, some}
use Rattle.ir_tree.specs.Values.{tvalue}
use Rattle.ir_parse_parts.proofs.Longest.{reached_first, reached_next, reached_all, some_some, some_none}
use Rattle.ir_tree.proofs.ClearValues.{tvalue_of}
use Rattle.ir_parse_body.proofs.Remains.{next_ends}
use Rattle.ir_parse_body.proofs.LongestOperations as op
use Rattle.ir_parse_body.proofs.operations.next_tvalues.Goals as goal

pub returns-in_default : goal.returns-in_default
returns-in_default c = some_none (next c.args.toks.now (tvalue c.args.toks.now)) c.args.at
    (subst (Longest (next c.args.toks.now (tvalue c.args.toks.now)) c.args.at) c.in_default.is c.in_ok-first.ensures)

pub loop-found-init : goal.loop-found-init
loop-found-init c = ([], (search rules, reached_first (next c.args.toks.now (tvalue c.args.toks.now)) c.in-Some.after))

pub loop-found-smaller : goal.loop-found-smaller
loop-found-smaller c =
    let l = next_ends (tvalue_of c.args.toks.now) c.loop-found.place c.in-Some-2.next c.in-Some-2.of
    (subst (Longest (next c.args.toks.now (tvalue c.args.toks.now)) c.loop-found.place) c.in-Some-2.is c.in_ok-of.ensures) in
    omega (arith, l.0, l.1)

pub loop-found-preserved : goal.loop-found-preserved
loop-found-preserved c =
    let i = c.loop-found.invariant in
    let l = (subst (Longest (next c.args.toks.now (tvalue c.args.toks.now)) c.loop-found.place) c.in-Some-2.is c.in_ok-of.ensures) in
    let e : c.push-in-Some-2.new.self ≡ c.loop-found.found ++ c.in-Some-2.of ∷ [] = search rules in (
      i.0 ++ c.in-Some-2.of ∷ [],
      (
        e ∙ ap (λ z. z ++ c.in-Some-2.of ∷ []) i.1.0 ∙ append_assoc c.push.new.self i.0 (c.in-Some-2.of ∷ []),
        reached_next (op.next_tvalue_of c.args.toks.now) refl c.in-Some.after c.loop-found.place c.in-Some-2.next i.0 c.in-Some-2.of i.1.1 l,
      ),
    )

pub returns : goal.returns
returns c =
    let i = c.loop-found.invariant in
    let e : c.push.new.self ≡ c.in-Some.first ∷ [] = search rules in
    let rest = reached_all (next c.args.toks.now (tvalue c.args.toks.now)) c.in-Some.after c.loop-found.place i.0 i.1.1
    (subst (Longest (next c.args.toks.now (tvalue c.args.toks.now)) c.loop-found.place) c.in_default-2.is c.in_ok-of.ensures) in
    subst (λ z. Longest (some (next c.args.toks.now (tvalue c.args.toks.now))) c.args.at (Some (z, c.loop-found.place))) (sym (i.1.0 ∙
    ap (λ z. z ++ i.0) e)) (some_some (op.next_tvalue_of c.args.toks.now) refl c.args.at c.in-Some.after c.loop-found.place c.in-Some.first i.0
    (subst (Longest (next c.args.toks.now (tvalue c.args.toks.now)) c.args.at) c.in-Some.is c.in_ok-first.ensures) rest)
