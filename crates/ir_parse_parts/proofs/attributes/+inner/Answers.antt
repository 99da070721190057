use Rattle.std.proofs.Common.{rules, ◌≡◌, ◌++◌, [], ◌∷◌, sym, subst, refl, arith}
use Rattle.ir_tree.specs.Steps.{Longest}
use Rattle.ir_tree.specs.Attributes.{inner}
use Rattle.ir_tree.proofs.ClearAttributes.{inner_of}
use Rattle.ir_parse_parts.proofs.Longest.{Reached, ends, reached_next, reached_all}
use Rattle.ir_parse_parts.proofs.LongestAttributes.{inner_token, inner_no_close, inner_ends}
use Rattle.ir_parse_parts.proofs.attributes.+inner.Goals as goal

pub inner-returns-in-Some : goal.inner-returns-in-Some
inner-returns-in-Some t c = inner_token c.args.toks.now c.args.at c.in-Some.next c.in-Some.ensures

pub inner-returns-in-Some-the-2 : goal.inner-returns-in-Some-the-2
inner-returns-in-Some-the-2 t c =
    inner_ends c.args.toks.now c.args.at c.in-Some-the.first c.in-Some-the.ensures.value c.in_ok-inside.inside c.in_ok-inside.close c.in_ok-inside.ensures
    c.in-Some-the-2.next c.in-Some-the-2.ensures.value

pub inner-returns-in-None : goal.inner-returns-in-None
inner-returns-in-None t c = inner_no_close c.args.toks.now c.args.at c.in-Some-the.first c.in-Some-the.ensures.value c.in_ok-inside.inside c.in_ok-inside.close
    c.in_ok-inside.ensures c.in_default.ensures c.in-None.ensures.value

pub inners-loop-found-smaller : goal.inners-loop-found-smaller
inners-loop-found-smaller t c =
    let l = ends (inner_of c.args.toks.now) refl c.loop-found.place c.in-Some.next c.in-Some.part (subst (Longest (inner c.args.toks.now) c.loop-found.place)
    c.in-Some.is c.in_ok-part.ensures) in
    omega (arith, l.0, l.1)

pub inners-loop-found-preserved : goal.inners-loop-found-preserved
inners-loop-found-preserved t c =
    let ts = c.args.toks.now in
    let l = subst (Longest (inner ts) c.loop-found.place) c.in-Some.is c.in_ok-part.ensures in
    let grows = ends (inner_of ts) refl c.loop-found.place c.in-Some.next c.in-Some.part l in
    let e : c.push.new.self ≡ c.loop-found.found ++ c.in-Some.part ∷ [] = search rules in (
      omega (arith, c.loop-found.invariant.0, grows.0),
      subst (λ z. Reached (inner ts) c.args.at z c.in-Some.next) (sym e) (reached_next (inner_of ts) refl c.args.at c.loop-found.place c.in-Some.next
          c.loop-found.found c.in-Some.part c.loop-found.invariant.1 l),
    )

pub inners-returns : goal.inners-returns
inners-returns t c = reached_all (inner c.args.toks.now) c.args.at c.loop-found.place c.loop-found.found c.loop-found.invariant.1
    (subst (Longest (inner c.args.toks.now) c.loop-found.place) c.in_default.is c.in_ok-part.ensures)
