use Rattle.std.proofs.Common.{◌≡◌, ◌≢◌, ◌+◌, ◌∷◌, length, drop, AllPairs, ap, sym, ◌∙◌, subst, arith}
use Rattle.attr_ids.specs.declared.ids.PosId.{PosId}
use Rattle.fix_core.specs.Machine.{without}
use Rattle.word_rule.proofs.Striking.{struck, struck_first}
use Rattle.word_rule.proofs.lists.strike.Goals as goal

pub returns-then-at-next-clause-items : goal.returns-then-at-next-clause-items
returns-then-at-next-clause-items c =
    let xs = c.args.list.now.items in
    let n = c.args.next.now in
    let found : drop n xs ≡ c.args.d ∷ drop (n + 1) xs =
    subst (λ i. drop i xs ≡ c.args.d ∷ drop (i + 1) xs) c.if-at-next.true
    (subst (λ ys. drop c.find-at.result ys ≡ c.args.d ∷ drop (c.find-at.result + 1) ys) c.as_slice.ensures.value c.find-at.ensures.found) in
    sym (struck_first c.args.d (drop (n + 1) xs) (subst (AllPairs (λ (a : PosId) (b : PosId). a.0 ≢ b.0)) found c.requires.once)) ∙
    ap (λ ys. without c.args.d ys) (sym found)

pub returns-else-at-next-clause-items : goal.returns-else-at-next-clause-items
returns-else-at-next-clause-items c =
    let xs = c.args.list.now.items in
    let found : drop c.find-at.result xs ≡ c.args.d ∷ drop (c.find-at.result + 1) xs =
    subst (λ ys. drop c.find-at.result ys ≡ c.args.d ∷ drop (c.find-at.result + 1) ys) c.as_slice.ensures.value c.find-at.ensures.found in
    ap (λ ys. drop c.args.next.now ys) c.remove.ensures.items ∙
    struck c.args.d c.args.next.now c.find-at.result xs c.find-at.ensures.within.0 (let l = c.find-at.ensures.within.1 in let s =
    ap length c.as_slice.ensures.value in omega (arith, l, s)) found c.requires.once
