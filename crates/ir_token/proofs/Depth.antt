-- The brackets that are open behind the first tokens, and the greatest number of them.
use Rattle.std.proofs.Common.{◌≡◌, ℕ, zero, suc, ◌+◌, ◌<◌, ◌≤◌, max, List, [], ◌∷◌, length, take, drop, get_or, refl, sym, ap, ⊎_elim, subst, arith}
use Rattle.std.proofs.lemmas.Bool.{cases_lt}
use Rattle.std.proofs.lemmas.List.{drop_more}
use Rattle.ir_token.specs.declared.token.Token.{Token}
use Rattle.ir_token.specs.Bytes.{Bytes}
use Rattle.ir_token.specs.Nesting.{mark_at, then_open, open_after, deepest}

pub depth_above : (b : Bytes) (o : ℕ) (ts : List Token) → o ≤ deepest b o ts
depth_above b o [] = omega arith
depth_above b o (t ∷ ts) = omega arith

pub depth_bound : (b : Bytes) (o : ℕ) (ts : List Token) (n : ℕ) → open_after b o (take n ts) ≤ deepest b o ts
depth_bound b o [] zero = omega arith
depth_bound b o [] (suc n) = omega arith
depth_bound b o (t ∷ ts) zero = omega arith
depth_bound b o (t ∷ ts) (suc n) = omega (arith, depth_bound b (then_open o (mark_at b t.kind t.span.from)) ts n)

pub depth_reached : (b : Bytes) (o : ℕ) (ts : List Token) → (n : ℕ) × (open_after b o (take n ts) ≡ deepest b o ts)
depth_reached b o [] = (0, refl)
depth_reached b o (t ∷ ts) =
    let next : ℕ = then_open o (mark_at b t.kind t.span.from) in
    let rest = depth_reached b (then_open o (mark_at b t.kind t.span.from)) ts in
    ⊎_elim
    (λ (less : deepest b (then_open o (mark_at b t.kind t.span.from)) ts < o). (0, omega arith))
    (λ (more : o ≤ deepest b (then_open o (mark_at b t.kind t.span.from)) ts). (suc rest.0, omega (arith, rest.1)))
    (cases_lt (deepest b (then_open o (mark_at b t.kind t.span.from)) ts) o)

-- one token further
pub depth_more : (b : Bytes) (o : ℕ) (ts us : List Token) (i mark : ℕ) (d : Token) → us ≡ ts → i < length us
    → mark ≡ mark_at b (get_or us i d).kind (get_or us i d).span.from → deepest b o (drop i ts) ≡ max o (deepest b (then_open o mark) (drop (i + 1) ts))
depth_more b o ts us i mark d same h is =
    let front : drop i us ≡ get_or us i d ∷ drop (i + 1) us = drop_more us i d h in
    subst (λ xs. deepest b o (drop i xs) ≡ max o (deepest b (then_open o mark) (drop (i + 1) xs))) same
    (subst (λ m. deepest b o (drop i us) ≡ max o (deepest b (then_open o m) (drop (i + 1) us))) (sym is) (ap (deepest b o) front))
