-- Finding a position in a list, and striking it out.
use Rattle.std.proofs.Common.{◌≡◌, ◌≢◌, ℕ, zero, suc, ◌+◌, ◌<◌, ◌≤◌, not, cond, eqb, eq-eqb, ne_eqb, List, [], ◌∷◌, length, get_or, drop, length-drop, AllPairs}
use Rattle.std.proofs.Common.{Contains, refl, ap, sym, ◌∙◌, subst, arith}
use Rattle.std.specs.List.{remove}
use Rattle.std.proofs.lemmas.List.{drop_more}
use Rattle.rule_terms.proofs.Marked.{same_position}
use Rattle.attr_ids.specs.declared.ids.PosId.{PosId}
use Rattle.fix_core.specs.Machine.{without}

later_at : (x d : PosId) (xs : List PosId) → x.0 ≢ d.0 → (k : ℕ) → k < length (x ∷ xs) → get_or (x ∷ xs) k d ≡ d → Contains xs d
later_at x d xs ne zero l e = absurd (ne (ap (λ (q : PosId). q.0) e))
later_at x d xs ne (suc k) l e = (k, omega (arith, l), e)

pub later : (x d : PosId) (xs : List PosId) → x.0 ≢ d.0 → Contains (x ∷ xs) d → Contains xs d
later x d xs ne has = later_at x d xs ne has.0 has.1 has.2

pub inside_from : (xs : List PosId) (at : ℕ) (d : PosId) → Contains (drop at xs) d → at < length xs
inside_from xs at d has = omega (arith, has.1, length-drop at xs)

-- the search goes on
pub further : (xs : List PosId) (at : ℕ) (d z : PosId) → at < length xs → (get_or xs at z).0 ≢ d.0 → Contains (drop at xs) d → Contains (drop (at + 1) xs) d
further xs at d z l ne has = later (get_or xs at z) d (drop (at + 1) xs) ne (subst (λ ys. Contains ys d) (drop_more xs at z l) has)

pub found_at : (xs : List PosId) (at : ℕ) (d z : PosId) → at < length xs → (get_or xs at z).0 ≡ d.0 → drop at xs ≡ d ∷ drop (at + 1) xs
found_at xs at d z l e = drop_more xs at z l ∙ ap (λ x. x ∷ drop (at + 1) xs) (same_position (get_or xs at z) d e)

-- ---- striking out
tail_pairs : (x : PosId) (xs : List PosId) → AllPairs (λ (a : PosId) (b : PosId). a.0 ≢ b.0) (x ∷ xs) → AllPairs (λ (a : PosId) (b : PosId). a.0 ≢ b.0) xs
tail_pairs x xs h i j d l m = h (suc i) (suc j) d (omega (arith, l)) (omega (arith, m))

head_apart : (x : PosId) (xs : List PosId) → AllPairs (λ (a : PosId) (b : PosId). a.0 ≢ b.0) (x ∷ xs) → (k : ℕ) → k < length xs → x.0 ≢ (get_or xs k x).0
head_apart x xs h k l = h 0 (suc k) x (omega arith) (omega (arith, l))

not_here : (d x : PosId) (ys zs : List PosId) → d.0 ≢ x.0 → cond (not (eqb d.0 x.0)) ys zs ≡ ys
not_here d x ys zs ne = ap (λ b. cond (not b) ys zs) (ne_eqb d.0 x.0 ne)

just_here : (d x : PosId) (ys zs : List PosId) → d.0 ≡ x.0 → cond (not (eqb d.0 x.0)) ys zs ≡ zs
just_here d x ys zs e = ap (λ b. cond (not b) ys zs) (eq-eqb d.0 x.0 e)

-- a list in which it does not stand
untouched : (d : PosId) (xs : List PosId) → ((k : ℕ) → k < length xs → d.0 ≢ (get_or xs k d).0) → without d xs ≡ xs
untouched d [] h = refl
untouched d (x ∷ xs) h = not_here d x (x ∷ without d xs) (without d xs) (h 0 (omega arith)) ∙
    ap (λ ys. x ∷ ys) (untouched d xs (λ k l. h (suc k) (omega (arith, l))))

-- the first of the list
pub struck_first : (d : PosId) (xs : List PosId) → AllPairs (λ (a : PosId) (b : PosId). a.0 ≢ b.0) (d ∷ xs) → without d (d ∷ xs) ≡ xs
struck_first d xs once = just_here d d (d ∷ without d xs) (without d xs) refl ∙ untouched d xs (head_apart d xs once)

-- any one of it
struck_at : (d : PosId) (at : ℕ) (xs : List PosId) → drop at xs ≡ d ∷ drop (at + 1) xs → at < length xs → AllPairs (λ (a : PosId) (b : PosId). a.0 ≢ b.0) xs →
    remove xs at ≡ without d xs
struck_at d at [] is l once = absurd (omega (arith, l))
struck_at d zero (x ∷ xs) is l once =
    let here : x ≡ d = ap (λ (ys : List PosId). get_or ys 0 x) is in
    sym (subst (λ (y : PosId). without d (y ∷ xs) ≡ xs) (sym here)
    (struck_first d xs (subst (λ (y : PosId). AllPairs (λ (a : PosId) (b : PosId). a.0 ≢ b.0) (y ∷ xs)) here once)))
struck_at d (suc at) (x ∷ xs) is l once =
    let inside : at < length xs = omega (arith, l) in
    let there : get_or xs at x ≡ d = ap (λ (ys : List PosId). get_or ys 0 x) (sym (drop_more xs at x inside) ∙ is) in
    let ne : d.0 ≢ x.0 = λ e. head_apart x xs once at inside (sym e ∙ ap (λ (q : PosId). q.0) (sym there)) in
    ap (λ ys. x ∷ ys) (struck_at d at xs (drop_more xs at x inside ∙ ap (λ y. y ∷ drop (at + 1) xs) there) inside (tail_pairs x xs once)) ∙
    sym (not_here d x (x ∷ without d xs) (without d xs) ne)

pub struck : (d : PosId) (n at : ℕ) (xs : List PosId) → n ≤ at → at < length xs → drop at xs ≡ d ∷ drop (at + 1) xs →
    AllPairs (λ (a : PosId) (b : PosId). a.0 ≢ b.0) (drop n xs) →
    drop n (remove xs at) ≡ without d (drop n xs)
struck d n at [] le l is once = absurd (omega (arith, l))
struck d zero at (x ∷ xs) le l is once = struck_at d at (x ∷ xs) is l once
struck d (suc n) zero (x ∷ xs) le l is once = absurd (omega (arith, le))
struck d (suc n) (suc at) (x ∷ xs) le l is once =
    let inside : at < length xs = omega (arith, l) in
    let there : get_or xs at x ≡ d = ap (λ (ys : List PosId). get_or ys 0 x) (sym (drop_more xs at x inside) ∙ is) in
    struck d n at xs (omega (arith, le)) inside (drop_more xs at x inside ∙ ap (λ y. y ∷ drop (at + 1) xs) there) once
