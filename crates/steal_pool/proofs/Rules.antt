-- Each move keeps the rule of a deque of hints.
use Rattle.std.proofs.Common.{◌≡◌, ℕ, zero, suc, ◌+◌, ◌<◌, ◌≤◌, All, List, [], ◌∷◌, ◌++◌, length, set, refl, sym, ap, ◌∙◌, subst, ⊎_elim, inl, inr, Result, Ok}
use Rattle.std.proofs.Common.{Err, IfErr, arith}
use mathlib.Core.Option.{some, some-ne-none}
use lib.ListN.{get_elem?}
use lib.Seq.{take-append_seam, drop-append_seam}
use Rattle.std.proofs.lemmas.List.Elements.{All-nil, All-cons, All-append, All-take, All-drop}
use Rattle.std.specs.Prelude.{MatchResult}
use Rattle.crossbeam_deque.specs.Tasks as tasks
use Rattle.crossbeam_deque.proofs.Lists.{at_set, at_snoc}
use Rattle.attr_ids.specs.declared.ids.PosId.{PosId}
use Rattle.steal_pool.specs.declared.hints.Stage.TheVariants.{Made, Bounding, Used}
use Rattle.steal_pool.specs.declared.hints.Log.{Log}
use Rattle.steal_pool.specs.Hints.{log, gave, took, IsBelow, Takes, Bounds, Each, IsUsed, Hints}

-- no two stages are one
made_used : Made ≡ Used → ⊥
made_used h = cc

made_bounding : Made ≡ Bounding → ⊥
made_bounding h = cc

bounding_used : Bounding ≡ Used → ⊥
bounding_used h = cc

-- a list of one view, and the lists that it becomes

at_one : (a v : Log) (port : ℕ) → get_elem? (a ∷ []) port ≡ some v → (port ≡ 0) × (a ≡ v)
at_one a v zero e = (refl, cc)
at_one a v (suc j) e = absurd (some-ne-none v (sym e))

alone : (a v : Log) (views : List Log) (port : ℕ) → views ≡ a ∷ [] → get_elem? views port ≡ some v → (port ≡ 0) × (a ≡ v)
alone a v views port is at = at_one a v port (subst (λ vs. get_elem? vs port ≡ some v) is at)

stage_of : (a v : Log) (views : List Log) (port : ℕ) → views ≡ a ∷ [] → get_elem? views port ≡ some v → a.stage ≡ v.stage
stage_of a v views port is at = ap (λ (w : Log). w.stage) (alone a v views port is at).1

set_alone : (a v w : Log) (views : List Log) (port : ℕ) → views ≡ a ∷ [] → get_elem? views port ≡ some v → set views port w ≡ w ∷ []
set_alone a v w views port is at = ap (λ vs. set vs port w) is ∙ ap (λ k. set (a ∷ []) k w) (alone a v views port is at).0

each_one : (F : Log → Type 0) (w : Log) → F w → Each F (w ∷ [])
each_one F w mine j x e = subst F (at_one w x j e).1 mine

each_set : (F : Log → Type 0) (views : List Log) (port : ℕ) (w : Log) → F w → Each F views → Each F (set views port w)
each_set F views port w mine all j x e = ⊎_elim (λ (here : (j ≡ port) × (w ≡ x)). subst F here.1 mine) (λ there. all j x there.1) (at_set views port j w x e)

each_more : (F : Log → Type 0) (views : List Log) (w : Log) → F w → Each F views → Each F (views ++ w ∷ [])
each_more F views w mine all j x e = ⊎_elim (λ there. all j x there) (λ (here : w ≡ x). subst F here mine) (at_snoc views w x j e)

-- positions below a bound

front : (n : ℕ) (xs ys : List PosId) → All (IsBelow n) (xs ++ ys) → All (IsBelow n) xs
front n xs ys h = subst (All (IsBelow n)) (take-append_seam xs ys) (All-take (IsBelow n) (length xs) (xs ++ ys) h)

back : (n : ℕ) (xs ys : List PosId) → All (IsBelow n) (xs ++ ys) → All (IsBelow n) ys
back n xs ys h = subst (All (IsBelow n)) (drop-append_seam xs ys) (All-drop (IsBelow n) (length xs) (xs ++ ys) h)

-- a worker that knows its deque to be in use is right
used : (port : ℕ) (v : Log) → v.stage ≡ Used → (items : List PosId) (views : List Log) → Hints items views → get_elem? views port ≡ some v → (n : ℕ) ×
    Each (IsUsed n) views × All (IsBelow n) items
used port v is items views h at = ⊎_elim (λ new. absurd (made_used (stage_of _ v views port new.1 at ∙ is)))
    (λ other. ⊎_elim (λ bounding. absurd (bounding_used (stage_of _ v views port bounding.2 at ∙ is))) (λ done. done) other) h

pub gives : (port : ℕ) (v : Log) (p : PosId) → v.stage ≡ Used → p.0 < v.count → tasks.Pushes Hints port v (p ∷ []) (λ w. w ≡ gave v (p ∷ []))
gives port v p is below items views h at =
    let now = used port v is items views h at in
    let mine = now.1 port v at in
    let small : IsBelow now.0 p = subst (λ n. p.0 < n) mine.0 below in (
      gave v (p ∷ []),
      inr (inr (
        now.0,
        each_set (IsUsed now.0) views port (gave v (p ∷ [])) mine now.1,
        All-append (IsBelow now.0) items (p ∷ []) now.2 (All-cons (IsBelow now.0) p [] small (All-nil (IsBelow now.0))),
      )),
      refl,
    )

pub takes : (port : ℕ) (v : Log) → v.stage ≡ Used → tasks.Takes Hints port v 1 (Takes v)
takes port v is xs items views _ _ h at =
    let now = used port v is (xs ++ items) views h at in
    let mine = now.1 port v at in (
      took v xs,
      inr (inr (now.0, each_set (IsUsed now.0) views port (took v xs) mine now.1, back now.0 xs items now.2)),
      (refl, subst (λ n. All (IsBelow n) xs) (sym mine.0) (front now.0 xs items now.2)),
    )

pub shares : (port : ℕ) (v : Log) → v.stage ≡ Used → tasks.Forks Hints port v v (log v.count v.stage [] [])
shares port v is items views h at =
    let now = used port v is items views h at in
    let mine = now.1 port v at in
    inr (inr (now.0, each_more (IsUsed now.0) (set views port v) (log v.count v.stage [] []) mine (each_set (IsUsed now.0) views port v mine now.1), now.2))

-- the bound enters the deque and leaves it

pub opens : Hints [] (log 0 Made [] [] ∷ [])
opens = inl (refl, refl)

pub bounds : (port : ℕ) (v : Log) (p : PosId) → v.stage ≡ Made → tasks.Pushes Hints port v (p ∷ []) (Bounds v (p ∷ []))
bounds port v p is items views h at =
    let w : Log = log p.0 Bounding [] [] in
    let told : Bounds v (p ∷ []) w = (p, refl, refl) in
    ⊎_elim (λ new. (w, inr (inl (p, ap (λ xs. xs ++ p ∷ []) new.0, set_alone _ v w views port new.1 at)), told))
    (λ other. ⊎_elim (λ bounding. absurd (made_bounding (sym is ∙ sym (stage_of _ v views port bounding.2 at)))) (λ done. absurd (made_used (sym is ∙
    (done.1 port v at).1))) other) h

one_left : (xs items : List PosId) (n : PosId) → 0 < length xs → xs ++ items ≡ n ∷ [] → items ≡ []
one_left [] items n more is = absurd (omega arith)
one_left (x ∷ []) items n more is = cc
one_left (x ∷ (y ∷ xs)) items n more is = absurd (cc)

pub frees : (port : ℕ) (v : Log) → v.stage ≡ Bounding → tasks.Takes Hints port v 1 (λ xs w. w ≡ log v.count Used [] [])
frees port v is xs items views more _ h at =
    let w : Log = log v.count Used [] [] in
    ⊎_elim (λ new. absurd (made_bounding (stage_of _ v views port new.1 at ∙ is)))
    (λ other. ⊎_elim
    (λ bounding. (
      w,
      inr (inr (
        v.count,
        subst (Each (IsUsed v.count)) (sym (set_alone _ v w views port bounding.2 at)) (each_one (IsUsed v.count) w (
          refl,
          refl,
        )),
        subst (All (IsBelow v.count)) (sym (one_left xs items bounding.0 more bounding.1)) (All-nil (IsBelow v.count)),
      )),
      refl,
    ))
    (λ done. absurd (bounding_used (sym is ∙ (done.1 port v at).1))) other) h

pub frees_one : (port : ℕ) (v : Log) → v.stage ≡ Bounding → tasks.Finds Hints port v ⊥
frees_one port v is views h at =
    ⊎_elim (λ new. made_bounding (stage_of _ v views port new.1 at ∙ is))
    (λ other. ⊎_elim (λ bounding. absurd (cc bounding.1)) (λ done. bounding_used (sym is ∙ (done.1 port v at).1)) other) h

-- a push that found room is not refused
pub kept : {A : Type 0} (r : Result A PosId) (P : Type 0) (F : PosId → Type 0) (capacity index given : ℕ) → MatchResult r (λ _. P) F →
    IfErr r (λ _. capacity ≤ index)
    → 64 ≤ capacity → index ≤ given + 1 → given + 1 < 64 → P
kept (Ok u) P F capacity index given h full slots room few = h
kept (Err p) P F capacity index given h full slots room few = absurd (omega (arith, full))
