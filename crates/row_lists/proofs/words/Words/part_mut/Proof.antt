-- `part_mut` lends on what `range_mut` lends, under a new name. The new loan's number of words is the one that the slice
-- has, so what comes back has as many. The borrow checker shows no write-back clause that says so, so this proof walks
-- the code by hand.
use mathlib.Core.Path.{◌≡◌, refl, sym, subst, ap}
use Prim.Native.Nat.{ℕ}
use mathlib.Core.List.{List, [], ◌∷◌}
use lib.ListN.{length, drop as drop_list}
use lib.Seq.{take_at}
use seplogic.Ra.Ura.{Ura}
use mir.Syntax.{Lifetime, named, w64}
use mir.Val.{Val}
use base.Logic.{SProp, ent, sep, ex, emp, id⊢}
use base.Stored.{coded_list}
use base.Fml.{Lft, GName, Share, ftrue, flft, fobs, fbor}
use types.Logic.{Logic, sem}
use types.SemTy.{cells, Arr, Body}
use types.Follow.{takes_part}
use types.Mut.{open_ref}
use contract.Monad.{fact}
use contract.Running.{tables}
use types.Kit.{Item, ‵, ◌⊛◌, raw, some, later, ◌$◌, ◌∵◌, !, qed, move, keep, drop, split, split3, join, fsplit, fsplit3, fjoin, feq_l, feq_i, rewrite, use1}
use types.Kit.{use2, await, pick, suffices, frame, done, updating, group, now, show}
use types.Run.{stop, addr, and_then, no_more, returns, enter}
use types.ByLocal.{alloc_all, pass_all, free_all, look_at, get, through, sets, lands_as}
use denote.Array.{Array}
use denote.Builtin.{u64, usize}
use denote.Exit.{yes, no}
use denote.Follow.{follows, follows_then}
use denote.FollowSlice.{heres_id, slice_of}
use denote.Memory.{mem}
use denote.Plain.{uint_vals, uint_Tells}
use denote.RattleType.{RattleType}
use denote.Ref.{MutBor, mut_vals, mut_Tells}
use denote.Shadow.{pure_i, pure_l}
use denote.Signature.{plain, mut_ref_to}
use denote.Slice.{MutSlice, Room, slice_val, mut_slice_at, mut_slice_vals}
use denote.Steps.{nothing, heard, only}
use denote.Triple.Call.{calls_at}
use denote.Triple.Clauses.{lasts}
use denote.Triple.Spec.{triple_of}
use denote.Triple.Table.{framed}
use denote.Triple.Walked.{says, Stays, stay_dropped, ends_at, Goes-dropped, Goes-spent_ref}
use Rattle.std.proofs.raw_atomic.Walks.{proved}
use Rattle.std.specs.List.{refill}
use Rattle.std.specs.Prelude.{slice_range}
use Rattle.row_lists.specs.Words.{with_words}
use Rattle.row_lists.specs.contracts.words.Words.{the_row}
use Rattle.row_lists.specs.contracts.words.Words.part_mut as f
use Rattle.row_lists.specs.contracts.words.Words.range_mut as g
use Rattle.row_lists.proofs.words.Words.range_mut.Met.{met}
use Rattle.row_lists.proofs.words.Words.part_mut.Statement.{statement}
use Rattle.row_lists.proofs.words.Words.part_mut.Code as code

-- ---- a slice under a new name

module _ {M : Type 1} {𝓤 : Ura M} (𝓛 : Logic 𝓤) (ℓ : Lifetime) (κ : Lft) (q : Share) (b o : ℕ) (γ : GName) (R : RattleType) (xs : List R.Denot) where
  open 𝓛 use {H, A}

  abbrev after : List R.Denot → List R.Denot
  after = refill (length xs) xs

  abbrev Lent : GName → SProp 𝓤
  Lent δ = sep 𝓤 (sem 𝓛 ((MutSlice ℓ κ R).own_val (record { ref_ptr = (b, o); ghost_name = δ; now = xs }) (slice_val (
    b,
    o,
  ) (length xs) ∷ []))) (sep 𝓤 (A.lft κ q) (sem 𝓛 (follows (Array R 0) (Array R 0) γ δ after)))

  -- the same, as an item of a walk
  abbrev lent : GName → Item 𝓤
  lent δ = ‵ ((MutSlice ℓ κ R).own_val (record { ref_ptr = (b, o); ghost_name = δ; now = xs }) (slice_val (
    b,
    o,
  ) (length xs) ∷ [])) ⊛ ‵ (flft κ q) ⊛ ‵ (follows (Array R 0) (Array R 0) γ δ after)

  put : (ws : List R.Denot) → ent 𝓤 (sep 𝓤 (sem 𝓛 ((Arr (mem R) (length xs)).own_at ws b o)) (emp 𝓤)) (sem 𝓛 ((Arr (mem R) (length xs)).own_at (after ws) b o))
  put ws = qed 𝓛 (‵ ((Arr (mem R) (length xs)).own_at ws b o) ∷ raw (emp 𝓤) ∷ []) ∵ fsplit ! $ feq_l ! (λ e.
      let same : after ws ≡ ws = take_at ws (drop_list (length ws) xs) (length xs) e in
      rewrite ! 0 (λ (l : List R.Denot). ‵ (cells (mem R) l b o)) (sym same) refl $
      feq_i ! ℕ (length (after ws)) (length xs) (subst (λ (l : List R.Denot). length l ≡ length xs) (sym same) e) $ fjoin ! $ keep ! (0 ∷ []) $ done !)

  lends : Room R (length xs) → (vs : List Val)
      → ent 𝓤 (sep 𝓤 (sem 𝓛 ((MutSlice ℓ κ R).own_val (record { ref_ptr = (b, o); ghost_name = γ; now = xs }) vs)) (A.lft κ q)) (H.⇛ (ex 𝓤 Lent))
  lends rm vs = qed 𝓛 (‵ ((MutSlice ℓ κ R).own_val (record { ref_ptr = (b, o); ghost_name = γ; now = xs }) vs) ∷ ‵ (flft κ q) ∷ []) ∵ updating ! $ fsplit3 ! $
      drop ! $
      rewrite ! 0 (λ (l : List R.Denot). ‵ (fobs γ ((coded_list R.coded).code l))) (heres_id R xs) refl $ open_ref ! tt (Arr (mem R) (length xs)) {b = b} {o =
      o} $
      nothing ! $ move ! (2 ∷ 3 ∷ 4 ∷ 1 ∷ 0 ∷ []) $ group ! 5 $
      use1 𝓛 (later (some (λ (δ : GName). ‵ (fobs δ ((coded_list R.coded).code xs)) ⊛ ‵ (fbor κ (Body (Arr (mem R) (length xs)) b o δ)) ⊛ ‵ (flft κ q) ⊛ ‵
      (follows (Array R 0) (Array R 0) γ δ after))))
      (takes_part 𝓛 (Arr (mem R) (length xs)) (Arr (mem R) (length xs)) after κ q b o b o γ (emp 𝓤) put ((coded_list R.coded).code xs)
      ((coded_list R.coded).code xs) xs) $ await ! tt $ pick ! (λ δ. split3 ! $
      use2 𝓛 (‵ ((MutSlice ℓ κ R).own_val (record { ref_ptr = (b, o); ghost_name = δ; now = xs }) (slice_val (
        b,
        o,
      ) (length xs) ∷ []))) (slice_of 𝓛 R ℓ κ b o δ xs rm) $ now ! $ show ! Lent δ $ done !)

-- ---- the code

abbrev stayed : Stays f.ended.signature.params f.ended.kept
stayed = (stay_dropped (mut_ref_to (0 ∷ []) tt (plain (λ _. the_row))) no, (stay_dropped (plain (λ _. usize)) yes, (stay_dropped (plain (λ _. usize)) yes, tt)))

pub part_mut_spec : {M : Type 1} → statement M
part_mut_spec 𝓤 𝓛 𝓜 𝓡 wired =
    let c = f.clauses 𝓛 𝓜.mem 𝓡.returns in
    let goes = Goes-dropped 𝓛 1 (plain (λ _. usize)) yes (λ κs x w. refl) in
    proved 𝓛 f.ended stayed c 𝓜 𝓡 (Goes-spent_ref 𝓛 1 (0 ∷ []) tt (plain (λ _. the_row)), (goes, (goes, tt)))
    f.Key.name code.function (code.unfolded 𝓤 𝓛.H 𝓜 𝓡 wired)
    (λ κs. (mut_vals, (uint_vals w64, (uint_vals w64, tt)))) (λ κs. (
      mut_Tells (named 0) κs.0 the_row,
      (uint_Tells w64, (uint_Tells w64, tt)),
    )) (λ κs qs bounds a n are.
    let κ = κs.0 in let q = qs.0 in let from : ℕ = a.1.0 in let to : ℕ = a.1.1.0 in
    let G = triple_of 𝓛 g.signature (g.spec 𝓛 𝓜.mem 𝓡.returns) in
    let z : G.Ghost = ((κs, qs, bounds, a, (mut_vals a.0, (uint_vals w64 from, (uint_vals w64 to, tt)))), n) in
    qed 𝓛 (raw (G.pre z) ∷ []) ∵ enter ! _ _ _ _ _ $
    alloc_all ! (λ l. pass_all ! refl ((tt, tt), ((tt, record { fits = are.1.0.1 }), ((tt, record { fits = are.1.1.0.1 }), tt))) $
    sets ! (addr ! (through ! refl (stop !))) refl (tt, tt) $
    calls_at ! (framed 𝓤 𝓛.H 𝓜 (tables 𝓤 𝓛.H 𝓜 𝓡 𝓡.env)) G (met 𝓤 𝓛 𝓜 𝓡 (code.calls-row_lists::words::Words::range_mut 𝓡.env wired)) z
    (and_then ! (get ! refl) (and_then ! (get ! refl) (and_then ! (get ! refl) (no_more !)))) (λ v.
    use1 𝓛 (later (some (λ (r : MutBor (List ℕ)). ((‵ (flft κ q) ⊛ ‵ ftrue) ⊛ ‵ ((MutSlice (named 0) κ u64).own_val r (v ∷ []))) ⊛
    some (λ (ws : Unit {0} × (Unit {0} ×
    (Unit {0} × Unit {0}))). ‵ (lasts g.ended κs a ws) ⊛ (‵ (follows the_row (Array u64 0) a.0.ghost_name r.ghost_name (with_words a.0.now from)) ⊛ raw
    (fact 𝓤 (r.now ≡ slice_range a.0.now.all.items from to))))))) (id⊢ 𝓤 _) $
    await ! tt $ pick ! (λ r. split ! $ split ! $ move ! (2 ∷ []) $ pick ! (λ ws. split ! $ drop ! $ split ! $ move ! (1 ∷ []) $ heard ! _ (λ is.
    -- [how the run follows; the token; the slice]
    move ! (2 ∷ []) $ fsplit ! $ pure_l ! (mut_slice_at u64 r (v ∷ [])) (λ p.
    lands_as ! (ap only p.0) refl (tt, (tt, (record { fits = p.1.0 }, tt))) $
    pure_i ! (mut_slice_at u64 r (mut_slice_vals r)) (tt, (tt, tt)) (refl, p.1) $ fjoin ! $
    move ! (2 ∷ []) $ split ! $ move ! (2 ∷ 0 ∷ []) $
    use2 𝓛 (later (some (lent 𝓛 (named 0) κ q r.ref_ptr.0 r.ref_ptr.1 r.ghost_name u64 r.now))) (lends 𝓛 (named 0) κ q r.ref_ptr.0 r.ref_ptr.1 r.ghost_name u64
    r.now p.1 (mut_slice_vals r)) $ await ! tt $ pick ! (λ δ. split3 ! $
    -- [the slice; its token; how the old one follows; nothing; how the run follows]
    move ! (4 ∷ 2 ∷ []) $
    use2 𝓛 (‵ (follows the_row (Array u64 0) a.0.ghost_name δ (λ ws. with_words a.0.now from (refill (length r.now) r.now ws))))
    (follows_then 𝓛 the_row (Array u64 0) (Array u64 0) (with_words a.0.now from) (refill (length r.now) r.now) a.0.ghost_name r.ghost_name δ) $
    returns ! (look_at ! 0 refl) $ free_all ! refl $ keep ! (1 ∷ 2 ∷ 0 ∷ []) $
    suffices ! _ (ends_at 𝓛 f.ended stayed c z (slice_val r.ref_ptr (length r.now)) (record r { ghost_name = δ }) (tt, (tt, (tt, tt))) (tt, (tt, (tt, tt)))) $
    nothing ! $ nothing ! $ fjoin ! $ nothing ! $ fjoin ! $ nothing ! $ fjoin ! $ join ! $ nothing ! $ move ! (2 ∷ 0 ∷ []) $ join ! $ join ! $ frame ! $ says !
    is $ done !))))))))
