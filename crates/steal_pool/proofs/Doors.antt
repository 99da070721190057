-- One door of a robber, and one pool of many.
use Rattle.std.proofs.Common.{◌≡◌, ℕ, ◌+◌, ◌<◌, All, List, [], ◌∷◌, ◌++◌, length, map, set, take, get_or, sym, ap, ◌∙◌, subst, add-one}
use Rattle.std.proofs.Math.Seq.{map-set_same, take-suc}
use Rattle.std.proofs.lemmas.List.{map-set, map-append, get_or-map, length-map, length-set}
use Rattle.std.proofs.lemmas.List.Elements.{All-nil, All-cons, All-append, All-set, All-get_or}
use Rattle.std.specs.Global.{Global}
use Rattle.atomic_blocks.specs.Lent.{RowsId}
use Rattle.steal_pool.specs.declared.hints.Log.{Log}
use Rattle.steal_pool.specs.declared.pool.OwnPool.{OwnPool}
use Rattle.steal_pool.specs.declared.robber.Door.{Door}
use Rattle.steal_pool.specs.declared.robber.Robbed.{Robbed}
use Rattle.steal_pool.specs.declared.robber.Robbed.TheVariants.{Got, Empty, Again}
use Rattle.steal_pool.specs.Hints.{fresh, IsBelow}
use Rattle.steal_pool.specs.Pools.{own_log, own_deque, door_log, door_deque, Steals, Robs, IfGot, IsFreshPool}

-- a step at one door
pub robs_one : (doors : List Door) (i : ℕ) (old new : Door) (robbed : Robbed) → old ≡ get_or doors i old → i < length (map door_log doors) →
    Steals (door_log old) robbed (door_log new)
    → Robs (map door_log doors) i robbed (map door_log (set doors i new))
robs_one doors i old new robbed is inside h =
    let within : i < length doors = subst (λ n. i < n) (length-map doors door_log) inside in
    let there : door_log old ≡ get_or (map door_log doors) i (fresh 0) = ap door_log is ∙ sym (get_or-map door_log doors i old (fresh 0) within) in
    (door_log new, map-set door_log doors i new, subst (λ v. Steals v robbed (door_log new)) there h)

pub deques_kept : (doors : List Door) (i : ℕ) (old new : Door) → old ≡ get_or doors i old → door_deque new ≡ door_deque old →
    map door_deque (set doors i new) ≡ map door_deque doors
deques_kept doors i old new is same = map-set_same door_deque doors i new old (same ∙ ap door_deque is)

-- what every step of a robber leaves as it was

count_kept : (v w : Log) (robbed : Robbed) → Steals v robbed w → w.count ≡ v.count
count_kept v w (Got p) h = ap (λ (u : Log). u.count) h.1
count_kept v w Empty h = ap (λ (u : Log). u.count) h
count_kept v w Again h = ap (λ (u : Log). u.count) h

pub robs_below : (old : List Log) (from : ℕ) (robbed : Robbed) (new : List Log) (n : ℕ) → from < length old → All (λ v. v.count ≡ n) old →
    Robs old from robbed new → IfGot robbed (IsBelow n)
robs_below old from (Got p) new n inside all h = subst (λ k. p.0 < k) (All-get_or (λ v. v.count ≡ n) old from (fresh 0) inside all) h.2.0
robs_below old from Empty new n inside all h = tt
robs_below old from Again new n inside all h = tt

pub robs_fit : (old : List Log) (from : ℕ) (robbed : Robbed) (new : List Log) (workers n : ℕ) → from < length old → (length old ≡ workers) ×
    All (λ v. v.count ≡ n) old → Robs old from robbed new → (length new ≡ workers) × All (λ v. v.count ≡ n) new
robs_fit old from robbed new workers n inside was h =
    let w : Log = h.0 in
    let step : Steals (get_or old from (fresh 0)) robbed w = h.2 in
    let mine : w.count ≡ n = count_kept (get_or old from (fresh 0)) w robbed step ∙ All-get_or (λ v. v.count ≡ n) old from (fresh 0) inside was.1 in
    (ap length h.1 ∙ length-set old from w ∙ was.0, subst (All (λ v. v.count ≡ n)) (sym h.1) (All-set (λ v. v.count ≡ n) old from w mine was.1))

-- a pool that was given one more door
pub pools_kept : (pools : List OwnPool) (i count : ℕ) (old new : OwnPool) → old ≡ get_or pools i old → own_log new ≡ own_log old →
    own_deque new ≡ own_deque old → i < length pools → All (IsFreshPool count) pools
    → (map own_deque (set pools i new) ≡ map own_deque pools) × All (IsFreshPool count) (set pools i new)
pools_kept pools i count old new is log deque inside all =
    let was : own_log old ≡ fresh count = ap own_log is ∙ All-get_or (IsFreshPool count) pools i old inside all in
    (map-set_same own_deque pools i new old (deque ∙ ap own_deque is), All-set (IsFreshPool count) pools i new (log ∙ was) all)

-- a door more, to the next pool
pub doors_more : (doors : List Door) (pools : List OwnPool) (deques : List (RowsId × Global)) (i : ℕ) (old : OwnPool) (door : Door) →
    map own_deque pools ≡ deques → old ≡ get_or pools i old → i < length pools
    → door_deque door ≡ own_deque old → map door_deque doors ≡ take i deques → map door_deque (doors ++ door ∷ []) ≡ take (i + 1) deques
doors_more doors pools deques i old door are is inside same before =
    let within : i < length deques = subst (λ n. i < n) (sym (length-map pools own_deque) ∙ ap length are) inside in
    let there : door_deque door ≡ get_or deques i (own_deque old) = same ∙ ap own_deque is ∙ sym (get_or-map own_deque pools i old (own_deque old) inside) ∙
    ap (λ ds. get_or ds i (own_deque old)) are in
    let last : map door_deque doors ++ door_deque door ∷ [] ≡ take i deques ++ get_or deques i (own_deque old) ∷ [] =
    ap (λ ds. ds ++ door_deque door ∷ []) before ∙ ap (λ d. take i deques ++ d ∷ []) there in
    map-append door_deque doors (door ∷ []) ∙ last ∙ sym (take-suc deques i (own_deque old) within) ∙ ap (λ n. take n deques) (sym (add-one i))

pub logs_more : (doors : List Door) (pools : List OwnPool) (i count : ℕ) (old : OwnPool) (door : Door) → old ≡ get_or pools i old → i < length pools →
    All (IsFreshPool count) pools → door_log door ≡ fresh (own_log old).count
    → All (λ v. v ≡ fresh count) (map door_log doors) → All (λ v. v ≡ fresh count) (map door_log (doors ++ door ∷ []))
logs_more doors pools i count old door is inside all same before =
    let was : own_log old ≡ fresh count = ap own_log is ∙ All-get_or (IsFreshPool count) pools i old inside all in
    let new : door_log door ≡ fresh count = same ∙ ap (λ (v : Log). fresh v.count) was in
    subst (All (λ v. v ≡ fresh count)) (sym (map-append door_log doors (door ∷ []))) (All-append (λ v. v ≡ fresh count) (map door_log doors)
    (door_log door ∷ []) before (All-cons (λ v. v ≡ fresh count) (door_log door) [] new (All-nil (λ v. v ≡ fresh count))))
