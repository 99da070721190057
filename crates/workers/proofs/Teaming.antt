-- All workers, before their runs and after them.
use Rattle.std.proofs.Common.{◌≡◌, ℕ, zero, suc, ◌+◌, ◌*◌, ◌<◌, ◌≤◌, cond, List, [], ◌∷◌, map, length, get_or, slice_get, slice_index_or, All, Option, Some}
use Rattle.std.proofs.Common.{unwrap_or, sum_by, refl, ap, sym, ◌∙◌, subst, arith, suc-mul}
use Rattle.std.proofs.lemmas.List.{length-map}
use Rattle.std.proofs.lemmas.List.Sums.{sum_by-cons, get_or-le-sum_by}
use Rattle.std.proofs.lemmas.Option.{none-some, same_Some, slice_get_within, slice_get-get_or, unwrap_or-slice_get}
use Rattle.attr_ids.specs.declared.status.WorkerEnd.{WorkerEnd}
use Rattle.attr_ids.specs.declared.status.WorkerEnd.TheVariants.{Done, Spent}
use Rattle.rule_terms.specs.System.{System}
use Rattle.fix_core.specs.declared.state.CoreSeat.{CoreSeat}
use Rattle.fix_core.specs.declared.state.CoreMode.TheVariants.{Idle}
use Rattle.fix_core.specs.Machine.{new_seat}
use Rattle.steal_pool.specs.declared.hints.Log.{Log}
use Rattle.steal_pool.specs.declared.pool.OwnPool.{OwnPool}
use Rattle.steal_pool.specs.declared.robber.Robber.{Robber}
use Rattle.steal_pool.specs.Pools.{own_deque, door_log, door_deque, RobsAll, IsFreshPool, AreFresh}
use Rattle.word_rule.specs.declared.seat.WorkerSeat.{WorkerSeat}
use Rattle.word_rule.specs.declared.words.LatticeWords.{LatticeWords}
use Rattle.word_rule.specs.declared.view.View.{View}
use Rattle.word_rule.specs.Belongs.{core_of, number_of, system_in, workers_in, IsSeatOf, AreSeatsOf, KnowsAll}
use Rattle.workers.specs.declared.worker.Worker.{Worker}
use Rattle.steal_pool.specs.Pools.{IsRobberOf}
use Rattle.workers.specs.Workers.{count_in, IsWorkerOf, HasRun, is_spent, spent_count}
use Rattle.workers.proofs.Seating.{seat_again}

-- ---- what stands at a place of a mapped list
mapped : {X Y : Type 0} (f : X → Y) (xs : List X) (i : ℕ) (x : X) → slice_get xs i ≡ Some x → slice_get (map f xs) i ≡ Some (f x)
mapped f [] i x e = absurd (none-some x e)
mapped f (z ∷ xs) zero x e = ap (λ y. Some (f y)) (same_Some z x e)
mapped f (z ∷ xs) (suc i) x e = mapped f xs i x e

found : {X Y : Type 0} (f : X → Y) (xs : List X) (i : ℕ) (y : Y) → slice_get (map f xs) i ≡ Some y → (x : X) × (slice_get xs i ≡ Some x) × (f x ≡ y)
found f [] i y e = absurd (none-some y e)
found f (z ∷ xs) zero y e = (z, refl, same_Some (f z) y e)
found f (z ∷ xs) (suc i) y e = found f xs i y e

stands : {X : Type 0} (xs : List X) (i : ℕ) (x d : X) → slice_get xs i ≡ Some x → get_or xs i d ≡ x
stands xs i x d e = sym (unwrap_or-slice_get xs i d) ∙ ap (λ (o : Option _). unwrap_or o d) e

-- ---- before
robber_is : (workers count : ℕ) (pools : List OwnPool) (robber : Robber) → length pools ≡ workers → RobsAll (map own_deque pools) count robber →
    IsRobberOf workers count robber
robber_is workers count pools robber many robs = (
  length-map robber.doors.items door_log ∙ sym (length-map robber.doors.items door_deque) ∙ ap length robs.deques_are ∙ length-map pools own_deque ∙ many,
  λ k d l. ap (λ (v : Log). v.count) (robs.all_fresh k d l),
)

pub team_begin : (words : LatticeWords) (team : List Worker) → AreSeatsOf words (map (λ worker. worker.seat) team) →
    All (λ seat. core_of seat ≡ new_seat) (map (λ (worker : Worker). worker.seat) team) →
    AreFresh (workers_in words) (count_in words) (map (λ worker. worker.own) team) (map (λ worker. worker.robber) team) → All (IsWorkerOf words) team
team_begin words team seats fresh made k d l =
    let worker : Worker = get_or team k d in
    let at : slice_get team k ≡ Some worker = slice_get-get_or team k d l in
    let seat_at = mapped (λ (x : Worker). x.seat) team k worker at in
    let own_at = mapped (λ (x : Worker). x.own) team k worker at in
    let robber_at = mapped (λ (x : Worker). x.robber) team k worker at in
    let new = subst (λ (s : WorkerSeat). core_of s ≡ new_seat) (stands (map (λ (x : Worker). x.seat) team) k worker.seat worker.seat seat_at)
    (fresh k worker.seat (slice_get_within (map (λ (x : Worker). x.seat) team) k worker.seat seat_at)) in
    let pool = subst (IsFreshPool (count_in words)) (stands (map (λ (x : Worker). x.own) team) k worker.own worker.own own_at)
    (made.pools_fresh k worker.own (slice_get_within (map (λ (x : Worker). x.own) team) k worker.own own_at)) in
    let robs = subst (RobsAll (map own_deque (map (λ (x : Worker). x.own) team)) (count_in words)) (stands (map (λ (x : Worker). x.robber) team) k worker.robber
    worker.robber robber_at)
    (made.robbers_fresh k worker.robber (slice_get_within (map (λ (x : Worker). x.robber) team) k worker.robber robber_at)) in record {
      ready = ((seats.each k worker.seat seat_at).0, ap (λ (c : CoreSeat). c.mode) new);
      pool = ap (λ (v : Log). v.count) pool;
      robber = robber_is (workers_in words) (count_in words) (map (λ (x : Worker). x.own) team) worker.robber made.pools_counted robs;
    }

-- the same of the lists that they were made of
pub team_made : (words : LatticeWords) (s : System) (workers count : ℕ) (team : List Worker) (seats : List WorkerSeat) (pools : List OwnPool)
    (robbers : List Robber) → AreSeatsOf words seats → All (λ seat. core_of seat ≡ new_seat) seats →
    AreFresh workers count pools robbers → (system_in words ≡ s) → (workers_in words ≡ workers) → count ≡ length s.masks →
    map (λ worker. worker.seat) team ≡ seats → map (λ worker. worker.own) team ≡ pools → map (λ worker. worker.robber) team ≡ robbers →
    All (IsWorkerOf words) team
team_made words s workers count team seats pools robbers of fresh made system many positions seats_are pools_are robbers_are =
    let same : count ≡ count_in words = positions ∙ ap (λ (x : System). length x.masks) (sym system) in
    team_begin words team (subst (AreSeatsOf words) (sym seats_are) of) (subst (λ (xs : List WorkerSeat). All (λ seat. core_of seat ≡ new_seat) xs)
    (sym seats_are) fresh)
    (subst (λ (y : ℕ × ℕ × List OwnPool × List Robber). AreFresh y.0 y.1 y.2 y.3) (λ j. (sym many j, same j, sym pools_are j, sym robbers_are j)) made)

-- ---- after
-- each worker has run
abbrev pub HaveRun : LatticeWords → ℕ → List Worker → List Worker → Type 0
HaveRun words turns old new = (i : ℕ) (d : Worker) → i < length old → HasRun words turns (slice_index_or old i d) (slice_index_or new i d)

ran_as : (words : LatticeWords) (turns : ℕ) (old new : List Worker) → length new ≡ length old → HaveRun words turns old new → (i : ℕ) (x : Worker) →
    slice_get new i ≡ Some x → (y : Worker) × (slice_get old i ≡ Some y) × HasRun words turns y x
ran_as words turns old new long ran i x at =
    let l : i < length old = (let m = slice_get_within new i x at in omega (arith, m, long)) in (
      get_or old i x,
      slice_get-get_or old i x l,
      subst (HasRun words turns (get_or old i x)) (stands new i x x at) (ran i x l),
    )

-- what holds of each worker that ran holds of all
all_ran : {A : Type 0} (f : Worker → A) (P : A → Type 0) (words : LatticeWords) (turns : ℕ) (old new : List Worker) → length new ≡ length old →
    HaveRun words turns old new →
    ((i : ℕ) (y x : Worker) → slice_get old i ≡ Some y → slice_get new i ≡ Some x → HasRun words turns y x → P (f x)) → All P (map f new)
all_ran f P words turns old new long ran each k d l =
    let found_at = found f new k (get_or (map f new) k d) (slice_get-get_or (map f new) k d l) in
    let was = ran_as words turns old new long ran k found_at.0 found_at.1 in
    subst P found_at.2 (each k was.0 found_at.0 was.1 found_at.1 was.2)

pub team_end : (words : LatticeWords) (turns : ℕ) (old new : List Worker) → length new ≡ length old → HaveRun words turns old new →
    AreSeatsOf words (map (λ worker. worker.seat) old) → AreSeatsOf words (map (λ worker. worker.seat) new)
team_end words turns old new long ran seats = record {
  many = length-map new (λ (x : Worker). x.seat) ∙ long ∙ sym (length-map old (λ (x : Worker). x.seat)) ∙ seats.many;
  each = λ i seat e.
      let found_at = found (λ (x : Worker). x.seat) new i seat e in
      let was = ran_as words turns old new long ran i found_at.0 found_at.1 in
      let before = seats.each i was.0.seat (mapped (λ (x : Worker). x.seat) old i was.0 was.1) in
      subst (λ (s : WorkerSeat). IsSeatOf words s × (number_of s ≡ i)) found_at.2 (
        seat_again words was.0.seat found_at.0.seat was.2.same before.0,
        ap (λ (v : View). v.number) was.2.same.1 ∙ before.1,
      );
}

pub team_idle : (words : LatticeWords) (turns : ℕ) (old new : List Worker) → length new ≡ length old → HaveRun words turns old new →
    All (λ seat. (core_of seat).mode ≡ Idle) (map (λ (worker : Worker). worker.seat) new)
team_idle words turns old new long ran = all_ran (λ x. x.seat) (λ seat. (core_of seat).mode ≡ Idle) words turns old new long ran (λ i y x was is run. run.idle)

pub team_know : (words : LatticeWords) (turns : ℕ) (old new : List Worker) → length new ≡ length old → HaveRun words turns old new →
    All (λ end. end ≡ Done) (map (λ (worker : Worker). worker.end) new) →
    All (KnowsAll (count_in words)) (map core_of (map (λ (worker : Worker). worker.seat) new))
team_know words turns old new long ran done k d l =
    let seat_at = found core_of (map (λ (x : Worker). x.seat) new) k (get_or (map core_of (map (λ (x : Worker). x.seat) new)) k d)
    (slice_get-get_or (map core_of (map (λ (x : Worker). x.seat) new)) k d l) in
    let found_at = found (λ (x : Worker). x.seat) new k seat_at.0 seat_at.1 in
    let was = ran_as words turns old new long ran k found_at.0 found_at.1 in
    let end_at = mapped (λ (x : Worker). x.end) new k found_at.0 found_at.1 in
    let ended : found_at.0.end ≡ Done =
    subst (λ (end : WorkerEnd). end ≡ Done) (stands (map (λ (x : Worker). x.end) new) k found_at.0.end found_at.0.end end_at)
    (done k found_at.0.end (slice_get_within (map (λ (x : Worker). x.end) new) k found_at.0.end end_at)) in
    subst (KnowsAll (count_in words)) (ap core_of found_at.2 ∙ seat_at.2) (was.2.known ended)

-- ---- turns
-- the workers that used up their turns took up as many words each
pays : (end : WorkerEnd) (n turns took rest : ℕ) → (end ≡ Spent → turns ≤ took) → n * turns ≤ rest → (cond (is_spent end) 1 0 + n) * turns ≤ took + rest
pays Done n turns took rest own others = omega (arith, ap (λ m. m * turns) (plain n), others) where
  plain : (m : ℕ) → 0 + m ≡ m
  plain m = omega arith
pays Spent n turns took rest own others = omega (arith, ap (λ m. m * turns) (next n), suc-mul n turns, own refl, others) where
  next : (m : ℕ) → 1 + m ≡ suc m
  next m = omega arith

spent_pay : (turns : ℕ) (team : List Worker) → ((i : ℕ) (x : Worker) → slice_get team i ≡ Some x → x.end ≡ Spent → turns ≤ (core_of x.seat).took) →
    spent_count (map (λ worker. worker.end) team) * turns ≤ sum_by (λ seat. (core_of seat).took) (map (λ (worker : Worker). worker.seat) team)
spent_pay turns [] each = omega arith
spent_pay turns (x ∷ team) each =
    let others = spent_pay turns team (λ i y at. each (suc i) y at) in
    let count = sum_by-cons (λ (e : WorkerEnd). cond (is_spent e) 1 0) x.end (map (λ worker. worker.end) team) in
    let sum = sum_by-cons (λ (seat : WorkerSeat). (core_of seat).took) x.seat (map (λ worker. worker.seat) team) in
    let here = pays x.end (spent_count (map (λ worker. worker.end) team)) turns (core_of x.seat).took
    (sum_by (λ seat. (core_of seat).took) (map (λ (worker : Worker). worker.seat) team)) (each 0 x refl) others in
    omega (arith, ap (λ m. m * turns) count, sum, here)

pub team_pay : (words : LatticeWords) (turns : ℕ) (old new : List Worker) → length new ≡ length old → HaveRun words turns old new →
    All (λ seat. core_of seat ≡ new_seat) (map (λ (worker : Worker). worker.seat) old) →
    spent_count (map (λ worker. worker.end) new) * turns ≤ sum_by (λ seat. (core_of seat).took) (map (λ (worker : Worker). worker.seat) new)
team_pay words turns old new long ran fresh = spent_pay turns new (λ i x at spent.
    let was = ran_as words turns old new long ran i x at in
    let seat_at = mapped (λ (y : Worker). y.seat) old i was.0 was.1 in
    let none : core_of was.0.seat ≡ new_seat =
    subst (λ (s : WorkerSeat). core_of s ≡ new_seat) (stands (map (λ (y : Worker). y.seat) old) i was.0.seat was.0.seat seat_at)
    (fresh i was.0.seat (slice_get_within (map (λ (y : Worker). y.seat) old) i was.0.seat seat_at)) in
    let all = was.2.spent spent in
    omega (arith, all, ap (λ (c : CoreSeat). c.took) none))

-- with more turns than can be paid for no worker is spent
none_left : (n turns budget : ℕ) → n * turns ≤ budget → budget < turns → n ≡ 0
none_left zero turns budget paid more = refl
none_left (suc n) turns budget paid more = absurd (omega (arith, suc-mul n turns, paid, more))

is_done : (end : WorkerEnd) → cond (is_spent end) 1 0 ≤ 0 → end ≡ Done
is_done Done l = refl
is_done Spent l = absurd (omega (arith, l))

pub all_done : (ends : List WorkerEnd) (turns budget : ℕ) → spent_count ends * turns ≤ budget → budget < turns → All (λ end. end ≡ Done) ends
all_done ends turns budget paid more k d l =
    let none = none_left (spent_count ends) turns budget paid more in
    is_done (get_or ends k d) (subst (λ n. cond (is_spent (get_or ends k d)) 1 0 ≤ n) none (get_or-le-sum_by (λ (e : WorkerEnd). cond (is_spent e) 1 0) ends k d
    l))
