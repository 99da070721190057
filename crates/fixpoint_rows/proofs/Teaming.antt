-- The workers of a run, before it.
use Rattle.std.proofs.Common.{◌≡◌, ℕ, ◌<◌, List, ◌∷◌, length, get_or, All, ap, subst, ◌∙◌, sym}
use Rattle.std.specs.List.{remove}
use Rattle.std.proofs.lemmas.List.Elements.{All-head, All-tail}
use Rattle.std.proofs.lemmas.Option.{slice_get-get_or}
use Rattle.rule_terms.specs.System.{System}
use Rattle.fix_core.specs.declared.state.CoreSeat.{CoreSeat}
use Rattle.fix_core.specs.Machine.{new_seat}
use Rattle.steal_pool.specs.declared.hints.Log.{Log}
use Rattle.steal_pool.specs.declared.pool.OwnPool.{OwnPool}
use Rattle.steal_pool.specs.declared.robber.Robber.{Robber}
use Rattle.steal_pool.specs.Pools.{AreFresh}
use Rattle.word_rule.specs.declared.seat.WorkerSeat.{WorkerSeat}
use Rattle.word_rule.specs.declared.words.LatticeWords.{LatticeWords}
use Rattle.word_rule.specs.Belongs.{core_of, AreSeatsOf}
use Rattle.word_rule.proofs.Gathering.{first_rest}
use Rattle.workers.specs.Workers.{IsReady, IsPoolOf}

-- seats that have done nothing yet have nothing in hand
pub all_ready : (words : LatticeWords) (seats : List WorkerSeat) → AreSeatsOf words seats → All (λ seat. core_of seat ≡ new_seat) seats →
    All (IsReady words) seats
all_ready words seats of fresh k d l = ((of.each k (get_or seats k d) (slice_get-get_or seats k d l)).0, ap (λ (c : CoreSeat). c.mode) (fresh k d l))

-- fresh pools have positions below the count
pub all_pools : (workers count : ℕ) (pools : List OwnPool) (robbers : List Robber) → AreFresh workers count pools robbers → All (IsPoolOf count) pools
all_pools workers count pools robbers fresh k d l = ap (λ (v : Log). v.count) (fresh.pools_fresh k d l)

-- what holds of each thing of a list holds of the first, which is taken out, and of those that are left
pub taken_first : {X : Type 0} (P : X → Type 0) (xs rest : List X) (x : X) → 0 < length xs → x ≡ get_or xs 0 x → rest ≡ remove xs 0 → All P xs → P x ×
    All P rest
taken_first P xs rest x some first left all =
    let is : xs ≡ x ∷ rest = first_rest xs x some first ∙ ap (λ ys. x ∷ ys) (sym left) in
    let each : All P (x ∷ rest) = subst (λ ys. All P ys) is all in
    (All-head P x rest each, All-tail P x rest each)
