use Rattle.std.proofs.Common.{◌≡◌, ◌<◌, suc, [], ◌∷◌, ◌++◌, List, length, ap, sym, ◌∙◌, subst, arith}
use Rattle.word_rule.specs.declared.seat.WorkerSeat.{WorkerSeat}
use Rattle.word_rule.proofs.Gathering.{AreGathered, gathers, gathers_next, next_of, next_place, idle_at, first_rest}
use Rattle.word_rule.proofs.words.LatticeWords.join_all.Goals as goal

pub loop-other-init : goal.loop-other-init
loop-other-init c =
    let words = c.args.self.now in
    let some_seat : 0 < length c.into_vec-others.result.items = (let many = c.requires.seats.many in let some_worker = words.workers.0 in let same =
    ap length c.into_vec-others.ensures in omega (arith, many, some_worker, same)) in
    let is : c.args.seats ≡ c.remove-first.result ∷ c.remove-first.new.self.items =
    sym c.into_vec-others.ensures ∙ first_rest c.into_vec-others.result.items c.remove-first.result some_seat c.remove-first.ensures.value ∙
    ap (λ (rest : List WorkerSeat). c.remove-first.result ∷ rest) (sym c.remove-first.ensures.items) in
    gathers words c.args.seats c.requires.seats c.requires.idle c.remove-first.result c.remove-first.new.self.items is

pub join-requires-clause-other : goal.join-requires-clause-other
join-requires-clause-other c =
    let words = c.args.self.now in
    let others : List WorkerSeat = c.pop.new.self.items in
    let held : AreGathered words c.args.seats c.loop-other.first (others ++ c.in-Some.other ∷ []) =
    subst (AreGathered words c.args.seats c.loop-other.first) c.in-Some.ensures.items c.loop-other.invariant in (
      next_of words c.args.seats c.requires.seats c.loop-other.first others c.in-Some.other held,
      idle_at c.args.seats (suc (length others)) c.in-Some.other c.requires.idle (next_place words c.args.seats c.requires.seats c.loop-other.first others
          c.in-Some.other held),
    )

pub loop-other-preserved : goal.loop-other-preserved
loop-other-preserved c =
    let words = c.args.self.now in
    let others : List WorkerSeat = c.pop.new.self.items in
    let held : AreGathered words c.args.seats c.loop-other.first (others ++ c.in-Some.other ∷ []) =
    subst (AreGathered words c.args.seats c.loop-other.first) c.in-Some.ensures.items c.loop-other.invariant in
    gathers_next words c.args.seats c.requires.seats c.loop-other.first others c.in-Some.other held c.join.new.first c.join.ensures.0 c.join.ensures.1
