use Rattle.std.proofs.Common.{◌<◌, length, sym, ◌∙◌, subst}
use Rattle.word_rule.specs.declared.seat.WorkerSeat.{WorkerSeat}
use Rattle.word_rule.specs.Views.{owed_in}
use Rattle.word_rule.specs.Belongs.{core_of, number_of, found_by, IsSeatOf}
use Rattle.workers.proofs.Seating.{seat_again}
use Rattle.workers.proofs.Telling.{first_owed, owed_inside, owes_less}
use Rattle.workers.proofs.worker.Worker.tell_all.Goals as goal

pub hint-requires : goal.hint-requires
hint-requires c =
    let words = c.args.words.now in
    let d = c.in-Some.d in
    let of : IsSeatOf words c.loop-d.self.seat = seat_again words c.args.self.now.seat c.loop-d.self.seat c.loop-d.invariant.0 c.requires.of in
    let has = first_owed (owed_in (core_of c.loop-d.self.seat).mode) d (sym c.owed.ensures ∙ c.in-Some.is) in
    subst (λ n. d.0 < n) (sym c.loop-d.invariant.3) (owed_inside words c.loop-d.self.seat d of has)

pub loop-d-smaller-then-tell : goal.loop-d-smaller-then-tell
loop-d-smaller-then-tell c =
    let old = core_of c.loop-d.self.seat in
    let has = first_owed (owed_in old.mode) c.in-Some.d (sym c.owed.ensures ∙ c.in-Some.is) in
    subst (λ (s : WorkerSeat). length (owed_in (core_of s).mode) < length (owed_in old.mode)) (sym c.hint.ensures.1)
    (owes_less (number_of c.loop-d.self.seat) c.in-Some.d (found_by c.tell.new.seat) old (core_of c.tell.new.seat) has c.tell.ensures.told)

pub loop-d-smaller : goal.loop-d-smaller
loop-d-smaller c =
    let old = core_of c.loop-d.self.seat in
    let has = first_owed (owed_in old.mode) c.in-Some.d (sym c.owed.ensures ∙ c.in-Some.is) in
    owes_less (number_of c.loop-d.self.seat) c.in-Some.d (found_by c.tell.new.seat) old (core_of c.tell.new.seat) has c.tell.ensures.told
