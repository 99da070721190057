-- A seat that a worker goes on with.
use Rattle.std.proofs.Common.{◌≡◌, ◌≤◌, refl, ap, sym, ◌∙◌, subst, inl, inr, arith}
use Rattle.word_rule.specs.declared.seat.WorkerSeat.{WorkerSeat}
use Rattle.word_rule.specs.declared.words.LatticeWords.{LatticeWords}
use Rattle.word_rule.specs.declared.view.View.{View}
use Rattle.word_rule.specs.Views.{stepped_to}
use Rattle.word_rule.specs.Belongs.{core_of, found_by, IsSeatOf, IsSameSeat}
use Rattle.workers.specs.declared.worker.Worker.{Worker}
use Rattle.workers.specs.Workers.{IsWorkerOf, HasTaken}

pub same_here : (seat : WorkerSeat) → IsSameSeat seat seat
same_here seat = (refl, refl)

pub same_then : (a b c : WorkerSeat) → IsSameSeat a b → IsSameSeat b c → IsSameSeat a c
same_then a b c first second = (second.0 ∙ first.0, second.1 ∙ ap (λ (v : View). stepped_to v (found_by c) (core_of c)) first.1)

pub seat_again : (words : LatticeWords) (a b : WorkerSeat) → IsSameSeat a b → IsSeatOf words a → IsSeatOf words b
seat_again words a b same of = (same.0 ∙ of.0, ap (λ (v : View). v.about) same.1 ∙ of.1)

-- ---- counted turns
-- a worker that changed neither its seat nor its count, and has its pool and its robber still
pub taken_none : (words : LatticeWords) (old new : Worker) → IsWorkerOf words old → IsWorkerOf words new → new.seat ≡ old.seat → new.taken ≡ old.taken →
    HasTaken words old new
taken_none words old new was is seat taken = record {
  worker = is;
  same = subst (λ (s : WorkerSeat). IsSameSeat old.seat s) (sym seat) (same_here old.seat);
  took = (let p = ap (λ (s : WorkerSeat). (core_of s).took) seat in omega (arith, p, taken));
  rises = omega (arith, taken);
  few = inl taken;
}

-- one stretch of a run after another
pub taken_then : (words : LatticeWords) (a b c : Worker) → HasTaken words a b → HasTaken words b c → HasTaken words a c
taken_then words a b c first second = record {
  worker = second.worker;
  same = same_then a.seat b.seat c.seat first.same second.same;
  took = (let p = first.took in let q = second.took in omega (arith, p, q));
  rises = (let p = first.rises in let q = second.rises in omega (arith, p, q));
  few = elim second.few [
    | inr within ↦ inr within
    | inl none ↦ (let q = second.took in elim first.few [
      | inl before ↦ inl (none ∙ before)
      | inr within ↦ inr (omega (arith, q, none, within))
    ])
  ];
}
