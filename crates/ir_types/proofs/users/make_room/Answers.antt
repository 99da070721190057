use Rattle.std.proofs.Common.{List, [], ◌∷◌, ◌++◌, ℕ, sym, subst}
use Rattle.ir_types.specs.Standing.{HasAll}
use Rattle.ir_types.proofs.Notes.{room_keeps}
use Rattle.ir_types.proofs.users.make_room.Goals as goal

pub room-preserved : goal.room-preserved
room-preserved c = λ part t h.
    subst (λ (us : List (List ℕ)). HasAll c.room.users.items us) (sym c.in_ok-push.ensures.items)
    (subst (λ (new : List ℕ). HasAll c.room.users.items (c.room.users.items ++ new ∷ [])) (sym c.new.ensures) (room_keeps c.room.users.items)) part t
    (c.room.invariant part t h)

pub returns-in_err-push-clause-kept : goal.returns-in_err-push-clause-kept
returns-in_err-push-clause-kept c = λ part t h.
    subst (λ (us : List (List ℕ)). HasAll c.room.users.items us) (sym c.in_err-push.ensures.items) (λ p u has. has) part t (c.room.invariant part t h)
