use Rattle.std.proofs.Common.{List, ℕ, sym, subst, ◌∙◌, ap, ◌-◌, length, slice_get}
use Rattle.ir_types.specs.Standing.{Has}
use Rattle.ir_types.proofs.Notes.{note_keeps, note_has, last_has, has_pushed}
use Rattle.ir_types.proofs.users.note_user.Goals as goal

pub returns-then-eq-clause-noted : goal.returns-then-eq-clause-noted
returns-then-eq-clause-noted c =
    let ts = c.index.result.now in
    let at = c.copied.ensures ∙ c.last.ensures.value ∙ ap (λ (xs : List ℕ). slice_get xs (length xs - 1)) c.as_slice.ensures in
    last_has c.make_room.new.users.items c.args.part c.args.user ts c.copied.result
    (length ts - 1) c.in_ok-make_room.ensures.room c.index.ensures at c.if-eq.ensures

pub returns-in_err-push-clause-kept : goal.returns-in_err-push-clause-kept
returns-in_err-push-clause-kept c = λ part t h.
    note_keeps c.make_room.new.users.items c.args.part c.index_mut-waiting.result.now c.push.new.self c.in_ok-make_room.ensures.room
    c.index_mut-waiting.ensures.value
    (λ u has. subst (λ (xs : List ℕ). Has xs u) (sym c.in_err-push.ensures.err) has) part t (c.in_ok-make_room.ensures.kept part t h)

pub returns-clause-kept : goal.returns-clause-kept
returns-clause-kept c = λ part t h.
    note_keeps c.make_room.new.users.items c.args.part c.index_mut-waiting.result.now c.push.new.self c.in_ok-make_room.ensures.room
    c.index_mut-waiting.ensures.value
    (λ u has. subst (λ (xs : List ℕ). Has xs u) (sym c.in_ok-push.ensures.ok) (has_pushed c.index_mut-waiting.result.now c.args.user u has)) part t
    (c.in_ok-make_room.ensures.kept part t h)

pub returns-clause-noted : goal.returns-clause-noted
returns-clause-noted c =
    note_has c.make_room.new.users.items c.args.part c.args.user c.index_mut-waiting.result.now c.push.new.self c.in_ok-make_room.ensures.room
    c.in_ok-push.ensures.ok
