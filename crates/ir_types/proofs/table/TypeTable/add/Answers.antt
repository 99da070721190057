use Rattle.std.proofs.Common.{◌≡◌, ℕ, List, ◌∷◌, ◌∙◌, sym, ap, subst, arith, length}
use Rattle.ir_types.specs.declared.ir_type.IrType.{IrType}
use Rattle.ir_types.specs.declared.standing.Standing.{Standing}
use Rattle.ir_types.specs.Standing.{IsKept, AreSettledBut, Has, laid, users_of}
use Rattle.ir_types.proofs.Additions.{sound_new, waiting_new, whole_list, kept_new, kept_same}
use Rattle.ir_types.proofs.table.TypeTable.add.Goals as goal

pub invariant_of-self-in_err-push_waiting : goal.invariant_of-self-in_err-push_waiting
invariant_of-self-in_err-push_waiting c =
    kept_same c.self.inside.types.items _ c.self.inside.standings.items _ c.self.inside.users.items _ c.in_err-push_waiting.ensures.types_err
    c.in_err-push_waiting.ensures.standings_err c.in_ok-note_users.ensures.kept c.self.invariant

pub visit-requires-clause-sound : goal.visit-requires-clause-sound
visit-requires-clause-sound c =
    sound_new c.self.inside.types.items _ c.self.inside.standings.items _ c.args.t (c.deref-2.ensures.value ∙ c.in_ok-push_waiting.ensures.types)
    (c.deref_mut.ensures.value ∙ c.in_ok-push_waiting.ensures.standings) c.self.invariant.sound

pub visit-requires-clause-waiting : goal.visit-requires-clause-waiting
visit-requires-clause-waiting c =
    let place : c.len-id.result ≡ length c.self.inside.types.items = omega (arith, c.len-id.ensures) in
    waiting_new c.self.inside.types.items _ c.self.inside.standings.items _ c.self.inside.users.items c.note_users.new.users.items _ c.args.t
    (c.deref-2.ensures.value ∙ c.in_ok-push_waiting.ensures.types)
    (c.deref_mut.ensures.value ∙ c.in_ok-push_waiting.ensures.standings) c.deref-3.ensures.value c.in_ok-note_users.ensures.kept c.self.invariant.waiting
    (λ part is_part out. subst (Has (users_of c.note_users.new.users.items part)) place
    (c.in_ok-note_users.ensures.noted part is_part (ap (λ (ss : List Standing). laid ss part) c.deref.ensures.value ∙ out)))

pub invariant_of-self-2 : goal.invariant_of-self-2
invariant_of-self-2 c =
    let place : c.len-id.result ≡ length c.self.inside.types.items = omega (arith, c.len-id.ensures) in
    let new = c.visit.new.standings in
    let kept = kept_new c.self.inside.types.items c.deref-2.result.now c.self.inside.standings.items c.deref_mut.result.now new c.self.inside.users.items
    c.note_users.new.users.items c.args.t
    (c.deref-2.ensures.value ∙ c.in_ok-push_waiting.ensures.types)
    (c.deref_mut.ensures.value ∙ c.in_ok-push_waiting.ensures.standings) c.in_ok-note_users.ensures.kept c.self.invariant
    (λ part is_part out. subst (Has (users_of c.note_users.new.users.items part)) place
    (c.in_ok-note_users.ensures.noted part is_part (ap (λ (ss : List Standing). laid ss part) c.deref.ensures.value ∙ out)))
    c.visit.auto.standings c.visit.ensures.sound c.visit.ensures.grows
    (λ pending h. c.visit.ensures.settled pending (subst (λ (k : ℕ). AreSettledBut (k ∷ pending) c.deref-2.result.now c.deref_mut.result.now) (sym place) h)) in
    let list = whole_list c.push_waiting.new.standings.len new c.push_waiting.new.standings.items (c.visit.auto.standings ∙ c.deref_mut.ensures.len)
    (sym (ap length c.deref_mut.ensures.value) ∙ c.deref_mut.ensures.len) in
    subst (λ (ss : List Standing). IsKept c.push_waiting.new.types.items ss c.note_users.new.users.items) (sym list)
    (subst (λ (ts : List IrType). IsKept ts new c.note_users.new.users.items) c.deref-2.ensures.value kept)
