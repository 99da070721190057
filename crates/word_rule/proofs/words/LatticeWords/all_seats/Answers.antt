use Rattle.std.proofs.Common.{◌≡◌, ◌+◌, ◌<◌, ◌≤◌, List, length, slice_get, Option, Some, All, ap, sym, ◌∙◌, subst, arith}
use Rattle.std.proofs.lemmas.List.{length_push}
use Rattle.fix_core.specs.Machine.{new_seat}
use Rattle.word_rule.specs.declared.view.Key.{Key}
use Rattle.word_rule.specs.declared.seat.WorkerSeat.{WorkerSeat}
use Rattle.word_rule.specs.Plays.{Mine}
use Rattle.word_rule.specs.Seats.{most_inputs, most_dependents}
use Rattle.word_rule.specs.Belongs.{core_of, number_of, workers_in, IsSeatOf, AreSeatsOf}
use Rattle.word_rule.proofs.Joins.{splits}
use Rattle.word_rule.proofs.Beginning.{inputs_room, dependents_room}
use Rattle.word_rule.proofs.Gathering.{seats_made, seats_pushed}
use Rattle.word_rule.proofs.words.LatticeWords.all_seats.Goals as goal

pub split_seat-seat-requires : goal.split_seat-seat-requires
split_seat-seat-requires c =
    let words = c.args.self.now in
    let inv = c.loop-number.invariant in
    let room : c.loop-number.first.me.0.made < words.table.shared.key.workers = (let made = inv.3 in let l = c.loop-number-test.true in let w =
    c.requires.workers in omega (arith, made, l, w)) in
    (inv.0, (let sized = words.sized in omega (arith, sized)), splits words.table.shared.key c.loop-number.first.id c.loop-number.first.me.0 inv.1 inv.2 room)

pub new-requires-clause-room : goal.new-requires-clause-room
new-requires-clause-room c =
    let words = c.args.self.now in
    let k : Key = words.table.shared.key in
    let about : c.split_seat-seat.result.me.0.about ≡ Some k = ap (λ (m : Mine). m.0.about) c.split_seat-seat.ensures.4 ∙ c.loop-number.invariant.1 in
    subst (λ (o : Option Key). (most_inputs o ≤ c.widest_inputs-inputs.result) × (most_dependents o ≤ c.widest_dependents-dependents.result)) (sym about) (
      inputs_room k words.system.now _ words.about_system c.widest_inputs-inputs.ensures,
      dependents_room k words.system.now words.graph.now _ words.about_system words.about_graph c.widest_dependents-dependents.ensures,
    )

pub new-requires-2-clause-room : goal.new-requires-2-clause-room
new-requires-2-clause-room c =
    let words = c.args.self.now in
    let k : Key = words.table.shared.key in
    subst (λ (o : Option Key). (most_inputs o ≤ c.widest_inputs-inputs.result) ×
    (most_dependents o ≤ c.widest_dependents-dependents.result)) (sym c.loop-number.invariant.1) (
      inputs_room k words.system.now _ words.about_system c.widest_inputs-inputs.ensures,
      dependents_room k words.system.now words.graph.now _ words.about_system words.about_graph c.widest_dependents-dependents.ensures,
    )

pub loop-number-preserved : goal.loop-number-preserved
loop-number-preserved c =
    let words = c.args.self.now in
    let inv = c.loop-number.invariant in
    let split = c.split_seat-seat.ensures in
    let made = c.in_ok-made.ensures in
    let of : IsSeatOf words c.in_ok-made.made = (made.0 ∙ split.3 ∙ inv.0, ap (λ (m : Mine). m.0.about) made.1 ∙ ap (λ (m : Mine). m.0.about) split.4 ∙ inv.1)
    in
    let number : number_of c.in_ok-made.made ≡ length c.loop-number.seats.items + 1 = ap (λ (m : Mine). m.0.number) made.1 ∙
    ap (λ (m : Mine). m.0.number) split.4 ∙ inv.3 ∙ sym inv.6 in
    let fresh : core_of c.in_ok-made.made ≡ new_seat = ap (λ (m : Mine). m.0.core) made.1 ∙ ap (λ (m : Mine). m.0.core) split.4 in
    let items = c.in_ok-push.ensures.items in (
      split.0 ∙ inv.0,
      ap (λ (m : Mine). m.0.about) split.2 ∙ inv.1,
      ap (λ (m : Mine). m.0.number) split.2 ∙ inv.2,
      ap (λ (m : Mine). m.0.made) split.2 ∙ ap (λ n. n + 1) inv.3,
      ap (λ (m : Mine). m.0.core) split.2 ∙ inv.4,
      ap (λ (m : Mine). m.1) split.2 ∙ inv.5,
      ap (λ n. n + 1) (ap length items ∙ length_push c.loop-number.seats.items c.in_ok-made.made ∙ inv.6),
      λ i seat e. seats_pushed words c.loop-number.seats.items c.in_ok-made.made of number fresh inv.7 i seat
          (ap (λ (ss : List WorkerSeat). slice_get ss i) (sym items) ∙ e),
    )

pub returns : goal.returns
returns c =
    let words = c.args.self.now in
    let inv = c.loop-number.invariant in
    let made = c.in_ok-made-2.ensures in
    let rest : List WorkerSeat = c.loop-number.seats.items in
    let all : length rest + 1 ≡ workers_in words = (let long = inv.6 in let some_worker = words.workers.0 in let w = c.requires.workers in let past =
    c.loop-number-test.false in
    let up : c.loop-number.number ≤ c.args.workers = c.loop-number.auto.number-end (omega (arith, some_worker, w)) in omega (arith, long, w, past, up)) in
    subst (λ (ss : List WorkerSeat). AreSeatsOf words ss × All (λ (seat : WorkerSeat). core_of seat ≡ new_seat) ss) (sym (c.from_vec.ensures ∙
    c.in_ok-insert.ensures.items))
    (seats_made words c.in_ok-made-2.made rest (made.0 ∙ inv.0, ap (λ (m : Mine). m.0.about) made.1 ∙ inv.1) (ap (λ (m : Mine). m.0.number) made.1 ∙
    inv.2) (ap (λ (m : Mine). m.0.core) made.1 ∙ inv.4) all inv.7)
