use Rattle.std.proofs.Common.{◌≡◌, ℕ, ◌-◌, ◌^◌, ◌<◌, ◌≤◌, List, length, Option, Some, bit_and, bit_or, ap, sym, ◌∙◌, subst, arith}
use Rattle.std.specs.Prelude.{vec_capacity}
use Rattle.atomic_table.specs.Table.{Allows}
use Rattle.attr_ids.specs.declared.ids.PosId.{PosId}
use Rattle.lattice_words.specs.declared.word.TheConstants.{FACT_BITS}
use Rattle.rule_terms.specs.System.{System, value_at}
use Rattle.dep_graph.specs.Row.{Row}
use Rattle.dep_graph.specs.Graph.{row_at}
use Rattle.fix_core.specs.Machine.{lost_by, owed_by, values_of}
use Rattle.word_rule.specs.declared.view.Key.{Key}
use Rattle.word_rule.specs.declared.view.View.{View}
use Rattle.word_rule.specs.Views.{system_of, rows_of, opened, looked_in, owed_in}
use Rattle.word_rule.specs.Rule.{IsRuled}
use Rattle.word_rule.specs.Plays.{Mine, new_facts, Cuts}
use Rattle.word_rule.specs.Seats.{place_in, position_count, most_dependents}
use Rattle.word_rule.proofs.Rooms.{place_open, inside_of, system_is, rows_are, dependents_fit, count_is}
use Rattle.word_rule.proofs.Remembering.{owing_owed, owing_closed}
use Rattle.word_rule.proofs.Steps.{cuts}
use Rattle.word_rule.proofs.words.LatticeWords.cut.Goals as goal

pub fetch_and-word-requires : goal.fetch_and-word-requires
fetch_and-word-requires c =
    let words = c.args.self.now in
    let k : Key = words.table.shared.key in
    let seat = c.args.seat.now in
    let me : Mine = seat.seat.me in
    let at : c.in-Some.p ≡ opened me.0.core.mode = place_open me.0.core.mode seat.place c.in-Some.p c.in-Some.is seat.opens c.requires.open in
    let system : system_of me.0.about ≡ words.system.now = system_is k me.0.about words.system.now c.requires.of.1 words.about_system in
    let here : c.in-Some.p.0 < length words.system.now.masks =
    inside_of k me.0.about words.system.now c.in-Some.p.0 c.requires.of.1 words.about_system (seat.places c.in-Some.p c.in-Some.is) in
    let inside : (opened me.0.core.mode).0 < length k.system.value.masks =
    subst (λ (y : PosId × System). y.0.0 < length y.1.masks) (λ j. (at j, sym words.about_system j)) here in
    let value = c.requires.value ∙ ap (λ (s : System). value_at s (opened me.0.core.mode).0 (values_of (looked_in me.0.core.mode))) (sym system) in (
      c.requires.of.0,
      (let sized = words.sized in omega (arith, sized, here)),
      subst (λ (q : PosId). Allows (IsRuled k) words.table.shared.table_id.slots seat.seat.id me q.0
          (λ n. bit_and n (bit_or c.args.new (2 ^ 64 - 2 ^ FACT_BITS))) (λ n after. Cuts me n after)) (sym at)
          (cuts k words.table.shared.table_id.slots seat.seat.id me c.args.new c.requires.of.1 c.requires.open inside c.requires.all value),
    )

pub owe-requires-clause-place : goal.owe-requires-clause-place
owe-requires-clause-place c =
    let words = c.args.self.now in
    let seat = c.args.seat.now in
    subst (λ n. c.in-Some.p.0 < n) (sym words.rows) (inside_of words.table.shared.key seat.seat.me.0.about words.system.now c.in-Some.p.0 c.requires.of.1
    words.about_system (seat.places c.in-Some.p c.in-Some.is))

pub owe-requires-clause-room : goal.owe-requires-clause-room
owe-requires-clause-room c =
    let words = c.args.self.now in
    let k : Key = words.table.shared.key in
    let seat = c.args.seat.now in
    let here : c.in-Some.p.0 < length words.system.now.masks =
    inside_of k seat.seat.me.0.about words.system.now c.in-Some.p.0 c.requires.of.1 words.about_system (seat.places c.in-Some.p c.in-Some.is) in
    let inside : c.in-Some.p.0 < length k.system.value.masks = subst (λ (s : System). c.in-Some.p.0 < length s.masks) (sym words.about_system) here in
    let fits = subst (λ (g : List Row). length (row_at g c.in-Some.p.0).dependents ≤ most_dependents (Some k)) words.about_graph
    (dependents_fit k c.in-Some.p.0 inside) in
    let room : most_dependents (Some k) ≤ vec_capacity seat.owed =
    subst (λ (o : Option Key). most_dependents o ≤ vec_capacity seat.owed) c.requires.of.1 seat.owed_room in
    omega (arith, fits, room)

pub invariant_of-seat-clause-opens : goal.invariant_of-seat-clause-opens
invariant_of-seat-clause-opens c =
    sym (ap (λ (v : View). place_in v.core.mode) c.fetch_and-word.ensures.2.seat.view ∙ owing_closed _)

pub invariant_of-seat-clause-owes : goal.invariant_of-seat-clause-owes
invariant_of-seat-clause-owes c =
    let words = c.args.self.now in
    let k : Key = words.table.shared.key in
    let seat = c.args.seat.now in
    let me : Mine = seat.seat.me in
    let word : ℕ = c.fetch_and-word.result in
    let at : c.in-Some.p ≡ opened me.0.core.mode = place_open me.0.core.mode seat.place c.in-Some.p c.in-Some.is seat.opens c.requires.open in
    let system : system_of me.0.about ≡ words.system.now = system_is k me.0.about words.system.now c.requires.of.1 words.about_system in
    let rows : words.graph.now ≡ rows_of me.0.about = sym (rows_are k me.0.about words.graph.now c.requires.of.1 words.about_graph) in
    let value : c.args.new ≡ new_facts me.0 = c.requires.value ∙
    ap (λ (s : System). value_at s (opened me.0.core.mode).0 (values_of (looked_in me.0.core.mode))) (sym system) in
    let owed : owed_by words.graph.now c.in-Some.p.0 (lost_by c.args.new word) ≡ owed_by (rows_of me.0.about) (opened me.0.core.mode).0
    (lost_by (new_facts me.0) word) =
    λ j. owed_by (rows j) (at j).0 (lost_by (value j) word) in
    c.owe.ensures.items ∙ owed ∙ sym (ap (λ (v : View). owed_in v.core.mode) c.fetch_and-word.ensures.2.seat.view ∙
    owing_owed (owed_by (rows_of me.0.about) (opened me.0.core.mode).0 (lost_by (new_facts me.0) word)))

pub invariant_of-seat-clause-debts : goal.invariant_of-seat-clause-debts
invariant_of-seat-clause-debts c = λ d has.
    let about = ap (λ (v : View). position_count v.about) c.fetch_and-word.ensures.2.seat.view ∙ count_is c.args.seat.now.seat.me.0.about in
    subst (λ n. d.0 < n) (sym about) (c.fetch_and-word.ensures.2.owed d has)
