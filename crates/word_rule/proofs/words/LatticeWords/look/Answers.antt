use Rattle.std.proofs.Common.{◌≡◌, ℕ, ◌<◌, List, length, set, bit_and, ap, sym, ◌∙◌, subst, arith}
use Rattle.std.proofs.lemmas.List.{length-set}
use Rattle.atomic_table.specs.Table.{Allows}
use Rattle.attr_ids.specs.declared.ids.PosId.{PosId}
use Rattle.rule_terms.specs.Slots.{input_at}
use Rattle.rule_terms.specs.System.{System, inputs_of}
use Rattle.fix_core.specs.declared.state.CoreMode.{CoreMode}
use Rattle.fix_core.specs.Machine.{values_of}
use Rattle.word_rule.specs.declared.view.Key.{Key}
use Rattle.word_rule.specs.declared.view.View.{View}
use Rattle.word_rule.specs.Views.{system_of, opened, looked_in}
use Rattle.word_rule.specs.Rule.{IsRuled}
use Rattle.word_rule.specs.Plays.{Mine, Looks, inputs_at}
use Rattle.word_rule.specs.Seats.{input_count}
use Rattle.word_rule.proofs.Rooms.{place_open, inside_of, system_is, inputs_apart, width_is}
use Rattle.word_rule.proofs.Remembering.{values_set, looked_became}
use Rattle.word_rule.proofs.Steps.{looks}
use Rattle.word_rule.proofs.words.LatticeWords.look.Goals as goal

pub inputs-requires : goal.inputs-requires
inputs-requires c =
    let words = c.args.self.now in
    let seat = c.args.seat.now in
    inside_of words.table.shared.key seat.seat.me.0.about words.system.now c.in-Some.p.0 c.requires.of.1 words.about_system
    (seat.places c.in-Some.p c.in-Some.is)

pub load-word-requires : goal.load-word-requires
load-word-requires c =
    let words = c.args.self.now in
    let k : Key = words.table.shared.key in
    let seat = c.args.seat.now in
    let me : Mine = seat.seat.me in
    let i : ℕ = c.args.i in
    let z : PosId = record { 0 = 0 } in
    let at : c.in-Some.p ≡ opened me.0.core.mode = place_open me.0.core.mode seat.place c.in-Some.p c.in-Some.is seat.opens c.requires.open in
    let system : system_of me.0.about ≡ words.system.now = system_is k me.0.about words.system.now c.requires.of.1 words.about_system in
    let list : inputs_at me.0 ≡ c.inputs.result.now = (λ j. inputs_of (system j) (sym at j).0) ∙ sym c.inputs.ensures in
    let there : (input_at (inputs_at me.0) i).0 ≡ (input_at c.inputs.result.now i).0 = ap (λ (ps : List PosId). (input_at ps i).0) list in
    let inside : i < length (inputs_at me.0) = subst (λ (s : System). i < length (inputs_of s (opened me.0.core.mode).0)) (sym system) c.requires.input in
    let small : (input_at (inputs_at me.0) i).0 < length k.system.value.masks =
    subst (λ (s : System). (input_at (inputs_of s (opened me.0.core.mode).0) i).0 < length k.system.value.masks) (sym system)
    (subst (λ (s : System). (input_at (inputs_of words.system.now (opened me.0.core.mode).0) i).0 < length s.masks) (sym words.about_system)
    (words.inner (opened me.0.core.mode).0 i c.requires.input)) in (
      c.requires.of.0,
      (let sized = words.sized in let l = small in let same = ap (λ (s : System). length s.masks) words.about_system in omega (arith, sized, l, same, there)),
      subst (λ q. Allows (IsRuled k) words.table.shared.table_id.slots seat.seat.id me q (λ n. n) (λ n new. Looks q me n new)) there
          (looks k words.table.shared.table_id.slots seat.seat.id me i c.requires.of.1 c.requires.open small
          (λ j m e. inputs_apart (system_of me.0.about) (opened me.0.core.mode).0 i j inside m e)),
    )

pub index_mut-requires : goal.index_mut-requires
index_mut-requires c =
    let words = c.args.self.now in
    let seat = c.args.seat.now in
    let mode : CoreMode = seat.seat.me.0.core.mode in
    let at : c.in-Some.p ≡ opened mode = place_open mode seat.place c.in-Some.p c.in-Some.is seat.opens c.requires.open in
    let system = system_is words.table.shared.key seat.seat.me.0.about words.system.now c.requires.of.1 words.about_system in
    let width : length seat.looked.items ≡ length (inputs_of words.system.now (opened mode).0) =
    seat.width c.in-Some.p c.in-Some.is ∙ width_is seat.seat.me.0.about c.in-Some.p ∙ (λ j. length (inputs_of (system j) (at j).0)) in
    omega (arith, width, c.requires.input, seat.looked.ok.0)

pub invariant_of-seat-clause-looks : goal.invariant_of-seat-clause-looks
invariant_of-seat-clause-looks c =
    let words = c.args.self.now in
    let seat = c.args.seat.now in
    let facts : ℕ = bit_and c.load-word.result 140737488355327 in
    let became = looked_became words.table.shared.key words.system.now seat.seat.me c.load-word.new.seat.me c.args.i c.load-word.result seat.place c.in-Some.p
    c.inputs.result.now
    c.requires.of.1 words.about_system c.in-Some.is seat.opens c.requires.open c.requires.input c.inputs.ensures c.load-word.ensures.2 in
    ap (λ xs. set xs c.args.i facts) seat.looks ∙ sym (values_set (looked_in seat.seat.me.0.core.mode) c.args.i facts) ∙
    sym (ap (λ (v : View). values_of (looked_in v.core.mode)) became.view)

pub invariant_of-seat-clause-width : goal.invariant_of-seat-clause-width
invariant_of-seat-clause-width c = λ q e.
    let words = c.args.self.now in
    let seat = c.args.seat.now in
    let became = looked_became words.table.shared.key words.system.now seat.seat.me c.load-word.new.seat.me c.args.i c.load-word.result seat.place c.in-Some.p
    c.inputs.result.now
    c.requires.of.1 words.about_system c.in-Some.is seat.opens c.requires.open c.requires.input c.inputs.ensures c.load-word.ensures.2 in
    length-set seat.looked.items c.args.i (bit_and c.load-word.result 140737488355327) ∙ seat.width q e ∙
    sym (ap (λ (v : View). input_count v.about q) became.view)
