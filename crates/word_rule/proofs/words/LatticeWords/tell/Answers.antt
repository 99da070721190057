use Rattle.std.proofs.Common.{◌≡◌, ◌<◌, List, length, Option, Contains, ap, sym, ◌∙◌, subst, arith}
use Rattle.attr_ids.specs.declared.ids.PosId.{PosId}
use Rattle.rule_terms.specs.System.{System}
use Rattle.fix_core.specs.Machine.{without}
use Rattle.word_rule.specs.declared.view.Key.{Key}
use Rattle.word_rule.specs.declared.view.View.{View}
use Rattle.word_rule.specs.Views.{owed_in}
use Rattle.word_rule.specs.Seats.{position_count}
use Rattle.word_rule.proofs.Rooms.{inside_of}
use Rattle.word_rule.proofs.Remembering.{owing_owed, own_bit}
use Rattle.fix_core.proofs.Written.{without_apart}
use Rattle.word_rule.proofs.Steps.{tells}
use Rattle.word_rule.proofs.words.LatticeWords.tell.Goals as goal

pub fetch_or-word-requires : goal.fetch_or-word-requires
fetch_or-word-requires c =
    let words = c.args.self.now in
    let k : Key = words.table.shared.key in
    let seat = c.args.seat.now in
    let l : c.args.d.0 < position_count seat.seat.me.0.about = seat.debts c.args.d c.requires.owed in
    let here : c.args.d.0 < length words.system.now.masks = inside_of k seat.seat.me.0.about words.system.now c.args.d.0 c.requires.of.1 words.about_system l in
    let inside : c.args.d.0 < length k.system.value.masks = subst (λ (s : System). c.args.d.0 < length s.masks) (sym words.about_system) here in (
      c.requires.of.0,
      (let sized = words.sized in omega (arith, sized, here)),
      tells k _ _ seat.seat.me c.args.d _ c.requires.of.1 inside c.requires.owed (own_bit seat.number seat.seat.me.0.number seat.numbered seat.few),
    )

pub invariant_of-seat-clause-owes : goal.invariant_of-seat-clause-owes
invariant_of-seat-clause-owes c =
    let seat = c.args.seat.now in
    c.strike.ensures.items ∙ ap (λ list. without c.args.d list) seat.owes ∙
    sym (ap (λ (v : View). owed_in v.core.mode) c.fetch_or-word.ensures.2.seat.view ∙ owing_owed (without c.args.d (owed_in seat.seat.me.0.core.mode)))

pub invariant_of-seat-clause-debts : goal.invariant_of-seat-clause-debts
invariant_of-seat-clause-debts c = λ e has.
    let seat = c.args.seat.now in
    let list : List PosId = owed_in seat.seat.me.0.core.mode in
    let view = c.fetch_or-word.ensures.2.seat.view in
    let owed : owed_in c.fetch_or-word.new.seat.me.0.core.mode ≡ without c.args.d list = ap (λ (v : View). owed_in v.core.mode) view ∙
    owing_owed (without c.args.d list) in
    subst (λ (o : Option Key). e.0 < position_count o) (sym (ap (λ (v : View). v.about) view))
    (seat.debts e (without_apart c.args.d list e (subst (λ (ds : List PosId). Contains ds e) owed has)).0)
