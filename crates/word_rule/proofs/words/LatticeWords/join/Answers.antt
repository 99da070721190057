use Rattle.std.proofs.Common.{◌<◌, List, Contains, ap, sym, ◌∙◌, subst, arith}
use Rattle.word_rule.specs.Plays.{Mine}
use Rattle.word_rule.specs.Seats.{place_in, position_count}
use Rattle.word_rule.specs.Views.{owed_in}
use Rattle.attr_ids.specs.declared.ids.PosId.{PosId}
use Rattle.word_rule.proofs.Joins.{joins}
use Rattle.word_rule.proofs.words.LatticeWords.join.Goals as goal

pub join_seat-requires : goal.join_seat-requires
join_seat-requires c =
    let words = c.args.self.now in
    let seat = c.args.first.now in
    let other = c.args.other in (
      c.requires.first.0.0,
      c.requires.other.0.0,
      other.slotless,
      (let sized = words.sized in omega (arith, sized)),
      joins words.table.shared.key seat.seat.id seat.seat.me.0 other.seat.id other.seat.me.0 c.requires.first.0.1 c.requires.first.1 c.requires.other.0.1
          c.requires.other.1,
    )

pub invariant_of-first-clause-opens : goal.invariant_of-first-clause-opens
invariant_of-first-clause-opens c = c.args.first.now.opens ∙ sym (ap (λ (m : Mine). place_in m.0.core.mode) c.join_seat.ensures.2)

pub invariant_of-first-clause-debts : goal.invariant_of-first-clause-debts
invariant_of-first-clause-debts c = λ d has.
    let owed = ap (λ (m : Mine). owed_in m.0.core.mode) c.join_seat.ensures.2 in
    subst (λ n. d.0 < n) (sym (ap (λ (m : Mine). position_count m.0.about) c.join_seat.ensures.2))
    (c.args.first.now.debts d (subst (λ (ds : List PosId). Contains ds d) owed has))
