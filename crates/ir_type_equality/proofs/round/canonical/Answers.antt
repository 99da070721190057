use Rattle.std.proofs.Common.{◌∙◌, [], sym, arith}
use Rattle.std.proofs.lemmas.Slice.Eq.{bytes_eq-Decides}
use Rattle.ir_type_equality.proofs.Rounds.{first_round, next_round, settled, enough_rounds}
use Rattle.ir_type_equality.proofs.round.canonical.Goals as goal

pub loop-init : goal.loop-init
loop-init c = first_round c.args.types.now [] c.in_ok-numbers.numbers.items c.in_ok-numbers.ensures

pub loop-preserved : goal.loop-preserved
loop-preserved c =
    next_round c.args.types.now c.loop.counter c.loop.numbers.items c.deref.result.now c.in_ok-next.next.items c.loop.invariant c.deref.ensures.value
    c.in_ok-next.ensures

pub returns-then-eq : goal.returns-then-eq
returns-then-eq c =
    let next = c.in_ok-next.next.items in
    let ns = c.loop.numbers.items in
    settled c.args.types.now ns c.deref.result.now next c.from_vec.result c.deref.ensures.value c.in_ok-next.ensures
    ((bytes_eq-Decides next ns).0 (sym c.eq.ensures ∙ c.if-eq.true)) c.from_vec.ensures

pub returns : goal.returns
returns c =
    enough_rounds c.args.types.now c.loop.counter c.loop.numbers.items c.from_vec-2.result c.loop.invariant
    (omega (arith, c.loop.auto.counter-end, c.loop-test.false)) c.from_vec-2.ensures
