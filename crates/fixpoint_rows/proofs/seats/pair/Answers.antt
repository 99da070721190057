use Rattle.std.proofs.Common.{◌≡◌, ◌∷◌, List, length, slice_get, Some, ap, sym, ◌∙◌, subst, arith}
use Rattle.std.proofs.lemmas.Option.{get_or_from_slice_get}
use Rattle.fix_core.specs.Machine.{new_seat}
use Rattle.word_rule.specs.declared.seat.WorkerSeat.{WorkerSeat}
use Rattle.word_rule.specs.Belongs.{core_of}
use Rattle.word_rule.proofs.Gathering.{first_rest}
use Rattle.fixpoint_rows.proofs.seats.pair.Goals as goal

pub returns-clause-first : goal.returns-clause-first
returns-clause-first c =
    let seats : List WorkerSeat = c.args.seats in
    let xs : List WorkerSeat = c.into_vec-seats.result.items in
    let first : WorkerSeat = c.remove-first.result in
    let rest : List WorkerSeat = c.remove-first.new.self.items in
    let two : length seats ≡ 2 = c.requires.seats.0.many ∙ c.requires.seats.1 in
    let same : xs ≡ seats = c.into_vec-seats.ensures in
    let one : xs ≡ first ∷ rest = first_rest xs first (omega (arith, ap length same, two)) c.remove-first.ensures.value ∙
    ap (λ (r : List WorkerSeat). first ∷ r) (sym c.remove-first.ensures.items) in
    let at : slice_get seats 0 ≡ Some first = ap (λ (ss : List WorkerSeat). slice_get ss 0) (sym same ∙ one) in
    let mine = c.requires.seats.0.each 0 first at in
    let fresh : core_of first ≡ new_seat =
    subst (λ (s : WorkerSeat). core_of s ≡ new_seat) (get_or_from_slice_get seats 0 first first at) (c.requires.fresh 0 first (omega (arith, two))) in
    (mine.0, mine.1, ap (λ c. c.mode) fresh)

pub returns-clause-second : goal.returns-clause-second
returns-clause-second c =
    let seats : List WorkerSeat = c.args.seats in
    let xs : List WorkerSeat = c.into_vec-seats.result.items in
    let first : WorkerSeat = c.remove-first.result in
    let second : WorkerSeat = c.remove-second.result in
    let rest : List WorkerSeat = c.remove-first.new.self.items in
    let two : length seats ≡ 2 = c.requires.seats.0.many ∙ c.requires.seats.1 in
    let same : xs ≡ seats = c.into_vec-seats.ensures in
    let one : xs ≡ first ∷ rest = first_rest xs first (omega (arith, ap length same, two)) c.remove-first.ensures.value ∙
    ap (λ (r : List WorkerSeat). first ∷ r) (sym c.remove-first.ensures.items) in
    let other : rest ≡ second ∷ c.remove-second.new.self.items =
    first_rest rest second (omega (arith, ap length same, two, ap length one)) c.remove-second.ensures.value ∙
    ap (λ (r : List WorkerSeat). second ∷ r) (sym c.remove-second.ensures.items) in
    let at : slice_get seats 1 ≡ Some second = ap (λ (ss : List WorkerSeat). slice_get ss 1) (sym same ∙ one ∙ ap (λ (r : List WorkerSeat). first ∷ r) other) in
    let mine = c.requires.seats.0.each 1 second at in
    let fresh : core_of second ≡ new_seat =
    subst (λ (s : WorkerSeat). core_of s ≡ new_seat) (get_or_from_slice_get seats 1 second second at) (c.requires.fresh 1 second (omega (arith, two))) in
    (mine.0, mine.1, ap (λ c. c.mode) fresh)
