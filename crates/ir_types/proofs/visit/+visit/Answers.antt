use Rattle.std.proofs.Common.{◌≡◌, ℕ, List, ◌∷◌, ◌++◌, ◌+◌, refl, sym, ◌∙◌, subst, arith, drop, get_or, add-one, drop-cons}
use Rattle.std.proofs.lemmas.Bool.{true≢false}
use Rattle.ir_types.specs.Standing.{AreSettledBut}
use Rattle.ir_types.proofs.Settling.{passed, laid_then, alike_but, waiting_grows, drop_all}
use Rattle.ir_types.proofs.visit.+visit.Goals as goal

pub returns-then-not-settle-clause-settled : goal.returns-then-not-settle-clause-settled
returns-then-not-settle-clause-settled t c =
    let new = c.settle.new.standings in
    let alike = alike_but c.args.standings.now new c.args.t (c.if-not-settle.ensures.same (λ e. true≢false (sym e))) c.settle.ensures.others in
    passed c.args.types.now c.args.standings.now new c.args.t alike c.settle.ensures.settled

pub loop-user-preserved : goal.loop-user-preserved
loop-user-preserved t c =
    let items = c.users_at-user-items.result.now in
    let i = c.loop-user.user-index in
    let inside = c.loop-user-test.true in
    let first : drop i items ≡ get_or items i 0 ∷ drop (i + 1) items = rw (add-one, drop-cons items i 0) in
    record {
      long = c.visit.auto.standings ∙ c.loop-user.invariant.long;
      sound = c.visit.ensures.sound;
      waiting = waiting_grows c.args.users.now c.args.types.now c.loop-user.standings c.visit.new.standings c.visit.ensures.grows c.loop-user.invariant.waiting;
      grows = λ u e is. c.visit.ensures.grows u e (c.loop-user.invariant.grows u e is);
      fewer = omega (arith, c.visit.ensures.fewer, c.loop-user.invariant.fewer);
      settled = λ pending h. c.visit.ensures.settled (drop (i + 1) items ++ pending)
          (subst (λ (xs : List ℕ). AreSettledBut (xs ++ pending) c.args.types.now c.loop-user.standings) first (c.loop-user.invariant.settled pending h));
    }

pub returns-clause-settled : goal.returns-clause-settled
returns-clause-settled t c = λ pending h.
    let items = c.users_at-user-items.result.now in
    let next = laid_then c.args.users.now c.args.types.now c.args.standings.now c.settle.new.standings c.args.t
    (c.if-not-settle.ensures.laid refl) c.settle.ensures.others c.settle.ensures.settled c.requires.waiting pending h in
    let from = subst (λ (xs : List ℕ). AreSettledBut (xs ++ pending) c.args.types.now c.settle.new.standings) (sym c.users_at-user-items.ensures) next in
    let last = c.loop-user.invariant.settled pending from in
    subst (λ (xs : List ℕ). AreSettledBut (xs ++ pending) c.args.types.now c.loop-user.standings)
    (drop_all items c.loop-user.user-index (omega (arith, c.loop-user-test.false))) last
