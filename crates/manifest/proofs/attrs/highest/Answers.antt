use Rattle.std.proofs.Common.{arith, ◌≡◌, ◌+◌, ◌-◌, ℕ, sym, ap, ◌∙◌}
use Rattle.lattice_words.specs.Words.{has_bit}
use Rattle.manifest.specs.Attrs.{highest}
use Rattle.manifest.proofs.Rungs.{highest_found, highest_passed}
use Rattle.manifest.proofs.attrs.highest.Goals as goal

pub loop-i-init : goal.loop-i-init
loop-i-init c = let e : c.args.count ≡ c.args.count - 0 = omega arith in ap (highest (λ k. has_bit c.args.word (c.args.first + k))) e

pub loop-i-preserved : goal.loop-i-preserved
loop-i-preserved c =
    let has = λ (k : ℕ). has_bit c.args.word (c.args.first + k) in
    let e : c.args.count - 1 - c.loop-i.i ≡ c.args.count - (c.loop-i.i + 1) = omega arith in
    c.loop-i.invariant ∙ (highest_passed has (c.args.count - c.loop-i.i) (c.args.count - 1 - c.loop-i.i) (omega (arith, c.loop-i-test.true))
    (sym c.has.ensures ∙ c.if-has.false) ∙ ap (highest has) e)

pub returns-then-has-clause-highest : goal.returns-then-has-clause-highest
returns-then-has-clause-highest c =
    sym (c.loop-i.invariant ∙ highest_found (λ k. has_bit c.args.word (c.args.first + k)) (c.args.count - c.loop-i.i) (c.args.count - 1 - c.loop-i.i)
    (omega (arith, c.loop-i-test.true)) (sym c.has.ensures ∙ c.if-has.true))

pub returns-clause-highest : goal.returns-clause-highest
returns-clause-highest c =
    let e : c.args.count - c.loop-i.i ≡ 0 = omega (arith, c.loop-i-test.false) in
    sym (c.loop-i.invariant ∙ ap (highest (λ k. has_bit c.args.word (c.args.first + k))) e)
