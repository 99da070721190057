use Rattle.std.proofs.Common.{arith, ◌≡◌, ◌&&◌, ℕ, Bool, slice_get, sym, ap, ◌∙◌}
use Rattle.lattice_words.specs.Words.{has_bit}
use Rattle.manifest.specs.Parameter.{has_return_type, lowest}
use Rattle.manifest.proofs.Rungs.{lowest_found, lowest_passed}
use Rattle.manifest.proofs.parameter.lowest.Goals as goal

pub loop-i-preserved : goal.loop-i-preserved
loop-i-preserved c =
    let has : ℕ → Bool = λ i. has_return_type c.args.m.now c.args.func.now (slice_get c.args.func.now.params i) && has_bit c.args.word i in
    let is : c.both.result ≡ has c.loop-i.i = c.both.ensures ∙ (ap (λ b. b && c.has.result) c.has_return_type.ensures ∙
    ap (λ b. has_return_type c.args.m.now c.args.func.now (slice_get c.args.func.now.params c.loop-i.i) && b) c.has.ensures) in
    lowest_passed has c.loop-i.i c.loop-i.invariant (sym is ∙ c.if-both.false)

pub returns-then-both : goal.returns-then-both
returns-then-both c =
    let has : ℕ → Bool = λ i. has_return_type c.args.m.now c.args.func.now (slice_get c.args.func.now.params i) && has_bit c.args.word i in
    let is : c.both.result ≡ has c.loop-i.i = c.both.ensures ∙ (ap (λ b. b && c.has.result) c.has_return_type.ensures ∙
    ap (λ b. has_return_type c.args.m.now c.args.func.now (slice_get c.args.func.now.params c.loop-i.i) && b) c.has.ensures) in
    sym (lowest_found has 16 c.loop-i.i (omega (arith, c.loop-i-test.true)) c.loop-i.invariant (sym is ∙ c.if-both.true))

pub returns : goal.returns
returns c =
    let has : ℕ → Bool = λ i. has_return_type c.args.m.now c.args.func.now (slice_get c.args.func.now.params i) && has_bit c.args.word i in
    let end : c.loop-i.i ≡ 16 = omega (arith, c.loop-i-test.false, c.loop-i.auto.i-end) in
    sym (sym (ap (lowest has) end) ∙ c.loop-i.invariant)
