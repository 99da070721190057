use Rattle.std.proofs.Common.{◌≡◌, ◌+◌, ◌<◌, length, arith, inl, inr}
use Rattle.std.proofs.lemmas.Bool.{cases_lt}
use Rattle.ir_verify.proofs.FirstUse.{judged_both, judged_less}
use Rattle.ir_verify.proofs.paths.first_undefined.Goals as goal

pub loop-f-init : goal.loop-f-init
loop-f-init c = λ f l. absurd (omega (arith, l))

pub loop-f-preserved : goal.loop-f-preserved
loop-f-preserved c =
    judged_both c.args.m.now (λ f. f < c.loop-f.f) (λ f. f ≡ c.loop-f.f) (λ f. f < c.loop-f.f + 1) c.loop-f.found _ _ c.loop-f.invariant
    c.in_ok-here.ensures c.earlier-found.ensures
    (λ f l. elim (cases_lt f c.loop-f.f) [ inl less ↦ inl less | inr more ↦ inr (omega arith) ])

pub returns : goal.returns
returns c = judged_less c.args.m.now (λ f. f < c.loop-f.f) (λ f. f < length c.args.m.now.funcs) c.loop-f.found c.loop-f.invariant (λ f l. omega (arith, l))
