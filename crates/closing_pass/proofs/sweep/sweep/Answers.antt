use Rattle.std.proofs.Common.{ℕ, ◌+◌, ◌^◌, ◌<◌, sym, subst, arith}
use Rattle.std.proofs.lemmas.List.Elements.{All-from_get_or}
use Rattle.closing_pass.proofs.Swept.{Swept, swept_cut, swept_kept}
use Rattle.closing_pass.proofs.sweep.sweep.Goals as goal
use Rattle.closing_pass.proofs.sweep.sweep.Goals.{then-cut, else-cut}

pub loop-p-preserved : goal.loop-p-preserved
loop-p-preserved c =
    elim c.if-cut.branch [
      | then-cut w ↦ subst (λ b. Swept c.args.s.now c.args.words.now c.cut.new.words b (c.loop-p.p + 1)) (sym w.fell-is)
          (swept_cut c.args.s.now c.args.words.now c.loop-p.words c.cut.new.words c.loop-p.fell c.loop-p.p c.loop-p.invariant
          c.cut.ensures.cut c.cut.ensures.fits c.cut.ensures.others (c.cut.ensures.smaller w.if-cut.true))
      | else-cut w ↦ subst (λ b. Swept c.args.s.now c.args.words.now c.cut.new.words b (c.loop-p.p + 1)) (sym w.fell-is)
          (swept_kept c.args.s.now c.args.words.now c.loop-p.words c.cut.new.words c.loop-p.fell c.loop-p.p c.loop-p.invariant
          (c.cut.ensures.same w.if-cut.false) c.cut.ensures.fits (c.cut.ensures.kept w.if-cut.false))
    ]

pub returns-clause-fits : goal.returns-clause-fits
returns-clause-fits c = All-from_get_or (λ (word : ℕ). word < 2 ^ 64) c.loop-p.words 0 (λ i l. c.loop-p.invariant.fits i (omega (
  arith,
  c.loop-p.invariant.long,
)))
