use Rattle.std.proofs.Common.{◌≡◌, ℕ, ◌+◌, Bool, length, ap, sym, subst, ◌∙◌, arith, inl, inr}
use Rattle.why_make.specs.Going.{Overflows, Went}
use Rattle.why_make.proofs.Going.{carried, went_none, went_on, visit_went, visit_overflows, overflows_more}
use Rattle.why_make.proofs.course.sweep.Goals as goal
use Rattle.why_make.proofs.course.sweep.Goals.{then-branch, else-branch}

pub loop-p-init : goal.loop-p-init
loop-p-init c = went_none c.args.s.now c.args.course.now 0

pub visit-requires-clause-long : goal.visit-requires-clause-long
visit-requires-clause-long c = c.loop-p.invariant.long ∙ c.requires

pub loop-p-preserved : goal.loop-p-preserved
loop-p-preserved c =
    let s = c.args.s.now in let a = c.args.course.now in let b = c.loop-p.course in let d = c.visit.new.course in let p = c.loop-p.p in
    let e = c.in_ok-visit.ensures in
    elim c.if-branch.branch [
      | then-branch w ↦ went_on s a b d 0 p (p + 1) c.loop-p.fell _ _ c.loop-p.invariant (visit_went s b d p _ e.visited e.fell e.rest e.short)
          (inl (w.if-branch.true, w.fell-is))
      | else-branch w ↦ went_on s a b d 0 p (p + 1) c.loop-p.fell _ _ c.loop-p.invariant (visit_went s b d p _ e.visited e.fell e.rest e.short)
          (inr (w.if-branch.false, w.fell-is))
    ]

pub returns-in_err-visit-clause-too_many : goal.returns-in_err-visit-clause-too_many
returns-in_err-visit-clause-too_many c = λ count e.
    let s = c.args.s.now in
    let told = c.visit.ensures.too_many count
    (carried c.from_residual.result c.visit.result c.in_err-visit.field-0.0 count c.in_err-visit.was c.from_residual.ensures.1 e) in
    overflows_more s c.args.course.now c.loop-p.course 0 c.loop-p.p (c.loop-p.p + 1) (length s.masks) count c.loop-p.fell c.loop-p.invariant
    (visit_overflows s c.loop-p.course c.loop-p.p count told.0 told.1 told.2) (omega arith)

pub returns-clause-went : goal.returns-clause-went
returns-clause-went c =
    let last : c.loop-p.p ≡ length c.args.s.now.masks = omega arith in
    subst (λ (n : ℕ). Went c.args.s.now c.args.course.now c.loop-p.course 0 n c.loop-p.fell) last c.loop-p.invariant
