use Rattle.std.proofs.Common.{◌≡◌, ℕ, ◌+◌, Bool, length, ap, sym, subst, ◌∙◌, arith, inl, inr}
use Rattle.why_make.specs.Going.{Overflows, Went}
use Rattle.why_make.proofs.Going.{carried, went_none, went_on, overflows_more}
use Rattle.why_make.proofs.looking.look_at_all.Goals as goal
use Rattle.why_make.proofs.looking.look_at_all.Goals.{then-branch, else-branch}

pub loop-p-init : goal.loop-p-init
loop-p-init c = record { went = went_none c.args.s.now c.args.course.now c.args.from; marked = c.requires.marked }

pub look-requires-clause-long : goal.look-requires-clause-long
look-requires-clause-long c = c.loop-p.invariant.went.long ∙ c.requires.long

pub loop-p-preserved : goal.loop-p-preserved
loop-p-preserved c =
    let s = c.args.s.now in let a = c.args.course.now in let b = c.loop-p.course in let d = c.look.new.course in let p = c.loop-p.p in
    record {
      went = elim c.if-branch.branch [
        | then-branch w ↦ went_on s a b d c.args.from p (p + 1) c.loop-p.fell _ _ c.loop-p.invariant.went c.in_ok-look.ensures.went
            (inl (w.if-branch.true, w.fell-is))
        | else-branch w ↦ went_on s a b d c.args.from p (p + 1) c.loop-p.fell _ _ c.loop-p.invariant.went c.in_ok-look.ensures.went
            (inr (w.if-branch.false, w.fell-is))
      ];
      marked = c.in_ok-look.ensures.marked;
    }

pub returns-in_err-look-clause-too_many : goal.returns-in_err-look-clause-too_many
returns-in_err-look-clause-too_many c = λ count e.
    overflows_more c.args.s.now c.args.course.now c.loop-p.course c.args.from c.loop-p.p (c.loop-p.p + 1) c.args.to count c.loop-p.fell
    c.loop-p.invariant.went (c.look.ensures.too_many count
    (carried c.from_residual.result c.look.result c.in_err-look.field-0.0 count c.in_err-look.was c.from_residual.ensures.1 e)) (omega arith)

pub returns-clause-went : goal.returns-clause-went
returns-clause-went c =
    let last : c.loop-p.p ≡ c.args.to = omega (arith, c.requires.places.0) in
    subst (λ (n : ℕ). Went c.args.s.now c.args.course.now c.loop-p.course c.args.from n c.loop-p.fell) last c.loop-p.invariant.went
