use Rattle.std.proofs.Common.{◌≡◌, ℕ, ◌+◌, ◌<◌, Bool, true, false, length, ap, sym, subst, ◌∙◌, arith, refl}
use Rattle.why_make.specs.declared.course.Course.{Course}
use Rattle.why_make.specs.Going.{Overflows, Went}
use Rattle.why_make.proofs.Going.{carried, opening_none, sweep_more, sweep_settles, sweep_overflows}
use Rattle.why_make.proofs.course.settle.Goals as goal

pub settling-init : goal.settling-init
settling-init c = record {
  long = ap (λ (x : Course). length x.words) c.requires;
  swept = (0, opening_none c.args.s.now c.args.course.now c.requires);
  short = let none = ap (λ (x : Course). length x.entries) c.requires in omega (arith, none);
}

pub settling-preserved : goal.settling-preserved
settling-preserved c =
    let went = c.in_ok-sweep.ensures.went in
    record {
      long = went.long ∙ c.settling.invariant.long;
      swept = (
        c.settling.invariant.swept.0 + 1,
        sweep_more c.args.s.now c.settling.course c.sweep.new.course c.settling.invariant.swept.0 _
            c.settling.invariant.swept.1 went,
      );
      short = went.short c.settling.invariant.short;
    }

pub settling-smaller : goal.settling-smaller
settling-smaller c =
    let went = c.in_ok-sweep.ensures.went in
    omega (arith, went.more c.if-branch.true, went.short c.settling.invariant.short)

pub returns-in_err-sweep-clause-too_many : goal.returns-in_err-sweep-clause-too_many
returns-in_err-sweep-clause-too_many c = λ count e.
    sweep_overflows c.args.s.now c.settling.course c.settling.invariant.swept.0 count c.settling.invariant.swept.1 (c.sweep.ensures.too_many count
    (carried c.from_residual.result c.sweep.result c.in_err-sweep.field-0.0 count c.in_err-sweep.was c.from_residual.ensures.1 e))

pub returns-clause-settled : goal.returns-clause-settled
returns-clause-settled c =
    let s = c.args.s.now in let a = c.settling.course in let b = c.sweep.new.course in
    sweep_settles s a b c.settling.invariant.swept.0 c.settling.invariant.swept.1
    (subst (λ (fell : Bool). Went s a b 0 (length s.masks) fell) c.if-branch.false c.in_ok-sweep.ensures.went)
