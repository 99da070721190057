use Rattle.std.proofs.Common.{◌≡◌, ℕ, ◌+◌, Bool, true, false, length, length-set, ap, subst, ◌∙◌, arith}
use Rattle.why_make.specs.Sweeps.{lost_of}
use Rattle.why_make.specs.Going.{Went}
use Rattle.why_make.proofs.Going.{carried, visit_went, visit_overflows}
use Rattle.why_make.proofs.Marking.{dependents_within, marked_but}
use Rattle.why_make.proofs.Looked.{looked_fell, looked_rest, unmarked_none, went_one}
use Rattle.why_make.proofs.looking.look.Goals as goal

pub returns-then-not-take-clause-went : goal.returns-then-not-take-clause-went
returns-then-not-take-clause-went c = went_one c.args.s.now c.args.course.now c.args.p.0
    (unmarked_none c.args.s.now c.args.course.now.words c.args.marks.now c.args.p.0 c.take.result c.requires.marked c.take.ensures.was c.if-not-take.true)

pub returns-then-not-take-clause-marked : goal.returns-then-not-take-clause-marked
returns-then-not-take-clause-marked c =
    marked_but c.args.s.now c.args.course.now.words c.args.marks.now c.take.new.self c.args.p.0 c.requires.marked c.take.ensures.taken
    (unmarked_none c.args.s.now c.args.course.now.words c.args.marks.now c.args.p.0 c.take.result c.requires.marked c.take.ensures.was c.if-not-take.true)

pub returns-in_err-visit-clause-too_many : goal.returns-in_err-visit-clause-too_many
returns-in_err-visit-clause-too_many c = λ count e.
    let told = c.visit.ensures.too_many count
    (carried c.from_residual.result c.visit.result c.in_err-visit.field-0.0 count c.in_err-visit.was c.from_residual.ensures.1 e) in
    visit_overflows c.args.s.now c.args.course.now c.args.p.0 count told.0 told.1 told.2

pub returns-then-not-branch-clause-went : goal.returns-then-not-branch-clause-went
returns-then-not-branch-clause-went c =
    let s = c.args.s.now in let a = c.args.course.now in let b = c.visit.new.course in let p = c.args.p.0 in
    let e = c.in_ok-visit.ensures in
    subst (λ (fell : Bool). Went s a b p (p + 1) fell) c.if-not-branch.true (visit_went s a b p c.in_ok-visit.field-0 e.visited e.fell e.rest e.short)

pub returns-then-not-branch-clause-marked : goal.returns-then-not-branch-clause-marked
returns-then-not-branch-clause-marked c =
    looked_rest c.args.s.now c.args.course.now c.visit.new.course c.args.marks.now c.take.new.self c.args.p.0 c.requires.marked c.take.ensures.taken
    (c.in_ok-visit.ensures.rest c.if-not-branch.true) c.in_ok-visit.ensures.visited

pub wake-requires-clause-within : goal.wake-requires-clause-within
wake-requires-clause-within c =
    dependents_within c.args.s.now c.args.g.now c.requires.graph c.args.p c.take.new.self c.requires.place
    (ap length c.take.ensures.taken ∙ length-set c.args.marks.now c.args.p.0 false ∙ c.requires.marked.long)

pub returns-clause-went : goal.returns-clause-went
returns-clause-went c =
    let s = c.args.s.now in let a = c.args.course.now in let b = c.visit.new.course in let p = c.args.p.0 in
    let e = c.in_ok-visit.ensures in
    subst (λ (fell : Bool). Went s a b p (p + 1) fell) c.if-not-branch.false (visit_went s a b p c.in_ok-visit.field-0 e.visited e.fell e.rest e.short)

pub returns-clause-marked : goal.returns-clause-marked
returns-clause-marked c =
    looked_fell c.args.s.now c.args.g.now c.requires.graph c.args.course.now c.visit.new.course c.args.marks.now c.take.new.self c.wake.new.marks c.args.p
    c.requires.place c.requires.long c.in_ok-visit.ensures.fits c.requires.marked c.take.ensures.taken
    (c.in_ok-visit.ensures.fell c.if-not-branch.false) c.in_ok-visit.ensures.visited c.wake.ensures
