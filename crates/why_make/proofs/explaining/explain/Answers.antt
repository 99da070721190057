use Rattle.std.proofs.Common.{ap}
use Rattle.why_make.specs.declared.course.Course.{Course}
use Rattle.why_make.proofs.Going.{carried}
use Rattle.why_make.proofs.Listing.{list_overflows, settled_list}
use Rattle.why_make.proofs.Sweeping.{list_complete, list_removal}
use Rattle.why_make.proofs.explaining.explain.Goals as goal
use Rattle.why_make.proofs.explaining.explain.Goals.{in-Ok+in_ok-settle_marked-in-Ok, in-Err-TooMany+in_ok-settle-in-Err-TooMany}

pub returns-in_err-settle_marked-in-Ok-clause-too_many : goal.returns-in_err-settle_marked-in-Ok-clause-too_many
returns-in_err-settle_marked-in-Ok-clause-too_many c = λ count e. list_overflows c.args.s.now count (c.settle_marked.ensures.too_many count
    (carried c.from_residual-in_err-settle_marked-in-Ok.result c.settle_marked.result c.in_err-settle_marked-in-Ok.field-0.0 count
    c.in_err-settle_marked-in-Ok.was
    c.from_residual-in_err-settle_marked-in-Ok.ensures.1 e))

pub returns-in_err-settle-in-Err-TooMany-clause-too_many : goal.returns-in_err-settle-in-Err-TooMany-clause-too_many
returns-in_err-settle-in-Err-TooMany-clause-too_many c = λ count e. list_overflows c.args.s.now count (c.settle.ensures.too_many count
    (carried c.from_residual-in_err-settle-in-Err-TooMany.result c.settle.result c.in_err-settle-in-Err-TooMany.field-0.0 count
    c.in_err-settle-in-Err-TooMany.was
    c.from_residual-in_err-settle-in-Err-TooMany.ensures.1 e))

pub returns-clause-removal : goal.returns-clause-removal
returns-clause-removal c =
    let s = c.args.s.now in
    let entries = c.match-dependents.course.entries in
    elim c.match-dependents.branch [
      | in-Ok+in_ok-settle_marked-in-Ok w ↦ list_removal s entries c.masks.ensures.system
          (settled_list s w.settle_marked.new.course entries (ap (λ (x : Course). x.entries) w.course-is) w.in_ok-settle_marked-in-Ok.ensures.settled)
      | in-Err-TooMany+in_ok-settle-in-Err-TooMany w ↦ list_removal s entries c.masks.ensures.system
          (settled_list s w.settle.new.course entries (ap (λ (x : Course). x.entries) w.course-is) w.in_ok-settle-in-Err-TooMany.ensures.settled)
    ]

pub returns-clause-complete : goal.returns-clause-complete
returns-clause-complete c =
    let s = c.args.s.now in
    let entries = c.match-dependents.course.entries in
    elim c.match-dependents.branch [
      | in-Ok+in_ok-settle_marked-in-Ok w ↦ list_complete s entries c.masks.ensures.system
          (settled_list s w.settle_marked.new.course entries (ap (λ (x : Course). x.entries) w.course-is) w.in_ok-settle_marked-in-Ok.ensures.settled)
      | in-Err-TooMany+in_ok-settle-in-Err-TooMany w ↦ list_complete s entries c.masks.ensures.system
          (settled_list s w.settle.new.course entries (ap (λ (x : Course). x.entries) w.course-is) w.in_ok-settle-in-Err-TooMany.ensures.settled)
    ]
