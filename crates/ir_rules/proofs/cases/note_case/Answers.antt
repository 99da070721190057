use Rattle.std.proofs.Common.{◌∙◌, nat_eq, sym}
use Rattle.std.specs.HashSet.{contains}
use Rattle.std.proofs.lemmas.Option.{slice_get-get_or}
use Rattle.ir_rules.proofs.Told.{apart}
use Rattle.ir_rules.proofs.Seen.{case_told, seen_skip}
use Rattle.ir_rules.proofs.cases.note_case.Goals as goal

pub returns-in_ok-is_new-in-Some : goal.returns-in_ok-is_new-in-Some
returns-in_ok-is_new-in-Some c =
    let u = c.in_ok-is_new-in-Some.ensures.updates in
    case_told c.args.m.now c.args.cases.now (λ n. contains nat_eq c.args.seen.now n) (λ n. contains nat_eq c.insert.new.self n) c.args.i _ c.in-Some.n
    c.in_ok-is_new-in-Some.is_new
    (slice_get-get_or c.args.cases.now c.args.i _ c.requires.inside) (sym c.literal.ensures ∙ c.in-Some.is) c.in_ok-is_new-in-Some.ensures.added u.1
    (λ k other. u.2 k (apart _ k other)) c.requires.seen

pub returns-in-None : goal.returns-in-None
returns-in-None c =
    seen_skip c.args.m.now c.args.cases.now (λ n. contains nat_eq c.args.seen.now n) c.args.i _ (slice_get-get_or c.args.cases.now c.args.i _ c.requires.inside)
    (sym c.literal.ensures ∙ c.in-None.is) c.requires.seen
