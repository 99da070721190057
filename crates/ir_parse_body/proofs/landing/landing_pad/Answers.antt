use Rattle.std.proofs.Common.{refl, sym, subst}
use Rattle.std.proofs.lemmas.Bool.{true≢false}
use Rattle.ir_tree.specs.Steps.{Longest}
use Rattle.ir_tree.specs.Types.{ty}
use Rattle.ir_parse_body.proofs.LongestLanding.{landing_no_type, landing_cleans, landing_no_clause, landing_catches}
use Rattle.ir_parse_body.proofs.landing.landing_pad.Goals as goal

pub returns-in_default : goal.returns-in_default
returns-in_default c = let ts = c.args.toks.now in
    landing_no_type ts c.args.start c.args.first (sym c.requires.after) (subst (Longest (ty ts) c.args.first) c.in_default.is c.in_ok-kind.ensures)

pub returns-in-Some-the : goal.returns-in-Some-the
returns-in-Some-the c =
    let ts = c.args.toks.now in
    landing_cleans ts c.args.start c.args.first (sym c.requires.after) c.in-Some.kind c.in-Some.cleanup
    (subst (Longest (ty ts) c.args.first) c.in-Some.is c.in_ok-kind.ensures) c.in-Some-the.behind c.in_ok-clauses.next c.in_ok-clauses.clauses
    c.in-Some-the.ensures.value c.in_ok-clauses.ensures

pub returns-then-is_empty : goal.returns-then-is_empty
returns-then-is_empty c =
    let ts = c.args.toks.now in
    landing_no_clause ts c.args.start c.args.first (sym c.requires.after) c.in-Some.kind c.in-Some.cleanup
    (subst (Longest (ty ts) c.args.first) c.in-Some.is c.in_ok-kind.ensures) c.in_ok-clauses-2.next c.in_ok-clauses-2.clauses c.in_default-the.ensures.value
    c.in_ok-clauses-2.ensures (c.if-is_empty.ensures.0 refl)

pub returns : goal.returns
returns c =
    let ts = c.args.toks.now in
    landing_catches ts c.args.start c.args.first (sym c.requires.after) c.in-Some.kind c.in-Some.cleanup
    (subst (Longest (ty ts) c.args.first) c.in-Some.is c.in_ok-kind.ensures) c.in_ok-clauses-2.next c.in_ok-clauses-2.clauses c.in_default-the.ensures.value
    c.in_ok-clauses-2.ensures (λ e. true≢false (sym (c.if-is_empty.ensures.1 e)))
