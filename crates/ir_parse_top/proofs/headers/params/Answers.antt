use Rattle.std.proofs.Common.{rules, ◌≡◌, ◌++◌, [], ◌∷◌, Some, sym, ap, ◌∙◌, subst}
use Rattle.ir_tree.specs.declared.headers.Params.TheVariants.{Listed}
use Rattle.ir_tree.specs.Steps.{Longest}
use Rattle.ir_tree.specs.Headers.{param, params}
use Rattle.ir_parse_top.proofs.LongestHeaders.{params_dots, params_empty, params_all}
use Rattle.ir_parse_top.proofs.headers.params.Goals as goal

pub returns-in-Some : goal.returns-in-Some
returns-in-Some c = params_dots c.args.toks.now c.args.at c.in-Some.next c.in-Some.ensures.value

pub returns-in_default-2 : goal.returns-in_default-2
returns-in_default-2 c = params_empty c.args.toks.now c.args.at c.in_default.ensures.value (subst (Longest (param c.args.toks.now) c.args.at) c.in_default-2.is
    c.in_ok-first.ensures)

pub returns : goal.returns
returns c =
    let ts = c.args.toks.now in
    let dots = c.trailing_dots-dots.result in
    let more = c.in_ok-params.ensures in
    let e : c.push.new.self ≡ c.in-Some-2.first ∷ [] = search rules in
    subst (λ z. Longest (params ts) c.args.at (Some (Listed z dots.0, dots.1))) (sym (more.1.0 ∙
    ap (λ z. z ++ more.0) e)) (params_all ts c.args.at c.in-Some-2.rest c.in_ok-params.behind dots.1 c.in-Some-2.first more.0 dots.0
    (subst (Longest (param ts) c.args.at) c.in-Some-2.is c.in_ok-first.ensures) more.1.1 c.trailing_dots-dots.ensures)
