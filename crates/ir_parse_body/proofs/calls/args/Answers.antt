use Rattle.std.proofs.Common.{rules, ◌≡◌, ◌++◌, List, [], ◌∷◌, Some, sym, ap, ◌∙◌, subst}
use Rattle.std.proofs.lemmas.Result.{IfOk-weaker}
use Rattle.ir_tree.specs.declared.instructions.Arg.{Arg}
use Rattle.ir_tree.specs.Steps.{Longest, many, next, separated}
use Rattle.ir_tree.specs.Instructions.{arg}
use Rattle.ir_parse_parts.proofs.Longest.{separated_none}
use Rattle.ir_parse_body.proofs.LongestCalls.{args_listed}
use Rattle.ir_parse_body.proofs.calls.args.Goals as goal

pub returns-in_default : goal.returns-in_default
returns-in_default c = let ts = c.args.toks.now in
    subst (λ z. Longest (separated ts (arg ts)) c.args.at (Some (
      z,
      c.args.at,
    ))) (sym c.new-found.ensures) (separated_none ts (arg ts) c.args.at (subst (Longest (arg ts) c.args.at) c.in_default.is c.in_ok-first.ensures))

pub returns : goal.returns
returns c =
    let ts = c.args.toks.now in
    let l = subst (Longest (arg ts) c.args.at) c.in-Some.is c.in_ok-first.ensures in
    let e : c.push.new.self ≡ c.in-Some.first ∷ [] = search rules in
    IfOk-weaker c.more_args.result (λ r. (us : List Arg) ×
    ((r.0 ≡ c.push.new.self ++ us) ×
    Longest (many (next ts (arg ts))) c.in-Some.next (Some (us, r.1)))) (λ r. Longest (separated ts (arg ts)) c.args.at (Some r))
    (λ r h. subst (λ z. Longest (separated ts (arg ts)) c.args.at (Some (z, r.1))) (sym (h.1.0 ∙
    ap (λ z. z ++ h.0) e)) (args_listed ts c.args.at c.in-Some.next r.1 c.in-Some.first h.0 l h.1.1)) c.more_args.ensures
