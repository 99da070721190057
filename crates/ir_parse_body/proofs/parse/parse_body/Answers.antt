use Rattle.std.proofs.Common.{◌≡◌, ◌<◌, ◌≤◌, ◌^◌, length, None, Some, ap, ◌∙◌, subst, arith}
use Rattle.std.proofs.lemmas.List.{length-map}
use Rattle.ir_tree.specs.Steps.{Longest}
use Rattle.ir_tree.specs.Terminals.{terminal, terminals}
use Rattle.ir_tree.specs.Blocks.{body}
use Rattle.ir_parse_body.proofs.Offsets.{tokens_count}
use Rattle.ir_parse_body.proofs.parse.parse_body.Goals as goal

pub body-requires : goal.body-requires
body-requires c =
    let text = c.args.text.now in
    let toks = c.args.toks.now in
    let same : c.as_slice.result.now ≡ terminals text toks = c.as_slice.ensures.value ∙ c.in_ok-terminals.ensures in
    let small : length text ≤ 67108864 = c.requires.small in
    let few : length c.as_slice.result.now < 2 ^ 32 = omega (
      arith,
      ap length same,
      length-map toks (terminal text),
      tokens_count text toks c.requires.tokens,
      small,
    ) in
    record { few = few }

pub returns-in-Some-clause-fits : goal.returns-in-Some-clause-fits
returns-in-Some-clause-fits c =
    let same : c.as_slice.result.now ≡ terminals c.args.text.now c.args.toks.now = c.as_slice.ensures.value ∙ c.in_ok-terminals.ensures in
    subst (λ ts. Longest (body ts) c.args.at (Some c.in-Some.found)) same (subst (Longest (body c.as_slice.result.now) c.args.at) c.in-Some.is
    c.in_ok-found.ensures)

pub returns-clause-syntax : goal.returns-clause-syntax
returns-clause-syntax c =
    let same : c.as_slice.result.now ≡ terminals c.args.text.now c.args.toks.now = c.as_slice.ensures.value ∙ c.in_ok-terminals.ensures in (
      subst (λ ts. Longest (body ts) c.args.at None) same (subst (Longest (body c.as_slice.result.now) c.args.at) c.in-None.is c.in_ok-found.ensures),
      c.offset.ensures,
    )
