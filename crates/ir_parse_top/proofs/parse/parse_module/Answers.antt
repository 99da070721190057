use Rattle.std.proofs.Common.{◌≡◌, ◌<◌, ◌≤◌, ◌^◌, ℕ, length, None, ap, sym, ◌∙◌, subst, arith}
use Rattle.std.proofs.lemmas.List.{length-map}
use Rattle.ir_tree.specs.Steps.{Longest, Taken}
use Rattle.ir_tree.specs.Terminals.{terminal, terminals}
use Rattle.ir_tree.specs.Entities.{entity}
use Rattle.ir_parse_body.proofs.Offsets.{tokens_count}
use Rattle.ir_parse_top.proofs.parse.parse_module.Goals as goal

pub entities-requires : goal.entities-requires
entities-requires c =
    let text = c.args.text.now in
    let toks = c.args.toks.now in
    let same : c.as_slice.result.now ≡ terminals text toks = c.as_slice.ensures.value ∙ c.in_ok-terminals.ensures in
    let small : length text ≤ 67108864 = c.requires.small in
    let few : length c.as_slice.result.now < 2 ^ 32 = omega (
      arith,
      ap length same,
      length-map toks (terminal text),
      tokens_count text toks c.requires.tokens,
      small,
    ) in
    record { few = few }

pub returns-then-stop-len-clause-syntax : goal.returns-then-stop-len-clause-syntax
returns-then-stop-len-clause-syntax c =
    let same : c.as_slice.result.now ≡ terminals c.args.text.now c.args.toks.now = c.as_slice.ensures.value ∙ c.in_ok-terminals.ensures in
    let more : c.in_ok-entities.stop < length c.args.toks.now = omega (arith, c.if-stop-len.true, c.len.ensures) in
    record {
      before = c.in_ok-entities.entities;
      at = c.in_ok-entities.stop;
      taken = subst (λ ts. Taken (entity ts) c.in_ok-entities.entities 0 c.in_ok-entities.stop) same c.in_ok-entities.ensures.taken;
      more = more;
      none = subst (λ ts. Longest (entity ts) c.in_ok-entities.stop None) same c.in_ok-entities.ensures.none;
      begins = c.offset.ensures;
    }

pub returns-clause-fits : goal.returns-clause-fits
returns-clause-fits c =
    let text = c.args.text.now in
    let toks = c.args.toks.now in
    let same : c.as_slice.result.now ≡ terminals text toks = c.as_slice.ensures.value ∙ c.in_ok-terminals.ensures in
    let end : c.in_ok-entities.stop ≡ length (terminals text toks) = omega (
      arith,
      c.if-stop-len.false,
      c.len.ensures,
      c.in_ok-entities.ensures.within,
      ap length same,
      length-map toks (terminal text),
    ) in
    subst (λ z. Taken (entity (terminals text toks)) c.in_ok-entities.entities 0 z) end
    (subst (λ ts. Taken (entity ts) c.in_ok-entities.entities 0 c.in_ok-entities.stop) same c.in_ok-entities.ensures.taken)
