use Rattle.std.proofs.Common.{length, subst, sym, All}
use Rattle.std.specs.Prelude.{IfSome}
use Rattle.ir_names.specs.Ids.{IsTokenOf}
use Rattle.ir_token.specs.Lists.{AreTokens}
use Rattle.ir_names.proofs.Known.{are_tokens}
use Rattle.name_rows.proofs.names.texts_of.Goals as goal

pub add_name-requires-clause-tokens : goal.add_name-requires-clause-tokens
add_name-requires-clause-tokens c =
    let toks = are_tokens c.args.text.now c.in-Some.toks 0 (length c.args.text.now)
    (subst (λ found. IfSome found (λ toks. AreTokens c.args.text.now toks)) c.in-Some.is c.in_ok-toks.ensures.tokens) in
    subst (All (IsTokenOf c.args.text.now)) (sym c.as_slice.ensures) toks
