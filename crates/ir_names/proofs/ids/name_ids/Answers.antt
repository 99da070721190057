use Rattle.std.proofs.Common.{length, ◌∙◌}
use Rattle.ir_names.specs.Ids.{names, id_of}
use Rattle.ir_names.proofs.Known.{are_tokens, ids_more}
use Rattle.ir_names.proofs.ids.name_ids.Goals as goal

pub id_at-requires-clause-tokens : goal.id_at-requires-clause-tokens
id_at-requires-clause-tokens c = are_tokens c.args.text.now c.args.toks.now 0 (length c.args.text.now) c.requires.tokens

pub id_at-requires-clause-known : goal.id_at-requires-clause-known
id_at-requires-clause-known c = c.loop-at.invariant.0

pub loop-at-preserved : goal.loop-at-preserved
loop-at-preserved c = (
  c.in_ok-id_at.ensures.known,
  c.in_ok-push.ensures.items ∙ ids_more (id_of (names c.args.text.now c.args.toks.now)) c.args.text.now c.args.toks.now c.loop-at.at c.in_ok-id_at.field-0
      c.loop-at.ids.items c.loop-at-test.true c.loop-at.invariant.1 c.in_ok-id_at.ensures.id,
)
