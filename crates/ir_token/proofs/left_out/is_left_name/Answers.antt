use Rattle.std.proofs.Common.{◌∙◌, sym}
use Rattle.ir_token.proofs.Escapes.{left_quoted, left_bare}
use Rattle.ir_token.proofs.left_out.is_left_name.Goals as goal

pub returns-then-byte-eq34 : goal.returns-then-byte-eq34
returns-then-byte-eq34 c = c.is_left_read.ensures ∙ sym (left_quoted c.args.name.now (sym c.byte.ensures.value ∙ c.if-byte-eq34.true))

pub returns-else-byte-eq34 : goal.returns-else-byte-eq34
returns-else-byte-eq34 c = c.is_left_read-else-byte-eq34.ensures ∙ sym (left_bare c.args.name.now (λ h. c.if-byte-eq34.false (c.byte.ensures.value ∙ h)))
